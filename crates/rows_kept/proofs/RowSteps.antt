-- What a property of a row has to be kept by, so that folding and the coefficient step keep it, and the walk over these steps.
use Prim.Native.Nat.{ℕ, zero, suc, ◌+◌, ◌-◌, ◌≤◌, ◌<◌}
use native.Mathlib.Omega.{arith}
use Rattle.std.proofs.Math.Decide.{dec_lt}
use Rattle.std.specs.Prelude.{◌≡◌, true, List, [], ◌∷◌, take, drop, Float}
use Rattle.std.proofs.Math.Path.{refl, subst}
use Rattle.std.proofs.Common.{sym, length-take, length-drop, length-set}
use Rattle.std.proofs.Math.Option.{Option, none, some}
use Rattle.std.proofs.Math.ListN.{length, get_or, get_or-eq_default}
use Rattle.std.specs.Float.Ieee.{neg}
use Rattle.floats.specs.Num.{◌⊕◌, ◌⊖◌, ◌⊗◌, gt, is_finite}
use Rattle.tolerances.specs.Tol.{Term, zip_terms}
use Rattle.definition.specs.declared.Activity.{Activity}
use Rattle.definition.specs.Model.{Model, from, upto, nnz, written, Binding, Row, with_binding, as_written}
use Rattle.definition.specs.Work.{Work, no_term}
use Rattle.definition.specs.Folds.{swap_remove, fold_term, fold_step, fold_loop, widen, relax_with, relax_binding, given_back, hold_rewrites, fold_fixed}
use Rattle.definition.specs.Rewrites.{Form, le_form, ge_form, no_form, Rewrite, keeps, coeff_only, coeff_bound, shrink_le, raise_le, vacuous_le, shrink_ge, lower_ge, vacuous_ge, vacuous}
use Rattle.definition.specs.Tighten.{Rewriting as State, set_coeff, rewrite_of, rebound_row, row_after, rewrite_step, rewrite_loop}
use Rattle.rows_kept.specs.Statements.{Spans}
use Rattle.definition.specs.Choices.{both, taking, and_right}
use Rattle.rows_kept.specs.Numbers.{Coefficient}
use Rattle.rows_kept.proofs.Numbers.{positive, negative}
use Rattle.rows_kept.specs.Kept.{Changed, folded, tightened}
use Rattle.rows_kept.specs.RowSteps.{Alive, Folding, Looked, Puts, Rewriting, RowKept, puts_bound, puts_coeff, puts_none}

-- ---- the length of a row as written: all of its terms
module _ (M : Model) (S : Spans M) where
  pub start_fits : (k r : ℕ) → r + k ≡ length M.rhs → from M r ≤ length M.index
  unfolding from upto
  start_fits zero r e =
      let i : r ≡ length M.rhs = omega arith in
      subst (λ (n : ℕ). get_or M.starts n 0 ≤ length M.index) (sym i) (omega (arith, S.last))
  start_fits (suc k) r e = omega (arith, S.rise r (omega arith), start_fits k (r + 1) (omega arith))

  pub end_fits : (r : ℕ) → r < length M.rhs → upto M r ≤ length M.index
  unfolding upto from
  end_fits r h = start_fits (length M.rhs - (r + 1)) (r + 1) (omega arith)

pub zip_fits : (n : ℕ) (vs : List ℕ) (cs : List Float) → n ≤ length vs → n ≤ length cs → n ≤ length (zip_terms vs cs)
unfolding zip_terms
zip_fits zero vs cs h k = omega arith
zip_fits (suc n) [] cs h k = absurd (omega arith)
zip_fits (suc n) (v ∷ vs) [] h k = absurd (omega arith)
zip_fits (suc n) (v ∷ vs) (c ∷ cs) h k = omega (arith, zip_fits n vs cs (omega arith) (omega arith))

pub part_fits : {A : Type 0} (n s : ℕ) (l : List A) → s + n ≤ length l → n ≤ length (take n (drop s l))
part_fits n s l h = rw (length-take, length-drop) (omega arith)

module _ (M : Model) (S : Spans M) where
  pub written_here : (r : ℕ) → r < length M.rhs → nnz M r ≤ length (written M r)
  unfolding nnz written
  written_here r h =
      let e : from M r + (upto M r - from M r) ≤ length M.index = omega (arith, end_fits M S r h, S.rise r h) in
      zip_fits (upto M r - from M r) _ _ (part_fits _ (from M r) M.index e) (part_fits _ (from M r) M.coeff (omega (arith, S.coeffs)))

  pub written_beyond : (r : ℕ) → length M.rhs ≤ r → nnz M r ≤ length (written M r)
  unfolding nnz upto
  written_beyond r h =
      let z : get_or M.starts (r + 1) 0 ≡ 0 = get_or-eq_default M.starts 0 (omega (arith, S.starts)) in
      omega arith

  pub written_length : (r : ℕ) → nnz M r ≤ length (written M r)
  written_length r = elim (dec_lt r (length M.rhs)) [ yes h ↦ written_here r h | no h ↦ written_beyond r (omega arith) ]

pub length_swap : (ts : List Term) (i : ℕ) → length (swap_remove ts i) ≡ length ts - 1
unfolding swap_remove
length_swap ts i = rw (length-take, length-set) (omega arith)

module _ (M : Model) {r : ℕ} {Q : Row → Type 0} (K : Folding M r Q) where
  pub step_kept : (n : ℕ) (w : Work) (s : ℕ × Row) → Looked M Q (suc n) s → Looked M Q n (fold_step w s)
  unfolding fold_step fold_term
  step_kept n w s h =
      let i : Spans M → s.0 < length s.1.terms = λ S. omega (arith, h.within S) in
      let shorter : Spans M → s.0 + n ≤ length (swap_remove s.1.terms s.0) = λ S. omega (arith, h.within S, length_swap s.1.terms s.0) in
      both (Looked M Q n) _
      (record { within = shorter; holds = K.removes s.1 s.0 i h.holds })
      (both (Looked M Q n) _
      (record { within = shorter; holds = K.folds s.1 s.0 w i h.holds })
      (record { within = λ S. omega (arith, h.within S); holds = h.holds }))

  pub loop_kept : (n : ℕ) (w : Work) (s : ℕ × Row) → Looked M Q n s → Q (fold_loop n w s).1
  unfolding fold_loop
  loop_kept zero w s h = h.holds
  loop_kept (suc n) w s h = loop_kept n w (fold_step w s) (step_kept n w s h)

  pub back_kept : (w : Work) → Q (given_back M r w)
  unfolding given_back as_written
  back_kept w = loop_kept (nnz M r) w (0, as_written M r) (record { within = λ S. omega (arith, written_length M S r); holds = K.as_written_lem })

  pub widened_kept : (row : Row) (b c : Binding) (kept old : Float) → row.binding ≡ some b → Q row → Q (with_binding (some c) (widen kept old row))
  unfolding widen
  widened_kept row b c kept old e q = both (λ (x : Row). Q (with_binding (some c) x)) (is_finite row.hi) (K.relaxes row b c _ _ e q) (K.relaxes row b c _ _ e q)

  pub relax_kept : (w : Work) (row : Row) (o : Option Binding) → row.binding ≡ o → Q row → Q (relax_with M w row o)
  unfolding relax_with
  relax_kept w row none e q = q
  relax_kept w row (some b) e q = both Q _ (widened_kept row b _ _ _ e q) q

  pub fold_kept : (w : Work) (row : Row) → Q row → Q (fold_fixed M r w row)
  unfolding fold_fixed hold_rewrites relax_binding
  fold_kept w row q =
      let q1 : Q (fold_loop (length row.terms) w (0, row)).1 = loop_kept (length row.terms) w (0, row) (record { within = λ S. omega arith; holds = q }) in
      both Q _ (both Q _ (back_kept w) (relax_kept w _ _ refl q1)) q1

module _ (M : Model) where
  pub shrink_le_lem : (nz b rest a : Float) → Puts (shrink_le M nz b rest a)
  unfolding shrink_le
  shrink_le_lem nz b rest a = taking Puts _ (λ t. puts_bound (positive _ (and_right (gt (b ⊖ (rest ⊕ nz)) (M.params.coeff_min_improve ⊗ a)) _ t))) (λ f. puts_none)

  pub raise_le_lem : (nz b rest a : Float) → Puts (raise_le M nz b rest a)
  unfolding raise_le
  raise_le_lem nz b rest a = taking Puts _ (λ t. puts_coeff (negative _ (and_right (gt (b ⊖ (rest ⊕ nz) ⊖ a) (M.params.coeff_min_improve ⊗ neg a)) _ t))) (λ f. puts_none)

  pub shrink_ge_lem : (nz b rest a : Float) → Puts (shrink_ge M nz b rest a)
  unfolding shrink_ge
  shrink_ge_lem nz b rest a = taking Puts _ (λ t. puts_bound (negative _ (and_right (gt (rest ⊖ nz ⊖ b) (M.params.coeff_min_improve ⊗ neg a)) _ t))) (λ f. puts_none)

  pub lower_ge_lem : (nz b rest a : Float) → Puts (lower_ge M nz b rest a)
  unfolding lower_ge
  lower_ge_lem nz b rest a = taking Puts _ (λ t. puts_coeff (positive _ (and_right (gt (a ⊖ (b ⊖ (rest ⊖ nz))) (M.params.coeff_min_improve ⊗ a)) _ t))) (λ f. puts_none)

  pub vacuous_puts : (f : Form) (nz : Float) (row : Row) (act : Activity) (a : Float) → Puts (vacuous M f nz row act a)
  unfolding vacuous vacuous_le vacuous_ge
  vacuous_puts le_form nz row act a = both Puts _ (both Puts _ (shrink_le_lem nz _ _ a) (raise_le_lem nz _ _ a)) puts_none
  vacuous_puts ge_form nz row act a = both Puts _ (both Puts _ (shrink_ge_lem nz _ _ a) (lower_ge_lem nz _ _ a)) puts_none
  vacuous_puts no_form nz row act a = puts_none

  pub rewrite_puts : (f : Form) (nz : Float) (w : Work) (row : Row) (act : Activity) (t : Term) → Puts (rewrite_of M f nz w row act t)
  unfolding rewrite_of
  rewrite_puts f nz w row act t = both Puts _ (vacuous_puts f nz row act t.coeff) puts_none

-- ---- rewriting
module _ (M : Model) (r : ℕ) {G : Type 0} {Q : Row → Type 0} (K : Rewriting G Q) (back : (w : Work) → Q (given_back M r w)) (g : G) where
  pub rebound_kept : (f : Form) (w : Work) (row : Row) (i v : ℕ) (a na bp : Float) → Coefficient na → Q row → Q (rebound_row M f w row i v a na bp)
  unfolding rebound_row
  rebound_kept le_form w row i v a na bp c q = K.rebinds g _ _ _ _ (K.coeffs g row i v na c q)
  rebound_kept ge_form w row i v a na bp c q = K.rebinds g _ _ _ _ (K.coeffs g row i v na c q)
  rebound_kept no_form w row i v a na bp c q = q

  pub after_kept : (f : Form) (w : Work) (row : Row) (i : ℕ) (t : Term) (x : Rewrite) → Puts x → Q row → Q (row_after M f w row i t x)
  unfolding row_after
  after_kept f w row i t keeps p q = q
  after_kept f w row i t (coeff_only na) (puts_coeff c) q = K.coeffs g row i t.var na c q
  after_kept f w row i t (coeff_bound na bp d) (puts_bound c) q = rebound_kept f w row i t.var t.coeff na bp c q

  pub rewrite_kept : (f : Form) (nz : Float) (i : ℕ) (s : State) → Q s.row → Q (rewrite_step M f nz r i s).row
  unfolding rewrite_step
  rewrite_kept f nz i s q =
      let t : Term = get_or s.row.terms i no_term in
      let P : State → Type 0 = λ x. Q x.row in
      both P _ q
      (both P _ (back _)
      (K.touches g _ (after_kept f s.work s.row i t (rewrite_of M f nz s.work s.row s.act t) (rewrite_puts M f nz s.work s.row s.act t) q)))

  pub rewrites_kept : (n : ℕ) (f : Form) (nz : Float) (i : ℕ) (s : State) → Q s.row → Q (rewrite_loop M n f nz r i s).row
  unfolding rewrite_loop
  rewrites_kept zero f nz i s q = q
  rewrites_kept (suc n) f nz i s q = rewrites_kept n f nz (suc i) _ (rewrite_kept f nz i s q)

pub changed_kept : (M : Model) {r : ℕ} {G : Type 0} {Q : Row → Type 0} → RowKept M r G Q → {row x : Row} → Changed M r row x → Q row → Q x
changed_kept M K {row} (folded w) q = fold_kept M K.folding w row q
changed_kept M {r} {Q = Q} K {row} (tightened {f} e sided n i nz s same) q =
    rewrites_kept M r K.rewriting (back_kept M K.folding) (K.guards row f e sided q) n f nz i s (subst Q (sym same) q)

pub alive_kept : (M : Model) (r : ℕ) → RowKept M r (Unit {0}) Alive
unfolding as_written fold_term set_coeff
alive_kept M r =
    record {
      folding = record { as_written_lem = refl; removes = λ row i h q. q; folds = λ row i w h q. q; relaxes = λ row b c l h e q. q };
      rewriting = record { coeffs = λ g row i v a c q. q; rebinds = λ g row b l h q. q; touches = λ g row q. q };
      guards = λ row f e s q. tt;
    }

pub changed_alive : (M : Model) (r : ℕ) {row x : Row} → Changed M r row x → row.alive ≡ true → x.alive ≡ true
changed_alive M r c a = changed_kept M (alive_kept M r) c a
