-- The coefficient step meets no zero coefficient, if one wave at least is allowed: the first wave folds every live row, and no rewrite makes a zero.
use Prim.Native.Nat.{ℕ, zero, suc, ◌+◌, ◌-◌, ◌<◌}
use Rattle.std.proofs.Common.{arith, sym, ap, ◌∙◌, subst, inl, length-set, get_or-take, get_or-set_same, get_or-set_other}
use Rattle.std.proofs.Math.Decide.{ℕ_discrete}
use Rattle.std.specs.Prelude.{◌≡◌, Bool, true, false, not, ◌&&◌, ◌||◌, eqb, get_or, set, Float}
use Rattle.std.proofs.Math.Path.{refl}
use Rattle.std.proofs.Math.Logic.{inr}
use Rattle.std.proofs.Math.Bool.{and-true, or-true}
use mathlib.Core.List.{List, [], ◌∷◌, ◌++◌}
use Rattle.std.proofs.Math.Option.{Option, none, some}
use Rattle.std.proofs.Math.ListN.{length}
use Rattle.std.specs.Float.Ieee.{eq}
use Rattle.floats.specs.Num.{choose, 0f}
use Rattle.tolerances.specs.Tol.{Term, term}
use Rattle.definition.specs.declared.Activity.{Activity}
use Rattle.definition.specs.Params.{max_waves}
use Rattle.definition.specs.Model.{Model, nnz, Binding, Row, as_written}
use Rattle.definition.specs.Work.{Work, with_marks, with_row, Step, next, ◌>>=◌, no_row, no_term, has, drop_row}
use Rattle.definition.specs.Folds.{swap_remove, fold_term, fold_step, fold_loop, widen, relax_with, relax_binding, given_back, hold_rewrites, fold_fixed}
use Rattle.definition.specs.Rewrites.{Form, keeps, vacuous}
use Rattle.definition.specs.Tighten.{Rewriting as State, set_coeff, binary, rewrite_of, rewrite_loop, tighten_row}
use Rattle.definition.specs.Begin.{rows_are, read_from}
use Rattle.definition.specs.Wave.{idle, wave_row, wave_rows, wave, waves}
use Rattle.definition.specs.Choices.{both, taking, true≢false}
use Rattle.rows_kept.specs.Steps.{Each, stopped, went}
use Rattle.rows_kept.specs.Kept.{Changed, folded, tightened, Kept}
use Rattle.rows_kept.specs.RowSteps.{Rewriting}
use Rattle.rows_kept.proofs.RowSteps.{length_swap, rewrites_kept, changed_alive}
use Rattle.rows_kept.proofs.Waves.{get_set, count_kept, rows_kept, tighten_row_lem, after_kept}
use Rattle.rows_kept.specs.Whole.{Read, unread, queues, drops, ReadR, reads, begun}
use Rattle.rows_kept.proofs.Whole.{read_from_lem}
use Rattle.definition.specs.Choices.{equal, unequal}
use Rattle.rows_kept.specs.AllRows.{AllRows}
use Rattle.rows_kept.proofs.AllRows.{set_all, snoc_all, read_size}
use Rattle.rows_kept.proofs.Sizes.{written_short}
use Rattle.rows_kept.specs.Zeros.{Meets, Next, NoZero, NonZero, Past, Pending, Waits, again, first, on, over}

pub swap_get : (ts : List Term) (i j : ℕ) → j < i → j < length (swap_remove ts i) → get_or (swap_remove ts i) j no_term ≡ get_or ts j no_term
unfolding swap_remove
swap_get ts i j h k =
    let l : j < length ts - 1 = omega (arith, length_swap ts i) in
    get_or-take (length ts - 1) _ j no_term l ∙ get_or-set_other ts i j _ no_term (λ e. omega arith)

module _ (n : ℕ) (i : ℕ) (row : Row) (h : Past (suc n) (i, row)) where
  pub swapped : (x : Row) → x.terms ≡ swap_remove row.terms i → Past n (i, x)
  swapped x e =
      let l : length x.terms ≡ length row.terms - 1 = ap length e ∙ length_swap row.terms i in
      record {
        enough = omega (arith, h.enough, l);
        nonzero =
            λ j k m. ap (λ (ts : List Term). eq (get_or ts j no_term).coeff 0f) e
            ∙ ap (λ (t : Term). eq t.coeff 0f) (swap_get row.terms i j k (subst (λ (ts : List Term). j < length ts) e m))
            ∙ h.nonzero j k (omega (arith, l));
      }

  pub stays : eq (get_or row.terms i no_term).coeff 0f ≡ false → Past n (suc i, row)
  stays z =
      record {
        enough = omega (arith, h.enough);
        nonzero = λ j k m. elim (ℕ_discrete i j) [ yes e ↦ ap (λ (q : ℕ). eq (get_or row.terms q no_term).coeff 0f) (sym e) ∙ z | no d ↦ h.nonzero j (omega arith) m ];
      }

pub step_past : (n : ℕ) (w : Work) (s : ℕ × Row) → Past (suc n) s → Past n (fold_step w s)
unfolding fold_step fold_term
step_past n w s h =
    taking (Past n) _ (λ z. swapped n s.0 s.1 h _ refl)
    (λ z. both (Past n) _ (swapped n s.0 s.1 h _ refl) (stays n s.0 s.1 h z))

pub loop_past : (n : ℕ) (w : Work) (s : ℕ × Row) → Past n s → NonZero (fold_loop n w s).1
unfolding fold_loop
loop_past zero w s h = record { terms = λ j k. h.nonzero j (omega (arith, h.enough)) k }
loop_past (suc n) w s h = loop_past n w (fold_step w s) (step_past n w s h)

module _ (M : Model) where
  pub back_nonzero : (r : ℕ) (w : Work) → NonZero (given_back M r w)
  unfolding given_back as_written
  back_nonzero r w = loop_past (nnz M r) w (0, as_written M r) (record { enough = omega (arith, written_short M r); nonzero = λ j k m. absurd (omega arith) })

  pub relax_nonzero : (w : Work) (row : Row) (o : Option Binding) → NonZero row → NonZero (relax_with M w row o)
  unfolding relax_with widen
  relax_nonzero w row none q = q
  relax_nonzero w row (some b) q =
      both NonZero _ (record { terms = both (λ (x : Row). (j : ℕ) → j < length x.terms → eq (get_or x.terms j no_term).coeff 0f ≡ false) _ q.terms q.terms }) q

  pub fold_nonzero : (r : ℕ) (w : Work) (row : Row) → NonZero (fold_fixed M r w row)
  unfolding fold_fixed hold_rewrites relax_binding
  fold_nonzero r w row =
      let q : NonZero (fold_loop (length row.terms) w (0, row)).1 =
      loop_past (length row.terms) w (0, row) (record { enough = omega arith; nonzero = λ j k m. absurd (omega arith) }) in
      both NonZero _ (both NonZero _ (back_nonzero r w) (relax_nonzero w _ _ q)) q

-- ---- rewriting makes none
pub set_nonzero : (ts : List Term) (i v : ℕ) (a : Float) → eq a 0f ≡ false → ((j : ℕ) → j < length ts → eq (get_or ts j no_term).coeff 0f ≡ false)
    → (j : ℕ) → j < length (set ts i (term v a)) → eq (get_or (set ts i (term v a)) j no_term).coeff 0f ≡ false
set_nonzero ts i v a z h j k =
    let l : j < length ts = omega (arith, length-set ts i (term v a)) in
    elim (ℕ_discrete i j) [
      | yes e ↦ subst (λ (q : ℕ). eq (get_or (set ts i (term v a)) q no_term).coeff 0f ≡ false) e (ap (λ (t : Term). eq t.coeff 0f) (get_or-set_same ts i (term v a) no_term (omega arith)) ∙ z)
      | no d ↦ ap (λ (t : Term). eq t.coeff 0f) (get_or-set_other ts i j (term v a) no_term (λ e. d (sym e))) ∙ h j l
    ]

pub rewriting : Rewriting (Unit {0}) NonZero
unfolding set_coeff
rewriting =
    record {
      coeffs = λ g row i v a c q. record { terms = set_nonzero row.terms i v a c.nonzero q.terms };
      rebinds = λ g row b l h q. record { terms = q.terms };
      touches = λ g row q. record { terms = q.terms };
    }

module _ (M : Model) (rs : List ℕ) where
  pub changed : {r : ℕ} {row x : Row} → Changed M r row x → row.alive ≡ true → Waits rs r row → Waits rs r x
  changed {r} {row} (folded w) a h b = inr (fold_nonzero M r w row)
  changed {r} {row} (tightened {f} e sided n i nz s same) a h b =
      elim (h a) [ inl k ↦ inl k | inr k ↦ inr (rewrites_kept M r rewriting (back_nonzero M r) tt n f nz i s (subst NonZero (sym same) k)) ]

  pub pending_kept : Kept M (Pending rs)
  unfolding drop_row
  pending_kept =
      record {
        bounding = record { marking = record { marks = λ w d c q p. p; counted = λ w a b c p. p }; works = λ w a b p. p; lowers = λ w v x i b p. p; uppers = λ w v x i b p. p };
        rowing =
            record {
              changes = λ w r row a c p. set_all (Waits rs) w.rows r row p (changed c a (p r));
              drops = λ w r row g a p. set_all (Waits rs) w.rows r _ p (λ b. true≢false b refl);
            };
      }

pub only_next : {P : Work → Type 0} {s : Step} → Each P s → Next P s
only_next (stopped w e p) = over
only_next (went p) = on p

pub and_then : {P Q : Work → Type 0} {s : Step} {f : Work → Step} → Next P s → ((w : Work) → P w → Next Q (f w)) → Next Q (s >>= f)
and_then over q = over
and_then (on {w} p) q = q w p

-- a row that had its turn no longer waits
pub waits_on : (r q : ℕ) (rs : List ℕ) (row : Row) → (q ≡ r → ⊥) → Waits (r ∷ rs) q row → Waits rs q row
unfolding has
waits_on r q rs row d h a =
    elim (h a) [ inl k ↦ inl (subst (λ (b : Bool). b || has q rs ≡ true) (unequal r q (λ e. d (sym e))) k) | inr k ↦ inr k ]

module _ (M : Model) where
  pub row_done : (r : ℕ) (rs : List ℕ) (w : Work) → Pending (r ∷ rs) w → Next (Pending rs) (wave_row M r w)
  unfolding wave_row
  row_done r rs w p =
      taking (Next (Pending rs)) _
      (λ a. let w1 : Work = with_marks (set w.dirty r false) w.coeff_dirty w.queue w in
      let row : Row = fold_fixed M r w1 (get_or w.rows r no_row) in
      let q : Pending rs (with_row r row w1) =
      λ q. elim (ℕ_discrete q r) [
        | yes e ↦ λ b. inr (subst (λ (j : ℕ). NonZero (get_or (set w.rows r row) j no_row)) (sym e) (subst NonZero (sym (get_set w.rows r row a)) (fold_nonzero M r w1 _)))
        | no d ↦ waits_on r q rs _ d (subst (Waits (r ∷ rs) q) (sym (get_or-set_other w.rows r q row no_row d)) (p q))
      ] in
      only_next
      (count_kept M (pending_kept M rs).bounding (pending_kept M rs).rowing r row _ _ (get_set w.rows r row a) (changed_alive M r (folded w1) a) q))
      (λ a. on (λ q. elim (ℕ_discrete q r) [ yes e ↦ λ b. true≢false b (ap (λ (j : ℕ). (get_or w.rows j no_row).alive) e ∙ a) | no d ↦ waits_on r q rs _ d (p q) ]))

  pub rows_done : (rs : List ℕ) (w : Work) → Pending rs w → Next (Pending []) (wave_rows M rs w)
  unfolding wave_rows
  rows_done [] w p = on p
  rows_done (r ∷ rs) w p = and_then (row_done r rs w p) (λ x q. rows_done rs x q)

  pub later_waves : (n : ℕ) (w : Work) → Pending [] w → Next (Pending []) (waves M n w)
  unfolding waves wave
  later_waves zero w p = on p
  later_waves (suc n) w p =
      both (Next (Pending [])) _ (on p) (and_then (only_next (rows_kept M (pending_kept M []) w.queue _ p)) (λ x q. later_waves n x q))

  pub idle_is : (q : List ℕ) → idle q ≡ true → q ≡ []
  unfolding idle
  idle_is [] h = refl
  idle_is (r ∷ rs) h = true≢false h refl

  pub first_waves : (n : ℕ) (w : Work) → 0 < n → Pending w.queue w → Next (Pending []) (waves M n w)
  unfolding waves wave
  first_waves zero w h p = absurd (omega arith)
  first_waves (suc n) w h p =
      taking (Next (Pending [])) _ (λ i. on (subst (λ (rs : List ℕ). Pending rs w) (idle_is w.queue i) p))
      (λ i. and_then (rows_done w.queue _ p) (λ x q. later_waves n x q))

-- ---- the start: every live row is queued
pub has_more : (q : ℕ) (rs ls : List ℕ) → has q rs ≡ true → has q (rs ++ ls) ≡ true
unfolding has
has_more q [] ls h = true≢false h refl
has_more q (r ∷ rs) ls h = later (eqb r q) (has q rs) (has q (rs ++ ls)) (has_more q rs ls) h
  where
    later : (a b c : Bool) → (b ≡ true → c ≡ true) → a || b ≡ true → a || c ≡ true
    later true b c f e = refl
    later false b c f e = f e

pub has_last : (r : ℕ) (rs : List ℕ) → has r (rs ++ (r ∷ [])) ≡ true
unfolding has
has_last r [] = ap (λ (b : Bool). b || false) (equal r)
has_last r (q ∷ rs) = ap (λ (b : Bool). eqb q r || b) (has_last r rs) ∙ or-true (eqb q r)

pub past : (rs : List ℕ) (q : ℕ) → Waits rs q no_row
past rs q b = true≢false b refl

pub read_pending : {M : Model} {r n : ℕ} {rs : List Row} {queue : List ℕ} → Read M r rs queue n → AllRows (Waits queue) rs
read_pending unread = past []
read_pending {M} (queues {r} {rows = rs} {queue} t h) =
    snoc_all (Waits (queue ++ (r ∷ []))) (past (queue ++ (r ∷ []))) rs r _ (read_size h)
    (λ q b. elim (read_pending h q b) [ inl k ↦ inl (has_more q queue (r ∷ []) k) | inr k ↦ inr k ]) (λ b. inl (has_last r queue))
read_pending {M} (drops {r} {rows = rs} {queue} t h) = snoc_all (Waits queue) (past queue) rs r _ (read_size h) (read_pending h) (λ b. true≢false b refl)

pub next_is : {P : Work → Type 0} {w : Work} → Next P (next w) → P w
next_is (on p) = p

pub settled : {w : Work} → Pending [] w → NoZero w
unfolding has
settled p = record { rows = λ r a. elim (p r a) [ inl k ↦ true≢false k refl | inr k ↦ k ] }

pub pending : {w : Work} → NoZero w → Pending [] w
pending h = λ r a. inr (h.rows r a)

module _ (M : Model) (waves_allowed : 0 < max_waves M.params) where
  pub meets_pending : {begin w : Work} → begin.counts.passes ≡ 0 → Pending begin.queue begin → Meets M begin w → Pending [] w
  meets_pending {begin} z p (first e) =
      next_is (subst (Next (Pending [])) e (first_waves M _ begin (omega (arith, waves_allowed, z)) p))
  meets_pending z p (again {v} m e) =
      next_is (subst (Next (Pending [])) e (later_waves M _ _ (after_kept M (pending_kept M []) v (meets_pending z p m))))

  pub meets_no_zero : (ls hs : List Float) (rows : List Row) (queue : List ℕ) (dirty : List Bool) (n : ℕ)
      → read_from M (length M.rhs) 0 (rows_are [] [] [] 0) ≡ rows_are rows queue dirty n
      → {w : Work} → Meets M (begun ls hs rows queue dirty n) w → NoZero w
  meets_no_zero ls hs rows queue dirty n e m =
      settled (meets_pending refl (read_pending (was_read (subst (ReadR M (0 + length M.rhs)) e (read_from_lem M (length M.rhs) 0 (rows_are [] [] [] 0) (reads unread))))) m)
    where
      was_read : {r k : ℕ} {rs : List Row} {q : List ℕ} {d : List Bool} → ReadR M r (rows_are rs q d k) → Read M r rs q k
      was_read (reads h) = h

-- within the step it stays so, row by row and rewrite by rewrite
pub row_no_zero : (M : Model) (r : ℕ) (w : Work) (changed : Bool) → NoZero w → NoZero (tighten_row M r w changed).0
row_no_zero M r w changed h = settled (tighten_row_lem M (pending_kept M []).bounding.marking (pending_kept M []).rowing r w changed (pending h))

pub rewriting_no_zero : (M : Model) (r n : ℕ) (f : Form) (nz : Float) (i : ℕ) (s : State) → NonZero s.row → NonZero (rewrite_loop M n f nz r i s).row
rewriting_no_zero M r n f nz i s q = rewrites_kept M r rewriting (back_nonzero M r) tt n f nz i s q

-- so the test for a zero changes nothing
pub untested : (M : Model) (f : Form) (nz : Float) (w : Work) (row : Row) (act : Activity) (t : Term) → eq t.coeff 0f ≡ false
    → rewrite_of M f nz w row act t ≡ choose (binary M w t.var) (vacuous M f nz row act t.coeff) keeps
unfolding rewrite_of
untested M f nz w row act t z =
    ap (λ (b : Bool). choose (binary M w t.var && not b) (vacuous M f nz row act t.coeff) keeps) z
    ∙ ap (λ (b : Bool). choose b (vacuous M f nz row act t.coeff) keeps) (and-true (binary M w t.var))
