-- The walk over waves, the coefficient step and rounds: a property that `Kept` keeps is kept by each, and no more waves are counted than the cap allows.
use Prim.Native.Nat.{ℕ, zero, suc, ◌+◌, ◌≤◌}
use native.Mathlib.Omega.{arith}
use Rattle.std.specs.Prelude.{◌≡◌, Bool, length, set}
use Rattle.std.proofs.Math.Path.{refl, ap}
use Rattle.std.proofs.Common.{sym, ◌∙◌, subst}
use Rattle.std.proofs.Math.Bool.{true, false}
use mathlib.Core.List.{List, [], ◌∷◌}
use Rattle.std.proofs.Math.ListN.{get_or}
use Rattle.std.specs.Float.Ieee.{Float}
use Rattle.tolerances.specs.Tol.{Term}
use Rattle.definition.specs.declared.Activity.{Activity}
use Rattle.definition.specs.Params.{max_waves}
use Rattle.definition.specs.Model.{Model, Row, passed}
use Rattle.definition.specs.Work.{Work, with_marks, with_counts, next, no_row, drop_row}
use Rattle.definition.specs.Activities.{activity}
use Rattle.definition.specs.Folds.{fold_fixed}
use Rattle.definition.specs.Singles.{empty_row_check, singleton_drop, singleton_row}
use Rattle.definition.specs.Forcing.{fix_all}
use Rattle.definition.specs.Wave.{several_terms, by_count, wave_row, wave_rows, wave, waves}
use Rattle.definition.specs.Rewrites.{Form, le_form, ge_form, no_form, form_of, vacuous_room}
use Rattle.definition.specs.Tighten.{Rewriting, queued, rewrite_step, rewrite_loop, tighten_form, tighten_by, tighten_row, tighten_from, tighten_binary_coeffs}
use Rattle.definition.specs.Rounds.{dual_step, after_waves}
use Rattle.definition.specs.Choices.{both, taking, true≢false, and_left}
use Rattle.rows_kept.specs.Steps.{Each, stopped, went}
use Rattle.rows_kept.proofs.Steps.{then}
use Rattle.rows_kept.specs.Kept.{Marking, Value, of_lower, of_upper, Bounding, Sided, le, ge, Changed, folded, tightened, Rowing, Kept}
use Rattle.rows_kept.proofs.RowSteps.{changed_alive}
use Rattle.rows_kept.proofs.Boxes.{implied_bounds_lem, singleton_bounds_lem, min_ints, max_ints, fix_all_lem, dual_fix_lem}
use Rattle.rows_kept.specs.Waves.{Capped, Passes, Same}

pub same_marking : {P : Work → Type 0} {rs : List Row} → Marking P → Marking (Same P rs)
same_marking K =
    record {
      marks = λ w d c q p. record { holds = K.marks w d c q p.holds; rows = p.rows };
      counted = λ w a b c p. record { holds = K.counted w a b c p.holds; rows = p.rows };
    }

pub same_value : {P : Work → Type 0} {rs : List Row} {v : ℕ} {x : Float} → Value (Same P rs) v x → Value P v x
same_value (of_lower w p n) = of_lower w p.holds n
same_value (of_upper w p n) = of_upper w p.holds n

pub same_bounding : {M : Model} {P : Work → Type 0} {rs : List Row} → Bounding M P → Bounding M (Same P rs)
same_bounding K =
    record {
      marking = same_marking K.marking;
      works = λ w a b p. record { holds = K.works w a b p.holds; rows = p.rows };
      lowers = λ w v x i b p. record { holds = K.lowers w v x i (same_value b) p.holds; rows = p.rows };
      uppers = λ w v x i b p. record { holds = K.uppers w v x i (same_value b) p.holds; rows = p.rows };
    }

-- ---- a row of a wave
module _ (M : Model) {P : Work → Type 0} (K : Bounding M P) (R : Rowing M P) where
  pub empty_kept : (r : ℕ) (row : Row) (w : Work) → get_or w.rows r no_row ≡ row → row.alive ≡ true → P w → Each P (empty_row_check M r row w)
  unfolding empty_row_check
  empty_kept r row w g a p = both (Each P) _ (stopped w refl p) (went (R.drops w r row g a p))

  pub drop_kept : (r : ℕ) (row : Row) (v : ℕ) (a blo bhi : Float) (w : Work) → get_or w.rows r no_row ≡ row → row.alive ≡ true → P w → P (singleton_drop M r row v a blo bhi w)
  unfolding singleton_drop
  drop_kept r row v a blo bhi w g l p = both P _ (R.drops w r row g l p) p

  pub singleton_kept : (r : ℕ) (row : Row) (t : Term) (w : Work) → get_or w.rows r no_row ≡ row → row.alive ≡ true → P w → Each P (singleton_row M r row t w)
  unfolding singleton_row
  singleton_kept r row t w g l p =
      then (singleton_bounds_lem M (same_bounding {rs = w.rows} K) r row t.var _ _ _ w (record { holds = p; rows = refl })) (λ x q. q.holds)
      (λ x q. went (drop_kept r row t.var _ _ _ x (ap (λ (rs : List Row). get_or rs r no_row) q.rows ∙ g) l q.holds))

  pub several_kept : (r : ℕ) (row : Row) (w : Work) → get_or w.rows r no_row ≡ row → row.alive ≡ true → P w → Each P (several_terms M r row w)
  unfolding several_terms
  several_kept r row w g l p =
      let q : Same P w.rows w = record { holds = p; rows = refl } in
      let fixes : (b : Bool) → Same P w.rows (fix_all M b w row.terms w) → Each P (next (drop_row r row (fix_all M b w row.terms w))) =
      λ b x. went (R.drops _ r row (ap (λ (rs : List Row). get_or rs r no_row) x.rows ∙ g) l x.holds) in
      both (Each P) _ (stopped w refl p)
      (taking (Each P) _ (λ t. fixes true (fix_all_lem M (same_bounding K) true w row.terms w (min_ints M r row _ _ w t) q q))
      (λ f. taking (Each P) _ (λ t. fixes false (fix_all_lem M (same_bounding K) false w row.terms w (max_ints M r row _ _ w t) q q))
      (λ f. both (Each P) _ (went (R.drops w r row g l p)) (implied_bounds_lem M K r row _ row.terms w p))))

  pub count_kept : (r : ℕ) (row : Row) (ts : List Term) (w : Work) → get_or w.rows r no_row ≡ row → row.alive ≡ true → P w → Each P (by_count M r row ts w)
  unfolding by_count
  count_kept r row [] w g l p = empty_kept r row w g l p
  count_kept r row (t ∷ []) w g l p = singleton_kept r row t w g l p
  count_kept r row (t ∷ u ∷ ts) w g l p = several_kept r row w g l p

-- ---- a list of rows, one of them changed
pub get_set : (rs : List Row) (r : ℕ) (x : Row) → (get_or rs r no_row).alive ≡ true → get_or (set rs r x) r no_row ≡ x
get_set [] r x h = true≢false h refl
get_set (y ∷ ys) zero x h = refl
get_set (y ∷ ys) (suc r) x h = get_set ys r x h

module _ (M : Model) {P : Work → Type 0} (K : Kept M P) where
  pub row_kept : (r : ℕ) (w : Work) → P w → Each P (wave_row M r w)
  unfolding wave_row
  row_kept r w p =
      taking (Each P) _
      (λ a. let w1 : Work = with_marks (set w.dirty r false) w.coeff_dirty w.queue w in
      let row : Row = get_or w.rows r no_row in
      count_kept M K.bounding K.rowing r (fold_fixed M r w1 row) _ _ (get_set w.rows r _ a) (changed_alive M r (folded w1) a)
      (K.rowing.changes w1 r _ a (folded w1) (K.bounding.marking.marks w _ _ _ p)))
      (λ a. went (K.bounding.marking.marks w _ _ _ p))

  pub rows_kept : (rs : List ℕ) (w : Work) → P w → Each P (wave_rows M rs w)
  unfolding wave_rows
  rows_kept [] w p = went p
  rows_kept (r ∷ rs) w p = then (row_kept r w p) (λ x q. q) (λ x q. rows_kept rs x q)

-- ---- the coefficient step: the loop over a row's terms marks and counts alone
module _ (M : Model) {P : Work → Type 0} (K : Marking P) where
  pub queue_kept : (r : ℕ) (w : Work) → P w → P (queued r w)
  unfolding queued
  queue_kept r w p = both P _ p (K.marks w _ _ _ p)

  pub step_kept : (f : Form) (nz : Float) (r i : ℕ) (s : Rewriting) → P s.work → P (rewrite_step M f nz r i s).work
  unfolding rewrite_step
  step_kept f nz r i s p =
      let Q : Rewriting → Type 0 = λ x. P x.work in
      let q : P (queued r s.work) = queue_kept r s.work p in
      both Q _ p (both Q _ q (K.counted _ _ _ _ q))

  pub loop_kept : (n : ℕ) (f : Form) (nz : Float) (r i : ℕ) (s : Rewriting) → P s.work → P (rewrite_loop M n f nz r i s).work
  unfolding rewrite_loop
  loop_kept zero f nz r i s p = p
  loop_kept (suc n) f nz r i s p = loop_kept n f nz r (suc i) _ (step_kept f nz r i s p)

module _ (M : Model) {P : Work → Type 0} (K : Marking P) (R : Rowing M P) where
  pub form_kept : (f : Form) (r : ℕ) (row : Row) (w : Work) (changed : Bool) → get_or w.rows r no_row ≡ row → row.alive ≡ true → form_of row ≡ f → Sided f → P w
      → P (tighten_form M f r row w changed).0
  unfolding tighten_form
  form_kept f r row w changed g a e sided p =
      let act : Activity = activity M w row true in
      let nz : Float = vacuous_room f row act in
      let s0 : Rewriting = record { row = row; act = act; work = w; changed = changed; broke = false } in
      let s : Rewriting = rewrite_loop M (length row.terms) f nz r 0 s0 in
      let q : Same P w.rows s.work = loop_kept M (same_marking K) (length row.terms) f nz r 0 s0 (record { holds = p; rows = refl }) in
      let g1 : get_or s.work.rows r no_row ≡ row = ap (λ (rs : List Row). get_or rs r no_row) q.rows ∙ g in
      both (λ (x : Work × Bool). P x.0) _ p
      (R.changes s.work r s.row (ap (λ (x : Row). x.alive) g1 ∙ a)
      (subst (λ (x : Row). Changed M r x s.row) (sym g1) (tightened e sided (length row.terms) 0 nz s0 refl)) q.holds)

  pub by_kept : (f : Form) (r : ℕ) (row : Row) (w : Work) (changed : Bool) → get_or w.rows r no_row ≡ row → row.alive ≡ true → form_of row ≡ f → P w → P (tighten_by M f r row w changed).0
  unfolding tighten_by
  by_kept le_form r row w changed g a e p = form_kept le_form r row w changed g a e le p
  by_kept ge_form r row w changed g a e p = form_kept ge_form r row w changed g a e ge p
  by_kept no_form r row w changed g a e p = p

  pub tighten_row_lem : (r : ℕ) (w : Work) (changed : Bool) → P w → P (tighten_row M r w changed).0
  unfolding tighten_row
  tighten_row_lem r w changed p =
      taking (λ (x : Work × Bool). P x.0) _
      (λ t. by_kept (form_of (get_or w.rows r no_row)) r (get_or w.rows r no_row) _ changed refl
      (and_left (get_or w.rows r no_row).alive (get_or w.coeff_dirty r false) t) refl (K.marks w _ _ _ p))
      (λ t. p)

  pub tighten_from_lem : (n r : ℕ) (w : Work) (changed : Bool) → P w → P (tighten_from M n r w changed).0
  unfolding tighten_from
  tighten_from_lem zero r w changed p = p
  tighten_from_lem (suc n) r w changed p = tighten_from_lem n (suc r) _ _ (tighten_row_lem r w changed p)

  pub tighten_kept : (w : Work) → P w → P (tighten_binary_coeffs M w).0
  unfolding tighten_binary_coeffs
  tighten_kept w p = tighten_from_lem (length w.rows) 0 w false p

module _ (M : Model) {P : Work → Type 0} (K : Kept M P) where
  -- ---- both steps after the waves
  pub dual_kept : (w : Work) → P w → P (dual_step M w).0
  unfolding dual_step
  dual_kept w p = both (λ (x : Work × Bool). P x.0) _ (dual_fix_lem M K.bounding w p) p

  pub after_kept : (w : Work) → P w → P (after_waves M w).0
  unfolding after_waves
  after_kept w p = both (λ (x : Work × Bool). P x.0) _ (dual_kept _ (tighten_kept M K.bounding.marking K.rowing w p)) p

pub passes_value : {P : Work → Type 0} {n v : ℕ} {x : Float} → Value (Passes P n) v x → Value P v x
passes_value (of_lower w p n) = of_lower w p.holds n
passes_value (of_upper w p n) = of_upper w p.holds n

module _ {M : Model} {P : Work → Type 0} (n : ℕ) (K : Kept M P) where
  pub passes_bounding : Bounding M (Passes P n)
  passes_bounding =
      let B : Bounding M P = K.bounding in
      record {
        marking =
            record {
              marks = λ w d c q p. record { holds = B.marking.marks w d c q p.holds; passes = p.passes };
              counted = λ w a b c p. record { holds = B.marking.counted w a b c p.holds; passes = p.passes };
            };
        works = λ w a b p. record { holds = B.works w a b p.holds; passes = p.passes };
        lowers = λ w v x i b p. record { holds = B.lowers w v x i (passes_value b) p.holds; passes = p.passes };
        uppers = λ w v x i b p. record { holds = B.uppers w v x i (passes_value b) p.holds; passes = p.passes };
      }

  pub passes_rowing : Rowing M (Passes P n)
  unfolding drop_row
  passes_rowing =
      record {
        changes = λ w r row a c p. record { holds = K.rowing.changes w r row a c p.holds; passes = p.passes };
        drops = λ w r row g a p. record { holds = K.rowing.drops w r row g a p.holds; passes = p.passes };
      }

  pub passes_kept : Kept M (Passes P n)
  passes_kept = record { bounding = passes_bounding; rowing = passes_rowing }

module _ (M : Model) {P : Work → Type 0} (K : Kept M P) (pass : (w : Work) → P w → P (with_counts (passed w.counts) w)) where
  pub wave_kept : (w : Work) → P w → Each (Passes P (suc w.counts.passes)) (wave M w)
  unfolding wave
  wave_kept w p =
      rows_kept M (passes_kept _ K) w.queue _ (record { holds = pass _ (K.bounding.marking.marks w w.dirty w.coeff_dirty [] p); passes = refl })

  pub waves_kept : (n : ℕ) (w : Work) → w.counts.passes + n ≤ max_waves M.params → P w → Each (Capped M P) (waves M n w)
  unfolding waves
  waves_kept zero w h p = went (record { holds = p; capped = omega arith })
  waves_kept (suc n) w h p =
      both (Each (Capped M P)) _ (went (record { holds = p; capped = omega arith }))
      (then (wave_kept w p) (λ x q. record { holds = q.holds; capped = omega (arith, q.passes) }) (λ x q. waves_kept n x (omega (arith, q.passes)) q.holds))
