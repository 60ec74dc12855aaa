-- THE FOURTH COUNT, of rewritten coefficients, is the same after any number of waves, and after dual fixing: whatever these do, they rewrite none.
use Prim.Native.Nat.{ℕ, zero, suc}
use Rattle.std.specs.Prelude.{◌||◌, Float}
use Rattle.std.proofs.Math.Bool.{Bool, true, false}
use Rattle.std.proofs.Math.Option.{Option, none, some}
use mathlib.Core.List.{List, [], ◌∷◌}
use Rattle.std.specs.Float.Ieee.{lt}
use Rattle.floats.specs.Num.{gt}
use Rattle.tolerances.specs.Tol.{Term, at}
use Rattle.definition.specs.declared.Activity.{Activity}
use Rattle.definition.specs.Model.{Model, Row}
use Rattle.definition.specs.Work.{Work, Step, ◌>>=◌, drop_row}
use Rattle.definition.specs.Marks.{mark_var}
use Rattle.definition.specs.Bounds.{mark_tightened, upper_int, upper_real, lower_int, lower_real, fix, emit_bounds, tighten_upper, tighten_lower}
use Rattle.definition.specs.Singles.{singleton_int, empty_row_check, singleton_bounds, singleton_drop, singleton_row}
use Rattle.definition.specs.Forcing.{fix_all}
use Rattle.definition.specs.Implied.{implied, implied_term, implied_bounds}
use Rattle.definition.specs.Dual.{dual_var, dual_from, dual_fix}
use Rattle.definition.specs.Wave.{several_terms, by_count, wave_row, wave_rows, wave, waves}
use Rattle.definition.specs.Choices.{both}
use Rattle.points_kept.proofs.Changes.{mark_any}
use Rattle.points_kept.specs.FourthCount.{Counted, E, Fourth, goes, halts}

pub next_counted : {n : ℕ} {s : Step} {f : Work → Step} → Counted n s → ((w : Work) → Fourth n w → Counted n (f w)) → Counted n (s >>= f)
next_counted (halts e) q = halts e
next_counted (goes {w} p) q = q w p

module _ (M : Model) (n : ℕ) where
  pub mark : (v : ℕ) (w : Work) → Fourth n w → Fourth n (mark_var M v w)
  mark v w h = mark_any M (Fourth n) (λ w d c q k. record { is = k.is }) v w h

  pub fix_c : (v : ℕ) (a : Float) (w : Work) → Fourth n w → Fourth n (fix M v a w)
  unfolding fix
  fix_c v a w h = mark v _ (record { is = h.is })

  pub fix_all_lem : (b : Bool) (w0 : Work) (ts : List Term) (w : Work) → Fourth n w → Fourth n (fix_all M b w0 ts w)
  unfolding fix_all
  fix_all_lem b w0 [] w h = h
  fix_all_lem b w0 (t ∷ ts) w h = fix_all_lem b w0 ts _ (fix_c t.var _ w h)

  pub tightened_c : (v : ℕ) (w : Work) → Fourth n w → Fourth n (mark_tightened M v w)
  unfolding mark_tightened
  tightened_c v w h = mark v _ (record { is = h.is })

  pub emit_c : (v : ℕ) (lo hi : Float) (w : Work) → Fourth n w → Fourth n (emit_bounds M v lo hi w)
  unfolding emit_bounds
  emit_c v lo hi w h = record { is = (both (Fourth n) (gt lo (at w.elo v) || lt hi (at w.ehi v)) (tightened_c v w h) h).is }

  pub upper_c : (v : ℕ) (q relax : Float) (w : Work) → Fourth n w → (E M n) (tighten_upper M v q relax w)
  unfolding tighten_upper upper_int upper_real
  upper_c v q relax w h =
      both (E M n) _ (both (E M n) _ (both (E M n) _ (both (E M n) _ (halts h.is) (goes (tightened_c v _ (record { is = h.is })))) (goes h))
      (both (E M n) _ (both (E M n) _ (both (E M n) _ (halts h.is) (goes h)) (goes (tightened_c v _ (record { is = h.is })))) (goes h))) (goes h)

  pub lower_c : (v : ℕ) (q relax : Float) (w : Work) → Fourth n w → (E M n) (tighten_lower M v q relax w)
  unfolding tighten_lower lower_int lower_real
  lower_c v q relax w h =
      both (E M n) _ (both (E M n) _ (both (E M n) _ (both (E M n) _ (halts h.is) (goes (tightened_c v _ (record { is = h.is })))) (goes h))
      (both (E M n) _ (both (E M n) _ (both (E M n) _ (halts h.is) (goes h)) (goes (tightened_c v _ (record { is = h.is })))) (goes h))) (goes h)

  pub implied_c : (upper : Bool) (r : ℕ) (row : Row) (b m k c : Float) (t : Term) (o : Option Float) (w : Work) → Fourth n w → (E M n) (implied M upper r row b m k c t o w)
  unfolding implied
  implied_c upper r row b m k c t none w h = goes h
  implied_c upper r row b m k c t (some rest) w h = both (E M n) _ (upper_c t.var _ _ w h) (lower_c t.var _ _ w h)

  pub term_c : (r : ℕ) (row : Row) (act : Activity) (t : Term) (w : Work) → Fourth n w → (E M n) (implied_term M r row act t w)
  unfolding implied_term
  term_c r row act t w h =
      next_counted (both (E M n) _ (implied_c true r row _ _ _ _ t _ w h) (goes h)) (λ x k. both (E M n) _ (implied_c false r row _ _ _ _ t _ x k) (goes k))

  pub bounds_c : (r : ℕ) (row : Row) (act : Activity) (ts : List Term) (w : Work) → Fourth n w → (E M n) (implied_bounds M r row act ts w)
  unfolding implied_bounds
  bounds_c r row act [] w h = goes h
  bounds_c r row act (t ∷ ts) w h = next_counted (term_c r row act t w h) (λ x k. bounds_c r row act ts x k)

  pub drop_c : (r : ℕ) (row : Row) (w : Work) → Fourth n w → Fourth n (drop_row r row w)
  unfolding drop_row
  drop_c r row w h = record { is = h.is }

  pub empty_c : (r : ℕ) (row : Row) (w : Work) → Fourth n w → (E M n) (empty_row_check M r row w)
  unfolding empty_row_check
  empty_c r row w h = both (E M n) _ (halts h.is) (goes (drop_c r row w h))

  pub single_c : (r : ℕ) (row : Row) (t : Term) (w : Work) → Fourth n w → (E M n) (singleton_row M r row t w)
  unfolding singleton_row singleton_bounds singleton_int singleton_drop
  single_c r row t w h =
      next_counted (both (E M n) _ (both (E M n) _ (halts h.is) (goes (emit_c t.var _ _ w h))) (both (E M n) _ (halts h.is) (goes h)))
      (λ x k. goes (both (Fourth n) _ (drop_c r row x k) k))

  pub several_c : (r : ℕ) (row : Row) (w : Work) → Fourth n w → (E M n) (several_terms M r row w)
  unfolding several_terms
  several_c r row w h =
      both (E M n) _ (halts h.is) (both (E M n) _ (goes (drop_c r row _ (fix_all_lem true w row.terms w h)))
      (both (E M n) _ (goes (drop_c r row _ (fix_all_lem false w row.terms w h))) (both (E M n) _ (goes (drop_c r row w h)) (bounds_c r row _ row.terms w h))))

  pub count_c : (r : ℕ) (row : Row) (ts : List Term) (w : Work) → Fourth n w → (E M n) (by_count M r row ts w)
  unfolding by_count
  count_c r row [] w h = empty_c r row w h
  count_c r row (t ∷ []) w h = single_c r row t w h
  count_c r row (t ∷ u ∷ ts) w h = several_c r row w h

  pub row_c : (r : ℕ) (w : Work) → Fourth n w → (E M n) (wave_row M r w)
  unfolding wave_row
  row_c r w h = both (E M n) _ (count_c r _ _ _ (record { is = h.is })) (goes (record { is = h.is }))

  pub rows_c : (rs : List ℕ) (w : Work) → Fourth n w → (E M n) (wave_rows M rs w)
  unfolding wave_rows
  rows_c [] w h = goes h
  rows_c (r ∷ rs) w h = next_counted (row_c r w h) (λ x k. rows_c rs x k)

  -- THE FOURTH COUNT is the same after the waves
  pub waves_c : (k : ℕ) (w : Work) → Fourth n w → (E M n) (waves M k w)
  unfolding waves wave
  waves_c zero w h = goes h
  waves_c (suc k) w h = both (E M n) _ (goes h) (next_counted (rows_c w.queue _ (record { is = h.is })) (λ x j. waves_c k x j))

  pub dual_from_lem : (k : ℕ) (dec inc : List Bool) (v : ℕ) (w : Work) (changed : Bool) → Fourth n w → Fourth n (dual_from M k dec inc v w changed).0
  unfolding dual_from dual_var
  dual_from_lem zero dec inc v w changed h = h
  dual_from_lem (suc k) dec inc v w changed h =
      let Q : Work × Bool → Type 0 = λ p. Fourth n p.0 in
      dual_from_lem k dec inc (suc v) _ _ (both Q _ h (both Q _ (fix_c v _ w h) (both Q _ (fix_c v _ w h) h)))

  -- and after dual fixing
  pub dual_c : (w : Work) → Fourth n w → Fourth n (dual_fix M w).0
  unfolding dual_fix
  dual_c w h = dual_from_lem _ _ _ 0 w false h
