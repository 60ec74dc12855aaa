-- `wave_row` to `waves`: each row of a wave, and so each wave, keeps the invariant, and stops only where there is none of the points sought.
use Prim.Native.Nat.{ℕ, zero, suc, ◌≤◌, ◌<◌}
use Rattle.std.specs.Prelude.{◌≡◌, false, T, ltb, length, set}
use Rattle.std.proofs.Math.Path.{refl}
use Rattle.std.proofs.Common.{sym, subst, inl, inr, ltb→lt, nltb→le}
use mathlib.Core.List.{List, [], ◌∷◌}
use Rattle.std.proofs.Math.ListN.{get_or, get_or-eq_default}
use Rattle.floats.specs.WholeRounding.{NonNeg}
use Rattle.tolerances.specs.Tol.{Term}
use Rattle.definition.specs.Model.{Model, Row}
use Rattle.definition.specs.Work.{Work, with_marks, with_row, no_row}
use Rattle.definition.specs.Folds.{fold_fixed}
use Rattle.definition.specs.Wave.{by_count, wave_row, wave_rows, wave, waves, idle}
use Rattle.points_kept.specs.PointSet.{PointSet}
use Rattle.points_kept.specs.Statements.{PureInteger}
use Rattle.definition.specs.Choices.{both}
use Rattle.definition.specs.Tests.{test, taking, never}
use Rattle.points_kept.specs.Terms.{All, NonZero}
use Rattle.points_kept.specs.Invariant.{GoodW, Each, went}
use Rattle.points_kept.proofs.Invariant.{then, set_row}
use Rattle.points_kept.specs.WorkingRow.{AtWork}
use Rattle.points_kept.proofs.OneTerm.{single_ok}
use Rattle.points_kept.proofs.SeveralTerms.{several_ok}
use Rattle.points_kept.specs.Folding.{Folded}
use Rattle.points_kept.proofs.FoldLoop.{folded_ok}
use Rattle.points_kept.proofs.NoTerm.{empty_keeps, good_of}

-- a row in the place of an alive one
pub replaced : {M : Model} {Sought : PointSet} (pure : PureInteger M) (r : ℕ) (w : Work) (row0 row : Row)
    → r < length M.rhs → (g : GoodW M Sought w) → T row0.alive → Folded M w g r row0 row → GoodW M Sought (with_row r row w)
replaced {M} pure r w row0 row h g a f =
    set_row M w.wlo w.whi w.elo w.ehi w.rows r row h g
    (record { alive = λ t. f.ok; dead = λ t. absurd (never row.alive t (subst T (sym f.alive) a)) })

pub in_range : (M : Model) {Sought : PointSet} (r : ℕ) (w : Work) → GoodW M Sought w → T (get_or w.rows r no_row).alive → r < length M.rhs
in_range M r w g a = elim (test (ltb r (length M.rhs))) [ inl t ↦ ltb→lt r (length M.rhs) t | inr t ↦ absurd (out (nltb→le r (length M.rhs) t)) ]
  where
    out : length M.rhs ≤ r → ⊥
    out k = subst (λ (x : Row). T x.alive) (get_or-eq_default w.rows no_row (subst (λ (n : ℕ). n ≤ r) (sym g.rows_length) k)) a

module _ (M : Model) {Sought : PointSet} (pure : PureInteger M) (margin : NonNeg M.params.redundant_margin) where
  count_ok : (r : ℕ) (row : Row) (ts : List Term) (w : Work) → row.terms ≡ ts → AtWork M Sought w r row → All NonZero row.terms → Each M Sought (GoodW M Sought) (by_count M r row ts w)
  unfolding by_count
  count_ok r row [] w e σ n = good_of (empty_keeps σ e)
  count_ok r row (t ∷ []) w e σ n = single_ok σ t e (subst (All NonZero) e n).0
  count_ok r row (t ∷ u ∷ ts) w e σ n = several_ok σ margin n

  row_ok : (r : ℕ) (w : Work) → GoodW M Sought w → Each M Sought (GoodW M Sought) (wave_row M r w)
  unfolding wave_row
  row_ok r w g =
      let w1 = with_marks (set w.dirty r false) w.coeff_dirty w.queue w in
      let row = get_or w.rows r no_row in
      taking (Each M Sought (GoodW M Sought)) row.alive
      (λ a.
      let h = in_range M r w g a in
      let f : Folded M w1 g r row (fold_fixed M r w1 row) = folded_ok M w1 g r row ((g.row r h).alive a) in
      count_ok r (fold_fixed M r w1 row) _ (with_row r (fold_fixed M r w1 row) w1) refl
      (record { pure = pure; good = replaced pure r w1 row (fold_fixed M r w1 row) h g a f; range = h; ok = f.ok }) f.nonzero)
      (λ a. went g)

  rows_ok_lem : (rs : List ℕ) (w : Work) → GoodW M Sought w → Each M Sought (GoodW M Sought) (wave_rows M rs w)
  unfolding wave_rows
  rows_ok_lem [] w g = went g
  rows_ok_lem (r ∷ rs) w g = then M {R = GoodW M Sought} (row_ok r w g) (λ x k. rows_ok_lem rs x k)

  -- THE WAVES keep the invariant, and stop only where there is none of the points sought
  pub waves_ok : (n : ℕ) (w : Work) → GoodW M Sought w → Each M Sought (GoodW M Sought) (waves M n w)
  unfolding waves wave
  waves_ok zero w g = went g
  waves_ok (suc n) w g = both (Each M Sought (GoodW M Sought)) (idle w.queue) (went g) (then M {R = GoodW M Sought} (rows_ok_lem w.queue _ g) (λ x k. waves_ok n x k))
