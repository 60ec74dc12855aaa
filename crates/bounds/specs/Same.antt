-- What a step that requeues rows or changes bounds leaves: the rows, and how many waves there were.
use Prim.Native.Nat.{ℕ, zero, suc}
use Rattle.std.specs.Prelude.{◌≡◌, Bool, true, List, length, get_or, set, Float}
use Rattle.std.proofs.Math.Path.{refl}
use Rattle.std.proofs.Common.{◌∙◌, subst}
use Rattle.floats.specs.Num.{choose}
use Rattle.definition.specs.declared.Counts.{Counts}
use Rattle.definition.specs.Model.{Model, Row, tightened, fixed_one}
use Rattle.definition.specs.Work.{Work, with_marks, with_bounds, with_counts, Step, stop, next, ◌>>=◌}
use Rattle.definition.specs.Marks.{mark_row, adjacent, mark_from, mark_var}
use Rattle.definition.specs.Bounds.{fix, mark_tightened, emit_bounds, upper_int, upper_real, lower_int, lower_real, tighten_upper, tighten_lower}
use Rattle.view.specs.Lists.{either}

-- ---- what looks neither at marks nor at bounds nor at their counts
pub record Blind {A : Type 0} (g : Work → A) : Type 0 where
  pub marks : (d e : List Bool) (q : List ℕ) (w : Work) → g (with_marks d e q w) ≡ g w
  pub bounds : (a b c d : List Float) (w : Work) → g (with_bounds a b c d w) ≡ g w
  pub tight : (w : Work) → g (with_counts (tightened w.counts) w) ≡ g w
  pub fixed : (w : Work) → g (with_counts (fixed_one w.counts) w) ≡ g w

abbrev pub rows_of : Work → List Row
rows_of w = w.rows

abbrev pub passes_of : Work → ℕ
passes_of w = w.counts.passes

pub rows_blind : Blind rows_of
rows_blind = record { marks = λ d e q w. refl; bounds = λ a b c d w. refl; tight = λ w. refl; fixed = λ w. refl }

pub passes_blind : Blind passes_of
passes_blind = record { marks = λ d e q w. refl; bounds = λ a b c d w. refl; tight = λ w. refl; fixed = λ w. refl }

-- ---- a step that goes on leaves what g sees of w
pub data Leaves {A : Type 0} (g : Work → A) (w : Work) : Step → Type 0 where
  halts : {k : Counts} → Leaves g w (stop k)
  same : {u : Work} → g u ≡ g w → Leaves g w (next u)

-- the rows
abbrev pub Same : Work → Step → Type 0
Same w z = Leaves rows_of w z

module _ {A : Type 0} {g : Work → A} where
  same_is : {w u : Work} → Leaves g w (next u) → g u ≡ g w
  same_is (same e) = e

  pub same_next : {w u : Work} {z : Step} → Leaves g w z → z ≡ next u → g u ≡ g w
  same_next {w} t e = same_is (subst (Leaves g w) e t)

  after : {w u : Work} {z : Step} → g u ≡ g w → Leaves g u z → Leaves g w z
  after e halts = halts
  after e (same d) = same (d ∙ e)

  pub same_then : {w : Work} {z : Step} (h : Work → Step) → Leaves g w z → ((u : Work) → Leaves g u (h u)) → Leaves g w (z >>= h)
  same_then h halts t = halts
  same_then h (same {u} e) t = after e (t u)

  pub same_after : {w u : Work} {z : Step} → g u ≡ g w → Leaves g u z → Leaves g w z
  same_after e t = after e t

-- ---- requeueing leaves what the marks and the queue have no part in
module _ {A : Type 0} (g : Work → A) (m : (d e : List Bool) (q : List ℕ) (w : Work) → g (with_marks d e q w) ≡ g w) where
  mark_row_leaves : (r : ℕ) (w : Work) → g (mark_row r w) ≡ g w
  unfolding mark_row
  mark_row_leaves r w = either (λ (u : Work). g u ≡ g w) (get_or w.dirty r true) (λ e. m _ _ _ w) (λ e. m _ _ _ w)

  mark_from_leaves : (M : Model) (n r v : ℕ) (w : Work) → g (mark_from M n r v w) ≡ g w
  unfolding mark_from
  mark_from_leaves M zero r v w = refl
  mark_from_leaves M (suc n) r v w =
      mark_from_leaves M n (suc r) v (choose (adjacent M v r) (mark_row r w) w) ∙ either (λ (u : Work). g u ≡ g w) (adjacent M v r) (λ e. mark_row_leaves r w) (λ e. refl)

  mark_var_leaves : (M : Model) (v : ℕ) (w : Work) → g (mark_var M v w) ≡ g w
  unfolding mark_var
  mark_var_leaves M v w = mark_from_leaves M (length M.rhs) 0 v w

-- the emitted bounds after a fixing
module _ (M : Model) (v : ℕ) (x : Float) (w : Work) where
  pub fix_elo : (fix M v x w).elo ≡ set w.elo v x
  unfolding fix
  fix_elo = mark_var_leaves (λ u. u.elo) (λ d e q u. refl) M v _

  pub fix_ehi : (fix M v x w).ehi ≡ set w.ehi v x
  unfolding fix
  fix_ehi = mark_var_leaves (λ u. u.ehi) (λ d e q u. refl) M v _

-- ---- bounds
module _ {A : Type 0} {g : Work → A} (b : Blind g) (M : Model) where
  pub fix_leaves : (v : ℕ) (x : Float) (w : Work) → g (fix M v x w) ≡ g w
  unfolding fix
  fix_leaves v x w = mark_var_leaves g b.marks M v _ ∙ b.fixed _ ∙ b.bounds _ _ _ _ w

  tight_leaves : (v : ℕ) (w : Work) → g (mark_tightened M v w) ≡ g w
  unfolding mark_tightened
  tight_leaves v w = mark_var_leaves g b.marks M v _ ∙ b.tight w

  pub emit_leaves : (v : ℕ) (lo hi : Float) (w : Work) → g (emit_bounds M v lo hi w) ≡ g w
  unfolding emit_bounds
  emit_leaves v lo hi w = b.bounds _ _ _ _ _ ∙ either (λ (u : Work). g u ≡ g w) _ (λ e. tight_leaves v w) (λ e. refl)

  module _ (v : ℕ) (w : Work) where
    moved : (x y c d : List Float) → Leaves g w (next (mark_tightened M v (with_bounds x y c d w)))
    moved x y c d = same (tight_leaves v (with_bounds x y c d w) ∙ b.bounds x y c d w)

    upper_int_leaves : (q : Float) → Leaves g w (upper_int M v q w)
    unfolding upper_int
    upper_int_leaves q = either (Leaves g w) _ (λ e. either (Leaves g w) _ (λ e'. halts) (λ e'. moved _ _ _ _)) (λ e. same refl)

    lower_int_leaves : (q : Float) → Leaves g w (lower_int M v q w)
    unfolding lower_int
    lower_int_leaves q = either (Leaves g w) _ (λ e. either (Leaves g w) _ (λ e'. halts) (λ e'. moved _ _ _ _)) (λ e. same refl)

    upper_real_leaves : (q : Float) → Leaves g w (upper_real M v q w)
    unfolding upper_real
    upper_real_leaves q = either (Leaves g w) _ (λ e. either (Leaves g w) _ (λ e'. either (Leaves g w) _ (λ e''. halts) (λ e''. same refl)) (λ e'. moved _ _ _ _)) (λ e. same refl)

    lower_real_leaves : (q : Float) → Leaves g w (lower_real M v q w)
    unfolding lower_real
    lower_real_leaves q = either (Leaves g w) _ (λ e. either (Leaves g w) _ (λ e'. either (Leaves g w) _ (λ e''. halts) (λ e''. same refl)) (λ e'. moved _ _ _ _)) (λ e. same refl)

    pub upper_leaves : (q relax : Float) → Leaves g w (tighten_upper M v q relax w)
    unfolding tighten_upper
    upper_leaves q relax = either (Leaves g w) _ (λ e. either (Leaves g w) _ (λ e'. upper_int_leaves _) (λ e'. upper_real_leaves _)) (λ e. same refl)

    pub lower_leaves : (q relax : Float) → Leaves g w (tighten_lower M v q relax w)
    unfolding tighten_lower
    lower_leaves q relax = either (Leaves g w) _ (λ e. either (Leaves g w) _ (λ e'. lower_int_leaves _) (λ e'. lower_real_leaves _)) (λ e. same refl)
