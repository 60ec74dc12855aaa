-- What an implied bound does to its variable, by numbers alone: the three ways of `tighten_upper` and `tighten_lower`.
use Rattle.std.specs.Prelude.{◌≡◌, ℕ, Bool, true, false, ◌||◌, slice_set, refl, Float, Result, Ok, Err}
use Rattle.std.specs.Float.Ieee.{lt}
use Rattle.floats.specs.Num.{choose, ◌⊕◌, ◌⊖◌, ◌⊗◌, gt, 1f, ½f, abs, maxf, minf}
use Rattle.tolerances.specs.Tol.{at}
use Rattle.definition.specs.Params.{params}
use Rattle.definition.specs.Model.{Model}
use Rattle.definition.specs.Work.{Work, with_bounds, stop, next, bound_tol}
use Rattle.definition.specs.Bounds.{mark_tightened, upper_int, upper_real, lower_int, lower_real, emit_bounds}
use Rattle.definition.specs.declared.Infeasible.{Infeasible}

-- whether a bound moves, or that no point is left
abbrev pub Move : Type 0
Move = Result Bool Infeasible

unfoldable pub by_move : {A : Type 0} → Move → A → A → A → A
by_move (Ok false) x y z = x
by_move (Err e) x y z = y
by_move (Ok true) x y z = z

-- a bound that is tighter moves, unless it crosses the other: beyond its tolerance no point is left
unfoldable pub moved : Bool → Bool → Bool → Move
moved tighter crossed beyond = choose tighter (choose crossed (choose beyond (Err (record {})) (Ok false)) (Ok true)) (Ok false)

unfoldable pub upper_int_move : Float → Float → Float → Move
upper_int_move qi ehi wlo = moved (lt qi (ehi ⊖ ½f)) (lt qi (wlo ⊖ ½f)) true

unfoldable pub upper_real_move : Float → Float → Float → Float → Move
upper_real_move nq whi wlo tol = moved (lt nq (whi ⊖ params.improve_rel ⊗ maxf (abs nq) 1f)) (lt nq wlo) (gt (wlo ⊖ nq) tol)

unfoldable pub lower_int_move : Float → Float → Float → Move
lower_int_move qi elo whi = moved (gt qi (elo ⊕ ½f)) (gt qi (whi ⊕ ½f)) true

unfoldable pub lower_real_move : Float → Float → Float → Float → Move
lower_real_move nq wlo whi tol = moved (gt nq (wlo ⊕ params.improve_rel ⊗ maxf (abs nq) 1f)) (gt nq whi) (gt (nq ⊖ whi) tol)

-- a choice of moves is a choice of what they do
two : {A : Type 0} (a b : Bool) (x y z : A) → by_move (moved a b true) x y z ≡ choose a (choose b y z) x
unfolding by_move moved choose
two true true x y z = refl
two true false x y z = refl
two false b x y z = refl

three : {A : Type 0} (a b c : Bool) (x y z : A) → by_move (moved a b c) x y z ≡ choose a (choose b (choose c y x) z) x
unfolding by_move moved choose
three true true true x y z = refl
three true true false x y z = refl
three true false c x y z = refl
three false b c x y z = refl

-- a bound that is not tighter leaves
pub not_tighter : {a : Bool} (b c : Bool) → a ≡ false → moved a b c ≡ Ok false
unfolding moved choose
not_tighter b c e = rw e

module _ (M : Model) (v : ℕ) (w : Work) where
  pub upper_int_of : (qi : Float)
      → by_move (upper_int_move qi (at w.ehi v) (at w.wlo v)) (next w) (stop w.counts)
      (next (mark_tightened M v (with_bounds w.wlo (slice_set w.whi v (minf (at w.whi v) qi)) w.elo (slice_set w.ehi v qi) w)))
      ≡ upper_int M v qi w
  unfolding upper_int_move upper_int
  upper_int_of qi = two _ _ _ _ _

  pub lower_int_of : (qi : Float)
      → by_move (lower_int_move qi (at w.elo v) (at w.whi v)) (next w) (stop w.counts)
      (next (mark_tightened M v (with_bounds (slice_set w.wlo v (maxf (at w.wlo v) qi)) w.whi (slice_set w.elo v qi) w.ehi w)))
      ≡ lower_int M v qi w
  unfolding lower_int_move lower_int
  lower_int_of qi = two _ _ _ _ _

  pub upper_real_of : (nq : Float) → M.params ≡ params
      → by_move (upper_real_move nq (at w.whi v) (at w.wlo v) (bound_tol M w v false)) (next w) (stop w.counts)
      (next (mark_tightened M v (with_bounds w.wlo (slice_set w.whi v nq) w.elo w.ehi w)))
      ≡ upper_real M v nq w
  unfolding upper_real_move upper_real
  upper_real_of nq e = rw e (three _ _ _ _ _ _)

  pub lower_real_of : (nq : Float) → M.params ≡ params
      → by_move (lower_real_move nq (at w.wlo v) (at w.whi v) (bound_tol M w v true)) (next w) (stop w.counts)
      (next (mark_tightened M v (with_bounds (slice_set w.wlo v nq) w.whi w.elo w.ehi w)))
      ≡ lower_real M v nq w
  unfolding lower_real_move lower_real
  lower_real_of nq e = rw e (three _ _ _ _ _ _)

-- ---- `emit_bounds`
unfoldable pub emits_tighter : Float → Float → Float → Float → Bool
emits_tighter lo hi elo ehi = gt lo elo || lt hi ehi

unfoldable pub emitted_lower : Float → Float → Float → Float
emitted_lower wlo lo hi = minf (maxf wlo lo) hi

unfoldable pub emitted_upper : Float → Float → Float → Float
emitted_upper whi lo hi = maxf (minf whi hi) lo

pub emit_bounds_of : (M : Model) (v : ℕ) (lo hi : Float) (w : Work)
    → with_bounds
    (slice_set w.wlo v (emitted_lower (at w.wlo v) lo hi))
    (slice_set w.whi v (emitted_upper (at w.whi v) lo hi))
    (slice_set w.elo v lo)
    (slice_set w.ehi v hi)
    (choose (emits_tighter lo hi (at w.elo v) (at w.ehi v)) (mark_tightened M v w) w)
    ≡ emit_bounds M v lo hi w
unfolding emits_tighter emitted_lower emitted_upper emit_bounds
emit_bounds_of M v lo hi w = refl
