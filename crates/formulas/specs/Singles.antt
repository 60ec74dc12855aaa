-- Rows of one term, by numbers alone: the tests against the variable's emitted bounds and their tolerances.
use Rattle.std.specs.Prelude.{◌≡◌, ℕ, Bool, true, false, not, ◌||◌, refl, Float}
use Rattle.std.specs.Float.Ieee.{lt, le}
use Rattle.floats.specs.Num.{choose, ◌⊕◌, ◌⊖◌, ◌⊘◌, gt, ge, 0f, is_finite}
use Rattle.tolerances.specs.Tol.{Term, at}
use Rattle.definition.specs.Model.{Model, Row}
use Rattle.definition.specs.Work.{Work, next, ◌>>=◌, bound_tol}
use Rattle.definition.specs.Singles.{room_at, dropped_room, singleton_misses, lower_meets, upper_meets, singleton_bounds, singleton_drop, singleton_row}
use Rattle.formulas.specs.declared.Limits.{Limits}
use Rattle.formulas.specs.Bare.{bare, Has, room_at_of, dropped_room_of}

-- `blo` and `bhi` of `singleton_row`
unfoldable pub lower_side : Row → Float → Float
lower_side row a = choose (gt a 0f) row.lo row.hi

unfoldable pub upper_side : Row → Float → Float
upper_side row a = choose (gt a 0f) row.hi row.lo

pub lower_side_of : {x : Limits} {row : Row} (a : Float) → Has x row → lower_side (bare x) a ≡ lower_side row a
unfolding lower_side
lower_side_of a h = cc

pub upper_side_of : {x : Limits} {row : Row} (a : Float) → Has x row → upper_side (bare x) a ≡ upper_side row a
unfolding upper_side
upper_side_of a h = cc

pub singleton_of : (M : Model) (r : ℕ) (row : Row) (t : Term) (w : Work)
    → singleton_row M r row t w
    ≡ (singleton_bounds M r row t.var t.coeff (lower_side row t.coeff) (upper_side row t.coeff) w
    >>= λ w1. next (singleton_drop M r row t.var t.coeff (lower_side row t.coeff) (upper_side row t.coeff) w1))
unfolding singleton_row lower_side upper_side
singleton_of M r row t w = refl

module _ (M : Model) where
  unfoldable pub misses_at : ℕ → Row → Float → Float → Float → Float → Float → Float → Float → Bool
  misses_at r row a blo bhi elo ehi tolLo tolHi = gt (blo ⊘ a ⊖ room_at M r row a blo) (ehi ⊕ tolHi) || lt (bhi ⊘ a ⊕ room_at M r row a bhi) (elo ⊖ tolLo)

  unfoldable pub meets_lower : Row → Float → Float → Float → Float → Bool
  meets_lower row a blo elo tolLo = not (is_finite (blo ⊘ a)) || ge (elo ⊖ tolLo) (blo ⊘ a ⊖ dropped_room M row a blo)

  unfoldable pub meets_upper : Row → Float → Float → Float → Float → Bool
  meets_upper row a bhi ehi tolHi = not (is_finite (bhi ⊘ a)) || le (ehi ⊕ tolHi) (bhi ⊘ a ⊕ dropped_room M row a bhi)

  -- that is the definition's, at the variable's emitted bounds and their tolerances
  module _ {x : Limits} {row : Row} (v : ℕ) (a : Float) (w : Work) where
    pub misses_of : (r : ℕ) (blo bhi : Float) → Has x row
        → misses_at r (bare x) a blo bhi (at w.elo v) (at w.ehi v) (bound_tol M w v false) (bound_tol M w v true) ≡ singleton_misses M r row v a blo bhi w
    unfolding misses_at singleton_misses
    misses_of r blo bhi h = cc (room_at_of M r a blo h, room_at_of M r a bhi h)

    pub lower_meets_of : (blo : Float) → Has x row → meets_lower (bare x) a blo (at w.elo v) (bound_tol M w v false) ≡ lower_meets M row v a blo w
    unfolding meets_lower lower_meets
    lower_meets_of blo h = cc (dropped_room_of M a blo h)

    pub upper_meets_of : (bhi : Float) → Has x row → meets_upper (bare x) a bhi (at w.ehi v) (bound_tol M w v true) ≡ upper_meets M row v a bhi w
    unfolding meets_upper upper_meets
    upper_meets_of bhi h = cc (dropped_room_of M a bhi h)
