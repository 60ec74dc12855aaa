-- A term's implied bound from one side of its row, by numbers alone.
use Rattle.std.specs.Prelude.{◌≡◌, ℕ, Bool, not, ◌&&◌, eqb, Float, None, Some}
use Rattle.std.specs.Prelude as std
use Rattle.std.proofs.Math.Path.{refl}
use Rattle.std.proofs.Math.Option.{Option, none, some}
use Rattle.floats.specs.Num.{choose, ◌⊕◌, ◌⊖◌, ◌⊗◌, ◌⊘◌, gt, 0f, is_finite, abs, maxf}
use Rattle.tolerances.specs.Tol.{Term, ROUNDOFF_FLOOR}
use Rattle.definition.specs.declared.Activity.{Activity}
use Rattle.definition.specs.Model.{Model, Row, rhs_mag}
use Rattle.definition.specs.Work.{Work, budget}
use Rattle.definition.specs.Bounds.{tighten_upper, tighten_lower}
use Rattle.definition.specs.Implied.{finite_abs, implied}
use Rattle.formulas.specs.declared.Limits.{Limits}
use Rattle.formulas.specs.declared.Side.{Side}
use Rattle.formulas.specs.Bare.{bare, Has, rhs_mag_of}

-- the code's option as the definition's
abbrev pub rest_is : std.Option Float → Option Float
rest_is (Some s) = some s
rest_is None = none

abbrev pub hi_of : Row → Activity → Side
hi_of row act = record { bound = row.hi; sum = act.l; ninf = act.ninf_l; abs = act.absL; slack = act.slack_l }

abbrev pub lo_of : Row → Activity → Side
lo_of row act = record { bound = row.lo; sum = act.u; ninf = act.ninf_u; abs = act.absU; slack = act.slack_u }

-- whether the activity can speak of a side, and the row's magnitude there
abbrev pub speaks : Side → Bool
speaks side = is_finite side.bound && eqb side.ninf 0

abbrev pub side_mag_of : Row → Side → Float
side_mag_of row side = side.abs ⊕ rhs_mag row side.bound ⊕ row.fold_scale

pub hi_of_of : {x : Limits} {row : Row} (act : Activity) → Has x row → hi_of (bare x) act ≡ hi_of row act
hi_of_of act h = cc

pub lo_of_of : {x : Limits} {row : Row} (act : Activity) → Has x row → lo_of (bare x) act ≡ lo_of row act
lo_of_of act h = cc

-- whether a side bounds the term's variable from above, by whether it bounds the row so
unfoldable pub bounds_above : Bool → Float → Bool
bounds_above upper a = choose (gt a 0f) upper (not upper)

unfoldable pub quotient_of : Float → Float → Float → Float
quotient_of b rest a = (b ⊖ rest) ⊘ a

module _ (M : Model) where
  unfoldable pub relax_of : ℕ → Row → Side → Float → Float → Float → Float
  relax_of r row side c rest a =
      let mag = rhs_mag row side.bound ⊕ maxf (side.abs ⊖ finite_abs c) 0f ⊕ abs (side.bound ⊖ rest) ⊕ row.fold_scale in
      (budget M r mag ⊕ ROUNDOFF_FLOOR ⊗ side.abs ⊕ side.slack) ⊘ abs a

  pub relaxation_of : {x : Limits} {row : Row} (r : ℕ) (side : Side) (c rest a : Float) → Has x row → relax_of r (bare x) side c rest a ≡ relax_of r row side c rest a
  unfolding relax_of
  relaxation_of r side c rest a h = cc (rhs_mag_of side.bound h)

  -- the definition's implied bound, where the rest of the row has a sum
  pub implied_of : (upper : Bool) (r : ℕ) (row : Row) (side : Side) (c : Float) (t : Term) (rest : Float) (w : Work)
      → implied M upper r row side.bound side.abs side.slack c t (some rest) w
      ≡ choose (bounds_above upper t.coeff)
      (tighten_upper M t.var (quotient_of side.bound rest t.coeff) (relax_of r row side c rest t.coeff) w)
      (tighten_lower M t.var (quotient_of side.bound rest t.coeff) (relax_of r row side c rest t.coeff) w)
  unfolding implied bounds_above quotient_of relax_of
  implied_of upper r row side c t rest w = refl
