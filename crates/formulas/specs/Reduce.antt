-- The precheck of a row of several terms: where the working activity says no, the emitted one decides nothing.
use Rattle.std.specs.Prelude.{◌≡◌, ℕ, Bool, true, false, ◌||◌}
use Rattle.floats.specs.Num.{choose}
use Rattle.definition.specs.declared.Activity.{Activity}
use Rattle.definition.specs.Model.{Model, Row}
use Rattle.definition.specs.Work.{Work}
use Rattle.definition.specs.Activities.{activity}
use Rattle.definition.specs.Sides.{within, near_min, near_max, unreachable, redundant}
use Rattle.definition.specs.Forcing.{forces_min, forces_max}
use Rattle.definition.specs.Implied.{implied_bounds}
use Rattle.definition.specs.Wave.{several_terms}
use Rattle.definition.specs.Choices.{or_left, or_right}
use Rattle.formulas.specs.declared.Limits.{Limits}
use Rattle.formulas.specs.Bare.{bare, Has, near_min_of, near_max_of, within_of_lem}

unfoldable pub may_reduce : Model → ℕ → Row → Activity → Bool
may_reduce M r row act = near_min M r row act || near_max M r row act || within row act

module _ (M : Model) (r : ℕ) (row : Row) (act : Activity) (never : may_reduce M r row act ≡ false) where
  not_near_min : near_min M r row act ≡ false
  unfolding may_reduce
  not_near_min = or_left _ (near_max M r row act) (or_left _ (within row act) never)

  not_near_max : near_max M r row act ≡ false
  unfolding may_reduce
  not_near_max = or_right (near_min M r row act) _ (or_left _ (within row act) never)

  not_within : within row act ≡ false
  unfolding may_reduce
  not_within = or_right (near_min M r row act || near_max M r row act) _ never

  pub forces_not_min : (e : Activity) (w : Work) → forces_min M r row act e w ≡ false
  unfolding forces_min
  forces_not_min e w = rw not_near_min

  pub forces_not_max : (e : Activity) (w : Work) → forces_max M r row act e w ≡ false
  unfolding forces_max
  forces_not_max e w = rw not_near_max

  pub not_redundant : (e : Activity) → redundant M row act e ≡ false
  unfolding redundant
  not_redundant e = rw not_within

-- so such a row of several terms, if it can be met, is left to the implied bounds
pub several_of : (M : Model) (r : ℕ) (row : Row) (w : Work) → unreachable M r row (activity M w row true) ≡ false → may_reduce M r row (activity M w row true) ≡ false
    → several_terms M r row w ≡ implied_bounds M r row (activity M w row true) row.terms w
unfolding several_terms choose
several_of M r row w u never =
    let a = activity M w row true in
    let e = activity M w row false in
    rw (u, forces_not_min M r row a never e w, forces_not_max M r row a never e w, not_redundant M r row a never e)

pub may_reduce_of : {x : Limits} {w : Row} (M : Model) (r : ℕ) (act : Activity) → Has x w → may_reduce M r (bare x) act ≡ may_reduce M r w act
unfolding may_reduce
may_reduce_of M r act h = cc (near_min_of M r act h, near_max_of M r act h, within_of_lem act h)
