-- Integer and fixed variables, and dual fixing's tests of one variable, by numbers alone.
use Rattle.std.specs.Prelude.{◌≡◌, ℕ, Bool, true, not, ◌&&◌, List, ◌==◌, slice_index, slice_index_or, Float}
use Rattle.std.proofs.Math.Path.{refl}
use Rattle.std.specs.Float.Ieee.{eq, le}
use Rattle.floats.specs.Num.{choose, gt, ge, 0f, is_finite}
use Rattle.tolerances.specs.Tol.{at}
use Rattle.definition.specs.Model.{Model, is_int_domain}
use Rattle.definition.specs.Work.{Work, fixed}
use Rattle.definition.specs.Dual.{may_fall, may_rise}

unfoldable pub int_domain : ℕ → Bool
int_domain d = not (d == 1)

unfoldable pub mip : ℕ → Bool
mip mode = not (mode == 0)

pub int_domain_of : (M : Model) (v : ℕ) → int_domain (slice_index M.domain v) ≡ is_int_domain M v
unfolding int_domain is_int_domain
int_domain_of M v = refl

-- the test of `block_terms`
unfoldable pub blocks_at : Float → Bool → Bool → Bool
blocks_at a pos neg = choose (gt a 0f) pos neg

unfoldable pub fixed_at : Float → Float → Bool
fixed_at elo ehi = eq elo ehi && is_finite elo

unfoldable pub falls_at : Float → Bool → Float → Bool
falls_at obj blocked wlo = ge obj 0f && not blocked && is_finite wlo

unfoldable pub rises_at : Float → Bool → Float → Bool
rises_at obj blocked whi = le obj 0f && not blocked && is_finite whi

module _ (v : ℕ) (w : Work) where
  pub fixed_of : fixed_at (at w.elo v) (at w.ehi v) ≡ fixed w v
  unfolding fixed_at fixed
  fixed_of = refl

  module _ (M : Model) (blocked : List Bool) where
    pub may_fall_of : falls_at (at M.obj v) (slice_index_or blocked v true) (at w.wlo v) ≡ may_fall M blocked v w
    unfolding falls_at may_fall
    may_fall_of = refl

    pub may_rise_of : rises_at (at M.obj v) (slice_index_or blocked v true) (at w.whi v) ≡ may_rise M blocked v w
    unfolding rises_at may_rise
    may_rise_of = refl
