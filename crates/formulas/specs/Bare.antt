-- The formulas look at a row's four floats alone, and of the model at its tolerance, the row's count of terms and the Rust's seven numbers:
-- each definition that they compute says the same of every row with the four floats.
use Rattle.std.specs.Prelude.{◌≡◌, ℕ, true, false, [], Float}
use Rattle.std.proofs.Math.Path.{refl}
use Rattle.std.proofs.Math.Option.{none}
use Rattle.definition.specs.declared.Activity.{Activity}
use Rattle.definition.specs.Params.{params}
use Rattle.definition.specs.Model.{Model, Row, nnz, rhs_mag}
use Rattle.definition.specs.Sides.{hi_side, lo_side, mag_l, mag_u, within_lo, within_hi, within, within_by, side_mag}
use Rattle.definition.specs.Sides.{mag_both, budget_l, budget_u, above_hi, below_lo, unreachable, near_min, near_max, redundant}
use Rattle.definition.specs.Singles.{finite_mag, room_at, widened_at, dropped_room, new_lower, new_upper}
use Rattle.definition.specs.Rewrites.{Form, le_form, ge_form, no_form, form_of, vacuous_room, vacuous_le, vacuous_ge, vacuous}
use Rattle.formulas.specs.declared.Limits.{Limits}

-- the row of these four floats, and of nothing else
abbrev pub bare : Limits → Row
bare x =
    record {
      terms = [];
      lo = x.lo;
      hi = x.hi;
      fold_scale = x.fold_scale;
      shift = x.shift;
      folded = [];
      alive = true;
      touched = false;
      binding = none;
    }

-- the row w has these four floats
pub record Has (x : Limits) (w : Row) : Type 0 where
  pub lo : x.lo ≡ w.lo
  pub hi : x.hi ≡ w.hi
  pub fold_scale : x.fold_scale ≡ w.fold_scale
  pub shift : x.shift ≡ w.shift

-- row r of the model has n terms as written, and the model has this tolerance and the Rust's seven numbers
pub record Of (M : Model) (r : ℕ) (tol : Float) (n : ℕ) : Type 0 where
  pub feas : M.feas ≡ tol
  pub terms : nnz M r ≡ n
  pub params : M.params ≡ params

-- z is what F says of every such row; of every model with the tolerance; of every model with the seven numbers
pub record Says {A : Type 0} (tol : Float) (n : ℕ) (z : A) (F : Model → ℕ → A) : Type 0 where
  pub of : (M : Model) (r : ℕ) → Of M r tol n → z ≡ F M r

pub record ByTol {A : Type 0} (tol : Float) (z : A) (F : Model → A) : Type 0 where
  pub of : (M : Model) → M.feas ≡ tol → z ≡ F M

pub record ByParams {A : Type 0} (z : A) (F : Model → A) : Type 0 where
  pub of : (M : Model) → M.params ≡ params → z ≡ F M

module _ {x : Limits} {w : Row} where
  -- ---- sides
  pub rhs_mag_of : (b : Float) → Has x w → rhs_mag (bare x) b ≡ rhs_mag w b
  unfolding rhs_mag
  rhs_mag_of b h = cc

  pub hi_side_of : (act : Activity) → Has x w → hi_side (bare x) act ≡ hi_side w act
  unfolding hi_side
  hi_side_of act h = cc

  pub lo_side_of : (act : Activity) → Has x w → lo_side (bare x) act ≡ lo_side w act
  unfolding lo_side
  lo_side_of act h = cc

  pub mag_l_of : (act : Activity) → Has x w → mag_l (bare x) act ≡ mag_l w act
  unfolding mag_l rhs_mag
  mag_l_of act h = cc

  pub mag_u_of : (act : Activity) → Has x w → mag_u (bare x) act ≡ mag_u w act
  unfolding mag_u rhs_mag
  mag_u_of act h = cc

  pub within_of_lem : (act : Activity) → Has x w → within (bare x) act ≡ within w act
  unfolding within within_lo within_hi
  within_of_lem act h = cc

  pub within_by_of : (red : Float) (act : Activity) → Has x w → within_by red (bare x) act ≡ within_by red w act
  unfolding within_by within_lo within_hi
  within_by_of red act h = cc

  pub mag_both_of : (e : Activity) → Has x w → mag_both (bare x) e ≡ mag_both w e
  unfolding mag_both side_mag rhs_mag
  mag_both_of e h = cc

  module _ (M : Model) where
    pub above_hi_of : (r : ℕ) (act : Activity) → Has x w → above_hi M r (bare x) act ≡ above_hi M r w act
    unfolding above_hi budget_l
    above_hi_of r act h = cc (hi_side_of act h, mag_l_of act h)

    pub below_lo_of : (r : ℕ) (act : Activity) → Has x w → below_lo M r (bare x) act ≡ below_lo M r w act
    unfolding below_lo budget_u
    below_lo_of r act h = cc (lo_side_of act h, mag_u_of act h)

    pub unreachable_of : (r : ℕ) (act : Activity) → Has x w → unreachable M r (bare x) act ≡ unreachable M r w act
    unfolding unreachable
    unreachable_of r act h = cc (above_hi_of r act h, below_lo_of r act h)

    pub near_min_of : (r : ℕ) (act : Activity) → Has x w → near_min M r (bare x) act ≡ near_min M r w act
    unfolding near_min budget_l
    near_min_of r act h = cc (hi_side_of act h, mag_l_of act h)

    pub near_max_of : (r : ℕ) (act : Activity) → Has x w → near_max M r (bare x) act ≡ near_max M r w act
    unfolding near_max budget_u
    near_max_of r act h = cc (lo_side_of act h, mag_u_of act h)

    pub redundant_of : (wact e : Activity) → Has x w → redundant M (bare x) wact e ≡ redundant M w wact e
    unfolding redundant
    redundant_of wact e h = rw (within_of_lem wact h, mag_both_of e h) (cc (within_by_of _ e h))

    -- ---- singles
    pub room_at_of : (r : ℕ) (a b : Float) → Has x w → room_at M r (bare x) a b ≡ room_at M r w a b
    unfolding room_at finite_mag rhs_mag
    room_at_of r a b h = cc

    pub widened_at_of : (r : ℕ) (a b : Float) → Has x w → widened_at M r (bare x) a b ≡ widened_at M r w a b
    unfolding widened_at room_at finite_mag rhs_mag
    widened_at_of r a b h = cc

    pub dropped_room_of : (a b : Float) → Has x w → dropped_room M (bare x) a b ≡ dropped_room M w a b
    unfolding dropped_room finite_mag rhs_mag
    dropped_room_of a b h = cc

    pub new_lower_of : (r : ℕ) (a blo elo : Float) → Has x w → new_lower M r (bare x) a blo elo ≡ new_lower M r w a blo elo
    unfolding new_lower
    new_lower_of r a blo elo h = cc (widened_at_of r a blo h)

    pub new_upper_of : (r : ℕ) (a bhi ehi : Float) → Has x w → new_upper M r (bare x) a bhi ehi ≡ new_upper M r w a bhi ehi
    unfolding new_upper
    new_upper_of r a bhi ehi h = cc (widened_at_of r a bhi h)

    -- ---- rewrites
    pub vacuous_le_of : (nz : Float) (act : Activity) (a : Float) → Has x w → vacuous_le M nz (bare x) act a ≡ vacuous_le M nz w act a
    unfolding vacuous_le
    vacuous_le_of nz act a h = cc

    pub vacuous_ge_of : (nz : Float) (act : Activity) (a : Float) → Has x w → vacuous_ge M nz (bare x) act a ≡ vacuous_ge M nz w act a
    unfolding vacuous_ge
    vacuous_ge_of nz act a h = cc

    pub vacuous_of : (f : Form) (nz : Float) (act : Activity) (a : Float) → Has x w → vacuous M f nz (bare x) act a ≡ vacuous M f nz w act a
    unfolding vacuous
    vacuous_of le_form nz act a h = cc (vacuous_le_of nz act a h)
    vacuous_of ge_form nz act a h = cc (vacuous_ge_of nz act a h)
    vacuous_of no_form nz act a h = refl

  pub form_of_of : Has x w → form_of (bare x) ≡ form_of w
  unfolding form_of
  form_of_of h = cc

  pub vacuous_room_of : (f : Form) (act : Activity) → Has x w → vacuous_room f (bare x) act ≡ vacuous_room f w act
  unfolding vacuous_room rhs_mag
  vacuous_room_of le_form act h = cc
  vacuous_room_of ge_form act h = cc
  vacuous_room_of no_form act h = refl
