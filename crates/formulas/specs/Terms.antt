-- A term's part in an activity, by numbers alone.
use Rattle.std.specs.Prelude.{◌≡◌, ℕ, suc, ◌+◌, ◌%◌, ◌^◌, ◌<◌, Bool, true, false, refl, Float}
use Rattle.std.proofs.Common.{◌∙◌, add-one, mod-eq_of_lt}
use Rattle.std.specs.Float.Ieee.{lt}
use Rattle.floats.specs.Num.{choose, ◌⊕◌, ◌⊗◌, gt, 0f, is_finite, abs}
use Rattle.floats.proofs.Compare.{lt_turns}
use Rattle.tolerances.specs.Tol.{Term}
use Rattle.definition.specs.declared.Activity.{Activity}
use Rattle.definition.specs.Model.{Model, range_min, range_max}
use Rattle.definition.specs.Work.{Work, bound_tol}
use Rattle.definition.specs.Activities.{activity_step}

-- one infinite term more, as a usize counts
abbrev pub more : ℕ → ℕ
more n = (n + 1) % 2 ^ 64

unfoldable pub with_min : Float → Activity → Activity
with_min c act =
    record {
      l = choose (is_finite c) (act.l ⊕ c) act.l;
      u = act.u;
      ninf_l = choose (is_finite c) act.ninf_l (more act.ninf_l);
      ninf_u = act.ninf_u;
      absL = choose (is_finite c) (act.absL ⊕ abs c) act.absL;
      absU = act.absU;
      slack_l = act.slack_l;
      slack_u = act.slack_u;
    }

unfoldable pub with_max : Float → Activity → Activity
with_max c act =
    record {
      l = act.l;
      u = choose (is_finite c) (act.u ⊕ c) act.u;
      ninf_l = act.ninf_l;
      ninf_u = choose (is_finite c) act.ninf_u (more act.ninf_u);
      absL = act.absL;
      absU = choose (is_finite c) (act.absU ⊕ abs c) act.absU;
      slack_l = act.slack_l;
      slack_u = act.slack_u;
    }

abbrev pub with_slacks : Float → Float → Activity → Activity
with_slacks k j act =
    record {
      l = act.l;
      u = act.u;
      ninf_l = act.ninf_l;
      ninf_u = act.ninf_u;
      absL = act.absL;
      absU = act.absU;
      slack_l = act.slack_l ⊕ k;
      slack_u = act.slack_u ⊕ j;
    }

-- tolLo and tolHi are the tolerances of the two bounds: the term takes the upper one at the minimum corner if its coefficient is negative, at the maximum corner if it is positive
unfoldable pub step_of : Float → Float → Float → Float → Float → Activity → Activity
step_of a lo hi tolLo tolHi act =
    with_slacks (abs a ⊗ choose (lt a 0f) tolHi tolLo) (abs a ⊗ choose (gt a 0f) tolHi tolLo) (with_max (range_max a lo hi) (with_min (range_min a lo hi) act))

-- by the sign of the coefficient
module _ (a lo hi tolLo tolHi : Float) (act : Activity) where
  pub step_positive : gt a 0f ≡ true → step_of a lo hi tolLo tolHi act ≡ with_slacks (abs a ⊗ tolLo) (abs a ⊗ tolHi) (with_max (a ⊗ hi) (with_min (a ⊗ lo) act))
  unfolding step_of range_min range_max choose
  step_positive e = rw (e, lt_turns 0f a e)

  pub step_other : gt a 0f ≡ false → step_of a lo hi tolLo tolHi act ≡ with_slacks (abs a ⊗ choose (lt a 0f) tolHi tolLo) (abs a ⊗ tolLo) (with_max (a ⊗ lo) (with_min (a ⊗ hi) act))
  unfolding step_of range_min range_max choose
  step_other e = rw e

-- where the counts stay below a usize's range, that is the definition's step
more_is : (n : ℕ) → n + 1 < 2 ^ 64 → more n ≡ suc n
more_is n h = mod-eq_of_lt h ∙ add-one n

tol_by : (M : Model) (w : Work) (v : ℕ) (b : Bool) → choose b (bound_tol M w v true) (bound_tol M w v false) ≡ bound_tol M w v b
unfolding choose
tol_by M w v true = refl
tol_by M w v false = refl

pub step_of_lem : (M : Model) (w : Work) (lo hi : Float) (t : Term) (act : Activity) → act.ninf_l + 1 < 2 ^ 64 → act.ninf_u + 1 < 2 ^ 64
    → step_of t.coeff lo hi (bound_tol M w t.var false) (bound_tol M w t.var true) act ≡ activity_step M w lo hi t act
unfolding step_of with_min with_max activity_step
step_of_lem M w lo hi t act h k = rw (tol_by M w t.var (lt t.coeff 0f), tol_by M w t.var (gt t.coeff 0f), more_is act.ninf_l h, more_is act.ninf_u k)
