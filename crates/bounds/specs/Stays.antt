-- An implied bound that leaves its variable as it is, whatever it is relaxed by that is not negative.
use Rattle.std.specs.Prelude.{ℕ, ◌≡◌, refl, Bool, List, get_or, Float, Ok}
use Rattle.std.proofs.Math.Path.{sym}
use Rattle.std.proofs.Common.{◌∙◌}
use Rattle.std.proofs.Math.Bool.{true, false}
use Rattle.std.specs.Float.{nan}
use Rattle.floats.specs.Num.{choose, ◌⊕◌, ◌⊖◌, is_finite, floor, ceil}
use Rattle.floats.specs.Points.{Held}
use Rattle.floats.specs.Relaxed.{NotNeg}
use Rattle.tolerances.specs.Tol.{at}
use Rattle.definition.specs.Params.{params}
use Rattle.definition.specs.Model.{Model, is_int}
use Rattle.definition.specs.Work.{Work, Step, next, bound_tol}
use Rattle.definition.specs.Bounds.{upper_int, upper_real, lower_int, lower_real, tighten_upper, tighten_lower}
use Rattle.space.specs.declared.Context.{Context}
use Rattle.space.specs.Store.{Floats, Numbers}
use Rattle.formulas.specs.Moves.{Move, by_move, upper_int_move, upper_real_move, lower_int_move, lower_real_move, upper_int_of, upper_real_of, lower_int_of, lower_real_of}
use Rattle.formulas.specs.Stays.{upper_still, lower_still, UpperStays, LowerStays}
use Rattle.view.specs.declared.Lists.{Lists}
use Rattle.view.specs.Call.{Call}
use Rattle.view.specs.Shows.{Shows}
use Rattle.view.specs.Lists.{yes, no, either}
use Rattle.view.specs.Known.{Bounding}
use Rattle.view.specs.Bounds.{wlo_is, whi_is, elo_is, ehi_is}
use Rattle.readers.specs.Vars.{int_code, int_is}

-- the test: q is at or outside the bound that it would move
unfoldable pub still_at : List ℕ → Context → Floats → ℕ → Float → Bool → Bool
still_at domain s f v q above =
    choose above
    (upper_still (int_code s.mip (get_or domain v 0)) q (get_or f.ehi v nan) (get_or f.whi v nan))
    (lower_still (int_code s.mip (get_or domain v 0)) q (get_or f.elo v nan) (get_or f.wlo v nan))

-- and what it is for
pub record Stays (domain : List ℕ) (s : Context) (f : Floats) (v : ℕ) (q : Float) (above : Bool) : Type 0 where
  pub stays : (lists : Lists) (M : Model) (n : Numbers) (o : List ℕ) (w : Work) → lists.domain.now ≡ domain → Bounding lists M → Call M s → Shows M f n o w → (t : Float) → Held t
      → NotNeg t → choose above (tighten_upper M v q t w) (tighten_lower M v q t w) ≡ next w

left_so : {A : Type 0} {m : Move} (x y z : A) → m ≡ Ok false → by_move m x y z ≡ x
unfolding by_move
left_so x y z e = rw e

module _ (M : Model) (v : ℕ) (q t : Float) (w : Work) where
  -- whichever kind the variable is of
  upper_still_lem : choose (is_int M v) (upper_int M v (floor (q ⊕ t)) w) (upper_real M v (q ⊕ t) w) ≡ next w → tighten_upper M v q t w ≡ next w
  unfolding tighten_upper
  upper_still_lem h = either (λ (y : Step). y ≡ next w) (is_finite q) (λ e. h) (λ e. refl)

  lower_still_lem : choose (is_int M v) (lower_int M v (ceil (q ⊖ t)) w) (lower_real M v (q ⊖ t) w) ≡ next w → tighten_lower M v q t w ≡ next w
  unfolding tighten_lower
  lower_still_lem h = either (λ (y : Step). y ≡ next w) (is_finite q) (λ e. h) (λ e. refl)

  module _ (p : M.params ≡ params) where
    upper_moves : (b : Bool) → choose b (upper_int_move (floor (q ⊕ t)) (at w.ehi v) (at w.wlo v)) (upper_real_move (q ⊕ t) (at w.whi v) (at w.wlo v) (bound_tol M w v false)) ≡ Ok false
        → choose b (upper_int M v (floor (q ⊕ t)) w) (upper_real M v (q ⊕ t) w) ≡ next w
    unfolding choose
    upper_moves true e = sym (upper_int_of M v w (floor (q ⊕ t))) ∙ left_so _ _ _ e
    upper_moves false e = sym (upper_real_of M v w (q ⊕ t) p) ∙ left_so _ _ _ e

    lower_moves : (b : Bool) → choose b (lower_int_move (ceil (q ⊖ t)) (at w.elo v) (at w.whi v)) (lower_real_move (q ⊖ t) (at w.wlo v) (at w.whi v) (bound_tol M w v true)) ≡ Ok false
        → choose b (lower_int M v (ceil (q ⊖ t)) w) (lower_real M v (q ⊖ t) w) ≡ next w
    unfolding choose
    lower_moves true e = sym (lower_int_of M v w (ceil (q ⊖ t))) ∙ left_so _ _ _ e
    lower_moves false e = sym (lower_real_of M v w (q ⊖ t) p) ∙ left_so _ _ _ e

module _ {domain : List ℕ} {s : Context} {f : Floats} {v : ℕ} {q : Float} {int above : Bool} (ei : int ≡ int_code s.mip (get_or domain v 0)) where
  pub stays_above : {ehi whi : Float} → above ≡ true → ehi ≡ get_or f.ehi v nan → whi ≡ get_or f.whi v nan → UpperStays int q ehi whi → Stays domain s f v q above
  stays_above a eh wh u =
      record {
        stays = λ lists M n o w d b c h t ht nt.
            yes _ _ a
            ∙ upper_still_lem M v q t w
            (upper_moves M v q t w c.params (is_int M v)
            (rw (int_is v c (b.domain ∙ d), ← ei, ← ehi_is v h eh, ← whi_is v h wh) (u.leaves t (at w.wlo v) (bound_tol M w v false) ht nt)));
      }

  pub stays_below : {elo wlo : Float} → above ≡ false → elo ≡ get_or f.elo v nan → wlo ≡ get_or f.wlo v nan → LowerStays int q elo wlo → Stays domain s f v q above
  stays_below a el wl u =
      record {
        stays = λ lists M n o w d b c h t ht nt.
            no _ _ a
            ∙ lower_still_lem M v q t w
            (lower_moves M v q t w c.params (is_int M v)
            (rw (int_is v c (b.domain ∙ d), ← ei, ← elo_is v h el, ← wlo_is v h wl) (u.leaves t (at w.whi v) (bound_tol M w v true) ht nt)));
      }

-- the test itself, by the side
module _ (domain : List ℕ) (s : Context) (f : Floats) (v : ℕ) (q : Float) {int above z : Bool} (ei : int ≡ int_code s.mip (get_or domain v 0)) where
  pub still_above : {ehi whi : Float} → above ≡ true → ehi ≡ get_or f.ehi v nan → whi ≡ get_or f.whi v nan → z ≡ upper_still int q ehi whi → z ≡ still_at domain s f v q above
  unfolding still_at
  still_above a eh wh e = e ∙ rw (ei, eh, wh) (sym (yes _ _ a))

  pub still_below : {elo wlo : Float} → above ≡ false → elo ≡ get_or f.elo v nan → wlo ≡ get_or f.wlo v nan → z ≡ lower_still int q elo wlo → z ≡ still_at domain s f v q above
  unfolding still_at
  still_below a el wl e = e ∙ rw (ei, el, wl) (sym (no _ _ a))
