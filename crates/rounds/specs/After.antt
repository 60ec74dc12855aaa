-- What follows the waves of a round, by the mode, on the slices; and that it keeps the invariant.
use Rattle.std.specs.Prelude.{ℕ, ◌≡◌, refl, Bool, true, false, not, ◌||◌, List, eqb, Float}
use Rattle.std.proofs.Common.{ap, sym, ◌∙◌, subst}
use Rattle.definition.specs.Model.{Model, is_mip}
use Rattle.definition.specs.Work.{Work}
use Rattle.definition.specs.Tighten.{tighten_binary_coeffs}
use Rattle.definition.specs.Dual.{dual_fix}
use Rattle.definition.specs.Rounds.{dual_step, after_waves}
use Rattle.space.specs.declared.Context.{Context}
use Rattle.space.specs.Store.{Floats, Numbers}
use Rattle.view.specs.declared.Lists.{Lists}
use Rattle.view.specs.Call.{Call}
use Rattle.view.specs.Shows.{Shows}
use Rattle.view.specs.Inv.{Inv}
use Rattle.view.specs.Lists.{yes, no, either}
use Rattle.view.specs.Acts.{Ready, Any}
use Rattle.view.specs.Changes.{ActsBool, KeepsBool, ready_changed, changes_under}
use Rattle.view.specs.Known.{Known}
use Rattle.view.specs.Steps.{ready_under}
use Rattle.folds.specs.Written.{eqb_same, eqb_differ}
use Rattle.dual.specs.Fixing.{Dual, dual_keeps}
use Rattle.tighten.specs.Tightening.{Tightening}
use Rattle.tighten.specs.All.{tighten_keeps}

-- what the rounds know of the model: all of its slices but the bounds, the rows of each variable, and the mode
pub record Running (fs : List Float) (lists : Lists) (j : ℕ) (M : Model) : Type 0 where
  pub obj : M.obj ≡ fs
  pub known : Known lists M
  pub mode : M.mode ≡ j

module _ {obj : List Float} {lists : Lists} {mode : ℕ} (M : Model) (p : Running obj lists mode M) where
  pub running_known : Known lists M
  running_known = p.known

  pub running_tightening : Tightening lists M
  running_tightening = record { domain = p.known.domain; written = p.known.written }

  pub running_dual : Dual obj lists M
  running_dual = record { obj = p.obj; domain = p.known.domain; starts = p.known.written.starts; adjacency = p.known.adjacency }

-- ---- the definition, by the mode
after_lp : (M : Model) (w : Work) → is_mip M ≡ false → after_waves M w ≡ (w, false)
unfolding after_waves
after_lp M w e = no _ _ e

after_mip : (M : Model) (w : Work) → is_mip M ≡ true → after_waves M w ≡ ((dual_step M (tighten_binary_coeffs M w).0).0, (tighten_binary_coeffs M w).1 || (dual_step M (tighten_binary_coeffs M w).0).1)
unfolding after_waves
after_mip M w e = yes _ _ e

dual_on : (M : Model) (w : Work) → eqb M.mode 2 ≡ true → dual_step M w ≡ dual_fix M w
unfolding dual_step
dual_on M w e = yes _ _ e

dual_off : (M : Model) (w : Work) → eqb M.mode 2 ≡ false → dual_step M w ≡ (w, false)
unfolding dual_step
dual_off M w e = no _ _ e

is_mip_lem : {j : ℕ} (M : Model) → M.mode ≡ j → (j ≡ 0 → ⊥) → is_mip M ≡ true
unfolding is_mip
is_mip_lem {j} M e n = ap not (ap (λ (x : ℕ). eqb x 0) e ∙ eqb_differ j 0 n)

is_lp : {j : ℕ} (M : Model) → M.mode ≡ j → j ≡ 0 → is_mip M ≡ false
unfolding is_mip
is_lp {j} M e z = ap not (ap (λ (x : ℕ). eqb x 0) e ∙ eqb_same j 0 z)

or_false : (b : Bool) → b || false ≡ b
or_false true = refl
or_false false = refl

-- ---- the invariant is kept
inv_dual : {M : Model} {s : Context} {k : ℕ} (w : Work) → Call M s → Inv M k w → Inv M k (dual_step M w).0
unfolding dual_step
inv_dual {M} {s} {k} w c i = either (λ (y : Work × Bool). Inv M k y.0) _ (λ e. (dual_keeps {P = Any} {s = s}).keeps M k w tt c i) (λ e. i)

pub after_keeps : {P : Model → Type 0} {s : Context} → KeepsBool P s (λ M. after_waves M)
unfolding after_waves
after_keeps {P} {s} =
    record {
      keeps = λ M k w p c i.
          either (λ (y : Work × Bool). Inv M k y.0) _ (λ e. inv_dual (tighten_binary_coeffs M w).0 c ((tighten_keeps {P = P} {s = s}).keeps M k w p c i)) (λ e. i);
    }

-- ---- after_waves
module _ {obj : List Float} {lists : Lists} {mode : ℕ} {s : Context} {f : Floats} {n : Numbers} where
  pub after_none : mode ≡ 0 → ActsBool (Running obj lists mode) s f n f n false (λ M. after_waves M)
  after_none z =
      record {
        does = λ M o k w p c h i. subst (λ (y : Work × Bool). Shows M f n o y.0) (sym (after_lp M w (is_lp M p.mode z))) h;
        says = λ M o k w p c h i. ap (λ (y : Work × Bool). y.1) (after_lp M w (is_lp M p.mode z));
      }

  module _ {f₁ : Floats} {n₁ : Numbers} {a : Bool} (ne : mode ≡ 0 → ⊥) (A : ActsBool (Tightening lists) s f n f₁ n₁ a (λ M. tighten_binary_coeffs M)) where
    -- the state that the dual step has
    pub ready_dual : Ready (Running obj lists mode) s f n → Ready (Dual obj lists) s f₁ n₁
    ready_dual R = ready_under running_dual (ready_changed R (changes_under running_tightening A) tighten_keeps)

    -- mode 1: the coefficients alone
    pub after_coeffs : (mode ≡ 2 → ⊥) → ActsBool (Running obj lists mode) s f n f₁ n₁ a (λ M. after_waves M)
    after_coeffs nt =
        record {
          does = λ M o k w p c h i. subst (λ (y : Work × Bool). Shows M f₁ n₁ o y.0) (sym (whole M w p)) (A.does M o k w (running_tightening M p) c h i);
          says = λ M o k w p c h i. ap (λ (y : Work × Bool). y.1) (whole M w p) ∙ A.says M o k w (running_tightening M p) c h i;
        }
      where
        whole : (M : Model) (w : Work) → Running obj lists mode M → after_waves M w ≡ ((tighten_binary_coeffs M w).0, (tighten_binary_coeffs M w).1)
        whole M w p =
            let T = tighten_binary_coeffs M w in
            let e : eqb M.mode 2 ≡ false = ap (λ (x : ℕ). eqb x 2) p.mode ∙ eqb_differ mode 2 nt in
            after_mip M w (is_mip_lem M p.mode ne) ∙ ap (λ (y : Work × Bool). (y.0, T.1 || y.1)) (dual_off M T.0 e) ∙ ap (λ (b : Bool). (T.0, b)) (or_false T.1)

    -- mode 2: both, and the result is whether one of them changed something
    module _ {f₂ : Floats} {n₂ : Numbers} {b : Bool} (two : mode ≡ 2) (B : ActsBool (Dual obj lists) s f₁ n₁ f₂ n₂ b (λ M. dual_fix M)) where
      pub after_both : ActsBool (Running obj lists mode) s f n f₂ n₂ (a || b) (λ M. after_waves M)
      after_both =
          record {
            does = λ M o k w p c h i. subst (λ (y : Work × Bool). Shows M f₂ n₂ o y.0) (sym (whole M w p))
                (B.does M o k (tighten_binary_coeffs M w).0 (running_dual M p) c (shown M o k w p c h i) (kept M k w p c i));
            says = λ M o k w p c h i.
                ap (λ (y : Work × Bool). y.1) (whole M w p)
                ∙ ap (λ (x : Bool). x || (dual_fix M (tighten_binary_coeffs M w).0).1) (A.says M o k w (running_tightening M p) c h i)
                ∙ ap (λ (x : Bool). a || x) (B.says M o k (tighten_binary_coeffs M w).0 (running_dual M p) c (shown M o k w p c h i) (kept M k w p c i));
          }
        where
          shown : (M : Model) (o : List ℕ) (k : ℕ) (w : Work) → Running obj lists mode M → Call M s → Shows M f n o w → Inv M k w → Shows M f₁ n₁ o (tighten_binary_coeffs M w).0
          shown M o k w p c h i = A.does M o k w (running_tightening M p) c h i

          kept : (M : Model) (k : ℕ) (w : Work) → Running obj lists mode M → Call M s → Inv M k w → Inv M k (tighten_binary_coeffs M w).0
          kept M k w p c i = (tighten_keeps {P = Running obj lists mode} {s = s}).keeps M k w p c i

          whole : (M : Model) (w : Work) → Running obj lists mode M
              → after_waves M w ≡ ((dual_fix M (tighten_binary_coeffs M w).0).0, (tighten_binary_coeffs M w).1 || (dual_fix M (tighten_binary_coeffs M w).0).1)
          whole M w p =
              let T = tighten_binary_coeffs M w in
              let e : eqb M.mode 2 ≡ true = ap (λ (x : ℕ). eqb x 2) p.mode ∙ eqb_same mode 2 two in
              after_mip M w (is_mip_lem M p.mode ne) ∙ ap (λ (y : Work × Bool). (y.0, T.1 || y.1)) (dual_on M T.0 e)
