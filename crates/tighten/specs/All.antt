-- All rows, one after the other: what is left of the definition from row r on gives the whole; and that it keeps the invariant.
use Prim.Native.Nat.{ℕ, zero, suc, ◌+◌, ◌-◌, ◌≤◌, ◌<◌}
use Rattle.std.proofs.Common.{arith, add-one, ap, sym, ◌∙◌, subst}
use Rattle.std.specs.Prelude.{◌≡◌, refl, Bool, ◌||◌, List, length}
use Rattle.std.proofs.Math.Bool.{false}
use Rattle.definition.specs.Model.{Model}
use Rattle.definition.specs.Work.{Work}
use Rattle.definition.specs.Tighten.{tighten_row, tighten_from, tighten_binary_coeffs}
use Rattle.space.specs.declared.Context.{Context}
use Rattle.space.specs.Store.{Floats, Numbers}
use Rattle.view.specs.Call.{Call}
use Rattle.view.specs.Shows.{Shows}
use Rattle.view.specs.Inv.{Inv}
use Rattle.view.specs.Acts.{Ready}
use Rattle.view.specs.Changes.{ActsBool, KeepsBool, ready_changed}
use Rattle.tighten.specs.Rows.{row_before, inv_tighten_row, row_keeps}

-- ---- it keeps the invariant
module _ {M : Model} {s : Context} {k : ℕ} (c : Call M s) where
  inv_from : (j r : ℕ) (w : Work) (changed : Bool) → r + j ≤ length M.rhs → Inv M k w → Inv M k (tighten_from M j r w changed).0
  unfolding tighten_from
  inv_from zero r w changed l i = i
  inv_from (suc j) r w changed l i = inv_from j (suc r) _ _ (omega (arith, l)) (inv_tighten_row c r (omega (arith, l)) w changed i)

  inv_tighten : (w : Work) → Inv M k w → Inv M k (tighten_binary_coeffs M w).0
  unfolding tighten_binary_coeffs
  inv_tighten w i = inv_from (length w.rows) 0 w false (omega (arith, i.rowses)) i

pub tighten_keeps : {P : Model → Type 0} {s : Context} → KeepsBool P s (λ M. tighten_binary_coeffs M)
tighten_keeps = record { keeps = λ M k w p c i. inv_tighten c w i }

-- ---- what is left from row r on
from_next : (M : Model) (j i r q : ℕ) (w : Work) (changed : Bool) → i ≡ suc j → q ≡ suc r → tighten_from M j q (tighten_row M r w changed).0 (tighten_row M r w changed).1
    ≡ tighten_from M i r w changed
unfolding tighten_from
from_next M j i r q w changed e g = rw (e, g) refl

from_done : (M : Model) (j r : ℕ) (w : Work) (changed : Bool) → j ≡ 0 → tighten_from M j r w changed ≡ (w, changed)
unfolding tighten_from
from_done M j r w changed e = rw e refl

all_is : (M : Model) (w : Work) → tighten_from M (length w.rows) 0 w false ≡ tighten_binary_coeffs M w
unfolding tighten_binary_coeffs
all_is M w = refl

pub record LeftAll (M : Model) (s : Context) (f : Floats) (n : Numbers) (o : List ℕ) (k r : ℕ) (changed : Bool) (whole : Work × Bool) : Type 0 where
  pub work : Work
  pub shows : Shows M f n o work
  pub inv : Inv M k work
  pub rest : tighten_from M (s.rows - r) r work changed ≡ whole

pub record AtRow (P : Model → Type 0) (s : Context) (r : ℕ) (changed : Bool) (f₀ : Floats) (n₀ : Numbers) (f : Floats) (n : Numbers) : Type 0 where
  pub upto : r ≤ s.rows
  pub ready : Ready P s f n
  pub left : (M : Model) (o : List ℕ) (k : ℕ) (w : Work) → P M → Call M s → Shows M f₀ n₀ o w → Inv M k w → LeftAll M s f n o k r changed (tighten_binary_coeffs M w)

pub all_start : {P : Model → Type 0} {s : Context} {f : Floats} {n : Numbers} → Ready P s f n → AtRow P s 0 false f n f n
all_start {s = s} R =
    record {
      upto = omega arith;
      ready = R;
      left = λ M o k w p c h i. record {
        work = w;
        shows = h;
        inv = i;
        rest = ap (λ (j : ℕ). tighten_from M j 0 w false) (let z : s.rows - 0 ≡ length w.rows = omega (arith, c.rows, i.rowses) in z) ∙ all_is M w;
      };
    }

module _ {P : Model → Type 0} {s : Context} {r : ℕ} {changed : Bool} {f₀ f : Floats} {n₀ n : Numbers} (A : AtRow P s r changed f₀ n₀ f n) where
  pub all_turn : {f' : Floats} {n' : Numbers} {z : Bool} → r < s.rows → ActsBool P s f n f' n' z (λ M w. tighten_row M r w false) → AtRow P s (r + 1) (changed || z) f₀ n₀ f' n'
  all_turn p a =
      record {
        upto = omega (arith, p);
        ready = ready_changed A.ready a (row_keeps r p);
        left = λ M o k w m c h i.
            let l = A.left M o k w m c h i in
            record {
              work = (tighten_row M r l.work false).0;
              shows = a.does M o k l.work m c l.shows l.inv;
              inv = (row_keeps {P = P} r p).keeps M k l.work m c l.inv;
              rest =
                  ap (λ (y : Bool). tighten_from M (s.rows - (r + 1)) (r + 1) (tighten_row M r l.work false).0 (changed || y)) (sym (a.says M o k l.work m c l.shows l.inv))
                  ∙ ap (λ (y : Work × Bool). tighten_from M (s.rows - (r + 1)) (r + 1) y.0 y.1) (sym (row_before M r l.work changed))
                  ∙ from_next M (s.rows - (r + 1)) (s.rows - r) r (r + 1) l.work changed (omega (arith, p)) (add-one r) ∙ l.rest;
            };
      }

  pub all_end : s.rows ≤ r → ActsBool P s f₀ n₀ f n changed (λ M. tighten_binary_coeffs M)
  all_end p =
      record {
        does = λ M o k w m c h i.
            let l = A.left M o k w m c h i in
            subst (λ (y : Work × Bool). Shows M f n o y.0) (sym (ended M l.work) ∙ l.rest) l.shows;
        says = λ M o k w m c h i.
            let l = A.left M o k w m c h i in
            ap (λ (y : Work × Bool). y.1) (sym l.rest ∙ ended M l.work);
      }
    where
      ended : (M : Model) (w : Work) → tighten_from M (s.rows - r) r w changed ≡ (w, changed)
      ended M w = from_done M (s.rows - r) r w changed (omega (arith, p))
