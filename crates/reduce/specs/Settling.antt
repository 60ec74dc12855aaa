-- settle_alive, settle_row and settle_rows: what they leave, and that the definition's steps keep the invariant.
use Rattle.std.specs.Prelude.{ℕ, zero, suc, ◌+◌, ◌-◌, ◌≤◌, ◌<◌, ◌≡◌, refl, Bool, true, List, [], ◌∷◌, length, get_or, Float, Ok, Err}
use Rattle.std.proofs.Common.{arith, add-one, ◌∙◌, get_or-set_same}
use Rattle.std.proofs.Math.Path.{ap, sym, subst}
use Rattle.std.proofs.Math.Bool.{false}
use Rattle.tolerances.specs.Tol.{Term}
use Rattle.definition.specs.declared.Infeasible.{Infeasible}
use Rattle.definition.specs.Model.{Model, Row}
use Rattle.definition.specs.Work.{Work, with_row, Step, stop, next, ◌>>=◌, no_row, trivial}
use Rattle.definition.specs.Folds.{fold_fixed}
use Rattle.definition.specs.Singles.{empty_row_check}
use Rattle.definition.specs.Emit.{no_terms}
use Rattle.space.specs.declared.Context.{Context}
use Rattle.space.specs.Store.{Floats, Numbers}
use Rattle.view.specs.Call.{Call}
use Rattle.view.specs.Shows.{Shows, StepShown, went, Outcome}
use Rattle.view.specs.Inv.{Inv}
use Rattle.view.specs.Acts.{Ready, Acts, Tries}
use Rattle.view.specs.Steps.{InvStep, goes, KeepsStep, tries_then, tries_stop, keeps_then, ready_went}
use Rattle.view.specs.Lists.{yes, no, either, one_not}
use Rattle.readers.specs.Reading.{row_of, Alive}
use Rattle.readers.specs.RowAt.{row_alive}
use Rattle.folds.specs.Kept.{fold_fixed_keeps}
use Rattle.singles.specs.Empty.{empty_keeps}
use Rattle.view.specs.Settled.{settle_alive, settle_row, settle_from, fold_alive}
use Rattle.readers.specs.Trivial.{TellsTrivial}

-- row r, folded
abbrev pub folded : ℕ → Model → Work → Work
folded r M w = with_row r (fold_fixed M r w (row_of w r)) w

-- it stands there
folded_row : {M : Model} {k : ℕ} (r : ℕ) (w : Work) → r < length M.rhs → Inv M k w → row_of (folded r M w) r ≡ fold_fixed M r w (row_of w r)
folded_row {M} r w p i = get_or-set_same w.rows r (fold_fixed M r w (row_of w r)) no_row (omega (arith, p, i.rowses))

no_terms_lem : (ts : List Term) → length ts ≡ 0 → no_terms ts ≡ true
unfolding no_terms
no_terms_lem [] e = refl
no_terms_lem (t ∷ ts) e = absurd (omega (arith, e))

some_terms : (ts : List Term) → (length ts ≡ 0 → ⊥) → no_terms ts ≡ false
unfolding no_terms
some_terms [] e = absurd (e refl)
some_terms (t ∷ ts) e = refl

-- ---- settle_alive
module _ {P : Model → Type 0} {s : Context} {f f₁ : Floats} {n n₁ : Numbers} (r : ℕ) (p : r < s.rows) (a : Alive n r) (A : Acts P s f n f₁ n₁ (λ M. folded r M))
    {l : ℕ} (el : l ≡ get_or n₁.len r 0) where
  module _ (M : Model) (o : List ℕ) (k : ℕ) (w : Work) (x : P M) (c : Call M s) (h : Shows M f n o w) (i : Inv M k w) where
    in_rows : r < length M.rhs
    in_rows = omega (arith, p, c.rows)

    still_alive : (row_of (folded r M w) r).alive ≡ true
    still_alive = ap (λ (y : Row). y.alive) (folded_row r w in_rows i) ∙ fold_alive M r w (row_of w r) (row_alive c h p a)

    len_is : l ≡ length (fold_fixed M r w (row_of w r)).terms
    len_is = el ∙ ((A.does M o k w x c h i).rows r in_rows still_alive).len ∙ ap (λ (y : Row). length y.terms) (folded_row r w in_rows i)

  pub alive_empty : {f₂ : Floats} {n₂ : Numbers} {z : Outcome} → l ≡ 0 → Tries P s f₁ n₁ f₂ n₂ z (λ M u. empty_row_check M r (row_of u r) u)
      → Tries P s f n f₂ n₂ z (λ M w. settle_alive M r (fold_fixed M r w (row_of w r)) w)
  unfolding settle_alive
  alive_empty {f₂} {n₂} {z} e T =
      record {
        does = λ M o k w x c h i.
            let y = T.does M o k (folded r M w) x c (A.does M o k w x c h i) ((fold_fixed_keeps {P = P} r p).keeps M k w x c i) in
            let v = ap (λ (t : Row). empty_row_check M r t (folded r M w)) (folded_row r w (in_rows M o k w x c h i) i) in
            let u = yes (empty_row_check M r (fold_fixed M r w (row_of w r)) (folded r M w)) (next (folded r M w))
            (no_terms_lem (fold_fixed M r w (row_of w r)).terms (sym (len_is M o k w x c h i) ∙ e)) in
            subst (λ (t : Step). StepShown M f₂ n₂ o z t) (v ∙ sym u) y;
      }

  pub alive_left : (l ≡ 0 → ⊥) → Tries P s f n f₁ n₁ (Ok tt) (λ M w. settle_alive M r (fold_fixed M r w (row_of w r)) w)
  unfolding settle_alive
  alive_left e =
      record {
        does = λ M o k w x c h i.
            let u = no (empty_row_check M r (fold_fixed M r w (row_of w r)) (folded r M w)) (next (folded r M w))
            (some_terms (fold_fixed M r w (row_of w r)).terms (λ q. e (len_is M o k w x c h i ∙ q))) in
            subst (λ (t : Step). StepShown M f₁ n₁ o (Ok tt) t) (sym u) (went (A.does M o k w x c h i));
      }

-- ---- settle_row
module _ {P : Model → Type 0} {ss os : List ℕ} {bs : List Float} {s : Context} (r : ℕ) (p : r < s.rows) (known : (M : Model) → P M → (M.starts ≡ ss)
    × (M.cmp ≡ os) × (M.rhs ≡ bs)) {t : Bool} (T : TellsTrivial s ss os bs r t) where
  trivial_is : (M : Model) → P M → Call M s → trivial M r ≡ t
  trivial_is M x c = let a = known M x in T.tells M a.0 a.1 a.2 c

  pub row_trivial : {f : Floats} {n : Numbers} → t ≡ true → Tries P s f n f n (Ok tt) (λ M. settle_row M r)
  unfolding settle_row
  row_trivial {f} {n} e = record { does = λ M o k w x c h i. subst (λ (y : Step). StepShown M f n o (Ok tt) y) (sym (yes _ _ (trivial_is M x c ∙ e))) (went h) }

  pub row_gone : (f : Floats) (n : Numbers) {a : ℕ} → t ≡ false → a ≡ get_or n.alive r 0 → (a ≡ 1 → ⊥) → Tries P s f n f n (Ok tt) (λ M. settle_row M r)
  unfolding settle_row
  row_gone f n e ea ne =
      record {
        does = λ M o k w x c h i.
            let g : (row_of w r).alive ≡ false = sym (h.alive r (omega (arith, p, c.rows))) ∙ one_not (get_or n.alive r 0) (λ q. ne (ea ∙ q)) in
            subst (λ (y : Step). StepShown M f n o (Ok tt) y) (sym (no _ _ (trivial_is M x c ∙ e) ∙ no _ _ g)) (went h);
      }

  pub row_live : {f f₁ : Floats} {n n₁ : Numbers} {a : ℕ} {z : Outcome} → t ≡ false → a ≡ get_or n.alive r 0 → a ≡ 1 → Tries P s f n f₁ n₁ z
      (λ M w. settle_alive M r (fold_fixed M r w (row_of w r)) w) → Tries P s f n f₁ n₁ z (λ M. settle_row M r)
  unfolding settle_row
  row_live {f₁ = f₁} {n₁ = n₁} {z = z} e ea b U =
      record {
        does = λ M o k w x c h i.
            subst (λ (y : Step). StepShown M f₁ n₁ o z y) (sym (no _ _ (trivial_is M x c ∙ e) ∙ yes _ _ (row_alive c h p (sym ea ∙ b)))) (U.does M o k w x c h i);
      }

-- ---- it keeps the invariant
pub row_keeps : {P : Model → Type 0} {s : Context} (r : ℕ) → r < s.rows → KeepsStep P s (λ M. settle_row M r)
unfolding settle_row settle_alive
row_keeps {P = P} {s = s} r p =
    record {
      keeps = λ M k w x c i.
          let j = (fold_fixed_keeps {P = P} r p).keeps M k w x c i in
          let e = folded_row r w (omega (arith, p, c.rows)) i in
          either (InvStep M k) (trivial M r) (λ t. goes i)
          (λ t.
          either (InvStep M k) (row_of w r).alive
          (λ a.
          either (InvStep M k) (no_terms (fold_fixed M r w (row_of w r)).terms)
          (λ b. subst (λ (y : Row). InvStep M k (empty_row_check M r y (folded r M w))) e ((empty_keeps {P = P} r).keeps M k (folded r M w) x c j)) (λ b. goes j))
          (λ a. goes i));
    }

-- ---- settle_rows
bind_then : (s : Step) (g h : Work → Step) → (s >>= g) >>= h ≡ s >>= (λ w. g w >>= h)
bind_then (stop k) g h = refl
bind_then (next w) g h = refl

bind_same : (s : Step) (g h : Work → Step) → ((w : Work) → g w ≡ h w) → s >>= g ≡ s >>= h
bind_same (stop k) g h e = refl
bind_same (next w) g h e = e w

-- the rows in two parts
settle_parts : (M : Model) (a b r : ℕ) (w : Work) → settle_from M (a + b) r w ≡ settle_from M a r w >>= settle_from M b (r + a)
unfolding settle_from
settle_parts M zero b r w = let z : r + 0 ≡ r = omega arith in let y : 0 + b ≡ b = omega arith in rw (z, y)
settle_parts M (suc a) b r w =
    let z : suc a + b ≡ suc (a + b) = omega arith in
    let y : r + suc a ≡ suc r + a = omega arith in
    rw (z, y) (bind_same (settle_row M r w) _ _ (λ u. settle_parts M a b (suc r) u) ∙ sym (bind_then (settle_row M r w) (settle_from M a (suc r)) (settle_from M b (suc r + a))))

settle_one : (M : Model) (r : ℕ) (w : Work) → settle_from M 1 r w ≡ settle_row M r w
unfolding settle_from
settle_one M r w = go (settle_row M r w)
  where
    go : (s : Step) → s >>= (λ u. next u) ≡ s
    go (stop k) = refl
    go (next u) = refl

settle_snoc : (M : Model) (r : ℕ) (w : Work) → settle_from M (r + 1) 0 w ≡ settle_from M r 0 w >>= settle_row M r
settle_snoc M r w =
    let z : 0 + r ≡ r = omega arith in
    settle_parts M r 1 0 w ∙ bind_same (settle_from M r 0 w) _ _ (λ u. ap (λ (k : ℕ). settle_from M 1 k u) z ∙ settle_one M r u)

none_keeps : (M : Model) (k : ℕ) (w : Work) → Inv M k w → InvStep M k (settle_from M 0 0 w)
unfolding settle_from
none_keeps M k w i = goes i

pub from_keeps : {P : Model → Type 0} {s : Context} (r : ℕ) → r ≤ s.rows → KeepsStep P s (λ M. settle_from M r 0)
from_keeps zero p = record { keeps = λ M k w x c i. none_keeps M k w i }
from_keeps {P = P} {s = s} (suc r) p =
    let K = keeps_then (from_keeps {P = P} {s = s} r (omega (arith, p))) (row_keeps {P = P} {s = s} r (omega (arith, p))) in
    record { keeps = λ M k w x c i. subst (InvStep M k) (sym (ap (λ (j : ℕ). settle_from M j 0 w) (sym (add-one r)) ∙ settle_snoc M r w)) (K.keeps M k w x c i) }

-- the rows below r went on
pub record Settling (P : Model → Type 0) (s : Context) (f₀ : Floats) (n₀ : Numbers) (f : Floats) (n : Numbers) (r : ℕ) : Type 0 where
  pub upto : r ≤ s.rows
  pub ready : Ready P s f n
  pub tries : Tries P s f₀ n₀ f n (Ok tt) (λ M. settle_from M r 0)

module _ {P : Model → Type 0} {s : Context} {f : Floats} {n : Numbers} where
  pub settle_start : Ready P s f n → Settling P s f n f n 0
  unfolding settle_from
  settle_start R = record { upto = omega arith; ready = R; tries = record { does = λ M o k w x c h i. went h } }

module _ {P : Model → Type 0} {s : Context} {f₀ : Floats} {n₀ : Numbers} {f : Floats} {n : Numbers} {r : ℕ} (S : Settling P s f₀ n₀ f n r) where
  one_more : {f₁ : Floats} {n₁ : Numbers} {z : Outcome} → Tries P s f n f₁ n₁ z (λ M. settle_row M r) → Tries P s f₀ n₀ f₁ n₁ z (λ M. settle_from M (r + 1) 0)
  one_more {f₁} {n₁} {z} T =
      let U = tries_then S.tries (from_keeps r S.upto) T in
      record { does = λ M o k w x c h i. subst (λ (y : Step). StepShown M f₁ n₁ o z y) (sym (settle_snoc M r w)) (U.does M o k w x c h i) }

  pub settle_turn : {f₁ : Floats} {n₁ : Numbers} {z : Outcome} → r < s.rows → Tries P s f n f₁ n₁ z (λ M. settle_row M r) → z ≡ Ok tt → Settling P s f₀ n₀ f₁ n₁ (r + 1)
  settle_turn {f₁} {n₁} p U q =
      let T = subst (λ (y : Outcome). Tries P s f n f₁ n₁ y (λ M. settle_row M r)) q U in
      record { upto = omega (arith, p); ready = ready_went S.ready T (row_keeps r p); tries = one_more T }

  pub settle_stop : {f₁ : Floats} {n₁ : Numbers} {z : Outcome} {u : Infeasible} → r < s.rows → Tries P s f n f₁ n₁ z (λ M. settle_row M r) → z ≡ Err u
      → Tries P s f₀ n₀ f₁ n₁ (Err u) (λ M. settle_from M s.rows 0)
  settle_stop {f₁} {n₁} {u = u} p T₀ q =
      let T = subst (λ (y : Outcome). Tries P s f n f₁ n₁ y (λ M. settle_row M r)) q T₀ in
      let U = tries_stop (λ M. settle_from M (s.rows - (r + 1)) (r + 1)) (one_more T) in
      let e : r + 1 + (s.rows - (r + 1)) ≡ s.rows = omega (arith, p) in
      let z : 0 + (r + 1) ≡ r + 1 = omega arith in
      record {
        does = λ M o k w x c h i.
            subst (λ (y : Step). StepShown M f₁ n₁ o (Err u) y)
            (sym (ap (λ (j : ℕ). settle_from M j 0 w) (sym e) ∙ settle_parts M (r + 1) (s.rows - (r + 1)) 0 w
            ∙ ap (λ (j : ℕ). settle_from M (r + 1) 0 w >>= settle_from M (s.rows - (r + 1)) j) z))
            (U.does M o k w x c h i);
      }

  pub settle_end : s.rows ≤ r → Tries P s f₀ n₀ f n (Ok tt) (λ M. settle_from M s.rows 0)
  settle_end p = let e : r ≡ s.rows = omega (arith, p, S.upto) in subst (λ (j : ℕ). Tries P s f₀ n₀ f n (Ok tt) (λ M. settle_from M j 0)) e S.tries
