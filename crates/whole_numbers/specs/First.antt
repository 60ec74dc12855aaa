-- The laws of `first`: what makes a place the first, and what its answer says.
use Rattle.std.specs.Prelude.{ℕ, zero, suc, ◌+◌, ◌≤◌, ◌<◌, ◌≡◌, refl, Bool, true, false, Option, Some, None, MatchOption}
use Rattle.std.proofs.Common.{arith, sym, ap, subst, ◌∙◌}
use Rattle.std.proofs.Math.Decide.{ℕ_discrete}
use Rattle.std.proofs.lemmas.Bool.{false≢true}
use Rattle.definition.specs.Choices.{chosen, left}
use Rattle.whole_numbers.specs.Fault.{first, Condition}
use Rattle.whole_numbers.specs.Of.{Found}

-- ---- the first that passes is the one that passes with none before it
pub first_is : (p : ℕ → Bool) (n j i : ℕ) → j ≤ i → i < j + n → p i ≡ true → ((k : ℕ) → j ≤ k → k < i → p k ≡ false) → i ≡ first p n j
unfolding first
first_is p zero j i a b e h = absurd (omega arith)
first_is p (suc n) j i a b e h = go (p j) refl (first_is p n (suc j) i)
  where
    go : (b : Bool) → p j ≡ b → (suc j ≤ i → i < suc j + n → p i ≡ true → ((k : ℕ) → suc j ≤ k → k < i → p k ≡ false) → i ≡ first p n (suc j)) → i ≡ first p (suc n) j
    go true q later =
        elim (ℕ_discrete j i) [ yes s ↦ sym (chosen j (first p n (suc j)) q ∙ s) | no s ↦ absurd (false≢true (sym (h j (omega arith) (omega (arith, s))) ∙ q)) ]
    go false q later =
        elim (ℕ_discrete j i) [
          | yes s ↦ absurd (false≢true (sym (ap p (sym s) ∙ q) ∙ e))
          | no s ↦ later (omega (arith, s)) (omega arith) e (λ k u v. h k (omega (arith, u)) v) ∙ sym (left j (first p n (suc j)) q)
        ]

-- ---- what the answer says: no place passes exactly where the first one is past the end
pub none_pass : (p : ℕ → Bool) (n j : ℕ) → j + n ≤ first p n j → (i : ℕ) → j ≤ i → i < j + n → p i ≡ false
unfolding first
none_pass p zero j h i a b = absurd (omega arith)
none_pass p (suc n) j h i a b = go (p j) refl (none_pass p n (suc j))
  where
    go : (b : Bool) → p j ≡ b → (suc j + n ≤ first p n (suc j) → (i : ℕ) → suc j ≤ i → i < suc j + n → p i ≡ false) → p i ≡ false
    go true e later = absurd (let q = chosen j (first p n (suc j)) e in omega (arith, q))
    go false e later =
        let q = left j (first p n (suc j)) e in
        elim (ℕ_discrete j i) [ yes s ↦ subst (λ (k : ℕ). p k ≡ false) s e | no s ↦ later (omega (arith, q)) i (omega arith) (omega arith) ]

pub past_end : (p : ℕ → Bool) (n j : ℕ) → ((i : ℕ) → j ≤ i → i < j + n → p i ≡ false) → first p n j ≡ j + n
unfolding first
past_end p zero j h = omega arith
past_end p (suc n) j h =
    let e = left j (first p n (suc j)) (h j (omega arith) (omega arith)) in
    let l = past_end p n (suc j) (λ i a b. h i (omega arith) (omega arith)) in
    omega (arith, e, l)

-- what `find` says of a condition's n places
pub found_is : (c : Condition) {n : ℕ} → n ≡ c.places → (r : Option ℕ)
    → MatchOption r ((k : ℕ) → 0 ≤ k → k < n → c.fails k ≡ false)
    (λ i. (0 ≤ i) × (i < n) × (c.fails i ≡ true) × ((k : ℕ) → 0 ≤ k → k < i → c.fails k ≡ false)) → Found c r
found_is c e None h = let l = past_end c.fails c.places 0 (λ i a b. h i a (omega (arith, b, e))) in omega (arith, l)
found_is c e (Some i) h = let l : i < c.places = omega (arith, h.1, e) in (first_is c.fails c.places 0 i h.0 (omega (arith, l)) h.2 h.3, l)
