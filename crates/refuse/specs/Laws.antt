-- `some_below`: a loop that ends at the first place where its test holds, a test of each element, a list in order.
use Rattle.std.specs.Prelude.{ℕ, zero, suc, ◌+◌, ◌-◌, ◌≤◌, ◌<◌, ◌≡◌, refl, Bool, true, false, not, ◌||◌, List, [], ◌∷◌, eqb, ltb, leb, length, get_or, Some}
use Rattle.std.specs.Bool.{MatchBool}
use Rattle.std.specs.Ordering.{nat_cmp, is_le, is_some_and}
use Rattle.std.specs.List.{list_any, zip, IsAllAdjacentAnswer}
use Rattle.std.specs.List.Sorted.{IsNonDecreasing}
use Rattle.std.proofs.Common.{add-one, arith, sym, ap, subst, ◌∙◌, true≢false, le-leb, eqb-true}
use Rattle.std.proofs.Math.Bool.{or_assoc}
use Rattle.std.proofs.lemmas.Bool.{lt-leb, eqb-false}
use Rattle.std.proofs.lemmas.List.Sorted.{non_decreasing_from_is_sorted}
use borrow.Author.Tests.{lt-ltb, le-ltb, ltb-true, ltb-false}
use Rattle.definition.specs.Refusal.{some_below}
use Rattle.definition.specs.Choices.{or_true_left, or_true_right}

-- ---- A LOOP over the numbers below n that ends at the first that passes a test
pub record Passed (p : ℕ → Bool) (n i : ℕ) : Type 0 where
  pub within : i ≤ n
  pub none : some_below p i ≡ false

pub start : (p : ℕ → Bool) (n : ℕ) → Passed p n 0
unfolding some_below
start p n = record { within = omega arith; none = refl }

pub turn : {p : ℕ → Bool} {n i : ℕ} → Passed p n i → i < n → p i ≡ false → Passed p n (i + 1)
unfolding some_below
turn {p} {n} {i} h l e = record { within = omega arith; none = rw add-one (simp (h.none, e)) }

pub end : {p : ℕ → Bool} {n i : ℕ} → Passed p n i → n ≤ i → false ≡ some_below p n
end {p} {n} {i} h l = let e : i ≡ n = omega (arith, h.within) in sym h.none ∙ ap (some_below p) e

pub found : (p : ℕ → Bool) (n i : ℕ) → i < n → p i ≡ true → true ≡ some_below p n
unfolding some_below
found p n i h e = sym (at n h)
  where
    last : (m : ℕ) → i < suc m → (i < m → some_below p m ≡ true) → (b : Bool) → eqb i m ≡ b → some_below p (suc m) ≡ true
    last m l f true q = or_true_right (some_below p m) (p m) (subst (λ (k : ℕ). p k ≡ true) (eqb-true i m q) e)
    last m l f false q = or_true_left (some_below p m) (p m) (f (omega (arith, eqb-false i m q)))

    at : (m : ℕ) → i < m → some_below p m ≡ true
    at zero l = absurd (omega arith)
    at (suc m) l = last m l (at m) (eqb i m) refl

-- where none passes, each fails
pub none_below : (p : ℕ → Bool) (n i : ℕ) → some_below p n ≡ false → i < n → p i ≡ false
none_below p n i e h = go (p i) refl
  where
    go : (b : Bool) → p i ≡ b → p i ≡ false
    go true q = absurd (true≢false (found p n i h q ∙ e))
    go false q = q

-- ---- an index against the next one
module _ (l : List ℕ) (i : ℕ) where
  pub falls : get_or l (i + 1) 0 ≤ get_or l i 0 → leb (get_or l (suc i) 0) (get_or l i 0) ≡ true
  falls h = le-leb (get_or l (suc i) 0) (get_or l i 0) (rw add-one at h)

  pub rises : get_or l i 0 < get_or l (i + 1) 0 → leb (get_or l (suc i) 0) (get_or l i 0) ≡ false
  rises h = lt-leb (get_or l (suc i) 0) (get_or l i 0) (rw add-one at h)

-- ---- where each fails, none passes
pub none_passes : (p : ℕ → Bool) (n : ℕ) → ((k : ℕ) → k < n → p k ≡ false) → some_below p n ≡ false
unfolding some_below
none_passes p zero h = refl
none_passes p (suc n) h = simp (none_passes p n (λ k l. h k (omega arith)), h n (omega arith))

-- tests that agree
pub same_below : (p q : ℕ → Bool) (n : ℕ) → ((k : ℕ) → k < n → p k ≡ q k) → some_below p n ≡ some_below q n
unfolding some_below
same_below p q zero h = refl
same_below p q (suc n) h = rw (same_below p q n (λ k l. h k (omega arith)), h n (omega arith))

-- ---- A TEST OF EACH ELEMENT, by the elements' places
front : (q : ℕ → Bool) (n : ℕ) → some_below q (suc n) ≡ (q 0 || some_below (λ k. q (suc k)) n)
unfolding some_below
front q zero = or_none (q 0)
  where
    or_none : (b : Bool) → (false || b) ≡ (b || false)
    or_none true = refl
    or_none false = refl
front q (suc n) = ap (λ b. b || q (suc n)) (front q n) ∙ or_assoc (q 0) (some_below (λ k. q (suc k)) n) (q (suc n))

pub any_below : {A : Type 0} (p : A → Bool) (xs : List A) (d : A) → list_any p xs ≡ some_below (λ k. p (get_or xs k d)) (length xs)
unfolding some_below
any_below p [] d = refl
any_below p (x ∷ xs) d = ap (λ b. p x || b) (any_below p xs d) ∙ sym (front (λ k. p (get_or (x ∷ xs) k d)) (length xs))

pub any_pair_below : {A B : Type 0} (p : A × B → Bool) (xs : List A) (ys : List B) (d : A) (e : B) → length ys ≡ length xs
    → list_any p (zip xs ys) ≡ some_below (λ k. p (get_or xs k d, get_or ys k e)) (length xs)
unfolding some_below
any_pair_below p [] ys d e l = refl
any_pair_below p (x ∷ xs) [] d e l = absurd (omega arith)
any_pair_below p (x ∷ xs) (y ∷ ys) d e l =
    ap (λ b. p (x, y) || b) (any_pair_below p xs ys d e (omega arith)) ∙ sym (front (λ k. p (get_or (x ∷ xs) k d, get_or (y ∷ ys) k e)) (length xs))

-- ---- A LIST IN ORDER: no element is above the next, or none is not below it
pub falls_below : (xs : List ℕ) (r : Bool) → IsAllAdjacentAnswer (λ x y b. is_some_and is_le (Some (nat_cmp x y)) ≡ b) xs r
    → not r ≡ some_below (λ k. ltb (get_or xs (k + 1) 0) (get_or xs k 0)) (length xs - 1)
falls_below xs r h = by r (non_decreasing_from_is_sorted xs r h)
  where
    by : (r : Bool) → MatchBool r (IsNonDecreasing xs) ((k : ℕ) × (k + 1 < length xs) × ((d : ℕ) → get_or xs (k + 1) d < get_or xs k d))
        → not r ≡ some_below (λ k. ltb (get_or xs (k + 1) 0) (get_or xs k 0)) (length xs - 1)
    by true h = sym (none_passes _ _ (λ k l. le-ltb (get_or xs (k + 1) 0) (get_or xs k 0) (h k (k + 1) 0 (omega arith) (omega arith))))
    by false h = found _ (length xs - 1) h.0 (omega (arith, h.1)) (lt-ltb (get_or xs (h.0 + 1) 0) (get_or xs h.0 0) (h.2 0))

pub rises_below : (xs : List ℕ) (r : Bool) → IsAllAdjacentAnswer (λ x y b. b ≡ ltb x y) xs r
    → not r ≡ some_below (λ k. leb (get_or xs (k + 1) 0) (get_or xs k 0)) (length xs - 1)
rises_below xs true h = sym (none_passes _ _ (λ k l. lt-leb (get_or xs (k + 1) 0) (get_or xs k 0) (ltb-true (get_or xs k 0) (get_or xs (k + 1) 0) (sym (h k 0 (omega arith))))))
rises_below xs false h = found _ (length xs - 1) h.0 (omega (arith, h.1)) (le-leb (get_or xs (h.0 + 1) 0) (get_or xs h.0 0) (ltb-false (get_or xs h.0 0) (get_or xs (h.0 + 1) 0) (sym (h.2 0))))
