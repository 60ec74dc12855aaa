-- Facts about lists, choices and flags that the views share.
use Rattle.std.specs.Prelude.{ℕ, zero, suc, ◌+◌, ◌%◌, ◌^◌, ◌≤◌, ◌<◌, ◌≡◌, refl, ◌≢◌, Bool, true, false, List, [], ◌∷◌, ◌++◌, map, eqb, length, get_or, set}
use Rattle.std.proofs.Common.{arith, ap, ◌∙◌}
use Rattle.std.proofs.Math.Dec.{eqb-suc-suc, eqb-suc-zero}
use Rattle.floats.specs.Num.{choose}
use Rattle.view.specs.Shows.{is_one}
use Rattle.view.specs.Inv.{marked, Below}

-- ---- a choice, by its test
pub yes : {A : Type 0} {b : Bool} (x y : A) → b ≡ true → choose b x y ≡ x
unfolding choose
yes x y e = rw e

pub no : {A : Type 0} {b : Bool} (x y : A) → b ≡ false → choose b x y ≡ y
unfolding choose
no x y e = rw e

-- a choice has a property that each side has where it is taken
pub either : {A : Type 0} (P : A → Type 0) (b : Bool) {x y : A} → (b ≡ true → P x) → (b ≡ false → P y) → P (choose b x y)
unfolding choose
either P true p q = p refl
either P false p q = q refl

-- ---- flags
pub one_is : is_one 1 ≡ true
unfolding is_one
one_is = refl

pub zero_is : is_one 0 ≡ false
unfolding is_one
zero_is = refl

eqb_ne : (x : ℕ) → x ≢ 1 → eqb x 1 ≡ false
eqb_ne zero h = refl
eqb_ne (suc zero) h = absurd (h refl)
eqb_ne (suc (suc x)) h = eqb-suc-suc (suc x) 0 ∙ eqb-suc-zero x

pub one_not : (x : ℕ) → x ≢ 1 → is_one x ≡ false
unfolding is_one
one_not x h = eqb_ne x h

module _ {A B : Type 0} (g : A → B) where
  pub map_set : (l : List A) (i : ℕ) (x : A) → map g (set l i x) ≡ set (map g l) i (g x)
  map_set [] i x = refl
  map_set (y ∷ l) zero x = refl
  map_set (y ∷ l) (suc i) x = ap (λ (t : List B). g y ∷ t) (map_set l i x)

  pub get_d_map : (l : List A) (i : ℕ) (d : A) (b : B) → i < length l → get_or (map g l) i b ≡ g (get_or l i d)
  get_d_map [] i d b h = absurd (omega arith)
  get_d_map (y ∷ l) zero d b h = refl
  get_d_map (y ∷ l) (suc i) d b h = get_d_map l i d b (omega arith)

  pub length_map : (l : List A) → length (map g l) ≡ length l
  length_map [] = refl
  length_map (y ∷ l) = ap suc (length_map l)

-- ---- how many flags are set
pub marked_le : (l : List Bool) → marked l ≤ length l
unfolding marked
marked_le [] = omega arith
marked_le (true ∷ l) = let z = marked_le l in omega arith
marked_le (false ∷ l) = let z = marked_le l in omega arith

pub clear_in : (l : List Bool) (r : ℕ) → get_or l r true ≡ false → r < length l
clear_in [] r e = absurd (let z : ◌≡◌ {A = ℕ} 0 1 = cc in omega arith)
clear_in (b ∷ l) zero e = omega arith
clear_in (b ∷ l) (suc r) e = let z = clear_in l r e in omega arith

pub marked_set : (l : List Bool) (r : ℕ) → get_or l r true ≡ false → marked (set l r true) ≡ suc (marked l)
unfolding marked
marked_set [] r e = absurd (let z : ◌≡◌ {A = ℕ} 0 1 = cc in omega arith)
marked_set (true ∷ l) zero e = absurd (let z : ◌≡◌ {A = ℕ} 0 1 = cc in omega arith)
marked_set (false ∷ l) zero e = refl
marked_set (true ∷ l) (suc r) e = ap suc (marked_set l r e)
marked_set (false ∷ l) (suc r) e = marked_set l r e

-- clearing a flag takes one away at most
pub marked_clear : (l : List Bool) (r : ℕ) → marked l ≤ suc (marked (set l r false))
unfolding marked
marked_clear [] r = omega arith
marked_clear (true ∷ l) zero = omega arith
marked_clear (false ∷ l) zero = omega arith
marked_clear (true ∷ l) (suc r) = let z = marked_clear l r in omega arith
marked_clear (false ∷ l) (suc r) = marked_clear l r

-- ---- all below
below_snoc : (n : ℕ) (l : List ℕ) (x i : ℕ) → ((j : ℕ) → j < length l → get_or l j 0 < n) → x < n → i < length (l ++ (x ∷ [])) → get_or (l ++ (x ∷ [])) i 0 < n
below_snoc n [] x zero h k p = k
below_snoc n [] x (suc i) h k p = absurd (omega arith)
below_snoc n (y ∷ l) x zero h k p = h 0 (omega arith)
below_snoc n (y ∷ l) x (suc i) h k p = below_snoc n l x i (λ j q. h (suc j) (omega arith)) k (omega arith)

pub below_add : {n : ℕ} {l : List ℕ} {x : ℕ} → Below n l → x < n → Below n (l ++ (x ∷ []))
below_add {n} {l} {x} b k = record { below = λ i p. below_snoc n l x i b.below k p }

-- ---- counting modulo 2 ^ 64
pub count_mod : (k x : ℕ) → x ≡ k % 2 ^ 64 → (x + 1) % 2 ^ 64 ≡ suc k % 2 ^ 64
count_mod k x e = omega arith
