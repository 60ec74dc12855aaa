-- `same_bounds`, place by place.
use Rattle.std.specs.Prelude.{ℕ, zero, suc, ◌+◌, ◌≤◌, ◌<◌, ◌≡◌, refl, Bool, true, false, not, ◌||◌, List, [], ◌∷◌, length, get_or, Float}
use Rattle.std.proofs.Common.{arith, ap, sym, ◌∙◌}
use Rattle.std.proofs.Math.Logic.{⊎_elim}
use Rattle.std.specs.Float.{nan}
use Rattle.std.specs.List.{list_any, range_with_len}
use Rattle.std.specs.Float.Ieee.{eq, ne}
use Rattle.std.proofs.lemmas.Bool.{not-true, not-false}
use Rattle.definition.specs.Emit.{same_bounds}
use Rattle.definition.specs.Choices.{and_false}
use Rattle.view.specs.Rows.{same?}

pub same_all : (xs ys : List Float) → length xs ≡ length ys → ((i : ℕ) → i < length xs → eq (get_or xs i nan) (get_or ys i nan) ≡ true) → same_bounds xs ys ≡ true
unfolding same_bounds
same_all [] [] l h = refl
same_all [] (y ∷ ys) l h = absurd (omega (arith, l))
same_all (x ∷ xs) [] l h = absurd (omega (arith, l))
same_all (x ∷ xs) (y ∷ ys) l h = rw (h 0 (omega arith)) (same_all xs ys (omega (arith, l)) (λ i p. h (suc i) (omega (arith, p))))

pub same_not : (xs ys : List Float) (i : ℕ) → i < length xs → i < length ys → eq (get_or xs i nan) (get_or ys i nan) ≡ false → same_bounds xs ys ≡ false
unfolding same_bounds
same_not [] ys i p q h = absurd (omega (arith, p))
same_not (x ∷ xs) [] i p q h = absurd (omega (arith, q))
same_not (x ∷ xs) (y ∷ ys) zero p q h = rw h
same_not (x ∷ xs) (y ∷ ys) (suc i) p q h = rw (same_not xs ys i (omega (arith, p)) (omega (arith, q)) h) (and_false (eq x y) false refl)

-- ---- bounds_changed: of n places each, no difference below v
pub record SameTo (es ls : List Float) (n v : ℕ) : Type 0 where
  pub long : length es ≡ n
  pub room : length ls ≡ n
  pub below : (i : ℕ) → i < v → eq (get_or es i nan) (get_or ls i nan) ≡ true

pub same_start : {es ls : List Float} {n : ℕ} → length es ≡ n → length ls ≡ n → SameTo es ls n 0
same_start p q = record { long = p; room = q; below = λ i p. absurd (omega (arith, p)) }

module _ {es ls : List Float} {n v : ℕ} (S : SameTo es ls n v) {x : Float} (e : x ≡ get_or es v nan) where
  read_as : {b : Bool} → eq x (get_or ls v nan) ≡ b → eq (get_or es v nan) (get_or ls v nan) ≡ b
  read_as t = ap (λ (y : Float). eq y (get_or ls v nan)) (sym e) ∙ t

  pub same_turn : ne x (get_or ls v nan) ≡ false → SameTo es ls n (v + 1)
  unfolding ne
  same_turn t =
      let z = read_as (not-false (eq x (get_or ls v nan)) t) in
      record { long = S.long; room = S.room; below = λ i p. ⊎_elim (λ q. rw q z) (λ m. S.below i (omega (arith, p, m))) (same? i v) }

  pub same_differs : v < n → ne x (get_or ls v nan) ≡ true → same_bounds es ls ≡ false
  unfolding ne
  same_differs p t = same_not es ls v (omega (arith, p, S.long)) (omega (arith, p, S.room)) (read_as (not-true (eq x (get_or ls v nan)) t))

pub same_end : {es ls : List Float} {n v : ℕ} → SameTo es ls n v → n ≤ v → same_bounds es ls ≡ true
same_end {es} {ls} S l = same_all es ls (S.long ∙ sym S.room) (λ i k. S.below i (omega (arith, k, l, S.long)))

-- whether one of two pairs differs
pub first_differs : {a : Bool} (b : Bool) → a ≡ false → true ≡ (not a || not b)
first_differs b e = rw e

pub second_differs : (a : Bool) {b : Bool} → b ≡ false → true ≡ (not a || not b)
second_differs true e = rw e
second_differs false e = refl

pub none_differs : {a b : Bool} → a ≡ true → b ≡ true → false ≡ (not a || not b)
none_differs e f = rw (e, f)

-- the bounds from place v on, each tested
abbrev pub differs : List Float → List Float → List Float → List Float → ℕ → Bool
differs es ls fs us v = ne (get_or es v nan) (get_or ls v nan) || ne (get_or fs v nan) (get_or us v nan)

module _ {es ls fs us : List Float} {n : ℕ} where
  by_test : {v : ℕ} (S : SameTo es ls n v) (T : SameTo fs us n v) → v < n → (a b z : Bool) → ne (get_or es v nan) (get_or ls v nan) ≡ a → ne (get_or fs v nan) (get_or us v nan) ≡ b
      → (ne (get_or es v nan) (get_or ls v nan) ≡ false → ne (get_or fs v nan) (get_or us v nan) ≡ false → z ≡ (not (same_bounds es ls) || not (same_bounds fs us)))
      → ((a || b) || z) ≡ (not (same_bounds es ls) || not (same_bounds fs us))
  by_test S T p true b z h j r = first_differs _ (same_differs S refl p h)
  by_test S T p false true z h j r = second_differs _ (same_differs T refl p j)
  by_test S T p false false z h j r = r h j

  pub any_differs : (k v : ℕ) → v + k ≡ n → SameTo es ls n v → SameTo fs us n v → list_any (differs es ls fs us) (range_with_len v k) ≡ (not (same_bounds es ls) || not (same_bounds fs us))
  any_differs zero v e S T = none_differs (same_end S (omega (arith, e))) (same_end T (omega (arith, e)))
  any_differs (suc k) v e S T = by_test S T (omega (arith, e)) _ _ (list_any (differs es ls fs us) (range_with_len (v + 1) k)) refl refl
      (λ h j. any_differs k (v + 1) (omega (arith, e)) (same_turn S refl h) (same_turn T refl j))
