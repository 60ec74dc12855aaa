-- THE PART OF A LIST that an emitted row's terms are, clipped to what there is.
use Rattle.std.specs.Prelude.{ℕ, zero, suc, ◌+◌, ◌-◌, ◌≤◌, min, ◌≡◌, refl, Bool, true, false, List, [], ◌∷◌, length, take, drop}
use Rattle.std.proofs.Common.{arith, ap, sym, ◌∙◌, take-add, drop_at, length-take-le}
use Rattle.std.proofs.Math.Nat.{sub-zero, zero-sub, suc-sub-suc}
use Rattle.std.proofs.Math.Seq.{slice, take-nil}
use Rattle.std.proofs.lemmas.List.{take_min, drop_min}
use Rattle.floats.specs.Num.{choose}

-- a span's part of whichever list holds the row: the rewritten one, or the model's
abbrev pub row_part : {A : Type 0} → Bool → ℕ → ℕ → List A → List A → List A
row_part rewritten from upto model other = slice from upto (choose rewritten other model)

pub least_second : (a b : ℕ) {z : ℕ} → z ≡ min a b → z ≤ b
least_second a b e = omega (arith, e)

module _ {A : Type 0} where
  end_clipped : (l : List A) (t e : ℕ) → e ≡ min t (length l) → take e l ≡ take t l
  end_clipped l t e p = ap (λ (i : ℕ). take i l) p ∙ take_min t l

  start_clipped : (l : List A) (f e a : ℕ) → length l ≤ e → a ≡ min f e → drop a l ≡ drop f l
  start_clipped l f e a n p =
      let z : min a (length l) ≡ min f (length l) = omega (arith, n, p) in
      sym (drop_min a l) ∙ ap (λ (i : ℕ). drop i l) z ∙ drop_min f l

  pub take_slice : (l : List A) (a e : ℕ) → a ≤ e → e ≤ length l → take (e - a) (drop a l) ≡ slice a e l
  take_slice l a e p q =
      let z : e ≡ a + (e - a) = omega (arith, p) in
      sym (ap (λ (k : ℕ). drop a (take k l)) z ∙ ap (drop a) (take-add a (e - a) l) ∙ drop_at (take a l) (take (e - a) (drop a l)) a (length-take-le a l (omega (arith, p, q))))

  -- a part is clipped to the list's end
  pub clipped : (l : List A) (f t a e : ℕ) → e ≡ min t (length l) → a ≡ min f e → take (e - a) (drop a l) ≡ slice f t l
  clipped l f t a e p q =
      let z : length (take e l) ≡ e = length-take-le e l (omega (arith, p)) in
      let y : a ≡ min f (length (take e l)) = omega (arith, q, z) in
      take_slice l a e (omega (arith, q)) (omega (arith, p)) ∙ ap (λ (i : ℕ). drop i (take e l)) y ∙ drop_min f (take e l)
      ∙ ap (λ (i : ℕ). drop f (take i l)) p ∙ ap (drop f) (take_min t l)

  -- a part as it is lent: from its start, so many
  pub part : (f t : ℕ) (l : List A) → slice f t l ≡ take (t - f) (drop f l)
  part zero t l = rw (sub-zero t) refl
  part (suc f) zero l = rw (zero-sub (suc f)) refl
  part (suc f) (suc t) [] = sym (take-nil (suc t - suc f))
  part (suc f) (suc t) (x ∷ xs) = rw (suc-sub-suc t f) (part f t xs)

  -- ---- a row's part, by its mark
  pub part_yes : {b : Bool} (f t : ℕ) {z : List A} (xs ys : List A) → b ≡ true → z ≡ slice f t xs → z ≡ row_part b f t ys xs
  unfolding choose
  part_yes f t xs ys e h = rw e h

  pub part_no : {b : Bool} (f t : ℕ) {z : List A} (xs ys : List A) → b ≡ false → z ≡ slice f t ys → z ≡ row_part b f t ys xs
  unfolding choose
  part_no f t xs ys e h = rw e h
