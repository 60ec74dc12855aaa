-- WHERE AN EMITTED ROW'S TERMS STAND, for a caller who cannot be handed a part of a slice: in which lists, from which place on, and how many.
use Rattle.std.specs.Prelude.{ℕ, zero, suc, ◌+◌, ◌-◌, ◌≤◌, min, ◌≡◌, refl, Bool, List, eqb, Float, drop}
use native.Mathlib.Omega.{arith}
use Rattle.std.proofs.Math.Path.{ap}
use Rattle.std.proofs.Common.{sym, ◌∙◌, length-take, length-drop, take-take, eq-eqb, ne_eqb}
use Rattle.std.proofs.Math.ListN.{length, take}
use Rattle.std.proofs.Math.Seq.{slice}
use Rattle.floats.specs.Num.{choose}
use Rattle.row_terms.specs.declared.Place.{Place}
use Rattle.row_terms.specs.RowMark.{mark, marked, marked_mark}
use Rattle.row_terms.specs.Parts.{row_part, part}

-- as many terms as both parts have
abbrev pub count_of : ℕ → ℕ → ℕ → List ℕ → List Float → List ℕ → List Float → ℕ
count_of m from upto index coeff term_index term_coeff = min (length (row_part (marked m) from upto index term_index)) (length (row_part (marked m) from upto coeff term_coeff))

-- terms stand from their span's start on; no terms stand at the place 0, which every list has
unfoldable pub start_of : ℕ → ℕ → ℕ
start_of count from = choose (eqb count 0) 0 from

-- m is the row's mark
unfoldable pub place_of : ℕ → ℕ → ℕ → List ℕ → List Float → List ℕ → List Float → Place
place_of m from upto index coeff term_index term_coeff =
    let n = count_of m from upto index coeff term_index term_coeff in
    record { rewritten = mark (marked m); start = start_of n from; count = n }

-- ---- start_of, by its test
pub start_none : {n : ℕ} (f : ℕ) → n ≡ 0 → 0 ≡ start_of n f
unfolding start_of choose
start_none {n} f e = rw (eq-eqb n 0 e)

pub start_some : {n : ℕ} (f : ℕ) → (n ≡ 0 → ⊥) → f ≡ start_of n f
unfolding start_of choose
start_some {n} f h = rw (ne_eqb n 0 h)

-- ---- what stands there: it is in the list, and it is the part
module _ {A : Type 0} (f t : ℕ) (l : List A) where
  pub place_inside : (n : ℕ) → n ≤ length (slice f t l) → start_of n f + n ≤ length l
  place_inside zero h = let e = start_none f refl in omega (arith, e)
  place_inside (suc n) h =
      let e = start_some {n = suc n} f (λ q. omega (arith, q)) in
      let d = length-drop f (take t l) in
      let k = length-take t l in
      omega (arith, e, d, k, h)

  pub place_part : (n : ℕ) → n ≤ length (slice f t l) → take n (drop (start_of n f) l) ≡ take n (slice f t l)
  place_part zero h = refl
  place_part (suc n) h =
      let e = start_some {n = suc n} f (λ q. omega (arith, q)) in
      let d = length-drop f (take t l) in
      let k = length-take t l in
      ap (λ (i : ℕ). take (suc n) (drop i l)) (sym e)
      ∙ sym (ap (take (suc n)) (part f t l) ∙ take-take (suc n) (t - f) (drop f l) (omega (arith, d, k, h)))

-- ---- what a caller reads there, in the lists that the place names: it is in them, and it is the row's terms, as many as both lists have
module _ (m f t : ℕ) (index : List ℕ) (coeff : List Float) (term_index : List ℕ) (term_coeff : List Float) where
  abbrev pub there : Place
  there = place_of m f t index coeff term_index term_coeff

  module _ {A : Type 0} (model other : List A) (h : there.count ≤ length (row_part (marked m) f t model other)) where
    inside : there.start + there.count ≤ length (choose (marked there.rewritten) other model)
    unfolding place_of
    inside =
        let k = place_inside f t (choose (marked m) other model) there.count h in
        let e = ap (λ (b : Bool). length (choose b other model)) (marked_mark (marked m)) in
        omega (arith, k, e)

    read : take there.count (drop there.start (choose (marked there.rewritten) other model)) ≡ take there.count (row_part (marked m) f t model other)
    unfolding place_of
    read =
        ap (λ (b : Bool). take there.count (drop there.start (choose b other model))) (marked_mark (marked m))
        ∙ place_part f t (choose (marked m) other model) there.count h

  few_vars_lem : there.count ≤ length (row_part (marked m) f t index term_index)
  unfolding place_of
  few_vars_lem = omega arith

  few_coeffs : there.count ≤ length (row_part (marked m) f t coeff term_coeff)
  unfolding place_of
  few_coeffs = omega arith

  pub vars_inside : there.start + there.count ≤ length (choose (marked there.rewritten) term_index index)
  vars_inside = inside index term_index few_vars_lem

  pub coeffs_inside : there.start + there.count ≤ length (choose (marked there.rewritten) term_coeff coeff)
  coeffs_inside = inside coeff term_coeff few_coeffs

  pub vars_there : take there.count (drop there.start (choose (marked there.rewritten) term_index index)) ≡ take there.count (row_part (marked m) f t index term_index)
  vars_there = read index term_index few_vars_lem

  pub coeffs_there : take there.count (drop there.start (choose (marked there.rewritten) term_coeff coeff)) ≡ take there.count (row_part (marked m) f t coeff term_coeff)
  coeffs_there = read coeff term_coeff few_coeffs

  -- parts of one length are read whole
  pub count_all_lem : (k : ℕ) → length (row_part (marked m) f t index term_index) ≡ k → length (row_part (marked m) f t coeff term_coeff) ≡ k → there.count ≡ k
  unfolding place_of
  count_all_lem k v c = omega (arith, v, c)
