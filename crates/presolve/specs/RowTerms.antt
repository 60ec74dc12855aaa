-- THE TERMS OF AN EMITTED ROW as they are read: `row_vars` and `row_coeffs` (crate row_terms) return the part between the ends of its span, of the model's lists
-- or of the rewritten ones, and that is the definition's.
use Prim.Native.Nat.{ℕ, zero, suc, ◌≤◌}
use Rattle.std.proofs.Common.{arith, ap, sym, ◌∙◌, subst, ⊎_elim, length-take, length-drop}
use Rattle.std.specs.Prelude.{◌≡◌, Bool, true, false, length, take, drop, Float}
use Rattle.std.proofs.Math.Path.{refl}
use mathlib.Core.List.Memᴰ
use mathlib.Core.List.{List, [], ◌∷◌, map, Memᴰ}
use Rattle.std.proofs.Math.Seq.{slice}
use Rattle.std.proofs.lemmas.List.{take-append-le}
use Rattle.floats.specs.Num.{choose}
use Rattle.tolerances.specs.Tol.{Term, zip_terms}
use Rattle.definition.specs.Model.{Model, Emit, Reduced}
use Rattle.rows_kept.specs.Statements.{All, no_one, each}
use Rattle.points_kept.specs.Statements.{terms_of}
use Rattle.view.specs.Lists.{length_map}
use Rattle.row_terms.specs.Parts.{row_part, part}
use Rattle.emit.specs.Filling.{over}
use Rattle.emit.specs.Terms.{vars_of, coeffs_of}
use Rattle.output.specs.Results.{Results, written}

-- what the two readers return, given the model's lists and the caller's
abbrev pub row_vars : Model → Results → Emit → List ℕ
row_vars M b e = row_part e.rewritten e.from e.upto M.index b.term_index

abbrev pub row_coeffs : Model → Results → Emit → List Float
row_coeffs M b e = row_part e.rewritten e.from e.upto M.coeff b.term_coeff

-- ---- a member of a list each of which has P
pub all_member : {A : Type 0} {P : A → Type 0} {xs : List A} → All P xs → (x : A) → Memᴰ x xs → P x
all_member no_one x m = absurd (Memᴰ.not-nil m)
all_member {P = P} (each p ps) x m = ⊎_elim (λ q. subst P (sym q) p) (λ i. all_member ps x i) (Memᴰ.cases_cons m)

-- ---- a part of a list
module _ {A : Type 0} where
  map_part : {B : Type 0} (g : A → B) (f t : ℕ) (l : List A) → map g (slice f t l) ≡ slice f t (map g l)
  map_part g zero zero l = refl
  map_part g (suc f) zero l = refl
  map_part g zero (suc t) [] = refl
  map_part g (suc f) (suc t) [] = refl
  map_part g zero (suc t) (x ∷ xs) = ap (λ (r : List _). g x ∷ r) (map_part g zero t xs)
  map_part g (suc f) (suc t) (x ∷ xs) = map_part g f t xs

  part_length : {B : Type 0} (f t : ℕ) (l : List A) (m : List B) → length l ≡ length m → length (slice f t l) ≡ length (slice f t m)
  part_length f t l m e = rw (length-drop f (take t l), length-take t l, length-drop f (take t m), length-take t m, e) refl

vars_zipped : (is : List ℕ) (cs : List Float) → length cs ≡ length is → vars_of (zip_terms is cs) ≡ is
unfolding zip_terms
vars_zipped [] cs e = refl
vars_zipped (i ∷ is) [] e = absurd (omega arith)
vars_zipped (i ∷ is) (c ∷ cs) e = ap (λ (r : List ℕ). i ∷ r) (vars_zipped is cs (omega arith))

coeffs_zipped : (is : List ℕ) (cs : List Float) → length cs ≡ length is → coeffs_of (zip_terms is cs) ≡ cs
unfolding zip_terms
coeffs_zipped [] [] e = refl
coeffs_zipped [] (c ∷ cs) e = absurd (omega arith)
coeffs_zipped (i ∷ is) [] e = absurd (omega arith)
coeffs_zipped (i ∷ is) (c ∷ cs) e = ap (λ (r : List Float). c ∷ r) (coeffs_zipped is cs (omega arith))

module _ (M : Model) (a : Reduced) (e : Emit) (inside : e.rewritten ≡ true → e.upto ≤ length a.terms) where
  -- g is a term's variable, or its coefficient; l the model's list of them, old what the caller's list had
  part_is : {B : Type 0} (g : Term → B) (l old : List B) → map g (zip_terms (slice e.from e.upto M.index) (slice e.from e.upto M.coeff)) ≡ slice e.from e.upto l
      → row_part e.rewritten e.from e.upto l (over (map g a.terms) old) ≡ map g (terms_of M a e)
  unfolding terms_of choose
  part_is {B} g l old h = go e.rewritten refl
    where
      f : ℕ
      f = e.from

      t : ℕ
      t = e.upto

      go : (k : Bool) → e.rewritten ≡ k → row_part e.rewritten f t l (over (map g a.terms) old) ≡ map g (terms_of M a e)
      go true y =
          rw y
          (ap (drop f) (take-append-le t (map g a.terms) _ (omega (arith, inside y, length_map g a.terms)))
          ∙ sym (map_part g f t a.terms) ∙ ap (map g) (part f t a.terms))
      go false y = rw y (sym h ∙ rw (part f t M.index, part f t M.coeff) refl)

  pub row_vars_lem : (b : Results) → length M.coeff ≡ length M.index → row_vars M (written a b) e ≡ vars_of (terms_of M a e)
  unfolding written
  row_vars_lem b c = part_is (λ (t : Term). t.var) M.index b.term_index (vars_zipped _ _ (part_length e.from e.upto M.coeff M.index c))

  pub row_coeffs_lem : (b : Results) → length M.coeff ≡ length M.index → row_coeffs M (written a b) e ≡ coeffs_of (terms_of M a e)
  unfolding written
  row_coeffs_lem b c = part_is (λ (t : Term). t.coeff) M.coeff b.term_coeff (coeffs_zipped _ _ (part_length e.from e.upto M.coeff M.index c))
