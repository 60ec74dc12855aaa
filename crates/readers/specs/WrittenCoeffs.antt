-- The walk over the row as written, which ends at the variable, since the row has it.
use Rattle.std.specs.Prelude.{ℕ, zero, suc, ◌+◌, ◌-◌, ◌≤◌, ◌<◌, ◌≡◌, refl, true, List, [], ◌∷◌, length, get_or, take, drop, Float}
use Rattle.std.proofs.Common.{arith, ap, sym, ◌∙◌, subst, length-drop, length-take, get_or-drop, get_or-take}
use Rattle.std.specs.Float.{nan}
use Rattle.floats.specs.Num.{0f}
use Rattle.tolerances.specs.Tol.{Term, term, zip_terms}
use Rattle.definition.specs.Model.{Model, from, nnz, written, coeff_in, or_else}
use Rattle.definition.specs.Work.{no_term, has_term}
use Rattle.readers.specs.Coeffs.{drop_in, drop_rest, drop_here, drop_later}

-- what written_coeff asks: the slices are a model's that has a row at start, and v in it
pub record ReadyWritten (is : List ℕ) (cs : List Float) (start v : ℕ) : Type 0 where
  pub model : Model
  pub row : ℕ
  pub index : model.index ≡ is
  pub coeff : model.coeff ≡ cs
  pub coeffs : length cs ≡ length is
  pub from : from model row ≡ start
  pub has : has_term v (written model row) ≡ true

-- and promises: z is v's coefficient in every such row
pub record ReadsWritten (is : List ℕ) (cs : List Float) (start v : ℕ) (z : Float) : Type 0 where
  pub reads : (M : Model) (r : ℕ) → M.index ≡ is → M.coeff ≡ cs → from M r ≡ start → has_term v (written M r) ≡ true → or_else (coeff_in v (written M r)) 0f ≡ z

-- place i of the slices is the k-th term of the row
pub zip_length : (is : List ℕ) (cs : List Float) → length cs ≡ length is → length (zip_terms is cs) ≡ length is
unfolding zip_terms
zip_length [] cs e = refl
zip_length (i ∷ is) [] e = absurd (omega arith)
zip_length (i ∷ is) (c ∷ cs) e = ap suc (zip_length is cs (omega arith))

zip_get : (is : List ℕ) (cs : List Float) (k : ℕ) → k < length is → k < length cs → get_or (zip_terms is cs) k no_term ≡ term (get_or is k 0) (get_or cs k nan)
unfolding zip_terms
zip_get [] cs k p q = absurd (omega arith)
zip_get (i ∷ is) [] k p q = absurd (omega arith)
zip_get (i ∷ is) (c ∷ cs) zero p q = refl
zip_get (i ∷ is) (c ∷ cs) (suc k) p q = zip_get is cs k (omega arith) (omega arith)

zip_long : (is : List ℕ) (cs : List Float) → length (zip_terms is cs) ≤ length is
unfolding zip_terms
zip_long [] cs = omega arith
zip_long (i ∷ is) [] = omega arith
zip_long (i ∷ is) (c ∷ cs) = let z = zip_long is cs in omega arith

zip_wide : (is : List ℕ) (cs : List Float) → length (zip_terms is cs) ≤ length cs
unfolding zip_terms
zip_wide [] cs = omega arith
zip_wide (i ∷ is) [] = omega arith
zip_wide (i ∷ is) (c ∷ cs) = let z = zip_wide is cs in omega arith

pub record WrittenAt (is : List ℕ) (cs : List Float) (i : ℕ) (t : Term) : Type 0 where
  pub index : i < length is
  pub coeffs : i < length cs
  pub shows : t ≡ term (get_or is i 0) (get_or cs i nan)

pub written_at : (M : Model) (r k : ℕ) → k < length (written M r) → WrittenAt M.index M.coeff (from M r + k) (get_or (written M r) k no_term)
unfolding written
written_at M r k l =
    let a = from M r in
    let b = nnz M r in
    let is = drop a M.index in
    let cs = drop a M.coeff in
    let p : k < length (take b is) = omega (arith, l, zip_long (take b is) (take b cs)) in
    let q : k < length (take b cs) = omega (arith, l, zip_wide (take b is) (take b cs)) in
    let u : k < b = omega (arith, p, length-take b is) in
    let x : get_or (take b is) k 0 ≡ get_or M.index (a + k) 0 = get_or-take b is k 0 u ∙ get_or-drop a M.index k 0 in
    let y : get_or (take b cs) k nan ≡ get_or M.coeff (a + k) nan = get_or-take b cs k nan u ∙ get_or-drop a M.coeff k nan in
    record {
      index = omega (arith, p, length-take b is, length-drop a M.index);
      coeffs = omega (arith, q, length-take b cs, length-drop a M.coeff);
      shows = zip_get (take b is) (take b cs) k p q ∙ (λ j. term (x j) (y j));
    }

-- the walk has come to place start + k, and has not met v: whatever row as written starts there
pub record SeekingWritten (is : List ℕ) (cs : List Float) (start v i : ℕ) : Type 0 where
  pub ready : ReadyWritten is cs start v
  pub past : start ≤ i
  pub ahead : (M : Model) (r : ℕ) → M.index ≡ is → M.coeff ≡ cs → from M r ≡ start → has_term v (written M r) ≡ true
      → (has_term v (drop (i - start) (written M r)) ≡ true) × (or_else (coeff_in v (drop (i - start) (written M r))) 0f ≡ or_else (coeff_in v (written M r)) 0f)

module _ {is : List ℕ} {cs : List Float} {start v : ℕ} where
  pub written_start : ReadyWritten is cs start v → SeekingWritten is cs start v start
  written_start R =
      let z : start - start ≡ 0 = omega arith in
      record {
        ready = R;
        past = omega arith;
        ahead = λ M r a b c d. rw z (d, refl);
      }

  module _ {i : ℕ} (S : SeekingWritten is cs start v i) where
    -- the term at place i of a row as written that starts at start and has v
    written_now : (M : Model) (r : ℕ) → M.index ≡ is → M.coeff ≡ cs → from M r ≡ start → has_term v (written M r) ≡ true → (i - start < length (written M r))
        × WrittenAt is cs i (get_or (written M r) (i - start) no_term)
    written_now M r a b c d =
        let l = drop_in v (written M r) (i - start) (S.ahead M r a b c d).0 in
        let x = written_at M r (i - start) l in
        let z : from M r + (i - start) ≡ i = omega (arith, c, S.past) in
        let t = get_or (written M r) (i - start) no_term in
        let x₁ = subst (λ (y : List ℕ). WrittenAt y M.coeff (from M r + (i - start)) t) a x in
        let x₂ = subst (λ (y : List Float). WrittenAt is y (from M r + (i - start)) t) b x₁ in
        (l, subst (λ (y : ℕ). WrittenAt is cs y t) z x₂)

    pub written_in : (i < length is) × (i < length cs)
    written_in = let R = S.ready in let x = (written_now R.model R.row R.index R.coeff R.from R.has).1 in (x.index, x.coeffs)

    pub written_turn : (get_or is i 0 ≡ v → ⊥) → SeekingWritten is cs start v (i + 1)
    written_turn ne =
        let z : i + 1 - start ≡ i - start + 1 = omega (arith, S.past) in
        record {
          ready = S.ready;
          past = omega (arith, S.past);
          ahead = λ M r a b c d.
              let x = written_now M r a b c d in
              let e : (get_or (written M r) (i - start) no_term).var ≡ get_or is i 0 = ap (λ (t : Term). t.var) x.1.shows in
              let y = S.ahead M r a b c d in
              rw z (drop_rest v (written M r) (i - start) x.0 (λ u. ne (sym e ∙ u)) y.0, sym (drop_later v (written M r) (i - start) x.0 0f (λ u. ne (sym e ∙ u))) ∙ y.1);
        }

    pub written_end : {z : Float} → get_or is i 0 ≡ v → z ≡ get_or cs i nan → ReadsWritten is cs start v z
    written_end {z} ev ez =
        record {
          reads = λ M r a b c d.
              let x = written_now M r a b c d in
              let e : (get_or (written M r) (i - start) no_term).var ≡ v = ap (λ (t : Term). t.var) x.1.shows ∙ ev in
              sym (S.ahead M r a b c d).1 ∙ drop_here v (written M r) (i - start) x.0 0f e ∙ ap (λ (t : Term). t.coeff) x.1.shows ∙ sym ez;
        }
