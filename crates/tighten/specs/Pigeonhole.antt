-- Distinct variables that are all among a list of terms are no more than the terms.
use Rattle.std.specs.Prelude.{ℕ, suc, ◌+◌, ◌≤◌, ◌≡◌, refl, Bool, true, false, ◌||◌, List, [], ◌∷◌, ◌++◌, eqb, length}
use Rattle.std.proofs.Common.{arith, ap, sym, ◌∙◌, length-append, eqb-true}
use Rattle.floats.specs.Num.{choose}
use Rattle.tolerances.specs.Tol.{Term}
use Rattle.definition.specs.Model.{Model, Row}
use Rattle.definition.specs.Work.{has, has_term}
use Rattle.view.specs.Inv.{has_nonzero, BinariesIn, binaries_in[], binaries_in∷}
use Rattle.readers.specs.Binaries.{nonzero_has}
use Rattle.folds.specs.Counting.{true_false}
use Rattle.coeffs.specs.Keeping.{differ_sym, binaries_snoc}

-- ---- numbers that are distinct, and all variables of the terms
pub data Once : List ℕ → Type 0 where
  once[] : Once []
  once∷ : {v : ℕ} {vs : List ℕ} → has v vs ≡ false → Once vs → Once (v ∷ vs)

pub data Among (all : List Term) : List ℕ → Type 0 where
  among[] : Among all []
  among∷ : {v : ℕ} {vs : List ℕ} → has_term v all ≡ true → Among all vs → Among all (v ∷ vs)

-- the terms but the first one of v
unfoldable without : ℕ → List Term → List Term
without v [] = []
without v (t ∷ ts) =
    let later = without v ts in
    choose (eqb t.var v) ts (t ∷ later)

without_shorter : (v : ℕ) (ts : List Term) → has_term v ts ≡ true → suc (length (without v ts)) ≡ length ts
unfolding has_term without choose
without_shorter v [] e = true_false (sym e)
without_shorter v (t ∷ ts) e = go (eqb t.var v) e (without_shorter v ts)
  where
    go : (b : Bool) → b || has_term v ts ≡ true → (has_term v ts ≡ true → suc (length (without v ts)) ≡ length ts) → suc (length (choose b ts (t ∷ without v ts))) ≡ suc (length ts)
    go true e k = refl
    go false e k = ap suc (k e)

without_has : (v u : ℕ) (ts : List Term) → eqb v u ≡ false → has_term u ts ≡ true → has_term u (without v ts) ≡ true
unfolding has_term without choose
without_has v u [] ne e = e
without_has v u (t ∷ ts) ne e = go (eqb t.var v) (λ x. ap (λ (m : ℕ). eqb m u) (eqb-true t.var v x) ∙ ne) (without_has v u ts ne)
  where
    rest : (a b c : Bool) → (b ≡ true → c ≡ true) → a || b ≡ true → a || c ≡ true
    rest true b c k e = refl
    rest false b c k e = k e

    later : (a b : Bool) → a ≡ false → a || b ≡ true → b ≡ true
    later true b x e = true_false x
    later false b x e = e

    go : (b : Bool) → (b ≡ true → eqb t.var u ≡ false) → (has_term u ts ≡ true → has_term u (without v ts) ≡ true) → has_term u (choose b ts (t ∷ without v ts)) ≡ true
    go true h k = later (eqb t.var u) (has_term u ts) (h refl) e
    go false h k = rest (eqb t.var u) (has_term u ts) (has_term u (without v ts)) k e

among_without : (u : ℕ) {all : List Term} {vs : List ℕ} → has u vs ≡ false → Among all vs → Among (without u all) vs
unfolding has
among_without u h among[] = among[]
among_without u {all} h (among∷ {v} {vs} e a) = go (eqb v u) refl h (λ y. among_without u y a)
  where
    go : (b : Bool) → eqb v u ≡ b → b || has u vs ≡ false → (has u vs ≡ false → Among (without u all) vs) → Among (without u all) (v ∷ vs)
    go true x y k = true_false y
    go false x y k = among∷ (without_has u v all (differ_sym u v x) e) (k y)

pub once_fits : {all : List Term} {vs : List ℕ} → Once vs → Among all vs → length vs ≤ length all
once_fits once[] among[] = omega arith
once_fits {all} (once∷ {v} h o) (among∷ e a) = let z = once_fits {all = without v all} o (among_without v h a) in omega (arith, z, without_shorter v all e)

-- ---- a row's terms
-- ---- its rewritten binaries
binaries_once : {M : Model} {r : ℕ} {row : Row} {vs : List ℕ} → BinariesIn M r row vs → Once vs
binaries_once binaries_in[] = once[]
binaries_once (binaries_in∷ h e b) = once∷ h (binaries_once b)

binaries_among : {M : Model} {r : ℕ} {row : Row} {vs : List ℕ} → BinariesIn M r row vs → Among (row.terms ++ row.folded) vs
binaries_among binaries_in[] = among[]
binaries_among {row = row} (binaries_in∷ {v} h e b) = among∷ (nonzero_has v (row.terms ++ row.folded) e) (binaries_among b)

pub binaries_fit : {M : Model} {r : ℕ} {row : Row} {vs : List ℕ} → BinariesIn M r row vs → length vs ≤ length row.terms + length row.folded
binaries_fit {row = row} b = let z = once_fits (binaries_once b) (binaries_among b) in omega (arith, z, length-append row.terms row.folded)

-- and one more: v is none of them, and has a coefficient that is not zero
pub binary_more_fits : {M : Model} {r : ℕ} {row : Row} {vs : List ℕ} (v : ℕ) → BinariesIn M r row vs → has v vs ≡ false
    → has_nonzero v (row.terms ++ row.folded) ≡ true → suc (length vs) ≤ length row.terms + length row.folded
binary_more_fits {vs = vs} v b h e = let z = binaries_fit (binaries_snoc v b h e) in omega (arith, z, length-append vs (v ∷ []))
