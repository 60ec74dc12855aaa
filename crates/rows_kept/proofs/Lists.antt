-- Entries, kept numbers and counts, as the lists grow by one.
use Rattle.std.specs.Prelude.{ℕ, zero, suc, ◌+◌, ◌<◌, ◌≡◌, refl, Bool, true, false, List, [], ◌∷◌, ◌++◌, eqb}
use Rattle.std.proofs.Common.{arith, ap, ◌∙◌, append-nil}
use Rattle.std.proofs.Math.Decide.{ℕ_discrete}
use Rattle.floats.specs.Num.{choose}
use Rattle.definition.specs.Model.{Emit}
use Rattle.rows_kept.specs.Statements.{entries_of, occurs, count_below, Rising, ends, rises, rows_of}
use Rattle.definition.specs.Choices.{chosen, left, equal, unequal}

-- ---- entries
choose_append : (b : Bool) (x : Emit) (xs ys : List Emit) → choose b (x ∷ (xs ++ ys)) (xs ++ ys) ≡ choose b (x ∷ xs) xs ++ ys
unfolding choose
choose_append true x xs ys = refl
choose_append false x xs ys = refl

entries_append : (q : ℕ) (es fs : List Emit) → entries_of q (es ++ fs) ≡ entries_of q es ++ entries_of q fs
unfolding entries_of
entries_append q [] fs = refl
entries_append q (e ∷ es) fs = rw (entries_append q es fs) (choose_append (eqb e.row q) e (entries_of q es) (entries_of q fs))

pub entries_other : (q : ℕ) (e : Emit) (es : List Emit) → (e.row ≡ q → ⊥) → entries_of q (es ++ (e ∷ [])) ≡ entries_of q es
unfolding entries_of
entries_other q e es f =
    entries_append q es (e ∷ []) ∙ ap (λ (l : List Emit). entries_of q es ++ l) (left (e ∷ []) [] (unequal e.row q f)) ∙ append-nil (entries_of q es)

pub entries_own : (e : Emit) (es : List Emit) → entries_of e.row es ≡ [] → entries_of e.row (es ++ (e ∷ [])) ≡ e ∷ []
unfolding entries_of
entries_own e es h = entries_append e.row es (e ∷ []) ∙ ap (λ (l : List Emit). l ++ entries_of e.row (e ∷ [])) h ∙ chosen (e ∷ []) [] (equal e.row)

-- ---- kept numbers
occurs_append : (q : ℕ) (ks ls : List ℕ) → occurs q (ks ++ ls) ≡ occurs q ks + occurs q ls
unfolding occurs
occurs_append q [] ls = omega arith
occurs_append q (k ∷ ks) ls = omega (arith, occurs_append q ks ls)

pub occurs_other : (q k : ℕ) (ks : List ℕ) → (k ≡ q → ⊥) → occurs q (ks ++ (k ∷ [])) ≡ occurs q ks
unfolding occurs
occurs_other q k ks f = omega (arith, occurs_append q ks (k ∷ []), left {A = ℕ} 1 0 (unequal k q f))

pub occurs_own : (k : ℕ) (ks : List ℕ) → occurs k ks ≡ 0 → occurs k (ks ++ (k ∷ [])) ≡ 1
unfolding occurs
occurs_own k ks h = omega (arith, occurs_append k ks (k ∷ []), chosen {A = ℕ} 1 0 (equal k))

-- ---- rising lists
pub rising_more : {m n : ℕ} {ks : List ℕ} → Rising m n ks → Rising (suc m) n ks
rising_more (ends {n} h) = ends {n = n} (omega arith)
rising_more (rises h t) = rises h (rising_more t)

pub rising_last : {m n : ℕ} {ks : List ℕ} → Rising m n ks → Rising (suc m) n (ks ++ (m ∷ []))
rising_last {m} (ends h) = rises h (ends {n = suc m} (omega arith))
rising_last (rises h t) = rises h (rising_last t)

pub rows_append : (es : List Emit) (e : Emit) → rows_of (es ++ (e ∷ [])) ≡ rows_of es ++ (e.row ∷ [])
unfolding rows_of
rows_append [] e = refl
rows_append (x ∷ xs) e = ap (λ (l : List ℕ). x.row ∷ l) (rows_append xs e)

-- ---- counts
pub count_same : (n : ℕ) (p s : ℕ → Bool) → ((q : ℕ) → q < n → s q ≡ p q) → count_below n s ≡ count_below n p
unfolding count_below
count_same zero p s h = refl
count_same (suc n) p s h = rw (count_same n p s (λ q k. h q (omega arith)), h n (omega arith))

pub count_more : (n r : ℕ) (p s : ℕ → Bool) → r < n → p r ≡ false → s r ≡ true → ((q : ℕ) → (q ≡ r → ⊥) → s q ≡ p q) → count_below n s ≡ suc (count_below n p)
unfolding count_below
count_more zero r p s k a b h = absurd (omega arith)
count_more (suc n) r p s k a b h = elim (ℕ_discrete n r) [ yes e ↦ here e | no f ↦ before f (λ l. count_more n r p s l a b h) ]
  where
    here : n ≡ r → count_below (suc n) s ≡ suc (count_below (suc n) p)
    here e =
        let x : choose {A = ℕ} (p n) 1 0 ≡ 0 = left {A = ℕ} 1 0 (ap p e ∙ a) in
        let y : choose {A = ℕ} (s n) 1 0 ≡ 1 = chosen {A = ℕ} 1 0 (ap s e ∙ b) in
        omega (arith, x, y, count_same n p s (λ q l. h q (λ i. omega arith)))

    before : (n ≡ r → ⊥) → (r < n → count_below n s ≡ suc (count_below n p)) → count_below (suc n) s ≡ suc (count_below (suc n) p)
    before f rec =
        let x : choose {A = ℕ} (s n) 1 0 ≡ choose (p n) 1 0 = ap (λ (t : Bool). choose {A = ℕ} t 1 0) (h n f) in
        omega (arith, x, rec (omega arith))
