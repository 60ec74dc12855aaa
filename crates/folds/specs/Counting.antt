-- A row's terms by counting: how many there are of each variable. What only moves terms, or takes some away, is then a sum.
use Prim.Native.Nat.{ℕ, zero, suc, ◌+◌, ◌-◌, ◌≤◌, ◌<◌}
use native.Mathlib.Omega.{arith}
use Rattle.std.specs.Prelude.{◌≡◌, ◌≢◌, ◌⊎◌, Bool, true, false, not, ◌&&◌, ◌||◌, eqb, T, set, take}
use Rattle.std.proofs.Math.Path.{refl, ap}
use Rattle.std.proofs.Common.{sym, ◌∙◌, subst, inl, inr, eqb→eq, length-set, get_or-set_same}
use mathlib.Core.List.{List, [], ◌∷◌, ◌++◌}
use Rattle.std.proofs.Math.ListN.{length, get_or}
use Rattle.std.proofs.Math.Seq.{get_or-set_other}
use Rattle.std.specs.Float.Ieee.{eq}
use Rattle.floats.specs.Num.{0f}
use Rattle.tolerances.specs.Tol.{Term}
use Rattle.definition.specs.Work.{no_term, has_term}
use Rattle.definition.specs.Folds.{swap_remove}
use Rattle.view.specs.Inv.{Distinct, distinct[], distinct∷, AllIn, all_in[], all_in∷, has_nonzero}
use Rattle.view.specs.Rows.{same?}
use Rattle.folds.specs.Written.{eqb_same}

pub eqb_true : (x y : ℕ) → eqb x y ≡ true → x ≡ y
eqb_true x y e = eqb→eq x y (subst T (sym e) tt)

unfoldable pub bit : Bool → ℕ
bit true = 1
bit false = 0

bit_one : bit true ≡ 1
unfolding bit
bit_one = refl

pub true_false : {A : Type 0} → true ≡ false → A
true_false e = absurd (let z : ◌≡◌ {A = ℕ} 0 1 = cc in omega arith)

-- ---- one element more
some_count : (b o : Bool) (c : ℕ) → (o ≡ true → 1 ≤ c) → b || o ≡ true → 1 ≤ bit b + c
unfolding bit
some_count true o c h e = omega arith
some_count false o c h e = let z = h e in omega arith

count_some : (b o : Bool) (c : ℕ) → (1 ≤ c → o ≡ true) → 1 ≤ bit b + c → b || o ≡ true
unfolding bit
count_some true o c h p = refl
count_some false o c h p = h (omega arith)

none_count : (b o : Bool) (c : ℕ) → (o ≡ false → c ≡ 0) → b || o ≡ false → bit b + c ≡ 0
unfolding bit
none_count true o c h e = true_false e
none_count false o c h e = let z = h e in omega arith

count_none : (b o : Bool) (c : ℕ) → (c ≡ 0 → o ≡ false) → bit b + c ≡ 0 → b || o ≡ false
unfolding bit
count_none true o c h p = absurd (omega arith)
count_none false o c h p = h (omega arith)

head_or_tail : (b : Bool) (c : ℕ) → (b ≡ true → c ≡ 0) → c ≤ 1 → bit b + c ≤ 1
unfolding bit
head_or_tail true c h p = let z = h refl in omega arith
head_or_tail false c h p = omega arith

in_head_or_tail : {A : Type 0} (b : Bool) (c : ℕ) → (b ≡ true → A) → (1 ≤ c → A) → 1 ≤ bit b + c → A
unfolding bit
in_head_or_tail true c h k p = h refl
in_head_or_tail false c h k p = k (omega arith)

module _ (g : Term → Bool) where
  unfoldable pub count_by : List Term → ℕ
  count_by [] = 0
  count_by (t ∷ ts) = bit (g t) + count_by ts

  unfoldable pub or_by : List Term → Bool
  or_by [] = false
  or_by (t ∷ ts) = g t || or_by ts

  pub count_append : (a b : List Term) → count_by (a ++ b) ≡ count_by a + count_by b
  unfolding count_by
  count_append [] b = omega arith
  count_append (t ∷ a) b = let z = count_append a b in omega arith

  pub count_set : (l : List Term) (i : ℕ) (t : Term) → i < length l → count_by (set l i t) + bit (g (get_or l i no_term)) ≡ count_by l + bit (g t)
  unfolding count_by
  count_set [] i t h = absurd (omega arith)
  count_set (u ∷ l) zero t h = omega arith
  count_set (u ∷ l) (suc i) t h = let z = count_set l i t (omega arith) in omega arith

  pub count_last : (l : List Term) (n : ℕ) → length l ≡ suc n → count_by (take n l) + bit (g (get_or l n no_term)) ≡ count_by l
  unfolding count_by
  count_last [] n e = absurd (omega arith)
  count_last (t ∷ []) zero e = omega arith
  count_last (t ∷ u ∷ l) zero e = absurd (omega arith)
  count_last (t ∷ l) (suc n) e = let z = count_last l n (omega arith) in omega arith

  pub count_swap : (ts : List Term) (i : ℕ) → i < length ts → count_by (swap_remove ts i) + bit (g (get_or ts i no_term)) ≡ count_by ts
  unfolding swap_remove
  count_swap ts i h =
      let n = length ts - 1 in
      let last = get_or ts n no_term in
      let a = count_last (set ts i last) n (length-set ts i last ∙ omega (arith, h)) in
      let b = count_set ts i last h in
      let c : bit (g (get_or (set ts i last) n no_term)) ≡ bit (g last) = ap (λ (t : Term). bit (g t)) (there (same? n i)) in
      omega (arith, a, b, c)
    where
      there : (length ts - 1 ≡ i) ⊎ (length ts - 1 ≢ i) → get_or (set ts i (get_or ts (length ts - 1) no_term)) (length ts - 1) no_term ≡ get_or ts (length ts - 1) no_term
      there (inl e) = rw e (get_or-set_same ts i _ no_term h)
      there (inr ne) = get_or-set_other ts i (length ts - 1) _ no_term ne

  pub or_count : (l : List Term) → or_by l ≡ true → 1 ≤ count_by l
  unfolding count_by or_by
  or_count [] e = absurd (true_false (sym e))
  or_count (t ∷ l) e = some_count (g t) (or_by l) (count_by l) (or_count l) e

  pub count_or : (l : List Term) → 1 ≤ count_by l → or_by l ≡ true
  unfolding count_by or_by
  count_or [] h = absurd (omega arith)
  count_or (t ∷ l) h = count_some (g t) (or_by l) (count_by l) (count_or l) h

  pub or_none : (l : List Term) → or_by l ≡ false → count_by l ≡ 0
  unfolding count_by or_by
  or_none [] e = refl
  or_none (t ∷ l) e = none_count (g t) (or_by l) (count_by l) (or_none l) e

  pub none_or : (l : List Term) → count_by l ≡ 0 → or_by l ≡ false
  unfolding count_by or_by
  none_or [] e = refl
  none_or (t ∷ l) e = count_none (g t) (or_by l) (count_by l) (none_or l) e

-- ---- a variable's terms, and those whose coefficient is not zero
abbrev pub is_var : ℕ → Term → Bool
is_var v t = eqb t.var v

abbrev pub is_nonzero : ℕ → Term → Bool
is_nonzero v t = eqb t.var v && not (eq t.coeff 0f)

pub has_or : (v : ℕ) (l : List Term) → has_term v l ≡ or_by (is_var v) l
unfolding has_term or_by
has_or v [] = refl
has_or v (t ∷ l) = ap (λ (b : Bool). eqb t.var v || b) (has_or v l)

pub nonzero_or : (v : ℕ) (l : List Term) → has_nonzero v l ≡ or_by (is_nonzero v) l
unfolding has_nonzero or_by
nonzero_or v [] = refl
nonzero_or v (t ∷ l) = ap (λ (b : Bool). (eqb t.var v && not (eq t.coeff 0f)) || b) (nonzero_or v l)

pub count_has : (v : ℕ) (l : List Term) → 1 ≤ count_by (is_var v) l → has_term v l ≡ true
count_has v l h = has_or v l ∙ count_or (is_var v) l h

pub lacks_count : (v : ℕ) (l : List Term) → has_term v l ≡ false → count_by (is_var v) l ≡ 0
lacks_count v l e = or_none (is_var v) l (sym (has_or v l) ∙ e)

pub count_lacks : (v : ℕ) (l : List Term) → count_by (is_var v) l ≡ 0 → has_term v l ≡ false
count_lacks v l e = has_or v l ∙ none_or (is_var v) l e

-- ---- the invariant's facts, by counting
pub distinct_count : {l : List Term} → Distinct l → (v : ℕ) → count_by (is_var v) l ≤ 1
unfolding count_by
distinct_count distinct[] v = omega arith
distinct_count (distinct∷ {t} {ts} e d) v =
    head_or_tail (eqb t.var v) (count_by (is_var v) ts) (λ y. lacks_count v ts (subst (λ (u : ℕ). has_term u ts ≡ false) (eqb_true t.var v y) e)) (distinct_count d v)

pub count_distinct : (l : List Term) → ((v : ℕ) → count_by (is_var v) l ≤ 1) → Distinct l
unfolding count_by
count_distinct [] h = distinct[]
count_distinct (t ∷ l) h =
    let a : bit (eqb t.var t.var) ≡ 1 = ap bit (eqb_same t.var t.var refl) ∙ bit_one in
    distinct∷ (count_lacks t.var l (omega (arith, a, h t.var))) (count_distinct l (λ v. omega (arith, h v)))

pub all_in_count : {all l : List Term} → AllIn all l → (v : ℕ) → 1 ≤ count_by (is_var v) l → has_term v all ≡ true
unfolding count_by
all_in_count all_in[] v h = absurd (omega arith)
all_in_count {all} (all_in∷ {t} {ts} e d) v h =
    in_head_or_tail (eqb t.var v) (count_by (is_var v) ts) (λ y. subst (λ (u : ℕ). has_term u all ≡ true) (eqb_true t.var v y) e) (all_in_count d v) h

pub count_all_in : {all : List Term} (l : List Term) → ((v : ℕ) → 1 ≤ count_by (is_var v) l → has_term v all ≡ true) → AllIn all l
unfolding count_by
count_all_in [] h = all_in[]
count_all_in (t ∷ l) h =
    let a : bit (eqb t.var t.var) ≡ 1 = ap bit (eqb_same t.var t.var refl) ∙ bit_one in
    all_in∷ (h t.var (omega (arith, a))) (count_all_in l (λ v p. h v (omega (arith, p))))

-- an element
pub all_at : {all l : List Term} → AllIn all l → (k : ℕ) → k < length l → has_term (get_or l k no_term).var all ≡ true
all_at all_in[] k h = absurd (omega arith)
all_at (all_in∷ e d) zero h = e
all_at (all_in∷ e d) (suc k) h = all_at d k (omega arith)
