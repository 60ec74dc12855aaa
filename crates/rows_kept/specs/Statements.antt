-- What holds of every answer: what became of each row, the first count, the order of the lists, the spans. Definitions only; the theorems are in `Theorems`.
use Rattle.std.specs.Prelude.{ℕ, zero, suc, ◌+◌, ◌≤◌, ◌<◌, ◌≡◌, Bool, true, false, List, [], ◌∷◌, eqb, length}
use Rattle.floats.specs.Num.{choose}
use Rattle.definition.specs.Model.{Model, from, upto, rhs_of, Emit}
use Rattle.definition.specs.Work.{trivial}

-- ---- each of a list
pub data All {A : Type 0} (P : A → Type 0) : List A → Type 0 where
  no_one : All P []
  each : {x : A} {xs : List A} → P x → All P xs → All P (x ∷ xs)

-- ---- the emitted entries of row r, and how often r is kept
unfoldable pub entries_of : ℕ → List Emit → List Emit
entries_of r [] = []
entries_of r (e ∷ es) =
    let later = entries_of r es in
    choose (eqb e.row r) (e ∷ later) later

unfoldable pub occurs : ℕ → List ℕ → ℕ
occurs r [] = 0
occurs r (k ∷ ks) = choose (eqb k r) 1 0 + occurs r ks

-- an unchanged row's entry: its number, marked written, its given right side, and the span of all its terms in the model
abbrev pub unchanged_entry : Model → ℕ → Emit
unchanged_entry M r = record { row = r; rewritten = false; rhs = rhs_of M r; from = from M r; upto = upto M r }

-- what became of row r: one of four. A rewritten row has no entry marked written, since it has one entry alone
pub data Fate (M : Model) (r : ℕ) (es : List Emit) (ks : List ℕ) : Type 0 where
  trivially_true : trivial M r ≡ true → entries_of r es ≡ [] → occurs r ks ≡ 0 → Fate M r es ks
  unchanged : trivial M r ≡ false → entries_of r es ≡ unchanged_entry M r ∷ [] → occurs r ks ≡ 0 → Fate M r es ks
  dropped : trivial M r ≡ false → entries_of r es ≡ [] → occurs r ks ≡ 1 → Fate M r es ks
  rewritten : trivial M r ≡ false → (e : Emit) → entries_of r es ≡ e ∷ [] → e.rewritten ≡ true → occurs r ks ≡ 1 → Fate M r es ks

-- ---- how many of the numbers below n pass a test, and the test "no entry"
unfoldable pub count_below : ℕ → (ℕ → Bool) → ℕ
count_below zero p = 0
count_below (suc n) p = count_below n p + choose (p n) 1 0

unfoldable pub is_none : List Emit → Bool
is_none [] = true
is_none (e ∷ es) = false

unfoldable pub no_entry : List Emit → ℕ → Bool
no_entry es r = is_none (entries_of r es)

-- ---- a list of numbers rises strictly, from n on, and stays below m
pub data Rising (m : ℕ) : ℕ → List ℕ → Type 0 where
  ends : {n : ℕ} → n ≤ m → Rising m n []
  rises : {n k : ℕ} {ks : List ℕ} → n ≤ k → Rising m (suc k) ks → Rising m n (k ∷ ks)

unfoldable pub rows_of : List Emit → List ℕ
rows_of [] = []
rows_of (e ∷ es) = e.row ∷ rows_of es

-- ---- the spans of the rewritten entries follow one another from n to m
pub data Consecutive (m : ℕ) : ℕ → List Emit → Type 0 where
  no_span : Consecutive m m []
  skips : {n : ℕ} {e : Emit} {es : List Emit} → e.rewritten ≡ false → Consecutive m n es → Consecutive m n (e ∷ es)
  spans : {n : ℕ} {e : Emit} {es : List Emit} → e.rewritten ≡ true → e.from ≡ n → n ≤ e.upto → Consecutive m e.upto es → Consecutive m n (e ∷ es)

-- ---- the model's row starts are well formed: what refusals 1 and 3 leave
pub record Spans (M : Model) : Type 0 where
  pub starts : length M.starts ≡ suc (length M.rhs)
  pub coeffs : length M.coeff ≡ length M.index
  pub first : from M 0 ≡ 0
  pub rise : (r : ℕ) → r < length M.rhs → from M r ≤ upto M r
  pub last : from M (length M.rhs) ≡ length M.index
