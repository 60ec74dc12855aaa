-- HOW LONG A TEXT IS: a line by the digits of its numbers, the lines of a kind by how many they are, and the whole of an answer.
use Prim.Native.Nat.{ℕ, zero, suc, ◌+◌, ◌-◌, ◌*◌, ◌/◌, ◌%◌, ◌^◌, ◌≤◌, ◌<◌, min}
use Rattle.std.proofs.Math.Decide.{dec_lt}
use Rattle.std.proofs.Common.{pow-suc, suc-mul, ◌∙◌}
use Rattle.std.proofs.Math.Nat.{sub-zero}
use native.Mathlib.Omega.{arith}
use Rattle.std.specs.Prelude.{◌≡◌, Bool, length, get_or, Float}
use Rattle.std.proofs.Math.Path.{refl, ap}
use Rattle.std.proofs.Math.Bool.{true, false}
use mathlib.Core.List.{List, [], ◌∷◌, ◌++◌}
use Rattle.std.proofs.Math.ListN.{length-append}
use Rattle.floats.specs.Num.{choose}
use Rattle.print_result.specs.declared.Kind.{Kind}
use Rattle.definition.specs.declared.Counts.{Counts}
use Rattle.print_result.specs.Text.{ascii, digit, decimal, hex_digits, number, bits, answer_line, counts_line, bound_line, written_line}
use Rattle.print_result.specs.Text.{rewritten_line, term_line, validate_line, refused_line, each, from_to, bound_at, bound_lines, validate_at}
use Rattle.print_result.specs.Text.{validate_lines, term_at, term_lines, row_text, row_at, row_texts, followed, answer_text}
use Rattle.print_result.specs.TextLaws.{decimal_one, decimal_more}

-- ---- numbers: at most as many digits as the power of ten that they are below
digits : (k n : ℕ) → Dec (n < 10) → n < 10 ^ suc k → length (decimal n) ≤ suc k
digits zero n d h = rw (decimal_one n h) (omega arith)
digits (suc k) n (yes p) h = rw (decimal_one n p) (omega arith)
digits (suc k) n (no p) h =
    let e : 10 ^ suc (suc k) ≡ 10 ^ suc k * 10 = pow-suc 10 (suc k) in
    let d = digits k (n / 10) (dec_lt (n / 10) 10) (omega (arith, e)) in
    rw (decimal_more n (omega arith), length-append (decimal (n / 10)) (digit (n % 10) ∷ [])) (omega (arith, d))

-- with the space before it: three digits, or the twenty of a number of 64 bits
pub three_digits : (n : ℕ) → n < 1000 → length (number n) ≤ 4
unfolding number
three_digits n h = omega (arith, digits 2 n (dec_lt n 10) h)

pub twenty_digits : (n : ℕ) → n < 18446744073709551616 → length (number n) ≤ 21
unfolding number
twenty_digits n h = omega (arith, digits 19 n (dec_lt n 10) (omega arith))

hex_length : (k n : ℕ) → length (hex_digits k n) ≡ k
unfolding hex_digits
hex_length zero n = refl
hex_length (suc k) n = omega (arith, length-append (hex_digits k (n / 16)) (digit (n % 16) ∷ []), hex_length k (n / 16))

bits_length : (x : Float) → length (bits x) ≡ 17
unfolding bits
bits_length x = ap suc (hex_length 16 _)

-- ---- lines
pub record CountsBelow (k : Counts) : Type 0 where
  pub dropped : k.rowsDropped < 18446744073709551616
  pub tightened : k.boundsTightened < 18446744073709551616
  pub fixed : k.varsFixed < 18446744073709551616
  pub rewritten : k.coeffsTightened < 18446744073709551616
  pub passes : k.passes < 18446744073709551616

pub answer_line_length : (kind : Kind) → length (answer_line kind) ≤ 18
unfolding answer_line ascii
answer_line_length Kind.Reduced = omega arith
answer_line_length Kind.Unchanged = omega arith
answer_line_length Kind.Infeasible = omega arith

pub counts_line_length : (k : Counts) → CountsBelow k → length (counts_line k) ≤ 112
unfolding counts_line ascii
counts_line_length k h =
    simp length-append (omega (arith, twenty_digits _ h.dropped, twenty_digits _ h.tightened, twenty_digits _ h.fixed, twenty_digits _ h.rewritten, twenty_digits _ h.passes))

bound_line_length : (v : ℕ) (l u : Float) → v < 1000 → length (bound_line v l u) ≤ 44
unfolding bound_line ascii
bound_line_length v l u h = simp length-append (omega (arith, three_digits v h, bits_length l, bits_length u))

written_line_length : (r : ℕ) → r < 1000 → length (written_line r) ≤ 17
unfolding written_line ascii
written_line_length r h = simp length-append (omega (arith, three_digits r h))

rewritten_line_length : (r : ℕ) (b : Float) → r < 1000 → length (rewritten_line r b) ≤ 36
unfolding rewritten_line ascii
rewritten_line_length r b h = simp length-append (omega (arith, three_digits r h, bits_length b))

term_line_length : (v : ℕ) (a : Float) → v < 1000 → length (term_line v a) ≤ 26
unfolding term_line ascii
term_line_length v a h = simp length-append (omega (arith, three_digits v h, bits_length a))

validate_line_length : (r : ℕ) → r < 1000 → length (validate_line r) ≤ 13
unfolding validate_line ascii
validate_line_length r h = simp length-append (omega (arith, three_digits r h))

pub refused_line_length : (n : ℕ) → n < 1000 → length (refused_line n) ≤ 12
unfolding refused_line ascii
refused_line_length n h = simp length-append (omega (arith, three_digits n h))

-- ---- lines of a kind: k of them, of at most m bytes each
each_length : (f : ℕ → List ℕ) (m k i : ℕ) → ((j : ℕ) → j < i + k → length (f j) ≤ m) → length (each f k i) ≤ k * m
unfolding each
each_length f m zero i h = omega arith
each_length f m (suc k) i h =
    omega (arith, length-append (f i) (each f k (suc i)), h i (omega arith), each_length f m k (suc i) (λ j l. h j (omega arith)), suc-mul k m)

pub bounds_length : (n : ℕ) (lower upper : List Float) → n ≤ 1000 → length (bound_lines n lower upper) ≤ n * 44
unfolding bound_lines from_to
bounds_length n lower upper h =
    omega (arith, each_length (bound_at lower upper) 44 (min n (min (length lower) (length upper)) - 0) 0 (λ j l. bound_line_length j _ _ (omega arith)))

-- every number of a list has at most three digits, and 0 past its end
abbrev pub Short : List ℕ → Type 0
Short l = (i : ℕ) → get_or l i 0 < 1000

pub validates_length : (n : ℕ) (kept : List ℕ) → Short kept → length (validate_lines n kept) ≤ n * 13
unfolding validate_lines from_to
validates_length n kept h = omega (arith, each_length (validate_at kept) 13 (min n (length kept) - 0) 0 (λ j l. validate_line_length _ (h j)))

terms_length : (from upto : ℕ) (index : List ℕ) (coeff : List Float) → Short index → length (term_lines from upto index coeff) ≤ (upto - from) * 26
unfolding term_lines from_to
terms_length from upto index coeff h =
    omega (arith, each_length (term_at index coeff) 26 (min upto (min (length index) (length coeff)) - from) from (λ j l. term_line_length _ _ (h j)))

-- ---- a row, and the rows one after the other
module _ (r : ℕ) (rhs : Float) (from upto : ℕ) (index : List ℕ) (coeff : List Float) (p : r < 1000) where
  pub written_length : length (row_text r 0 rhs from upto index coeff) ≤ 36
  unfolding row_text choose
  written_length = omega (arith, written_line_length r p)

  pub rewritten_length : Short index → length (row_text r 1 rhs from upto index coeff) ≤ 36 + (upto - from) * 26
  unfolding row_text choose
  rewritten_length h =
      omega (arith, length-append (rewritten_line r rhs) (term_lines from upto index coeff), rewritten_line_length r rhs p, terms_length from upto index coeff h)

each_shift : (f : ℕ → List ℕ) (k i : ℕ) → each f k (suc i) ≡ each (λ j. f (suc j)) k i
unfolding each
each_shift f zero i = refl
each_shift f (suc k) i = ap (λ (l : List ℕ). f (suc i) ++ l) (each_shift f k (suc i))

min_sucs : (a b : ℕ) → min (suc a) (suc b) ≡ suc (min a b)
min_sucs a b = omega arith

module _ (index : List ℕ) (coeff : List Float) where
  pub rows_none : row_texts 0 [] [] [] [] [] index coeff ≡ []
  unfolding row_texts from_to each
  rows_none = refl

  pub rows_cons : (n r : ℕ) (row : List ℕ) (m : ℕ) (rewritten : List ℕ) (x : Float) (rhs : List Float) (i : ℕ) (from : List ℕ) (e : ℕ) (upto : List ℕ)
      → row_texts (suc n) (r ∷ row) (m ∷ rewritten) (x ∷ rhs) (i ∷ from) (e ∷ upto) index coeff ≡ row_text r m x i e index coeff ++ row_texts n row rewritten rhs from upto index coeff
  unfolding row_texts from_to each
  rows_cons n r row m rewritten x rhs i from e upto =
      let f = row_at (r ∷ row) (m ∷ rewritten) (x ∷ rhs) (i ∷ from) (e ∷ upto) index coeff in
      let k = min n (min (min (length row) (min (length rewritten) (length rhs))) (min (length from) (length upto))) - 0 in
      let z : min (suc n) (min (min (suc (length row)) (min (suc (length rewritten)) (suc (length rhs)))) (min (suc (length from)) (suc (length upto)))) - 0 ≡ suc k = simp (min_sucs, sub-zero) in
      ap (λ (j : ℕ). each f j 0) z ∙ ap (λ (l : List ℕ). f 0 ++ l) (each_shift f k 0)

-- ---- the whole
module _ (kind : Kind) (k : Counts) (vars : ℕ) (lower upper : List Float) (emitted : ℕ) (row : List ℕ) (rewritten : List ℕ) (rhs : List Float)
    (from upto index : List ℕ) (coeff : List Float) (validated : ℕ) (kept : List ℕ) where
  after_counts : (n : ℕ) → vars ≤ 1000 → Short kept → length (row_texts emitted row rewritten rhs from upto index coeff) ≤ n → (b : Bool)
      → length (choose b (bound_lines vars lower upper ++ (row_texts emitted row rewritten rhs from upto index coeff ++ validate_lines validated kept)) []) ≤ vars * 44 + n + validated * 13
  unfolding choose
  after_counts n v s h true = simp length-append (omega (arith, bounds_length vars lower upper v, validates_length validated kept s))
  after_counts n v s h false = omega arith

  -- n is what the rows come to
  pub answer_length : (n : ℕ) → CountsBelow k → vars ≤ 1000 → Short kept → length (row_texts emitted row rewritten rhs from upto index coeff) ≤ n
      → length (answer_text kind k vars lower upper emitted row rewritten rhs from upto index coeff validated kept) ≤ 130 + vars * 44 + n + validated * 13
  unfolding answer_text
  answer_length n c v s h = simp length-append (omega (arith, answer_line_length kind, counts_line_length k c, after_counts n v s h (followed kind)))
