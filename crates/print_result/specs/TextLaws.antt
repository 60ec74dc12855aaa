-- Laws of the text: a number's last digit, and those before it; the pattern of a NaN; and one line of those of a kind.
use Rattle.std.specs.Prelude.{ℕ, zero, suc, ◌+◌, ◌-◌, ◌/◌, ◌%◌, ◌≤◌, ◌<◌, min, ◌≡◌, refl, List, [], ◌∷◌, ◌++◌, Bool, true, false, Float, length, get_or, take}
use Rattle.std.proofs.Common.{ap, sym, subst, ◌∙◌, add-zero, add-one, append-nil, append_assoc, arith, length-take, length-drop, get_or-take, get_or-drop, lt-ltb, le-ltb, eq-eqb, ne_eqb}
use Rattle.std.proofs.lemmas.Bool.{false≢true}
use Rattle.std.specs.Float.{nan, inf, fin, binary64}
use Rattle.std.specs.Float.Ieee.{is_nan, to_bits}
use Rattle.std.proofs.Math.Seq.{slice}
use Rattle.std.proofs.Math.Decide.{dec_lt}
use Rattle.floats.specs.Num.{choose}
use Rattle.row_terms.specs.RowMark.{marked, is_rewritten_lem}
use Rattle.row_terms.specs.Parts.{row_part}
use Rattle.print_result.specs.Text.{digit, tens, decimal, hex_digits, each, from_to, written_line, rewritten_line, term_line, term_at, term_lines, whole_line, off_line, numbers_line}
use Rattle.print_result.specs.Text.{row_text, answer_line, counts_line, bound_lines, row_texts, validate_lines, followed, answer_text}
use Rattle.print_result.specs.declared.Kind.{Kind}
use Rattle.definition.specs.declared.Counts.{Counts}

one_digit : (k n : ℕ) → n < 10 → tens (suc k) n ≡ digit (n % 10) ∷ []
unfolding tens choose
one_digit k n h = rw (lt-ltb n 10 h)

more_digits : (k n : ℕ) → 10 ≤ n → tens (suc k) n ≡ tens k (n / 10) ++ (digit (n % 10) ∷ [])
unfolding tens choose
more_digits k n h = rw (le-ltb n 10 h)

-- as many digits as are allowed, if they are enough
enough : (k m n : ℕ) → Dec (n < 10) → n ≤ k → n ≤ m → tens (suc k) n ≡ tens (suc m) n
enough zero m n d p q = one_digit zero n (omega arith) ∙ sym (one_digit m n (omega arith))
enough (suc k) m n (yes h) p q = one_digit (suc k) n h ∙ sym (one_digit m n h)
enough (suc k) zero n (no h) p q = absurd (omega arith)
enough (suc k) (suc m) n (no h) p q =
    more_digits (suc k) n (omega arith)
    ∙ ap (λ (l : List ℕ). l ++ (digit (n % 10) ∷ [])) (enough k m (n / 10) (dec_lt (n / 10) 10) (omega arith) (omega arith))
    ∙ sym (more_digits (suc m) n (omega arith))

pub decimal_one : (n : ℕ) → n < 10 → decimal n ≡ digit (n % 10) ∷ []
unfolding decimal
decimal_one n h = one_digit n n h

pub decimal_more : (n : ℕ) → 10 ≤ n → decimal n ≡ decimal (n / 10) ++ (digit (n % 10) ∷ [])
unfolding decimal
decimal_more zero h = absurd (omega arith)
decimal_more (suc n) h =
    more_digits (suc n) (suc n) h
    ∙ ap (λ (l : List ℕ). l ++ (digit (suc n % 10) ∷ [])) (enough n (suc n / 10) (suc n / 10) (dec_lt (suc n / 10) 10) (omega arith) (omega arith))

pub hex_none : (k n : ℕ) → k ≡ 0 → hex_digits k n ≡ []
unfolding hex_digits
hex_none k n e = rw e

pub hex_more : (k n : ℕ) → (k ≡ 0 → ⊥) → hex_digits k n ≡ hex_digits (k - 1) (n / 16) ++ (digit (n % 16) ∷ [])
unfolding hex_digits
hex_more zero n h = absurd (h refl)
hex_more (suc k) n h = let z : suc k - 1 ≡ k = omega arith in rw z

pub nan_bits : (x : Float) → is_nan x ≡ true → to_bits binary64 x ≡ 0x7ff8_0000_0000_0000
unfolding is_nan to_bits
nan_bits nan e = refl
nan_bits (inf s) e = absurd (false≢true e)
nan_bits (fin s m f) e = absurd (false≢true e)

-- ---- lines of a kind
each_more : (f : ℕ → List ℕ) (k i : ℕ) → each f (suc k) i ≡ each f k i ++ f (i + k)
unfolding each
each_more f zero i = append-nil (f i) ∙ ap f (sym (add-zero i))
each_more f (suc k) i =
    let e : suc i + k ≡ i + suc k = omega arith in
    ap (λ (l : List ℕ). f i ++ l) (each_more f k (suc i) ∙ ap (λ (j : ℕ). each f k (suc i) ++ f j) e) ∙ sym (append_assoc (f i) (each f k (suc i)) (f (i + suc k)))

pub first_line : (f : ℕ → List ℕ) (i n : ℕ) → i < n → from_to f i n ≡ f i ++ from_to f (i + 1) n
unfolding from_to each
first_line f i n h =
    let z : n - i ≡ suc (n - (i + 1)) = omega arith in
    ap (λ (k : ℕ). each f k i) z ∙ ap (λ (j : ℕ). f i ++ each f (n - (i + 1)) j) (sym (add-one i))

pub no_line : (f : ℕ → List ℕ) (i n : ℕ) → n ≤ i → from_to f i n ≡ []
unfolding from_to each
no_line f i n h = let z : n - i ≡ 0 = omega arith in ap (λ (k : ℕ). each f k i) z

pub more_lines : (f : ℕ → List ℕ) (n : ℕ) → from_to f 0 (n + 1) ≡ from_to f 0 n ++ f n
unfolding from_to
more_lines f n =
    let z : n + 1 - 0 ≡ suc (n - 0) = omega arith in
    let y : 0 + (n - 0) ≡ n = omega arith in
    ap (λ (k : ℕ). each f k 0) z ∙ each_more f (n - 0) 0 ∙ ap (λ (k : ℕ). each f (n - 0) 0 ++ f k) y

-- how many entries five lists have
pub entries : (n p q r s t : ℕ) {a b c d m : ℕ} → a ≡ min s t → b ≡ min q r → c ≡ min p b → d ≡ min c a → m ≡ min n d → m ≡ min n (min (min p (min q r)) (min s t))
entries n p q r s t u v w x y = rw (y, x, w, v, u)

-- ---- a part of the terms, line by line: the lines of the whole lists at its place
each_shifted : (f g : ℕ → List ℕ) (s k i j : ℕ) → j ≡ s + i → ((n : ℕ) → n < i + k → f n ≡ g (s + n)) → each f k i ≡ each g k j
unfolding each
each_shifted f g s zero i j e h = refl
each_shifted f g s (suc k) i j e h =
    ap (λ (l : List ℕ). l ++ each f k (suc i)) (h i (omega arith) ∙ ap g (sym e))
    ∙ ap (λ (l : List ℕ). g j ++ l) (each_shifted f g s k (suc i) (suc j) (omega (arith, e)) (λ n l. h n (omega (arith, l))))

module _ {A : Type 0} (f t : ℕ) (l : List A) where
  part_at : (d : A) (i : ℕ) → i < length (slice f t l) → get_or (slice f t l) i d ≡ get_or l (f + i) d
  part_at d i h =
      let x = length-drop f (take t l) in
      let y = length-take t l in
      get_or-drop f (take t l) i d ∙ get_or-take t l (f + i) d (omega (arith, x, y, h))

  part_long : length (slice f t l) ≡ min t (length l) - f
  part_long = length-drop f (take t l) ∙ ap (λ (n : ℕ). n - f) (length-take t l)

-- the shorter of two parts is the part of the shorter list
min_less : (p q f : ℕ) → min (p - f) (q - f) ≡ min p q - f
min_less p q f = omega arith

min_each : (u a b : ℕ) → min (min u a) (min u b) ≡ min u (min a b)
min_each u a b = omega arith

min_again : (x y : ℕ) → min x (min x y) - 0 ≡ min x y
min_again x y = omega arith

below_both : (x y i : ℕ) → i < 0 + (min x (min x y) - 0) → (i < x) × (i < y)
below_both x y i l = (omega arith, omega arith)

pub part_lines : (from upto : ℕ) (index : List ℕ) (coeff : List Float) {vars : List ℕ} {coeffs : List Float}
    → vars ≡ slice from upto index → coeffs ≡ slice from upto coeff → term_lines 0 (length vars) vars coeffs ≡ term_lines from upto index coeff
unfolding term_lines from_to
part_lines from upto index coeff {vars} {coeffs} v c =
    let x : length vars ≡ min upto (length index) - from = ap length v ∙ part_long from upto index in
    let y : length coeffs ≡ min upto (length coeff) - from = ap length c ∙ part_long from upto coeff in
    let n : min (length vars) (min (length vars) (length coeffs)) - 0 ≡ min upto (min (length index) (length coeff)) - from =
    min_again (length vars) (length coeffs) ∙ ap (λ (k : ℕ). min k (length coeffs)) x ∙ ap (min (min upto (length index) - from)) y
    ∙ min_less (min upto (length index)) (min upto (length coeff)) from ∙ ap (λ (k : ℕ). k - from) (min_each upto (length index) (length coeff)) in
    each_shifted (term_at vars coeffs) (term_at index coeff) from (min (length vars) (min (length vars) (length coeffs)) - 0) 0 from (omega arith)
    (λ i l.
    let b = below_both (length vars) (length coeffs) i l in
    ap (λ (k : ℕ). term_line k (get_or coeffs i nan))
    (ap (λ (k : List ℕ). get_or k i 0) v ∙ part_at from upto index 0 i (subst (λ (k : List ℕ). i < length k) v b.0))
    ∙ ap (term_line (get_or index (from + i) 0))
    (ap (λ (k : List Float). get_or k i nan) c ∙ part_at from upto coeff nan i (subst (λ (k : List Float). i < length k) c b.1)))
    ∙ ap (λ (k : ℕ). each (term_at index coeff) k from) n

-- a rewritten row's parts are of the rewritten lists
pub parts_lines : {m : ℕ} (from upto : ℕ) (index term_index : List ℕ) (coeff term_coeff : List Float) {vars : List ℕ} {coeffs : List Float} → (m ≡ 0 → ⊥)
    → vars ≡ row_part (marked m) from upto index term_index → coeffs ≡ row_part (marked m) from upto coeff term_coeff → term_lines 0 (length vars) vars coeffs
    ≡ term_lines from upto term_index term_coeff
unfolding choose
parts_lines from upto index term_index coeff term_coeff h v c =
    part_lines from upto term_index term_coeff
    (v ∙ ap (λ (b : Bool). row_part b from upto index term_index) (is_rewritten_lem h)) (c ∙ ap (λ (b : Bool). row_part b from upto coeff term_coeff) (is_rewritten_lem h))

-- ---- a row
module _ (r : ℕ) (rhs : Float) (from upto : ℕ) (index : List ℕ) (coeff : List Float) {mark : ℕ} where
  pub row_rewritten : (mark ≡ 0 → ⊥) → rewritten_line r rhs ++ term_lines from upto index coeff ≡ row_text r mark rhs from upto index coeff
  unfolding row_text choose
  row_rewritten e = rw (ne_eqb mark 0 e)

  pub row_written : mark ≡ 0 → written_line r ≡ row_text r mark rhs from upto index coeff
  unfolding row_text choose
  row_written e = rw (eq-eqb mark 0 e)

-- ---- whether a model is 01's farm model with a whole objective: 0 stands for no condition that fails
pub numbers_whole : {k : ℕ} (i : ℕ) → k ≡ 0 → whole_line ≡ numbers_line k i
unfolding numbers_line choose
numbers_whole {k} i e = rw (eq-eqb k 0 e)

pub numbers_off : {k : ℕ} (i : ℕ) → (k ≡ 0 → ⊥) → off_line k i ≡ numbers_line k i
unfolding numbers_line choose
numbers_off {k} i e = rw (ne_eqb k 0 e)

-- ---- the whole
module _ (kind : Kind) (k : Counts) (vars : ℕ) (lower upper : List Float) (emitted : ℕ) (row : List ℕ) (rewritten : List ℕ) (rhs : List Float)
    (from upto index : List ℕ) (coeff : List Float) (validated : ℕ) (kept : List ℕ) where
  pub only_counts : followed kind ≡ false → answer_line kind ++ counts_line k ≡ answer_text kind k vars lower upper emitted row rewritten rhs from upto index coeff validated kept
  unfolding answer_text choose
  only_counts e = rw (e, append-nil)

  pub all_lines : followed kind ≡ true
      → answer_line kind ++
      (counts_line k ++ (bound_lines vars lower upper ++ (row_texts emitted row rewritten rhs from upto index coeff ++ validate_lines validated kept)))
      ≡ answer_text kind k vars lower upper emitted row rewritten rhs from upto index coeff validated kept
  unfolding answer_text choose
  all_lines e = rw e
