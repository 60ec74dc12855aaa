-- The model file, from the bytes on: what each byte says, and which files are refused, with which number. Bytes are numbers below 256.
--
--   11  the next byte that is needed is missing
--   12  a reserved bit is set, or a code is above its range
--   13  bytes remain after the last row
--   14  more than 128 variables, 128 rows or 512 terms
--
-- They come in reading order: a file is refused by the first thing that is wrong on the way. The variable count is tested before the row count is
-- read, a map byte before the floats that it announces, and the terms of the rows so far, added up, as soon as a row's count is read.
use Rattle.std.specs.Prelude.{ℕ, zero, suc, ◌+◌, ◌*◌, ◌/◌, ◌%◌, ◌^◌, List, [], ◌∷◌, ◌++◌, map, Bool, true, false, ltb, eqb, Float}
use Rattle.std.specs.Float.{binary64}
use Rattle.std.specs.Float.Ieee.{of_bits}
use Rattle.floats.specs.Num.{choose, 0f, 1f, ∞f}
use Rattle.model_file.specs.declared.Variable.{Variable}
use Rattle.model_file.specs.declared.Term.{Term}
use Rattle.model_file.specs.declared.RowHead.{RowHead}
use Rattle.model_file.specs.declared.Settings.{Settings}

-- ---- reading: a value and the bytes after it, or the number of the refusal
pub data Got (A : Type 0) : Type 0 where
  refused : ℕ → Got A
  got : A → List ℕ → Got A

abbrev pub Parser : Type 0 → Type 0
Parser A = List ℕ → Got A

unfoldable pub and_then : {A B : Type 0} → Got A → (A → Parser B) → Got B
and_then (refused n) f = refused n
and_then (got a s) f = f a s

infixl 5 ◌>>=◌
infixl 5 ◌>>◌
abbrev pub ◌>>=◌ : {A B : Type 0} → Parser A → (A → Parser B) → Parser B
◌>>=◌ p f s = and_then (p s) f

abbrev pub ◌>>◌ : {A B : Type 0} → Parser A → Parser B → Parser B
◌>>◌ p q s = and_then (p s) (λ _. q)

abbrev pub done : {A : Type 0} → A → Parser A
done a s = got a s

-- the refusal n where b holds
unfoldable pub refuse : ℕ → Bool → Parser (Unit {0})
refuse n true s = refused n
refuse n false s = got tt s

unfoldable pub many : {A : Type 0} → Parser A → ℕ → Parser (List A)
many p zero = done []
many p (suc n) = do
  x ← p
  xs ← many p n
  done (x ∷ xs)

-- ---- bytes and numbers
unfoldable pub byte : Parser ℕ
byte [] = refused 11
byte (b ∷ s) = got b s

-- n bytes, the least significant first
unfoldable pub number : ℕ → Parser ℕ
number zero = done 0
number (suc n) = do
  b ← byte
  v ← number n
  done (b + 256 * v)

-- a float is its eight bytes by IEEE 754; each NaN pattern is the one NaN
unfoldable pub float : Parser Float
float = do
  b ← number 8
  done (of_bits binary64 b)

unfoldable pub optional : Bool → Float → Parser Float
optional true absent = float
optional false absent = done absent

-- bit k of a map
abbrev pub bit : ℕ → ℕ → Bool
bit k m = eqb (m / 2 ^ k % 2) 1

-- ---- the head: two counts, both tolerances, the mode
unfoldable pub count : Parser ℕ
count = do
  n ← number 2
  refuse 14 (ltb 128 n)
  done n

unfoldable pub code : Parser ℕ
code = do
  m ← byte
  refuse 12 (ltb 2 m)
  done m

unfoldable pub rules : ℕ → ℕ → Parser Settings
rules vars rows = do
  feasibility ← float
  int_tol ← float
  mode ← code
  done (record { vars = vars; rows = rows; feasibility = feasibility; int_tol = int_tol; mode = mode })

unfoldable pub settings : Parser Settings
settings = do
  vars ← count
  rows ← count
  rules vars rows

-- ---- a variable: its map, then the floats that it announces. Bits 0, 1, 2 announce objective, lower and upper, bits 3 and 4 are the domain, 5 to 7 are zero

-- an absent upper bound: 1 of a Boolean, open of the other domains
unfoldable pub absent_upper : ℕ → Float
absent_upper domain = choose (eqb domain 2) 1f ∞f

unfoldable pub values : ℕ → Parser Variable
values m = do
  objective ← optional (bit 0 m) 0f
  lower ← optional (bit 1 m) 0f
  upper ← optional (bit 2 m) (absent_upper (m / 8 % 4))
  done (record { objective = objective; lower = lower; upper = upper; domain = m / 8 % 4 })

unfoldable pub variable : Parser Variable
variable = do
  m ← byte
  refuse 12 (ltb 31 m)
  refuse 12 (ltb 2 (m / 8 % 4))
  values m

-- ---- a row: its map, the right side, the count of its terms, the terms. Bits 0 and 1 are the comparison, bit 2 announces a right side, 3 to 7 are zero
-- t is how many terms the rows before have
unfoldable pub side : ℕ → ℕ → Parser RowHead
side t m = do
  b ← optional (bit 2 m) 0f
  n ← number 2
  refuse 14 (ltb 512 (t + n))
  done (record { cmp = m % 4; rhs = b; count = n })

unfoldable pub head : ℕ → Parser RowHead
head t = do
  m ← byte
  refuse 12 (ltb 7 m)
  refuse 12 (ltb 2 (m % 4))
  side t m

unfoldable pub term : Parser Term
term = do
  i ← number 2
  a ← float
  done (record { index = i; coeff = a })

pub record Row : Type 0 where
  pub head : RowHead
  pub terms : List Term

unfoldable pub row : ℕ → Parser Row
row t = do
  h ← head t
  ts ← many term h.count
  done (record { head = h; terms = ts })

unfoldable pub rows : ℕ → ℕ → Parser (List Row)
rows zero t = done []
rows (suc n) t = do
  r ← row t
  rs ← rows n (t + r.head.count)
  done (r ∷ rs)

-- ---- the whole file, as lists: one entry per variable, row or term; the row starts have one entry more than there are rows
pub record Lists : Type 0 where
  pub objective : List Float
  pub lower : List Float
  pub upper : List Float
  pub domain : List ℕ
  pub starts : List ℕ
  pub index : List ℕ
  pub coeff : List Float
  pub cmp : List ℕ
  pub rhs : List Float
  pub mode : ℕ
  pub feasibility : Float
  pub int_tol : Float

-- where the rows end, the first of them beginning at t
unfoldable pub ends : ℕ → List Row → List ℕ
ends t [] = []
ends t (r ∷ rs) = (t + r.head.count) ∷ ends (t + r.head.count) rs

unfoldable pub all_terms : List Row → List Term
all_terms [] = []
all_terms (r ∷ rs) = r.terms ++ all_terms rs

unfoldable pub lists : Settings → List Variable → List Row → Lists
lists h vs rs =
    record {
      objective = map (λ (v : Variable). v.objective) vs;
      lower = map (λ (v : Variable). v.lower) vs;
      upper = map (λ (v : Variable). v.upper) vs;
      domain = map (λ (v : Variable). v.domain) vs;
      starts = 0 ∷ ends 0 rs;
      index = map (λ (x : Term). x.index) (all_terms rs);
      coeff = map (λ (x : Term). x.coeff) (all_terms rs);
      cmp = map (λ (r : Row). r.head.cmp) rs;
      rhs = map (λ (r : Row). r.head.rhs) rs;
      mode = h.mode;
      feasibility = h.feasibility;
      int_tol = h.int_tol;
    }

unfoldable pub end : Parser (Unit {0})
end [] = got tt []
end (b ∷ s) = refused 13

unfoldable pub whole : Parser Lists
whole = do
  h ← settings
  vs ← many variable h.vars
  rs ← rows h.rows 0
  end
  done (lists h vs rs)

pub data Decoded : Type 0 where
  refusal : ℕ → Decoded
  file : Lists → Decoded

unfoldable pub decoded : Got Lists → Decoded
decoded (refused n) = refusal n
decoded (got f s) = file f

unfoldable pub decode : List ℕ → Decoded
decode s = decoded (whole s)
