-- A model file of lists: every float is written out, so every presence bit is set. And which lists a file can hold.
use Rattle.std.specs.Prelude.{ℕ, zero, suc, ◌+◌, ◌-◌, ◌*◌, ◌/◌, ◌%◌, ◌≤◌, ◌<◌, ◌≡◌, List, [], ◌∷◌, ◌++◌, length, take, drop, T, Float}
use Rattle.std.specs.Float.{binary64}
use Rattle.std.specs.Float.Ieee.{to_bits, fits}
use Rattle.model_file.specs.declared.Variable.{Variable}
use Rattle.model_file.specs.declared.Term.{Term}
use Rattle.model_file.specs.Format.{Row, Lists}

-- ---- parts
-- n bytes, the least significant first
unfoldable pub bytes_of : ℕ → ℕ → List ℕ
bytes_of zero v = []
bytes_of (suc n) v = v % 256 ∷ bytes_of n (v / 256)

unfoldable pub float_bytes : Float → List ℕ
float_bytes x = bytes_of 8 (to_bits binary64 x)

-- one after the other
unfoldable pub each : {A : Type 0} → (A → List ℕ) → List A → List ℕ
each f [] = []
each f (x ∷ xs) = f x ++ each f xs

unfoldable pub variable_bytes : Variable → List ℕ
variable_bytes v = (7 + 8 * v.domain) ∷ (float_bytes v.objective ++ (float_bytes v.lower ++ float_bytes v.upper))

unfoldable pub term_bytes : Term → List ℕ
term_bytes x = bytes_of 2 x.index ++ float_bytes x.coeff

unfoldable pub row_bytes : Row → List ℕ
row_bytes r = (4 + r.head.cmp) ∷ (float_bytes r.head.rhs ++ (bytes_of 2 r.head.count ++ each term_bytes r.terms))

-- ---- the lists, entry by entry
unfoldable pub variables_of : List Float → List Float → List Float → List ℕ → List Variable
variables_of [] ls us ds = []
variables_of (o ∷ os) [] us ds = []
variables_of (o ∷ os) (l ∷ ls) [] ds = []
variables_of (o ∷ os) (l ∷ ls) (u ∷ us) [] = []
variables_of (o ∷ os) (l ∷ ls) (u ∷ us) (d ∷ ds) = record { objective = o; lower = l; upper = u; domain = d } ∷ variables_of os ls us ds

unfoldable pub terms_of : List ℕ → List Float → List Term
terms_of [] cs = []
terms_of (i ∷ is) [] = []
terms_of (i ∷ is) (c ∷ cs) = record { index = i; coeff = c } ∷ terms_of is cs

-- the rows that end at es, the first of them beginning at t
unfoldable pub rows_of : ℕ → List ℕ → List Term → List ℕ → List Float → List Row
rows_of t [] ts qs bs = []
rows_of t (e ∷ es) ts [] bs = []
rows_of t (e ∷ es) ts (q ∷ qs) [] = []
rows_of t (e ∷ es) ts (q ∷ qs) (b ∷ bs) = record { head = record { cmp = q; rhs = b; count = e - t }; terms = take (e - t) ts } ∷ rows_of e es (drop (e - t) ts) qs bs

-- ---- the file
unfoldable pub encode : Lists → List ℕ
encode f =
    let vs = variables_of f.objective f.lower f.upper f.domain in
    let rs = rows_of 0 (drop 1 f.starts) (terms_of f.index f.coeff) f.cmp f.rhs in
    bytes_of 2 (length f.objective) ++ (bytes_of 2 (length f.cmp) ++ (float_bytes f.feasibility ++ (float_bytes f.int_tol ++ (f.mode ∷ (each variable_bytes vs ++ each row_bytes rs)))))

-- ---- which lists a file can hold
abbrev pub Every : {A : Type 0} → (A → Type 0) → List A → Type 0
Every P [] = Unit {0}
Every P (x ∷ xs) = P x × Every P xs

-- a float of the format
abbrev pub Binary64 : Float → Type 0
Binary64 x = T (fits binary64 x)

-- a domain, a comparison or a mode
abbrev pub Code : ℕ → Type 0
Code n = n < 3

abbrev pub Short : ℕ → Type 0
Short n = n < 65536

-- from t, es rise to n
abbrev pub Rising : ℕ → List ℕ → ℕ → Type 0
Rising t [] n = t ≡ n
Rising t (e ∷ es) n = (t ≤ e) × Rising e es n

abbrev pub Starts : List ℕ → ℕ → Type 0
Starts [] n = ⊥
Starts (p ∷ es) n = (p ≡ 0) × Rising 0 es n

pub record WellFormed (f : Lists) : Type 0 where
  pub vars : length f.objective ≤ 128
  pub lowers : length f.lower ≡ length f.objective
  pub uppers : length f.upper ≡ length f.objective
  pub domains : length f.domain ≡ length f.objective
  pub rows : length f.cmp ≤ 128
  pub sides : length f.rhs ≡ length f.cmp
  pub starts : length f.starts ≡ length f.cmp + 1
  pub rising : Starts f.starts (length f.index)
  pub terms : length f.index ≤ 512
  pub coeffs : length f.coeff ≡ length f.index
  pub objective_held : Every Binary64 f.objective
  pub lower_held : Every Binary64 f.lower
  pub upper_held : Every Binary64 f.upper
  pub coeff_held : Every Binary64 f.coeff
  pub rhs_held : Every Binary64 f.rhs
  pub feasibility_held : Binary64 f.feasibility
  pub int_tol_held : Binary64 f.int_tol
  pub index_short : Every Short f.index
  pub domain_code : Every Code f.domain
  pub cmp_code : Every Code f.cmp
  pub mode_code : Code f.mode
