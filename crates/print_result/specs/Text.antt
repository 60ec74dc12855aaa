-- The printed result, byte for byte. Every line ends with a line feed, the last one too. Lines of a kind come in rising order.
use Rattle.std.specs.Prelude.{Option, Some, None, ℕ, zero, suc, ◌-◌, ◌/◌, ◌%◌, min, List, [], ◌∷◌, ◌++◌, Bool, true, false, length, get_or, eqb, ltb, Float}
use Prim.Native.String.{String}
use Prim.Native.String as Str
use Prim.Native.Char.{code}
use Rattle.std.specs.Float.{nan, binary64}
use Rattle.std.specs.Float.Ieee.{to_bits}
use Rattle.floats.specs.Num.{choose}
use Rattle.print_result.specs.declared.Kind.{Kind}
use Rattle.definition.specs.declared.Counts.{Counts}
use Rattle.plan.specs.declared.Check.{Check}
use Rattle.plan.specs.declared.Verdict.{Verdict}
use Rattle.plan.specs.declared.Verdict.TheVariants.{Lower, Upper, NotWhole, Row, AllHold}
use Rattle.print_result.specs.declared.Off.{Off}

-- ---- characters
unfoldable pub ascii : String → List ℕ
ascii Str.[] = []
ascii (Str.◌∷◌ c s) = code c ∷ ascii s

-- 0 to 9, then a to f
unfoldable pub digit : ℕ → ℕ
digit d = get_or (ascii "0123456789abcdef") d 0

-- n in decimal, with no zero in front: of the digits that k allows
unfoldable pub tens : ℕ → ℕ → List ℕ
tens zero n = []
tens (suc k) n = let r = tens k (n / 10) in choose (ltb n 10) [] r ++ (digit (n % 10) ∷ [])

unfoldable pub decimal : ℕ → List ℕ
decimal n = tens (suc n) n

-- the last k hexadecimal digits of n
unfoldable pub hex_digits : ℕ → ℕ → List ℕ
hex_digits zero n = []
hex_digits (suc k) n = hex_digits k (n / 16) ++ (digit (n % 16) ∷ [])

-- a space and a number, and a space and the pattern of a float. A NaN's is 7ff8000000000000, which no rule fixes
unfoldable pub number : ℕ → List ℕ
number n = 32 ∷ decimal n

unfoldable pub bits : Float → List ℕ
bits x = 32 ∷ hex_digits 16 (to_bits binary64 x)

abbrev pub newline : List ℕ
newline = 10 ∷ []

-- ---- lines
unfoldable pub answer_line : Kind → List ℕ
answer_line Kind.Reduced = ascii "answer reduced\n"
answer_line Kind.Unchanged = ascii "answer unchanged\n"
answer_line Kind.Infeasible = ascii "answer infeasible\n"

unfoldable pub counts_line : Counts → List ℕ
counts_line k = ascii "counts" ++ (number k.rowsDropped ++ (number k.boundsTightened ++ (number k.varsFixed ++ (number k.coeffsTightened ++ (number k.passes ++ newline)))))

unfoldable pub bound_line : ℕ → Float → Float → List ℕ
bound_line v l u = ascii "bound" ++ (number v ++ (bits l ++ (bits u ++ newline)))

unfoldable pub written_line : ℕ → List ℕ
written_line r = ascii "emit" ++ (number r ++ ascii " written\n")

unfoldable pub rewritten_line : ℕ → Float → List ℕ
rewritten_line r b = ascii "emit" ++ (number r ++ (ascii " rewritten" ++ (bits b ++ newline)))

unfoldable pub term_line : ℕ → Float → List ℕ
term_line v a = ascii "term" ++ (number v ++ (bits a ++ newline))

unfoldable pub validate_line : ℕ → List ℕ
validate_line r = ascii "validate" ++ (number r ++ newline)

unfoldable pub refused_line : ℕ → List ℕ
refused_line n = ascii "refused" ++ (number n ++ newline)

-- whether a model is 01's farm model with a whole objective, or the number of the condition that fails and its place
unfoldable pub whole_line : List ℕ
whole_line = ascii "numbers whole\n"

unfoldable pub off_line : ℕ → ℕ → List ℕ
off_line k i = ascii "numbers" ++ (number k ++ (number i ++ newline))

unfoldable pub numbers_line : ℕ → ℕ → List ℕ
numbers_line k i = choose (eqb k 0) whole_line (off_line k i)

-- the same of what the code is handed
unfoldable pub numbers_text : Option Off → List ℕ
numbers_text None = whole_line
numbers_text (Some o) = off_line o.number o.place

-- what a plan breaks first, or that it breaks nothing; and the largest excursion
unfoldable pub verdict_line : Verdict → List ℕ
verdict_line AllHold = ascii "plan holds\n"
verdict_line (Lower v) = ascii "plan lower" ++ (number v ++ newline)
verdict_line (Upper v) = ascii "plan upper" ++ (number v ++ newline)
verdict_line (NotWhole v) = ascii "plan whole" ++ (number v ++ newline)
verdict_line (Row r) = ascii "plan row" ++ (number r ++ newline)

unfoldable pub excursion_line : Float → List ℕ
excursion_line x = ascii "excursion" ++ (bits x ++ newline)

unfoldable pub check_text : Check → List ℕ
check_text c = verdict_line c.verdict ++ excursion_line c.excursion

-- ---- lines of a kind
-- k of them, from entry i on
unfoldable pub each : (ℕ → List ℕ) → ℕ → ℕ → List ℕ
each f zero i = []
each f (suc k) i = f i ++ each f k (suc i)

-- those from entry i up to n
unfoldable pub from_to : (ℕ → List ℕ) → ℕ → ℕ → List ℕ
from_to f i n = each f (n - i) i

-- the first n, as far as every list has them
abbrev pub bound_at : List Float → List Float → ℕ → List ℕ
bound_at lower upper v = bound_line v (get_or lower v nan) (get_or upper v nan)

unfoldable pub bound_lines : ℕ → List Float → List Float → List ℕ
bound_lines n lower upper = from_to (bound_at lower upper) 0 (min n (min (length lower) (length upper)))

abbrev pub validate_at : List ℕ → ℕ → List ℕ
validate_at kept i = validate_line (get_or kept i 0)

unfoldable pub validate_lines : ℕ → List ℕ → List ℕ
validate_lines n kept = from_to (validate_at kept) 0 (min n (length kept))

-- the terms of a span, as far as both lists have them
abbrev pub term_at : List ℕ → List Float → ℕ → List ℕ
term_at index coeff i = term_line (get_or index i 0) (get_or coeff i nan)

unfoldable pub term_lines : ℕ → ℕ → List ℕ → List Float → List ℕ
term_lines from upto index coeff = from_to (term_at index coeff) from (min upto (min (length index) (length coeff)))

-- a row by its mark: 0 is written, any other number rewritten. Only a rewritten row has a right side and terms
unfoldable pub row_text : ℕ → ℕ → Float → ℕ → ℕ → List ℕ → List Float → List ℕ
row_text r mark rhs from upto index coeff = choose (eqb mark 0) (written_line r) (rewritten_line r rhs ++ term_lines from upto index coeff)

abbrev pub row_at : List ℕ → List ℕ → List Float → List ℕ → List ℕ → List ℕ → List Float → ℕ → List ℕ
row_at row rewritten rhs from upto index coeff i = row_text (get_or row i 0) (get_or rewritten i 0) (get_or rhs i nan) (get_or from i 0) (get_or upto i 0) index coeff

unfoldable pub row_texts : ℕ → List ℕ → List ℕ → List Float → List ℕ → List ℕ → List ℕ → List Float → List ℕ
row_texts n row rewritten rhs from upto index coeff = from_to (row_at row rewritten rhs from upto index coeff) 0
    (min n (min (min (length row) (min (length rewritten) (length rhs))) (min (length from) (length upto))))

-- ---- the whole. After an infeasible answer only the counts follow
unfoldable pub followed : Kind → Bool
followed Kind.Reduced = true
followed Kind.Unchanged = true
followed Kind.Infeasible = false

unfoldable pub answer_text : Kind → Counts → ℕ → List Float → List Float → ℕ → List ℕ → List ℕ → List Float → List ℕ → List ℕ → List ℕ → List Float → ℕ → List ℕ → List ℕ
answer_text kind k vars lower upper emitted row rewritten rhs from upto index coeff validated kept =
    answer_line kind ++ (counts_line k ++ choose (followed kind) (bound_lines vars lower upper ++ (row_texts emitted row rewritten rhs from upto index coeff ++ validate_lines validated kept)) [])
