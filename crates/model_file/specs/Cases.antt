-- Worked files: the first case, and one file for each refusal, with what is wrong as early as it can be.
use Rattle.std.specs.Prelude.{ℕ, ◌≡◌, refl, List, [], ◌∷◌, ◌++◌, map}
use Rattle.std.specs.Float.{binary64}
use Rattle.std.specs.Float.Ieee.{of_bits}
use Rattle.floats.specs.Num.{choose, 0f, 1f, ∞f}
use Rattle.model_file.specs.Format.{refusal, file, and_then, refuse, many, byte, number, float, optional, count, code, rules, settings, absent_upper, values}
use Rattle.model_file.specs.Format.{variable, side, head, term, row, rows, ends, all_terms, lists, end, whole, decoded, decode}

-- 1e-6 and 1e-9, as a file has them
abbrev tolerances : List ℕ
tolerances = 141 ∷ 237 ∷ 181 ∷ 160 ∷ 247 ∷ 198 ∷ 176 ∷ 62 ∷ 149 ∷ 214 ∷ 38 ∷ 232 ∷ 11 ∷ 46 ∷ 17 ∷ 62 ∷ []

-- n variables, m rows, a mode
abbrev begin : ℕ → ℕ → ℕ → List ℕ
begin n m mode = (n ∷ 0 ∷ m ∷ 0 ∷ tolerances) ++ (mode ∷ [])

-- p from 0 to 10, 2p ≤ 7. Objective and lower are absent
abbrev case_1 : List ℕ
case_1 = begin 1 1 1 ++ (4 ∷ 0 ∷ 0 ∷ 0 ∷ 0 ∷ 0 ∷ 0 ∷ 36 ∷ 64 ∷ 5 ∷ 0 ∷ 0 ∷ 0 ∷ 0 ∷ 0 ∷ 0 ∷ 28 ∷ 64 ∷ 1 ∷ 0 ∷ 0 ∷ 0 ∷ 0 ∷ 0 ∷ 0 ∷ 0 ∷ 0 ∷ 0 ∷ 0 ∷ 64 ∷ [])

pub case_1_is :
    decode case_1
    ≡ file (record {
      objective = 0f ∷ [];
      lower = 0f ∷ [];
      upper = of_bits binary64 0x4024000000000000 ∷ [];
      domain = 0 ∷ [];
      starts = 0 ∷ 1 ∷ [];
      index = 0 ∷ [];
      coeff = of_bits binary64 0x4000000000000000 ∷ [];
      cmp = 1 ∷ [];
      rhs = of_bits binary64 0x401c000000000000 ∷ [];
      mode = 1;
      feasibility = of_bits binary64 0x3eb0c6f7a0b5ed8d;
      int_tol = of_bits binary64 0x3e112e0be826d695;
    })
unfolding and_then refuse many byte number float optional count code rules settings values variable side head term row rows ends all_terms lists end whole decoded decode of_bits
case_1_is = refl

-- an Integer, a Real and a Boolean without an upper bound, and a Boolean whose upper bound is given: +infinity
abbrev no_upper : List ℕ
no_upper = begin 4 0 0 ++ (0 ∷ 8 ∷ 16 ∷ 20 ∷ 0 ∷ 0 ∷ 0 ∷ 0 ∷ 0 ∷ 0 ∷ 240 ∷ 127 ∷ [])

pub no_upper_is :
    decode no_upper
    ≡ file (record {
      objective = 0f ∷ 0f ∷ 0f ∷ 0f ∷ [];
      lower = 0f ∷ 0f ∷ 0f ∷ 0f ∷ [];
      upper = ∞f ∷ ∞f ∷ 1f ∷ ∞f ∷ [];
      domain = 0 ∷ 1 ∷ 2 ∷ 2 ∷ [];
      starts = 0 ∷ [];
      index = [];
      coeff = [];
      cmp = [];
      rhs = [];
      mode = 0;
      feasibility = of_bits binary64 0x3eb0c6f7a0b5ed8d;
      int_tol = of_bits binary64 0x3e112e0be826d695;
    })
unfolding and_then refuse many byte number float optional count code rules settings absent_upper choose values variable side head term row rows ends all_terms lists end whole decoded decode of_bits
no_upper_is = refl

-- files that are refused
abbrev damaged : List (List ℕ)
damaged =
    []
    -- 129 variables; 129 rows
    ∷ (129 ∷ 0 ∷ [])
    ∷ (128 ∷ 0 ∷ 129 ∷ 0 ∷ [])
    -- mode 3
    ∷ begin 1 1 3
    -- a variable with bit 5, 6 or 7, and with domain 3
    ∷ (begin 1 1 1 ++ (32 ∷ []))
    ∷ (begin 1 1 1 ++ (64 ∷ []))
    ∷ (begin 1 1 1 ++ (128 ∷ []))
    ∷ (begin 1 1 1 ++ (24 ∷ []))
    -- an upper bound of seven bytes
    ∷ (begin 1 1 1 ++ (4 ∷ 0 ∷ 0 ∷ 0 ∷ 0 ∷ 0 ∷ 0 ∷ 0 ∷ []))
    -- a row with bit 3 or 7, and with comparison 3
    ∷ (begin 0 1 1 ++ (8 ∷ []))
    ∷ (begin 0 1 1 ++ (128 ∷ []))
    ∷ (begin 0 1 1 ++ (3 ∷ []))
    -- 513 terms in one row, and in two
    ∷ (begin 0 1 1 ++ (0 ∷ 1 ∷ 2 ∷ []))
    ∷ (begin 0 2 1 ++ (0 ∷ 1 ∷ 0 ∷ 0 ∷ 0 ∷ 0 ∷ 0 ∷ 0 ∷ 0 ∷ 0 ∷ 0 ∷ 0 ∷ 0 ∷ 0 ∷ 0 ∷ 2 ∷ []))
    -- one byte too many
    ∷ (begin 0 0 1 ++ (0 ∷ []))
    ∷ (case_1 ++ (0 ∷ []))
    ∷ []

pub damaged_are : map decode damaged ≡ map refusal (11 ∷ 14 ∷ 14 ∷ 12 ∷ 12 ∷ 12 ∷ 12 ∷ 12 ∷ 11 ∷ 12 ∷ 12 ∷ 12 ∷ 14 ∷ 14 ∷ 13 ∷ 13 ∷ [])
unfolding and_then refuse many byte number float optional count code rules settings values variable side head term row rows ends all_terms lists end whole decoded decode of_bits
damaged_are = refl
