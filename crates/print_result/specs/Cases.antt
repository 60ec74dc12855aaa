-- Worked texts: the first case, as it is printed, a rewritten row, an infeasible answer and a refusal.
use Rattle.std.specs.Prelude.{◌≡◌, refl, [], ◌∷◌}
use Rattle.std.specs.Float.{binary64}
use Rattle.std.specs.Float.Ieee.{of_bits, to_bits}
use Rattle.floats.specs.Num.{choose}
use Rattle.print_result.specs.declared.Kind.{Kind}
use Rattle.print_result.specs.Text.{ascii, digit, tens, decimal, hex_digits, number, bits, answer_line, counts_line, bound_line}
use Rattle.print_result.specs.Text.{written_line, rewritten_line, term_line, validate_line, refused_line, each, from_to, bound_lines}
use Rattle.print_result.specs.Text.{validate_lines, term_lines, row_text, row_texts, followed, answer_text}

pub case_1 :
    answer_text Kind.Reduced (record { rowsDropped = 1; boundsTightened = 1; varsFixed = 0; coeffsTightened = 0; passes = 2 })
    1 (of_bits binary64 0 ∷ []) (of_bits binary64 0x4008_0000_0000_0000 ∷ [])
    0 [] [] [] [] [] [] [] 1 (0 ∷ [])
    ≡ ascii "answer reduced\ncounts 1 1 0 0 2\nbound 0 0000000000000000 4008000000000000\nvalidate 0\n"
unfolding choose ascii digit tens decimal hex_digits number bits answer_line counts_line bound_line validate_line each from_to bound_lines validate_lines row_texts followed answer_text of_bits to_bits
case_1 = refl

-- row 10 as written, and row 127 rewritten, with the second and third term of the list
pub rows :
    row_texts 2 (10 ∷ 127 ∷ []) (0 ∷ 1 ∷ []) (of_bits binary64 0 ∷ of_bits binary64 0x4020_0000_0000_0000 ∷ []) (0 ∷ 1 ∷ []) (4 ∷ 3 ∷ []) (5 ∷ 0 ∷ 1 ∷ [])
    (of_bits binary64 0 ∷ of_bits binary64 0x3ff0_0000_0000_0000 ∷ of_bits binary64 0xbff0_0000_0000_0000 ∷ [])
    ≡ ascii "emit 10 written\nemit 127 rewritten 4020000000000000\nterm 0 3ff0000000000000\nterm 1 bff0000000000000\n"
unfolding choose ascii digit tens decimal hex_digits number bits written_line rewritten_line term_line each from_to term_lines row_text row_texts of_bits to_bits
rows = refl

pub infeasible :
    answer_text Kind.Infeasible (record { rowsDropped = 0; boundsTightened = 30; varsFixed = 8192; coeffsTightened = 0; passes = 1 })
    1 (of_bits binary64 0 ∷ []) (of_bits binary64 0 ∷ [])
    0 [] [] [] [] [] [] [] 0 []
    ≡ ascii "answer infeasible\ncounts 0 30 8192 0 1\n"
unfolding choose ascii digit tens decimal hex_digits number answer_line counts_line followed answer_text
infeasible = refl

pub refused : refused_line 14 ≡ ascii "refused 14\n"
unfolding choose ascii digit tens decimal number refused_line
refused = refl
