-- What the code's records are in the definition: the lent lengths, the answer.
use Rattle.std.specs.Prelude.{ℕ, ⊤, Result, Ok, Err}
use Rattle.std.proofs.Math.Option.{Option, none, some}
use Rattle.definition.specs.Refusal as definition
use Rattle.refuse.specs.declared.Lent.{Lent}
use Rattle.refuse.specs.declared.Refusal.{Refusal}
use Rattle.refuse.specs.Number.{number_of}

abbrev pub lent_of : Lent → definition.Lent
lent_of l =
    record {
      lower = l.lower;
      upper = l.upper;
      emit_row = l.emit_row;
      emit_rewritten = l.emit_rewritten;
      emit_rhs = l.emit_rhs;
      emit_from = l.emit_from;
      emit_upto = l.emit_upto;
      kept = l.kept;
      term_index = l.term_index;
      term_coeff = l.term_coeff;
      floats = l.floats;
      numbers = l.numbers;
      adjacency = l.adjacency;
    }

-- the number of the row that applies, or none
abbrev pub refused_is : Result ⊤ Refusal → Option ℕ
refused_is (Ok u) = none
refused_is (Err k) = some (number_of k)
