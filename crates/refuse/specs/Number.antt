-- The rows of the table by name, each with its number.
use Rattle.std.specs.Prelude.{ℕ}
use Rattle.refuse.specs.declared.Refusal.{Refusal}
use Rattle.refuse.specs.declared.Refusal.TheVariants.{LengthsDisagree, TooLarge, StartsWrong, IndicesWrong, RowsLong, CodesWrong, BoundsWrong, NumbersWrong, RhsesWrong}
use Rattle.refuse.specs.declared.Refusal.TheVariants.{TolerancesWrong, TooShort}

abbrev pub number_of : Refusal → ℕ
number_of LengthsDisagree = 1
number_of TooLarge = 2
number_of StartsWrong = 3
number_of IndicesWrong = 4
number_of RowsLong = 18
number_of CodesWrong = 5
number_of BoundsWrong = 6
number_of NumbersWrong = 7
number_of RhsesWrong = 8
number_of TolerancesWrong = 9
number_of TooShort = 10
