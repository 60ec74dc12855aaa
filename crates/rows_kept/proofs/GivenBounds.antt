-- A variable that is no integer variable keeps its given bounds, through every step, equal as floats; and both lists keep their lengths.
use Rattle.std.specs.Prelude.{refl, List, Float}
use Rattle.definition.specs.Model.{Model}
use Rattle.definition.specs.Work.{drop_row}
use Rattle.rows_kept.specs.Kept.{Kept}
use Rattle.rows_kept.specs.Whole.{Rounded, as_given, rounded, HeldThroughout}
use Rattle.rows_kept.proofs.Given.{keeps_set}
use Rattle.rows_kept.specs.Given.{Given, Keeps}

module _ (M : Model) where
  pub kept : Kept M (Given M)
  unfolding drop_row
  kept =
      record {
        bounding =
            record {
              marking = record { marks = λ w d c q p. record { lower = p.lower; upper = p.upper }; counted = λ w a b c p. record { lower = p.lower; upper = p.upper } };
              works = λ w a b p. record { lower = p.lower; upper = p.upper };
              lowers = λ w v x i b p. record { lower = keeps_set M M.lower w.elo v x i p.lower; upper = p.upper };
              uppers = λ w v x i b p. record { lower = p.lower; upper = keeps_set M M.upper w.ehi v x i p.upper };
            };
        rowing = record { changes = λ w r row a c p. record { lower = p.lower; upper = p.upper }; drops = λ w r row g a p. record { lower = p.lower; upper = p.upper } };
      }

  pub rounded_lower_lem : {ls hs : List Float} → Rounded M ls hs → Keeps M M.lower ls
  rounded_lower_lem as_given = record { size = refl; same = λ v i. refl }
  rounded_lower_lem (rounded {ls} v i h) = keeps_set M M.lower ls v _ i (rounded_lower_lem h)

  pub rounded_upper_lem : {ls hs : List Float} → Rounded M ls hs → Keeps M M.upper hs
  rounded_upper_lem as_given = record { size = refl; same = λ v i. refl }
  rounded_upper_lem (rounded {hs = hs} v i h) = keeps_set M M.upper hs v _ i (rounded_upper_lem h)

  pub given_held : HeldThroughout M (Given M)
  given_held =
      record {
        kept = kept;
        passes = λ w p. record { lower = p.lower; upper = p.upper };
        begins = λ ls hs rows queue dirty n b h. record { lower = rounded_lower_lem b; upper = rounded_upper_lem b };
      }
