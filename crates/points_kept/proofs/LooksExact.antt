-- SAVELSBERGH'S ACTIVITY, EVERYWHERE: in every state that presolve reaches on a farm model, in modes 1 and 2, the activity of a row that is not rewritten is
-- the exact smallest and largest value of the row over the box, with both infinite counts 0: `activity_exact`. Other rows may have been rewritten or given back
-- by then, and variables dually fixed. No point has to be kept for it, so it holds where `Invariant` ends.
use Rattle.std.specs.Prelude.{◌≡◌, Bool, false}
use Rattle.std.proofs.Common.{sym, subst}
use Rattle.definition.specs.Model.{Model, Row}
use Rattle.definition.specs.Work.{Work}
use Rattle.definition.specs.Activities.{activity}
use Rattle.rows_kept.specs.Looks.{Look}
use Rattle.points_kept.specs.Statements.{PureInteger}
use Rattle.points_kept.specs.ActivityExact.{ActivityExact}
use Rattle.points_kept.proofs.ActivityEverywhere.{activity_exact}

module _ (M : Model) (pure : PureInteger M) where
  -- so each look that presolve takes at such a row's activity (`only_looks`) sees the exact one
  pub looks_exact : (w : Work) (row : Row) → Look M w row → row.touched ≡ false → (working : Bool) → ActivityExact M w row.terms (activity M w row working)
  looks_exact w row l t working =
      subst (λ (x : Row). ActivityExact M w x.terms (activity M w x working)) l.stands
      ((activity_exact M pure) w l.reached l.place (subst (λ (x : Row). x.touched ≡ false) (sym l.stands) t) working)
