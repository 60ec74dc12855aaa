-- A step keeps a property if each of its ends does: the state that it goes on with, and the one whose counts it stops with.
use Rattle.definition.specs.Work.{Work, Step, ◌>>=◌}
use Rattle.rows_kept.specs.Steps.{Each, stopped, went}

pub then : {P Q : Work → Type 0} {s : Step} {f : Work → Step} → Each P s → ((w : Work) → P w → Q w) → ((w : Work) → P w → Each Q (f w)) → Each Q (s >>= f)
then (stopped w e p) g q = stopped w e (g w p)
then (went {w} p) g q = q w p
