-- `implied_slack` computes its definition: what the sum so far and the terms left make is the whole row's.
use Rattle.std.proofs.Common.{◌≡◌, length}
use Rattle.tolerances.specs.Tol.{at, zip_terms, row_start}
use Rattle.tolerances.specs.Terms.{row_from}
use Rattle.tolerances.specs.Answers.{sum_of}
use Rattle.tolerances.proofs.Sum.{Left}
use Rattle.tolerances.proofs.Row.implied_slack.Given as goal

abbrev pub invariant-loop-v : goal.invariant-loop-v
invariant-loop-v l = Left (at l.values) l.self.index.now l.self.coeff.now (sum_of l.row) (length l.yielded)
    ≡ row_from (at l.values) (row_start l.self.rhs) (zip_terms l.self.index.now l.self.coeff.now)
