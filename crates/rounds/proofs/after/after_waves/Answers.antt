-- `after_waves`: by the mode, and by what the steps say.
use Rattle.view.specs.Steps.{ready_under}
use Rattle.rounds.specs.After.{running_tightening, after_none, ready_dual, after_coeffs, after_both}
use borrow.Author.Rules.{rules}
use Rattle.rounds.proofs.after.after_waves.Goals as goal

pub returns-then-mode-eq0 : goal.returns-then-mode-eq0
returns-then-mode-eq0 c = after_none c.if-mode-eq0.true

pub tighten_binary_coeffs-tightened-requires : goal.tighten_binary_coeffs-tightened-requires
tighten_binary_coeffs-tightened-requires c = search (ready_under, running_tightening)

pub dual_fix-fixed-requires : goal.dual_fix-fixed-requires
dual_fix-fixed-requires c = record { holds_f = search rules; ready = ready_dual c.if-mode-eq0.false c.tighten_binary_coeffs-tightened.ensures c.requires.ready }

pub returns-then-mode-eq2 : goal.returns-then-mode-eq2
returns-then-mode-eq2 c = search after_both

pub returns : goal.returns
returns c = search after_coeffs
