-- `reduce` does what presolve does, up to its settled rows.
use native.Mathlib.Omega.{arith}
use Rattle.std.proofs.Common.{sym}
use Rattle.view.specs.Steps.{stop_is}
use Rattle.wave.specs.Begin.{waves_is}
use Rattle.reduce.specs.Reducing.{adjoins_stopped, begins_is, reduces_is, adjoins_is, reduce_ended, adjoins_settled, ready_rounds, reduce_stopped, ready_settle, reduce_settled}
use Rattle.reduce.proofs.reduce.Goals as goal

-- infeasible at the start
pub returns-in_err-begin : goal.returns-in_err-begin
returns-in_err-begin c = let e = sym (stop_is c.from_residual.result c.from_residual.ensures.0) in record {
  reduces = reduces_is (reduce_ended (begins_is c.begin.ensures c.in_err-begin.was)) e;
  adjoins = adjoins_is adjoins_stopped e;
}

pub rounds-requires : goal.rounds-requires
rounds-requires c = record {
  holds_f = (omega (arith, c.begin.auto, c.requires.holds_f.0), omega (arith, c.begin.auto, c.requires.holds_f.1));
  ready = ready_rounds _
      (begins_is c.begin.ensures c.in_ok-begin.was) c.requires.given;
}

pub settle_rows-requires : goal.settle_rows-requires
settle_rows-requires c = record {
  holds_f = (
    omega (arith, c.rounds.auto, c.begin.auto, c.requires.holds_f.0),
    omega (arith, c.rounds.auto, c.begin.auto, c.requires.holds_f.1),
  );
  ready = ready_settle _ (begins_is c.begin.ensures c.in_ok-begin.was)
      (waves_is c.rounds.ensures c.in_ok-rounds.was) c.requires.given;
}

-- infeasible in a round
pub returns-in_err-rounds : goal.returns-in_err-rounds
returns-in_err-rounds c = let e = sym (stop_is c.from_residual-in_err-rounds.result c.from_residual-in_err-rounds.ensures.0) in record {
  reduces = reduces_is (reduce_stopped _ (begins_is c.begin.ensures c.in_ok-begin.was)
      (waves_is c.rounds.ensures c.in_err-rounds.was)) e;
  adjoins = adjoins_is adjoins_stopped e;
}

-- to the end
pub returns : goal.returns
returns c = let b = begins_is c.begin.ensures c.in_ok-begin.was in record {
  reduces = reduce_settled _ b (waves_is c.rounds.ensures c.in_ok-rounds.was)
      c.settle_rows.ensures;
  adjoins = adjoins_settled b;
}
