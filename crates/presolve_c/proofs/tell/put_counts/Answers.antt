-- `put_counts`: the five from the front.
use Rattle.presolve_c.specs.Steps.{put_five}
use Rattle.presolve_c.proofs.tell.put_counts.Goals as goal

pub returns : goal.returns
returns c = put_five _ c.args.answer.now c.requires
