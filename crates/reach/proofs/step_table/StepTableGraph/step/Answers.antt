use Rattle.std.proofs.Common.{arith}
use Rattle.reach.specs.Within.{rows_inside}
use Rattle.reach.proofs.step_table.StepTableGraph.step.Goals as goal

pub returns : goal.returns
returns c = grind (arith, rows_inside c.args.self.now.rows c.args.from c.args.to)
