use Rattle.std.proofs.Common.{arith}
use Rattle.reach.specs.Rows.{rows_have}
use Rattle.reach.specs.Within.{rows_past}
use Rattle.reach.proofs.rows.Rows.contains.Goals as goal

pub returns : goal.returns
unfolding rows_have
returns g c = grind (arith, rows_past c.args.self.now c.args.at c.args.code)
