use Rattle.std.proofs.Common.{arith}
use Rattle.reach.specs.Rows.{rows_have}
use Rattle.reach.specs.Within.{rows_past}
use Rattle.reach.proofs.rows.Rows.row.Goals as goal

pub returns : goal.returns
unfolding rows_have
returns g c b = grind (arith, c.empty.ensures b, rows_past c.args.self.now c.args.at b)
