use Rattle.std.proofs.Common.{◌/◌, arith}
use Rattle.std.proofs.lemmas.Bool.Decides.{nat_tests}
use Rattle.reach.specs.Rows.{has}
use Rattle.reach.proofs.row.Row.join.Goals as goal

pub returns : goal.returns
unfolding has
returns c b = grind (arith, nat_tests, c.loop-office.invariant.done (b / 64))
