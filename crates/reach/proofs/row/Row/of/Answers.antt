use Rattle.std.proofs.Common.{arith, rules}
use Rattle.std.proofs.lemmas.Bool.Decides.{nat_tests}
use Rattle.reach.proofs.RowFacts.{has_set}
use Rattle.reach.proofs.row.Row.of.Goals as goal

pub returns-then-office-lt16 : goal.returns-then-office-lt16
returns-then-office-lt16 c b =
    let s = has_set c.empty-row.result c.from.result c.args.roles b (omega arith) (search rules) in
    grind (arith, nat_tests, c.empty-row.ensures b)
