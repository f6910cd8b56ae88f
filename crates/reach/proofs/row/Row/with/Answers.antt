use Rattle.std.proofs.Common.{◌%◌, arith, rules}
use Rattle.std.proofs.lemmas.Bool.Decides.{nat_tests}
use Rattle.reach.proofs.RowFacts.{has_set, has_within, has_past}
use Rattle.reach.proofs.row.Row.with.Goals as goal

pub returns-then-office-lt16 : goal.returns-then-office-lt16
returns-then-office-lt16 c b =
    let s = has_set c.args.self c.place-office.result.0 c.with.result b (omega arith) (search rules) in
    grind (arith, nat_tests, has_within c.args.self b, has_past c.args.self b, c.with.ensures (b % 64))
