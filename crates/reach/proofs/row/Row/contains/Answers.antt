use Rattle.std.proofs.Common.{arith}
use Rattle.reach.proofs.RowFacts.{has_within, has_past}
use Rattle.reach.proofs.row.Row.contains.Goals as goal

pub returns : goal.returns
returns c =
    let r = c.args.self.now in
    grind (arith, has_within r c.args.code, has_past r c.args.code)
