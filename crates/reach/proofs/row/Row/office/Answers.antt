use Rattle.std.proofs.Common.{◌+◌, ◌*◌, arith}
use Rattle.reach.proofs.RowFacts.{has_at_below, has_past}
use Rattle.reach.proofs.row.Row.office.Goals as goal

pub returns : goal.returns
returns c i h =
    let o = c.args.office in let r = c.args.self.now in
    grind (arith, has_at_below r o i, has_past r (o * 64 + i), c.empty.ensures i)
