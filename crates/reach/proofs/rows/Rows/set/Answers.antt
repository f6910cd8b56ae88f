use Rattle.std.proofs.Common.{arith}
use Rattle.reach.specs.Rows.{rows_have}
use Rattle.reach.proofs.Places.{place_set}
use Rattle.reach.proofs.rows.Rows.set.Goals as goal

pub returns-in-Some : goal.returns-in-Some
unfolding rows_have
returns-in-Some g c a b =
    let written = place_set c.args.self.now.rows.items g.row.N c.args.at c.args.row a b (omega arith) (grind arith) in
    cc
