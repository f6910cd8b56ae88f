use Rattle.std.proofs.Common.{◌/◌, ◌%◌, ltb}
use Rattle.std.proofs.lemmas.Bool.{and_right}
use Rattle.offices.proofs.RowFacts.{row_replicate}
use Rattle.reach.specs.Rows.{has}
use Rattle.reach.proofs.row.Row.empty.Goals as goal

pub returns : goal.returns
unfolding has
returns c b = let none = row_replicate 16 c.empty.result (b / 64) (b % 64) c.empty.ensures in and_right (ltb b 1024) _ (cc)
