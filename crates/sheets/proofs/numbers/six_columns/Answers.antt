use Rattle.std.proofs.Common.{rules}
use Rattle.sheets.specs.Columns.{six}
use Rattle.sheets.proofs.numbers.six_columns.Goals as goal

pub returns : goal.returns
unfolding six
returns c = search rules
