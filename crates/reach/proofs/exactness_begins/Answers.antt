use Rattle.reach.proofs.Lawfully.{row_begins, table_begins, steps_begin}
use Rattle.reach.proofs.exactness_begins.Goals as goal

pub returns : goal.returns
returns c = record { row = row_begins; table = table_begins; steps = steps_begin }
