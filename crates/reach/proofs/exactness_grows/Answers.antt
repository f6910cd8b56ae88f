use Rattle.reach.proofs.Lawfully.{row_grows, table_grows, steps_grow}
use Rattle.reach.proofs.exactness_grows.Goals as goal

pub returns : goal.returns
returns c = record { row = row_grows; table = table_grows; steps = steps_grow }
