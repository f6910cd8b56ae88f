use Rattle.reach.proofs.Lawfully.{best_steps}
use Rattle.reach.proofs.search_is_exact.Goals as goal

pub returns : goal.returns
returns c = best_steps
