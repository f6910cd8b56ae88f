use Rattle.search.proofs.Unique.{one_best, one_nearer, one_reached, nearer_few, one_outcome}
use Rattle.search.proofs.outcome_is_single.Goals as goal

pub returns : goal.returns
returns c = record { best = one_best; nearer = one_nearer; reached = one_reached; few = nearer_few; outcome = one_outcome }
