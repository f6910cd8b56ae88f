use Rattle.accord.proofs.Beginning.{empty_agrees, agree_proper}
use Rattle.accord.proofs.Settled.{settled_agrees}
use Rattle.accord.proofs.accord_is_kept.Goals as goal

pub returns : goal.returns
returns c = record { begun = empty_agrees; kept = settled_agrees; proper = agree_proper }
