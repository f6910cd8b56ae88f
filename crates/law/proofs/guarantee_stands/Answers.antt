use Rattle.law.proofs.guarantee_stands.Goals as goal
use Rattle.law.proofs.Guaranteed.{guarantee}

pub returns : goal.returns
returns c = guarantee
