use Rattle.law.proofs.chains_grow.Goals as goal
use Rattle.law.proofs.Links.{one_link_more, no_link}

pub returns : goal.returns
returns c = record { more = one_link_more; none = no_link }
