use Rattle.offices.proofs.Bit.{bit_none}
use Rattle.offices.proofs.role_set.RoleSet.empty.Goals as goal

pub returns : goal.returns
returns c = bit_none
