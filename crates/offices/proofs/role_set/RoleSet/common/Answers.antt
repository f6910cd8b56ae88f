use Rattle.std.proofs.Common.{arith}
use Rattle.offices.specs.Members.{common_roles}
use Rattle.offices.proofs.Scanning.{ones_common}
use Rattle.offices.proofs.role_set.RoleSet.common.Goals as goal

pub returns : goal.returns
unfolding common_roles
returns c = ones_common 64 c.args.self.word c.args.other.word (omega arith) (omega arith)
