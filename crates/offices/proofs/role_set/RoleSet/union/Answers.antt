use Rattle.offices.proofs.Bit.{bit-or}
use Rattle.offices.proofs.role_set.RoleSet.union.Goals as goal

pub returns : goal.returns
returns c = bit-or c.args.self.word c.args.other.word
