use Rattle.std.proofs.Common.{sym, ◌∙◌, arith}
use Rattle.std.proofs.lemmas.Bool.{le-ltb}
use Rattle.offices.proofs.Bit.{bit_test, bit_past}
use Rattle.offices.proofs.role_set.RoleSet.contains.Goals as goal

pub returns-then-role-lt64 : goal.returns-then-role-lt64
returns-then-role-lt64 c = bit_test c.args.self.word c.args.role

pub returns-else-role-lt64 : goal.returns-else-role-lt64
returns-else-role-lt64 c =
    le-ltb c.args.role 64 (omega arith)
    ∙ sym (bit_past c.args.self.word 64 c.args.role (omega arith) (omega arith))
