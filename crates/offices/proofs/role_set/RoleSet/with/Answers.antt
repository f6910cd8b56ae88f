use Rattle.std.proofs.Common.{◌<◌, ◌&&◌, ◌||◌, eqb, sym, ap, ◌∙◌, arith}
use lib.Bits.{bit_or}
use Rattle.std.proofs.lemmas.Nat.{one_shl}
use Rattle.std.proofs.Math.Bool.{or-false, and-true, and-false}
use Rattle.std.proofs.lemmas.Bool.{lt-ltb, le-ltb}
use Rattle.offices.specs.Word.{bit}
use Rattle.offices.proofs.Bit.{bit-or, bit_one}
use Rattle.offices.proofs.role_set.RoleSet.with.Goals as goal

pub returns-then-role-ge64 : goal.returns-then-role-ge64
returns-then-role-ge64 c i =
    sym (ap (λ x. bit c.args.self.word i || (eqb i c.args.role && x)) (le-ltb c.args.role 64 (omega arith))
    ∙ ap (λ x. bit c.args.self.word i || x) (and-false (eqb i c.args.role))
    ∙ or-false (bit c.args.self.word i))

pub returns : goal.returns
returns c i =
    let l : c.args.role < 64 = omega arith in
    ap (λ x. bit (bit_or c.args.self.word x) i) (one_shl c.args.role 64 l)
    ∙ bit-or c.args.self.word _ i
    ∙ ap (λ x. bit c.args.self.word i || x) (bit_one c.args.role i ∙ sym (and-true (eqb i c.args.role)))
    ∙ sym (ap (λ x. bit c.args.self.word i || (eqb i c.args.role && x)) (lt-ltb c.args.role 64 l))
