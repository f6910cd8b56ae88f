use Rattle.std.proofs.Common.{◌≡◌, ◌-◌, ◌^◌, ◌<◌, false, not, ◌&&◌, eqb, sym, ap, ◌∙◌, ⊎_elim, arith}
use lib.Bits.{bit_and}
use Rattle.std.proofs.lemmas.Nat.{one_shl, pow_below}
use Rattle.std.proofs.lemmas.Bool.{cases_eq, ne_eqb, and_left}
use Rattle.std.proofs.Math.Bool.{and-true}
use Rattle.offices.specs.Word.{bit}
use Rattle.offices.proofs.Bit.{bit_one, bit_past, bit_outside}
use Rattle.offices.proofs.role_set.RoleSet.without.Goals as goal

pub returns-then-role-ge64 : goal.returns-then-role-ge64
returns-then-role-ge64 c i =
    let w = c.args.self.word in let r = c.args.role in
    ⊎_elim
    (λ (e : i ≡ r).
    let none : bit w i ≡ false = bit_past w 64 i (omega arith) (omega arith) in
    none ∙ sym (and_left (bit w i) (not (eqb i r)) none))
    (λ (ne : i ≡ r → ⊥). sym (ap (λ x. bit w i && not x) (ne_eqb i r ne) ∙ and-true (bit w i)))
    (cases_eq i r)

pub returns : goal.returns
returns c i =
    let w = c.args.self.word in let r = c.args.role in
    let l : r < 64 = omega arith in
    ap (λ x. bit (bit_and w (2 ^ 64 - 1 - x)) i) (one_shl r 64 l)
    ∙ bit_outside w (2 ^ r) i (omega arith) (pow_below r 64 l)
    ∙ ap (λ x. bit w i && not x) (bit_one r i)
