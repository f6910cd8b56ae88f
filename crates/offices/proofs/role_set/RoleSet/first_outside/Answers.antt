use Rattle.std.proofs.Common.{◌≡◌, ℕ, ◌-◌, ◌^◌, true, false, sym, ap, ◌∙◌, arith}
use lib.Bits.{bit_and, and_lt}
use lib.Count.{count_trailing_zeros}
use Rattle.offices.specs.Word.{bit}
use Rattle.offices.proofs.Bit.{bit_none, bit_outside}
use Rattle.offices.proofs.Scanning.{held_since, lacked, Lowest, trailing_lowest}
use Rattle.offices.proofs.role_set.RoleSet.first_outside.Goals as goal

pub returns-then-outside-eq0 : goal.returns-then-outside-eq0
returns-then-outside-eq0 c i h =
    let v = c.args.self.word in let w = c.args.other.word in
    held_since (bit v i) (bit w i) (sym (bit_outside v w i (omega arith) (omega arith)) ∙ ap (λ x. bit x i) c.if-outside-eq0.true ∙ bit_none i) h

pub returns : goal.returns
returns c =
    let v = c.args.self.word in let w = c.args.other.word in
    let x : ℕ = bit_and v (2 ^ 64 - 1 - w) in
    let told = λ (i : ℕ). sym (bit_outside v w i (omega arith) (omega arith)) in
    let low : Lowest x (count_trailing_zeros 64 x) = trailing_lowest x (omega (arith, c.if-outside-eq0.false)) (and_lt 64 v (2 ^ 64 - 1 - w) (omega arith) (omega arith)) in
    let t : ℕ = count_trailing_zeros 64 x in
    let both : (bit v t ≡ true) × (bit w t ≡ false) = lacked (bit v t) (bit w t) (told t ∙ low.here) in
    (low.low, both.0, both.1, λ i l h. held_since (bit v i) (bit w i) (told i ∙ low.none i l) h)
