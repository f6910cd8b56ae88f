-- A number is known by its bits.
use Rattle.std.proofs.Common.{◌≡◌, ℕ, arith}
use Rattle.std.proofs.lemmas.Bool.Decides.{nat_tests}
use Rattle.std.proofs.lemmas.Nat.Bits.{same_from_bits}
use Rattle.offices.specs.Word.{bit}

pub same_bits : (v w : ℕ) → ((i : ℕ) → bit v i ≡ bit w i) → v ≡ w
unfolding bit
same_bits v w f = same_from_bits v w (λ i. let same = f i in grind (arith, nat_tests))
