-- What an accepted request leaves as it was, by its kind, where tables and history agree.
use Rattle.std.proofs.Common.{◌≡◌, ℕ, false, ◌↔◌, List, [], ◌∷◌, Some, arith}
use mathlib.Core.Logic.Iff
use Rattle.std.proofs.lemmas.Bool.Decides.{nat_tests}
use Rattle.law.specs.Sound.{Link}
use Rattle.law.specs.Requests.{Request, accepted}
use Rattle.law.specs.Histories.{Event, accepting, Issued, Holds, Trusts, Standing, Suspended}
use Rattle.law.specs.Examples.{among}
use Rattle.law.proofs.Changes.{kind, issued_still, held_still, trusted_still, standing_still, suspended_still}
use Rattle.accord.specs.Tables.{Tables, Holding, Trusting, Recorded, Resting}
use Rattle.accord.specs.Agree.{Agree}

neither : (k x y : ℕ) → among k (x ∷ y ∷ []) ≡ false → (k ≡ x → ⊥) × (k ≡ y → ⊥)
neither k x y e = grind (arith, nat_tests)

none_of : (k x y z : ℕ) → among k (x ∷ y ∷ z ∷ []) ≡ false → (k ≡ x → ⊥) × (k ≡ y → ⊥) × (k ≡ z → ⊥)
none_of k x y z e = grind (arith, nat_tests)

module _ {t : Tables} {h : List Event} (n : ℕ) (a : Agree t h) (q : Request) where
  pub homes_still : among (kind q) (9 ∷ 6 ∷ []) ≡ false → (c o : ℕ) → Issued (accepting n q h) c o ↔ (t.home c ≡ Some o)
  homes_still k c o = Iff.trans (issued_still (record { request = q; strip = n; answer = accepted }) h (λ x. neither (kind q) 9 6 k) c o) (a.homes c o)

  pub holdings_still : among (kind q) (3 ∷ 5 ∷ 6 ∷ []) ≡ false → (c r : ℕ) → Holds (accepting n q h) c r ↔ Holding t c r
  holdings_still k c r = Iff.trans (held_still (record { request = q; strip = n; answer = accepted }) h (λ x. none_of (kind q) 3 5 6 k) c r) (a.holdings c r)

  pub trust_still : among (kind q) (7 ∷ 4 ∷ []) ≡ false → (o p : ℕ) → Trusts (accepting n q h) o p ↔ Trusting t o p
  trust_still k o p = Iff.trans (trusted_still (record { request = q; strip = n; answer = accepted }) h (λ x. neither (kind q) 7 4 k) o p) (a.trust o p)

  pub recorded_still : among (kind q) (1 ∷ 2 ∷ 8 ∷ []) ≡ false → (l : Link) → Standing (accepting n q h) l ↔ Recorded t l
  recorded_still k l = Iff.trans (standing_still (record { request = q; strip = n; answer = accepted }) h (λ x. none_of (kind q) 1 2 8 k) l) (a.standing l)

  pub resting_still : among (kind q) (10 ∷ 11 ∷ 8 ∷ []) ≡ false → (l : Link) → Suspended (accepting n q h) l ↔ Resting t l
  resting_still k l = Iff.trans (suspended_still (record { request = q; strip = n; answer = accepted }) h (λ x. none_of (kind q) 10 11 8 k) l) (a.suspended l)
