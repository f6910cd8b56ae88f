-- The bits of 0, of a power of two, and of what the code makes of words.
use Rattle.std.proofs.Common.{◌≡◌, ℕ, zero, suc, ◌-◌, ◌/◌, ◌^◌, ◌<◌, ◌≤◌, min, max, Bool, false, not, ◌&&◌, ◌||◌, eqb, sym, refl, ap, ◌∙◌, ⊎_elim, arith}
use Rattle.std.specs.Int.{bit_at, bit_not}
use Rattle.std.proofs.lemmas.Nat.Bits.{bit_at-lt, bit_at-zero, bit_at-pow_same, bit_at-pow_other, bit_at_above, bit_at_and, bit_at_or, bit_at_not, shr_and_one}
use Rattle.std.proofs.lemmas.Bool.{cases_eq, cases_lt, eq-eqb, ne_eqb}
use lib.Bits.{bit_and, bit_or}
use mir.Syntax.{w64}
use Rattle.offices.specs.Word.{bit}

-- two tests of two digits agree where they agree at each
alike : (f g : ℕ → ℕ → Bool) → f 0 0 ≡ g 0 0 → f 0 1 ≡ g 0 1 → f 1 0 ≡ g 1 0 → f 1 1 ≡ g 1 1 → (x y : ℕ) → x < 2 → y < 2 → f x y ≡ g x y
alike f g a b c d zero zero hx hy = a
alike f g a b c d zero (suc zero) hx hy = b
alike f g a b c d zero (suc (suc y)) hx hy = absurd (omega arith)
alike f g a b c d (suc zero) zero hx hy = c
alike f g a b c d (suc zero) (suc zero) hx hy = d
alike f g a b c d (suc zero) (suc (suc y)) hx hy = absurd (omega arith)
alike f g a b c d (suc (suc x)) y hx hy = absurd (omega arith)

pub bit-or : (v w i : ℕ) → bit (bit_or v w) i ≡ (bit v i || bit w i)
unfolding bit
bit-or v w i =
    ap (λ x. eqb x 1) (bit_at_or v w i)
    ∙ alike (λ x y. eqb (max x y) 1) (λ x y. eqb x 1 || eqb y 1) refl refl refl refl (bit_at v i) (bit_at w i) (bit_at-lt v i) (bit_at-lt w i)

pub bit-and : (v w i : ℕ) → bit (bit_and v w) i ≡ (bit v i && bit w i)
unfolding bit
bit-and v w i =
    ap (λ x. eqb x 1) (bit_at_and v w i)
    ∙ alike (λ x y. eqb (min x y) 1) (λ x y. eqb x 1 && eqb y 1) refl refl refl refl (bit_at v i) (bit_at w i) (bit_at-lt v i) (bit_at-lt w i)

pub bit_none : (i : ℕ) → bit 0 i ≡ false
unfolding bit
bit_none i = ap (λ x. eqb x 1) (bit_at-zero i)

pub bit_past : (w k i : ℕ) → w < 2 ^ k → k ≤ i → bit w i ≡ false
unfolding bit
bit_past w k i h le = ap (λ x. eqb x 1) (bit_at_above w k i h le)

pub bit_one : (r i : ℕ) → bit (2 ^ r) i ≡ eqb i r
unfolding bit
bit_one r i =
    ⊎_elim
    (λ (e : i ≡ r). ap (λ x. eqb (bit_at (2 ^ r) x) 1) e ∙ ap (λ x. eqb x 1) (bit_at-pow_same r) ∙ sym (eq-eqb i r e))
    (λ (d : i ≡ r → ⊥). ap (λ x. eqb x 1) (bit_at-pow_other r i d) ∙ sym (ne_eqb i r d))
    (cases_eq i r)

-- the test of the code
pub bit_test : (w i : ℕ) → eqb (bit_and (w / 2 ^ i) 1) 1 ≡ bit w i
unfolding bit
bit_test w i = ap (λ x. eqb x 1) (shr_and_one w i)

turned : (w i : ℕ) → w < 2 ^ 64 → i < 64 → bit (bit_not w64 w) i ≡ not (bit w i)
unfolding bit
turned w i h l =
    ap (λ x. eqb x 1) (bit_at_not w64 w i h l)
    ∙ alike (λ x y. eqb (1 - x) 1) (λ x y. not (eqb x 1)) refl refl refl refl (bit_at w i) 0 (bit_at-lt w i) (omega arith)

-- what one word has and another lacks
pub bit_outside : (v w i : ℕ) → v < 2 ^ 64 → w < 2 ^ 64 → bit (bit_and v (bit_not w64 w)) i ≡ (bit v i && not (bit w i))
bit_outside v w i hv hw =
    bit-and v (bit_not w64 w) i
    ∙ ⊎_elim
    (λ (l : i < 64). ap (λ x. bit v i && x) (turned w i hw l))
    (λ (l : 64 ≤ i). let none = bit_past v 64 i hv l in ap (λ x. x && bit (bit_not w64 w) i) none ∙ sym (ap (λ x. x && not (bit w i)) none))
    (cases_lt i 64)
