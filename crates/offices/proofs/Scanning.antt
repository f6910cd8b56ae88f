-- The lowest bit of a word, and how many of its bits are set.
use Rattle.std.proofs.Common.{◌≡◌, ℕ, zero, suc, ◌+◌, ◌/◌, ◌%◌, ◌^◌, ◌<◌, Bool, true, false, cond, not, ◌&&◌, eqb, sym, refl, ap, ◌∙◌, ap₂, mod-lt, pow-suc, arith}
use Rattle.std.proofs.lemmas.Nat.Bits.{bit_at_lowest, bit_at-suc, bit_at-trailing_zeros}
use lib.Bits.{bit_and, and_lt}
use lib.Count.{ones, ones_step, count_trailing_zeros}
use mir.Syntax.{w64}
use Rattle.search.specs.Chains.{tally}
use Rattle.search.proofs.Tallies.{tally_same}
use Rattle.offices.specs.Word.{bit}
use Rattle.offices.proofs.Bit.{bit-and}

pub held_since : (x y : Bool) → (x && not y) ≡ false → x ≡ true → y ≡ true
held_since x true e h = refl
held_since true false e h = sym e
held_since false false e h = h

pub lacked : (x y : Bool) → (x && not y) ≡ true → (x ≡ true) × (y ≡ false)
lacked true true e = (refl, sym e)
lacked true false e = (refl, refl)
lacked false true e = (e, sym e)
lacked false false e = (e, refl)

pub record Lowest (w t : ℕ) : Type 0 where
  pub low : t < 64
  pub here : bit w t ≡ true
  pub none : (j : ℕ) → j < t → bit w j ≡ false

pub trailing_lowest : (w : ℕ) → 0 < w → w < 2 ^ 64 → Lowest w (count_trailing_zeros 64 w)
unfolding bit
trailing_lowest w p h =
    let t = bit_at-trailing_zeros w64 w p h in
    record {
      low = t.0;
      here = ap (λ x. eqb x 1) t.1;
      none = λ j l. ap (λ x. eqb x 1) (t.2 j l);
    }

-- ---- how many bits are set

bit_suc : (w i : ℕ) → bit w (suc i) ≡ bit (w / 2) i
unfolding bit
bit_suc w i = ap (λ x. eqb x 1) (bit_at-suc w i)

bit_zero : (w : ℕ) → bit w 0 ≡ eqb (w % 2) 1
unfolding bit
bit_zero w = ap (λ x. eqb x 1) (bit_at_lowest w)

-- the first number apart from the others
tally_front : (p : ℕ → Bool) (n : ℕ) → tally p (suc n) ≡ cond (p 0) 1 0 + tally (λ i. p (suc i)) n
tally_front p zero = omega arith
tally_front p (suc n) = let ih = tally_front p n in omega arith

digit_count : (d : ℕ) → d < 2 → cond (eqb d 1) 1 0 ≡ d
digit_count zero h = refl
digit_count (suc zero) h = refl
digit_count (suc (suc d)) h = absurd (omega arith)

ones_tally : (k w : ℕ) → w < 2 ^ k → ones w ≡ tally (bit w) k
unfolding ones
ones_tally zero w h = let e : w ≡ 0 = omega arith in ap ones e
ones_tally (suc k) w h =
    let half : ones (w / 2) ≡ tally (bit (w / 2)) k = ones_tally k (w / 2) (omega (arith, pow-suc 2 k)) in
    ones_step w
    ∙ ap₂ (λ x y. x + y)
    (sym (ap (λ b. cond b 1 0) (bit_zero w) ∙ digit_count (w % 2) (mod-lt w {m = 2} (omega arith))))
    (half ∙ sym (tally_same (λ i. bit w (suc i)) (bit (w / 2)) k (λ i l. bit_suc w i)))
    ∙ sym (tally_front (bit w) k)

pub ones_common : (k v w : ℕ) → v < 2 ^ k → w < 2 ^ k → ones (bit_and v w) ≡ tally (λ i. bit v i && bit w i) k
ones_common k v w hv hw =
    ones_tally k (bit_and v w) (and_lt k v w hv hw)
    ∙ tally_same (bit (bit_and v w)) (λ i. bit v i && bit w i) k (λ i l. bit-and v w i)
