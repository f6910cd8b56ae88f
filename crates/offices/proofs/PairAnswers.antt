-- The answer to a pair of one role, and to one that follows already.
use Rattle.std.proofs.Common.{◌≡◌, ℕ, ◌<◌, Bool, true, false, ◌&&◌, ◌||◌, eqb, ltb, Ok, Err, sym}
use Rattle.std.proofs.lemmas.Bool.{lt-ltb, eq-eqb, ne_eqb, and_from, or_left, or_from}
use Rattle.answers.specs.declared.Refusal.TheVariants.{Circular}
use Rattle.offices.specs.Drafting.{Answer, pair_answer}

module _ (n : ℕ) (over : ℕ → ℕ → Bool) (own : Answer) (s j : ℕ) (ls : s < n) (lj : j < n) where
  there : (ltb s n && ltb j n) ≡ true
  there = and_from (ltb s n) (ltb j n) (lt-ltb s n ls) (lt-ltb j n lj)

  pub answer_same : s ≡ j → Err Circular ≡ pair_answer n over own s j
  answer_same e = let c = or_left (eqb s j) (over j s) (eq-eqb s j e) in sym (rw (there, c))

  pub answer_follows : (s ≡ j → ⊥) → over j s ≡ false → over s j ≡ true → Ok tt ≡ pair_answer n over own s j
  answer_follows ne apart h =
      let clear : (eqb s j || over j s) ≡ false = or_from (eqb s j) (over j s) (ne_eqb s j ne) apart in
      sym (rw (there, clear, h))
