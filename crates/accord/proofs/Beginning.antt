-- Tables and history begin in accord, and tables in accord with a right history are proper.
use Rattle.std.proofs.Common.{refl, inl, inr, arith}
use Rattle.std.proofs.lemmas.Bool.{both_ways}
use Rattle.law.proofs.Kept.{all_kept}
use Rattle.accord.specs.Accord.{EmptyAgrees, AgreeProper}
use Rattle.accord.proofs.Choosing.{some_none}

pub empty_agrees : EmptyAgrees
empty_agrees t e = record {
  homes = λ c o. ((λ x. absurd x), λ x. absurd (some_none (t.home c) o (e.1 c) x));
  holdings = λ c r. ((λ x. absurd x), λ x. absurd (some_none (t.home c) _ (e.1 c) x.0));
  trust = λ o p. (
    (λ x. elim x [ inl i ↦ inl i | inr s ↦ absurd s ]),
    λ x. elim x [ inl i ↦ inl i | inr k ↦ absurd (both_ways _ (e.2 o p) k) ],
  );
  standing = λ l. ((λ x. absurd x), λ x. absurd (let i = x.1 in omega (arith, e.0)));
  suspended = λ l. ((λ x. absurd x), λ x. absurd (let i = x.1 in omega (arith, e.0)));
  apart = λ i j l k. absurd (omega (arith, e.0));
}

pub agree_proper : AgreeProper
agree_proper bank t h right a = let kept = all_kept bank h right in record {
  ends = λ i l. let k = kept.ends (t.link i) ((a.standing (t.link i)).1 (i, l, refl)) in (k.0, k.1);
  roles = λ c r x. (kept.holdings c r ((a.holdings c r).1 x)).1;
  cards = λ c o x. let k = kept.cards c o ((a.homes c o).1 x) in omega arith;
}
