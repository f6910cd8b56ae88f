-- Seniority among 64 roles, seen among the first n of them.
use Rattle.std.specs.Prelude.{◌≡◌, ℕ, ◌<◌, ◌≤◌, Bool, true, false, not, ◌&&◌, ◌||◌, Ok, Err, ◌==◌, nat_lt, refl}
use Rattle.std.proofs.Common.{sym, ap, ◌∙◌, ⊎_elim, arith}
use Rattle.std.proofs.Math.Path.{fun_ext}
use Rattle.std.proofs.lemmas.Bool.{and_parts, and_from, and_left, and_right, or_left, or_right, or_from, or_cases, lt-ltb, le-ltb, ltb-true, eq-eqb, eqb-true, ne_eqb, not_from_true, not_from_false}
use Rattle.offices.specs.Order.{Order, itself_alone, grown, within}
use Rattle.offices.specs.Drafting.{Answer, pair_answer, over_after, after_pair}
use Rattle.offices.specs.Bases.{base_roles, office_with}
use Rattle.offices.specs.declared.base.OfficeBase.{OfficeBase}
use Rattle.drafting.specs.Keeping.{keep_answer, settled}
use Rattle.drafting.specs.Models.{office_of}

module _ (n : ℕ) (over : ℕ → ℕ → Bool) where
  pub within_parts : (a b : ℕ) → within n over a b ≡ true → (a < n) × (b < n) × (over a b ≡ true)
  within_parts a b h =
      let p = and_parts (nat_lt a n && nat_lt b n) (over a b) h in
      let q = and_parts (nat_lt a n) (nat_lt b n) p.0 in
      (ltb-true a n q.0, ltb-true b n q.1, p.1)

  pub within_from : (a b : ℕ) → a < n → b < n → over a b ≡ true → within n over a b ≡ true
  within_from a b la lb h = and_from (nat_lt a n && nat_lt b n) (over a b) (and_from (nat_lt a n) (nat_lt b n) (lt-ltb a n la) (lt-ltb b n lb)) h

  pub within_at : (a b : ℕ) → a < n → b < n → within n over a b ≡ over a b
  within_at a b la lb = ap (λ x. x && over a b) (and_from (nat_lt a n) (nat_lt b n) (lt-ltb a n la) (lt-ltb b n lb))

  pub within_order : n ≤ 64 → Order 64 over → Order n (within n over)
  within_order few o = record {
    inside = λ a b h. let p = within_parts a b h in (p.0, p.1);
    itself = λ a l. within_from a a l l (o.itself a (omega arith));
    apart = λ a b h k. o.apart a b (within_parts a b h).2 (within_parts b a k).2;
    across = λ a b c h k.
        let p = within_parts a b h in
        let q = within_parts b c k in
        within_from a c p.0 q.1 (o.across a b c p.2 q.2);
  }

-- two tests that hold together are one
same_test : (x y : Bool) → (x ≡ true → y ≡ true) → (y ≡ true → x ≡ true) → x ≡ y
same_test true y f g = sym (f refl)
same_test false true f g = g refl
same_test false false f g = refl

pub within_alone : (n : ℕ) → n ≤ 64 → within n (itself_alone 64) ≡ itself_alone n
within_alone n few = fun_ext (λ a. fun_ext (λ b. same_test (within n (itself_alone 64) a b) (itself_alone n a b) (there a b) (back a b)))
  where
    there : (a b : ℕ) → within n (itself_alone 64) a b ≡ true → itself_alone n a b ≡ true
    there a b h = let p = within_parts n (itself_alone 64) a b h in and_from (nat_lt a n) (b == a) (lt-ltb a n p.0) (and_parts (nat_lt a 64) (b == a) p.2).1

    back : (a b : ℕ) → itself_alone n a b ≡ true → within n (itself_alone 64) a b ≡ true
    back a b h =
        let p = and_parts (nat_lt a n) (b == a) h in
        let la = ltb-true a n p.0 in
        let e = eqb-true b a p.1 in
        within_from n (itself_alone 64) a b la (omega arith) (and_from (nat_lt a 64) (b == a) (lt-ltb a 64 (omega arith)) p.1)

module _ (n : ℕ) (over : ℕ → ℕ → Bool) (s j : ℕ) (ls : s < n) (lj : j < n) where
  pub within_grown : within n (grown over s j) ≡ grown (within n over) s j
  within_grown = fun_ext (λ a. fun_ext (λ b. same_test (within n (grown over s j) a b) (grown (within n over) s j a b) (there a b) (back a b)))
    where
      there : (a b : ℕ) → within n (grown over s j) a b ≡ true → grown (within n over) s j a b ≡ true
      there a b h =
          let p = within_parts n (grown over s j) a b h in
          ⊎_elim
          (λ t. or_left (within n over a b) (within n over a s && within n over j b) (within_from n over a b p.0 p.1 t))
          (λ t. let q = and_parts (over a s) (over j b) t in or_right (within n over a b) (within n over a s && within n over j b) (and_from (within n over a s) (within n over j b) (within_from n over a s p.0 ls q.0) (within_from n over j b lj p.1 q.1)))
          (or_cases (over a b) (over a s && over j b) p.2)

      back : (a b : ℕ) → grown (within n over) s j a b ≡ true → within n (grown over s j) a b ≡ true
      back a b h = ⊎_elim
          (λ t. let p = within_parts n over a b t in within_from n (grown over s j) a b p.0 p.1 (or_left (over a b) (over a s && over j b) p.2))
          (λ t.
          let q = and_parts (within n over a s) (within n over j b) t in
          let x = within_parts n over a s q.0 in
          let y = within_parts n over j b q.1 in
          within_from n (grown over s j) a b x.0 y.1 (or_right (over a b) (over a s && over j b) (and_from (over a s) (over j b) x.2 y.2)))
          (or_cases (within n over a b) (within n over a s && within n over j b) h)

  pub within_after : (r : Answer) → within n (over_after r over s j) ≡ over_after r (within n over) s j
  within_after (Ok u) = within_grown
  within_after (Err e) = refl

-- the kind's answer is the draft's, where the draft has not answered already
module _ (n : ℕ) (over : ℕ → ℕ → Bool) (own : Answer) (s j : ℕ) (few : n ≤ 64) (ls : s < n) (lj : j < n) (ne : s ≡ j → ⊥) (new : over s j ≡ false) where
  pub answer_kept : keep_answer over own s j ≡ pair_answer n (within n over) own s j
  answer_kept =
      let small : (nat_lt s 64 && nat_lt j 64) ≡ true = and_from (nat_lt s 64) (nat_lt j 64) (lt-ltb s 64 (omega arith)) (lt-ltb j 64 (omega arith)) in
      let there : (nat_lt s n && nat_lt j n) ≡ true = and_from (nat_lt s n) (nat_lt j n) (lt-ltb s n ls) (lt-ltb j n lj) in
      let up = within_at n over j s lj ls in
      let apart = ne_eqb s j ne in
      rw (small, there, apart, up, new)

  pub not_settled : settled n (within n over) s j ≡ false
  not_settled =
      let there : (nat_lt s n && nat_lt j n) ≡ true = and_from (nat_lt s n) (nat_lt j n) (lt-ltb s n ls) (lt-ltb j n lj) in
      or_from (not (nat_lt s n && nat_lt j n)) (s == j || within n over s j) (not_from_true (nat_lt s n && nat_lt j n) there) (or_from (s == j) (within n over s j) (ne_eqb s j ne) (within_at n over s j ls lj ∙ new))

module _ (n : ℕ) (over : ℕ → ℕ → Bool) (s j : ℕ) where
  pub settled_senior : n ≤ s → settled n over s j ≡ true
  settled_senior l = or_left (not (nat_lt s n && nat_lt j n)) (s == j || over s j) (not_from_false (nat_lt s n && nat_lt j n) (and_left (nat_lt s n) (nat_lt j n) (le-ltb s n l)))

  pub settled_junior : n ≤ j → settled n over s j ≡ true
  settled_junior l = or_left (not (nat_lt s n && nat_lt j n)) (s == j || over s j) (not_from_false (nat_lt s n && nat_lt j n) (and_right (nat_lt s n) (nat_lt j n) (le-ltb j n l)))

  pub settled_same : s ≡ j → settled n over s j ≡ true
  settled_same e = or_right (not (nat_lt s n && nat_lt j n)) (s == j || over s j) (or_left (s == j) (over s j) (eq-eqb s j e))

  pub settled_known : over s j ≡ true → settled n over s j ≡ true
  settled_known h = or_right (not (nat_lt s n && nat_lt j n)) (s == j || over s j) (or_right (s == j) (over s j) h)

-- the office after the seniority took a pair
pub office_after : (b : OfficeBase) (over new : ℕ → ℕ → Bool) (r : Answer) (s j : ℕ) → s < base_roles b → j < base_roles b → new ≡ over_after r over s j → office_of b new ≡ after_pair r (office_of b over) s j
office_after b over new r s j ls lj e = ap (λ x. office_with b (within (base_roles b) x)) e ∙ ap (office_with b) (within_after (base_roles b) over s j ls lj r)
