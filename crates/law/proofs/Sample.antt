-- The sample bank is lawful.
use Rattle.std.proofs.Common.{◌≡◌, ℕ, zero, suc, ◌<◌, ◌≤◌, Bool, true, not, ◌&&◌, ◌||◌, eqb, ltb, List, [], ◌∷◌, length, get_or, refl, subst, inl, inr, arith}
use Rattle.std.specs.List.{AllByRecursion}
use Rattle.std.proofs.lemmas.List.{get_or_past}
use Rattle.std.proofs.lemmas.Bool.{and_parts, or_cases, eqb-true, ltb-true, not-true, false≢true, both_ways, cases_lt}
use Rattle.offices.specs.Model.{SetModel, Shaped, Lawful}
use Rattle.banks.specs.Banks.{office_at}
use Rattle.banks.specs.Joined.{none_lawful}
use Rattle.law.specs.Roles.{LawfulBank}
use Rattle.law.specs.Examples.{among, listed, sample}
use Rattle.law.proofs.Counts.{upto, in_upto}
use Rattle.law.proofs.Closures.{all, all_in, among_in}

module _ (rows : List (List ℕ)) (marks : List ℕ) (sets : List SetModel) where
  abbrev row : ℕ → List ℕ
  row a = get_or rows a []

  -- what the three laws come to at a role
  abbrev orderly_at : ℕ → Bool
  orderly_at a = (among a (row a) && all (λ b. ltb b (length rows)) (row a)) && all (λ b. (eqb a b || not (among a (row b))) && all (λ c. among c (row a)) (row b)) (row a)

  lawful_by : length rows ≤ 64 → all orderly_at (upto (length rows)) ≡ true → all (λ a. ltb a (length rows)) marks ≡ true → length sets ≤ 8 → AllByRecursion (Shaped (length rows)) sets → Lawful (listed rows marks sets)
  lawful_by few e shares eight shaped = record {
    few = few;
    order = record {
      inside = λ a b o. (there a b o, ltb-true b (length rows) (all_in (λ b. ltb b (length rows)) (row a) (and_parts (among a (row a)) _ (and_parts _ _ (at a (there a b o))).0).1 b (among_in b (row a) o)));
      itself = λ a h. (and_parts (among a (row a)) _ (and_parts _ _ (at a h)).0).0;
      apart = λ a b o p. elim (or_cases (eqb a b) _ (and_parts (eqb a b || not (among a (row b))) _ (under a b o)).0) [ inl i ↦ eqb-true a b i | inr i ↦ absurd (both_ways _ (not-true _ i) p) ];
      across = λ a b c o p. all_in (λ c. among c (row a)) (row b) (and_parts (eqb a b || not (among a (row b))) _ (under a b o)).1 c (among_in c (row b) p);
    };
    marks = λ a o. ltb-true a (length rows) (all_in (λ a. ltb a (length rows)) marks shares a (among_in a marks o));
    eight = eight;
    shaped = shaped;
  }
    where
      there : (a b : ℕ) → among b (row a) ≡ true → a < length rows
      there a b o = elim (cases_lt a (length rows)) [ inl h ↦ h | inr h ↦ absurd (false≢true (subst (λ r. among b r ≡ true) (get_or_past rows a [] h) o)) ]

      at : (a : ℕ) → a < length rows → orderly_at a ≡ true
      at a h = all_in orderly_at (upto (length rows)) e a (in_upto (length rows) a h)

      under : (a b : ℕ) → among b (row a) ≡ true → ((eqb a b || not (among a (row b))) && all (λ c. among c (row a)) (row b)) ≡ true
      under a b o = all_in (λ b. (eqb a b || not (among a (row b))) && all (λ c. among c (row a)) (row b)) (row a) (and_parts (among a (row a) && all (λ b. ltb b (length rows)) (row a)) _ (at a (there a b o))).1 b (among_in b (row a) o)

abbrev two_roles : SetModel
two_roles = record { members = 1 ∷ 2 ∷ []; bound = 2 }

two_shaped : Shaped 4 two_roles
two_shaped = record { least = omega arith; most = omega arith; low = omega arith; high = omega arith; exist = (omega arith, (omega arith, tt)); differ = apart }
  where
    apart : (p q : ℕ) → p < 2 → q < 2 → get_or two_roles.members p 0 ≡ get_or two_roles.members q 0 → p ≡ q
    apart zero zero h i e = refl
    apart zero (suc zero) h i e = absurd (omega arith)
    apart zero (suc (suc q)) h i e = absurd (omega arith)
    apart (suc zero) zero h i e = absurd (omega arith)
    apart (suc zero) (suc zero) h i e = refl
    apart (suc zero) (suc (suc q)) h i e = absurd (omega arith)
    apart (suc (suc p)) q h i e = absurd (omega arith)

pub sample_lawful : LawfulBank sample
sample_lawful = record { heard = omega arith; lawful = go }
  where
    go : (o : ℕ) → Lawful (office_at sample o)
    go zero = lawful_by ((0 ∷ []) ∷ (1 ∷ 3 ∷ []) ∷ (2 ∷ 3 ∷ []) ∷ (3 ∷ []) ∷ []) (1 ∷ 2 ∷ 3 ∷ []) (two_roles ∷ []) (omega arith) refl refl (omega arith) (two_shaped, tt)
    go (suc zero) = lawful_by ((0 ∷ 1 ∷ 2 ∷ []) ∷ (1 ∷ 2 ∷ []) ∷ (2 ∷ []) ∷ []) (0 ∷ 1 ∷ 2 ∷ []) [] (omega arith) refl refl (omega arith) tt
    go (suc (suc zero)) = lawful_by ((0 ∷ 1 ∷ []) ∷ (1 ∷ []) ∷ []) (1 ∷ []) [] (omega arith) refl refl (omega arith) tt
    go (suc (suc (suc o))) = none_lawful
