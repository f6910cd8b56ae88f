-- The members of the sets of an office.
use Rattle.std.proofs.Common.{◌≡◌, ℕ, zero, suc, ◌<◌, ◌≤◌, true, ◌||◌, eqb, List, [], ◌∷◌, ◌++◌, length, get_or, Some, None, sym, refl, ⊎_elim, arith}
use Rattle.std.specs.List.{slice_get, AllByRecursion}
use Rattle.std.proofs.lemmas.Grind.{common_steps}
use Rattle.std.proofs.lemmas.Option.{slice_get-get_or, slice_get_past}
use Rattle.std.proofs.lemmas.Bool.{false≢true, or_cases, eqb-true}
use Rattle.offices.specs.Model.{SetModel, Shaped, bound_at, member_at}
use Rattle.law.specs.Roles.{no_set}
use Rattle.directory.specs.SetWords.{among, members_at}

-- the role at a place, and the bound
pub member_nth : (sets : List SetModel) (k p : ℕ) → member_at sets k p ≡ slice_get (members_at sets k) p
member_nth [] k p = refl
member_nth (s ∷ ss) zero p = refl
member_nth (s ∷ ss) (suc k) p = member_nth ss k p

pub bound_get_or : (sets : List SetModel) (k : ℕ) → bound_at sets k ≡ (get_or sets k no_set).bound
bound_get_or [] k = refl
bound_get_or (s ∷ ss) zero = refl
bound_get_or (s ∷ ss) (suc k) = bound_get_or ss k

module _ (n : ℕ) where
  pub members_few : (sets : List SetModel) → AllByRecursion (Shaped n) sets → (k : ℕ) → length (members_at sets k) ≤ 8
  members_few [] a k = omega arith
  members_few (s ∷ ss) a zero = a.0.most
  members_few (s ∷ ss) a (suc k) = members_few ss a.1 k

  pub members_exist : (sets : List SetModel) → AllByRecursion (Shaped n) sets → (k : ℕ) → AllByRecursion (λ r. r < n) (members_at sets k)
  members_exist [] a k = tt
  members_exist (s ∷ ss) a zero = a.0.exist
  members_exist (s ∷ ss) a (suc k) = members_exist ss a.1 k

module _ (xs : List ℕ) (p : ℕ) where
  pub nth_some : (r : ℕ) → slice_get xs p ≡ Some r → (p < length xs) × (get_or xs p 0 ≡ r)
  nth_some r h = grind (arith, common_steps, slice_get-get_or xs p 0, slice_get_past xs p)

  pub nth_none : slice_get xs p ≡ None → length xs ≤ p
  nth_none h = grind (arith, common_steps, slice_get-get_or xs p 0)

pub among_push : (i : ℕ) (xs : List ℕ) (y : ℕ) → among i (xs ++ (y ∷ [])) ≡ (among i xs || eqb i y)
among_push i [] y = grind (arith, common_steps)
among_push i (x ∷ xs) y = grind (arith, common_steps, among_push i xs y)

-- what stands at a place is a member, and a member stands at a place
pub among_at : (xs : List ℕ) (p : ℕ) → p < length xs → among (get_or xs p 0) xs ≡ true
among_at [] p l = absurd (omega arith)
among_at (x ∷ xs) zero l = grind (arith, common_steps)
among_at (x ∷ xs) (suc p) l = grind (arith, common_steps, among_at xs p)

pub place_among : (i : ℕ) (xs : List ℕ) → among i xs ≡ true → (p : ℕ) × (p < length xs) × (get_or xs p 0 ≡ i)
place_among i [] h = absurd (false≢true h)
place_among i (x ∷ xs) h = ⊎_elim
    (λ (e : eqb i x ≡ true). (0, omega arith, sym (eqb-true i x e)))
    (λ (e : among i xs ≡ true). let q = place_among i xs e in (suc q.0, omega (arith, q.1), q.2))
    (or_cases (eqb i x) (among i xs) h)

-- what is among numbers below n is below n
pub among_below : (n : ℕ) (xs : List ℕ) → AllByRecursion (λ r. r < n) xs → (i : ℕ) → among i xs ≡ true → i < n
among_below n [] a i h = absurd (false≢true h)
among_below n (x ∷ xs) a i h = grind (arith, common_steps, among_below n xs a.1 i, a.0)
