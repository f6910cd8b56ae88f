-- A set that passes the tests has the shape of an exclusive set.
use Rattle.std.proofs.Common.{◌≡◌, ℕ, zero, suc, ◌<◌, ◌≤◌, true, not, eqb, ltb, leb, List, [], ◌∷◌, ◌++◌, map, ◌+◌, take, set, length, get_or, sym, refl, ap, ◌∙◌, arith}
use Rattle.std.specs.List.{AllByRecursion}
use Rattle.std.proofs.lemmas.Bool.{and_parts, ltb-true, leb-true, eq-eqb, both_ways, not-true}
use Rattle.std.proofs.lemmas.List.{take_more_set, map_push}
use Rattle.offices.specs.Sets.{set_model, sets_of}
use Rattle.offices.specs.declared.exclusive.ExclusiveSet.{ExclusiveSet}
use Rattle.offices.specs.Drafting.{missing, all_differ, all_below}
use Rattle.offices.specs.Model.{Shaped}
use Rattle.offices.specs.Drafting.{good_set}

exist : (n : ℕ) (ms : List ℕ) → all_below n ms ≡ true → AllByRecursion (λ r. r < n) ms
exist n [] h = tt
exist n (x ∷ xs) h = let p = and_parts (ltb x n) (all_below n xs) h in (ltb-true x n p.0, exist n xs p.1)

not_there : (x : ℕ) (xs : List ℕ) (i : ℕ) → missing x xs ≡ true → i < length xs → get_or xs i 0 ≡ x → ⊥
not_there x [] i h l e = omega arith
not_there x (y ∷ ys) zero h l e = both_ways (eqb y x) (not-true (eqb y x) (and_parts (not (eqb y x)) (missing x ys) h).0) (eq-eqb y x e)
not_there x (y ∷ ys) (suc i) h l e = not_there x ys i (and_parts (not (eqb y x)) (missing x ys) h).1 (omega arith) e

differ : (ms : List ℕ) → all_differ ms ≡ true → (i j : ℕ) → i < length ms → j < length ms → get_or ms i 0 ≡ get_or ms j 0 → i ≡ j
differ [] h i j l k e = absurd (omega arith)
differ (x ∷ xs) h zero zero l k e = refl
differ (x ∷ xs) h zero (suc j) l k e = absurd (not_there x xs j (and_parts (missing x xs) (all_differ xs) h).0 (omega arith) (sym e))
differ (x ∷ xs) h (suc i) zero l k e = absurd (not_there x xs i (and_parts (missing x xs) (all_differ xs) h).0 (omega arith) e)
differ (x ∷ xs) h (suc i) (suc j) l k e = ap suc (differ xs (and_parts (missing x xs) (all_differ xs) h).1 i j (omega arith) (omega arith) e)

pub shaped_good : (n : ℕ) (ms : List ℕ) (t : ℕ) → good_set ms t ≡ true → all_below n ms ≡ true → Shaped n (record { members = ms; bound = t })
shaped_good n ms t h b =
    let p = and_parts (leb 2 (length ms)) _ h in
    let q = and_parts (leb (length ms) 8) _ p.1 in
    let r = and_parts (leb 2 t) _ q.1 in
    let s = and_parts (leb t (length ms)) (all_differ ms) r.1 in
    record {
      least = leb-true 2 (length ms) p.0;
      most = leb-true (length ms) 8 q.0;
      low = leb-true 2 t r.0;
      high = leb-true t (length ms) s.0;
      exist = exist n ms b;
      differ = differ ms s.1;
    }

pub good_few : (ms : List ℕ) (t : ℕ) → good_set ms t ≡ true → length ms ≤ 8
good_few ms t h = leb-true (length ms) 8 (and_parts (leb (length ms) 8) _ (and_parts (leb 2 (length ms)) _ h).1).0

pub sets_push : (c : ℕ) (xs : List ExclusiveSet) (s : ExclusiveSet) → c < length xs → sets_of (c + 1) (set xs c s) ≡ sets_of c xs ++ (set_model s ∷ [])
sets_push c xs s h = ap (map set_model) (take_more_set xs c s h) ∙ map_push set_model (take c xs) s
