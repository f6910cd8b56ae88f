-- A lawful set is accepted.
use Rattle.std.proofs.Common.{◌≡◌, ℕ, suc, ◌+◌, ◌<◌, true, List, [], ◌∷◌, length, get_or, take, Ok, sym, refl, ap, ◌∙◌, ap₂, arith}
use Rattle.std.specs.List.{AllByRecursion}
use Rattle.std.proofs.lemmas.List.{take_more, length-take-le}
use Rattle.std.proofs.lemmas.Grind.{common_steps}
use Rattle.std.proofs.ByRecursion.{All-get_or}
use Rattle.offices.specs.Bases.{base_roles, base_sets, office_with}
use Rattle.offices.specs.Model.{SetModel, OfficeModel, Lawful, Shaped, bound_at}
use Rattle.offices.specs.declared.base.OfficeBase.{OfficeBase}
use Rattle.offices.specs.Drafting.{missing, all_differ, all_below, good_set, set_answer, after_set}
use Rattle.law.specs.Roles.{no_set}
use Rattle.directory.specs.Heard.{first_sets}
use Rattle.directory.specs.SetWords.{members_at}
use Rattle.directory.proofs.Membership.{bound_get_or}

missing_from : (x : ℕ) (xs : List ℕ) → ((i : ℕ) → i < length xs → get_or xs i 0 ≡ x → ⊥) → missing x xs ≡ true
missing_from x [] h = refl
missing_from x (y ∷ ys) h =
    let rest = missing_from x ys (λ i l. h (suc i) (omega arith)) in
    let here = h 0 (omega arith) in
    grind (arith, common_steps)

differ_from : (xs : List ℕ) → ((p q : ℕ) → p < length xs → q < length xs → get_or xs p 0 ≡ get_or xs q 0 → p ≡ q) → all_differ xs ≡ true
differ_from [] h = refl
differ_from (x ∷ xs) h =
    let first = missing_from x xs (λ i l e. let z : suc i ≡ 0 = h (suc i) 0 (omega arith) (omega arith) e in omega arith) in
    let rest = differ_from xs (λ p q l k e. let z : suc p ≡ suc q = h (suc p) (suc q) (omega arith) (omega arith) e in omega arith) in
    grind (arith, common_steps)

below_from : (n : ℕ) (xs : List ℕ) → AllByRecursion (λ r. r < n) xs → all_below n xs ≡ true
below_from n [] h = refl
below_from n (x ∷ xs) h = grind (arith, common_steps, below_from n xs h.1, h.0)

module _ (n : ℕ) (s : SetModel) (h : Shaped n s) where
  good : good_set s.members s.bound ≡ true
  good = let differ = differ_from s.members h.differ in grind (arith, common_steps)

  accepted : (own : List SetModel) → length own < 8 → set_answer n own s.members s.bound ≡ Ok tt
  accepted own room = grind (arith, common_steps, good, below_from n s.members h.exist)

-- set k of an office, after those before it
module _ (m : OfficeModel) (law : Lawful m) (k : ℕ) (there : k < length m.sets) (b : OfficeBase) (before : office_with b m.over ≡ first_sets k m) (ms : List ℕ) (members : ms ≡ members_at m.sets k) (t : ℕ) (bound : t ≡ bound_at m.sets k) where
  pub set_accepted : set_answer (base_roles b) (base_sets b) ms t ≡ Ok tt
  set_accepted =
      let few : length (take k m.sets) ≡ k = length-take-le k m.sets (omega arith) in
      ap (λ (x : OfficeModel). set_answer x.roles x.sets ms t) before
      ∙ ap₂ (λ xs x. set_answer m.roles (take k m.sets) xs x) members (bound ∙ bound_get_or m.sets k)
      ∙ accepted m.roles (get_or m.sets k no_set) (All-get_or (Shaped m.roles) m.sets k no_set there law.shaped) (take k m.sets) (omega (arith, law.eight))

  pub set_added : after_set (Ok tt) (office_with b m.over) ms t ≡ first_sets (k + 1) m
  set_added =
      ap (λ x. after_set (Ok tt) x ms t) before
      ∙ ap₂ (λ xs x. after_set (Ok tt) (first_sets k m) xs x) members (bound ∙ bound_get_or m.sets k)
      ∙ ap (λ (xs : List SetModel). record { roles = m.roles; over = m.over; shared = m.shared; sets = xs }) (sym (take_more m.sets k no_set there))
