-- The sets that fit keep their shape.
use Rattle.std.proofs.Common.{◌≡◌, ℕ, ◌<◌, ◌≤◌, cond, List, [], map, min, length, take, ◌⊎◌, sym, ap, ◌∙◌, ⊎_elim, arith}
use Rattle.std.specs.List.{AllByRecursion}
use Rattle.std.proofs.lemmas.Bool.{cases_lt, le-leb, lt-leb}
use Rattle.std.proofs.lemmas.List.{take-map, take-take, take_all}
use Rattle.std.proofs.ByRecursion.{All-take, All-weaker}
use Rattle.offices.specs.Model.{SetModel, Shaped}
use Rattle.offices.specs.Sets.{set_model, sets_of, fitted}
use Rattle.offices.specs.declared.exclusive.ExclusiveSet.{ExclusiveSet}
use Rattle.offices.proofs.SetRows.{length_sets}

module _ (n r room : ℕ) (own : List SetModel) where
  pub fits : n ≤ r → fitted n r room own ≡ take room own
  fits h = ap (λ b. cond b (take room own) []) (le-leb n r h)

  pub fits_not : r < n → fitted n r room own ≡ []
  fits_not h = ap (λ b. cond b (take room own) []) (lt-leb n r h)

  wider : n ≤ r → (s : SetModel) → Shaped n s → Shaped r s
  wider f s h = record {
    least = h.least;
    most = h.most;
    low = h.low;
    high = h.high;
    exist = All-weaker (λ x. x < n) (λ x. x < r) (λ x l. omega arith) s.members h.exist;
    differ = h.differ;
  }

  pub fitted_shaped : AllByRecursion (Shaped n) own → AllByRecursion (Shaped r) (fitted n r room own)
  fitted_shaped h =
      ⊎_elim
      (λ (f : r < n). rw (fits_not f) tt)
      (λ (f : n ≤ r). rw (fits f) (All-take (Shaped r) room own (All-weaker (Shaped n) (Shaped r) (wider f) own h)))
      (cases_lt r n)

-- the same by one cut, with no room where nothing fits
pub cut : (n r room k : ℕ) (own : List SetModel) → (r < n) × (k ≡ 0) ⊎ (n ≤ r) × (k ≡ room) → take k own ≡ fitted n r room own
cut n r room k own b =
    ⊎_elim
    (λ (h : (r < n) × (k ≡ 0)). ap (λ m. take m own) h.1 ∙ sym (fits_not n r room own h.0))
    (λ (h : (n ≤ r) × (k ≡ room)). ap (λ m. take m own) h.1 ∙ sym (fits n r room own h.0))
    b

-- fewer of a table's sets
pub sets_front : (c r : ℕ) (xs : List ExclusiveSet) → c ≤ length xs → sets_of (min c r) xs ≡ take r (sets_of c xs)
sets_front c r xs l =
    ⊎_elim
    (λ (h : r < c). let e : min c r ≡ r = omega arith in
    ap (λ k. sets_of k xs) e ∙ sym (take-map set_model r (take c xs) ∙ ap (map set_model) (take-take r c xs (omega arith))))
    (λ (h : c ≤ r). let e : min c r ≡ c = omega arith in
    ap (λ k. sets_of k xs) e ∙ sym (take_all r (sets_of c xs) (omega (arith, length_sets c xs l))))
    (cases_lt r c)
