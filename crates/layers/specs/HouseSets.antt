-- The sets of an office with house rules.
use Rattle.std.specs.Prelude.{◌≡◌, ℕ, zero, suc, ◌+◌, ◌-◌, ◌<◌, ◌≤◌, min, ◌⊎◌, List, [], ◌∷◌, ◌++◌, length, take, None, refl}
use Rattle.std.proofs.Common.{sym, ap, ◌∙◌, append-nil, inl, inr, ⊎_elim, arith, zero-add, suc-add}
use Rattle.std.specs.List.{slice_get, AllByRecursion}
use Rattle.std.proofs.lemmas.Option.{slice_get_past}
use Rattle.std.proofs.lemmas.Bool.{cases_lt}
use Rattle.std.proofs.lemmas.List.{length-append, length-take}
use Rattle.std.proofs.ByRecursion.{All-append}
use Rattle.offices.specs.Model.{OfficeModel, SetModel, Shaped, Lawful}
use Rattle.layers.specs.Layers.{fitting, house_model}
use Rattle.offices.proofs.Fitted as F

nth_left : {X : Type 0} (xs ys : List X) (k : ℕ) → k < length xs → slice_get (xs ++ ys) k ≡ slice_get xs k
nth_left [] ys k h = absurd (omega arith)
nth_left (x ∷ xs) ys zero h = refl
nth_left (x ∷ xs) ys (suc k) h = nth_left xs ys k (omega arith)

nth_right : {X : Type 0} (xs ys : List X) (k : ℕ) → slice_get (xs ++ ys) (length xs + k) ≡ slice_get ys k
nth_right [] ys k = rw zero-add
nth_right (x ∷ xs) ys k = rw suc-add (nth_right xs ys k)

nth_take : {X : Type 0} (n : ℕ) (xs : List X) (k : ℕ) → k < n → slice_get (take n xs) k ≡ slice_get xs k
nth_take zero xs k h = absurd (omega arith)
nth_take (suc n) [] k h = refl
nth_take (suc n) (x ∷ xs) zero h = refl
nth_take (suc n) (x ∷ xs) (suc k) h = nth_take n xs k (omega arith)

module _ (m : OfficeModel) (n : ℕ) (own : List SetModel) where
  fits : n ≤ m.roles → fitting m n own ≡ take (8 - length m.sets) own
  fits h = F.fits n m.roles (8 - length m.sets) own h

  fits_not : m.roles < n → fitting m n own ≡ []
  fits_not h = F.fits_not n m.roles (8 - length m.sets) own h

  pub set_below : (k : ℕ) → k < length m.sets → slice_get (house_model m n own).sets k ≡ slice_get m.sets k
  set_below k h = nth_left m.sets (fitting m n own) k h

  pub set_own : (k : ℕ) → length m.sets ≤ k → k < 8 → n ≤ m.roles → slice_get (house_model m n own).sets k ≡ slice_get own (k - length m.sets)
  set_own k h l f =
      let e : k ≡ length m.sets + (k - length m.sets) = omega arith in
      ap (slice_get (house_model m n own).sets) e
      ∙ nth_right m.sets (fitting m n own) (k - length m.sets)
      ∙ ap (λ ss. slice_get ss (k - length m.sets)) (fits f)
      ∙ nth_take (8 - length m.sets) own (k - length m.sets) (omega arith)

  pub length_not : m.roles < n → length m.sets ≡ length (house_model m n own).sets
  length_not h = sym (ap (λ ss. length (m.sets ++ ss)) (fits_not h) ∙ ap length (append-nil m.sets))

  pub length_fits : n ≤ m.roles → length (house_model m n own).sets ≡ length m.sets + min (8 - length m.sets) (length own)
  length_fits h = ap (λ ss. length (m.sets ++ ss)) (fits h) ∙ simp (length-append, length-take)

  pub length_house : length m.sets ≤ 8 → length (house_model m n own).sets ≤ 8
  length_house l =
      ⊎_elim (λ (f : m.roles < n). omega (arith, length_not f)) (λ (f : n ≤ m.roles). omega (arith, length_fits f)) (cases_lt m.roles n)

  pub no_set : (k : ℕ) → length m.sets ≤ 8 → length m.sets ≤ k → (8 ≤ k) ⊎ (m.roles < n) → slice_get (house_model m n own).sets k ≡ None
  no_set k l h (inl f) = slice_get_past (house_model m n own).sets k (omega (arith, length_house l))
  no_set k l h (inr f) = slice_get_past (house_model m n own).sets k (omega (arith, length_not f))

  pub house_lawful : Lawful m → AllByRecursion (Shaped n) own → Lawful (house_model m n own)
  house_lawful w own_shaped = record {
    few = w.few;
    order = w.order;
    marks = w.marks;
    eight = length_house w.eight;
    shaped = All-append (Shaped m.roles) m.sets (fitting m n own) w.shaped
        (F.fitted_shaped n m.roles (8 - length m.sets) own own_shaped);
  }
