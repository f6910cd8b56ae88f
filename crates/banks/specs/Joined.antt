-- What a bank with one office more answers.
use Rattle.std.specs.Prelude.{◌≡◌, ℕ, ◌+◌, ◌<◌, ◌≤◌, ◌⊎◌, List, [], ◌∷◌, ◌++◌, length}
use Rattle.std.proofs.Common.{sym, subst, ◌∙◌, inl, inr, ⊎_elim, arith}
use Rattle.std.proofs.lemmas.List.{length_push, length-take, get_or-take, get_or_past, get_or_append_left, get_or_push}
use Rattle.std.proofs.lemmas.Bool.{cases_lt, cases_eq, false≢true}
use Rattle.offices.specs.Model.{OfficeModel, Lawful}
use Rattle.banks.specs.Banks.{no_office, office_at, with_office}

module _ (ms : List OfficeModel) (m : OfficeModel) where
  pub length_heard : length (with_office ms m) ≤ 16
  length_heard = simp length-take (omega arith)

  pub length_with : (n : ℕ) → n ≡ length ms → n < 16 → n + 1 ≡ length (with_office ms m)
  length_with n e l = simp (length-take, length_push) (omega arith)

  pub length_full : 16 ≤ length ms → 16 ≡ length (with_office ms m)
  length_full l = simp (length-take, length_push) (omega arith)

  -- past the last office, or not heard
  pub at_none : (k : ℕ) → (length ms < k) ⊎ (16 ≤ k) → office_at (with_office ms m) k ≡ no_office
  at_none k (inl l) = get_or_past (with_office ms m) k no_office (simp (length-take, length_push) (omega arith))
  at_none k (inr l) = get_or_past (with_office ms m) k no_office (simp (length-take, length_push) (omega arith))

  module _ (k : ℕ) where
    pub at_last : k ≡ length ms → k < 16 → office_at (with_office ms m) k ≡ m
    at_last e l = get_or-take 16 (ms ++ (m ∷ [])) k no_office l ∙ get_or_push ms m no_office k (sym e)

    pub at_earlier : k < length ms → length ms ≤ 16 → office_at (with_office ms m) k ≡ office_at ms k
    at_earlier l h = get_or-take 16 (ms ++ (m ∷ [])) k no_office (omega arith) ∙ get_or_append_left ms (m ∷ []) no_office k l

    -- what is past the last office, or not heard, is there in neither bank
    pub at_neither : length ms ≤ k → (k ≡ length ms → 16 ≤ k) → office_at (with_office ms m) k ≡ office_at ms k
    at_neither l h = get_or_past (with_office ms m) k no_office (simp (length-take, length_push) (grind arith)) ∙ sym (get_or_past ms k no_office l)

    pub at_other : length ms ≤ 16 → (k ≡ length ms → 16 ≤ k) → office_at (with_office ms m) k ≡ office_at ms k
    at_other few h = ⊎_elim (λ (l : k < length ms). at_earlier l few) (λ (l : length ms ≤ k). at_neither l h) (cases_lt k (length ms))

pub none_lawful : Lawful no_office
none_lawful = record {
  few = omega arith;
  order = record {
    inside = λ a b h. absurd (false≢true h);
    itself = λ a l. absurd (omega arith);
    apart = λ a b h k. absurd (false≢true h);
    across = λ a b c h k. absurd (false≢true h);
  };
  marks = λ a h. absurd (false≢true h);
  eight = omega arith;
  shaped = tt;
}

-- where each office of a bank is lawful, so is each with one more
pub lawful_with : (ms : List OfficeModel) (m : OfficeModel) → length ms ≤ 16 → ((k : ℕ) → Lawful (office_at ms k)) → Lawful m → (k : ℕ) → Lawful (office_at (with_office ms m) k)
lawful_with ms m few each one k = ⊎_elim
    (λ (e : k ≡ length ms). ⊎_elim
    (λ (l : k < 16). subst Lawful (sym (at_last ms m k e l)) one)
    (λ (l : 16 ≤ k). other (λ _. l))
    (cases_lt k 16))
    (λ (d : k ≡ length ms → ⊥). other (λ e. absurd (d e)))
    (cases_eq k (length ms))
  where
    other : (k ≡ length ms → 16 ≤ k) → Lawful (office_at (with_office ms m) k)
    other h = subst Lawful (sym (at_other ms m k few h)) (each k)

pub lawful_one : (m : OfficeModel) → Lawful m → (k : ℕ) → Lawful (office_at (m ∷ []) k)
lawful_one m h k = ⊎_elim
    (λ (e : k ≡ 0). subst (λ x. Lawful (office_at (m ∷ []) x)) (sym e) h)
    (λ (d : k ≡ 0 → ⊥). subst Lawful (sym (get_or_past (m ∷ []) k no_office (omega arith))) none_lawful)
    (cases_eq k 0)
