-- Rows that have the juniors of their starts, put together start by start.
use Rattle.std.proofs.Common.{◌≡◌, ℕ, ◌<◌, Bool, not, ◌&&◌, eqb, ltb, List, Decides, ap₂, arith}
use Rattle.std.proofs.lemmas.Nat.{div-mul-add, mod-mul-add}
use Rattle.std.proofs.lemmas.List.{get_or_past}
use Rattle.std.proofs.lemmas.Bool.Decides.{nat_tests}
use Rattle.offices.specs.Model.{OfficeModel}
use Rattle.banks.specs.Banks.{office_at, no_office}
use Rattle.banks.specs.Codes.{code, office_of, role_of}
use Rattle.law.specs.Roles.{LawfulBank, IsRole, Over}

module _ (bank : List OfficeModel) where
  -- the codes of role r of office o, and of the roles that it is over
  module _ (o r : ℕ) (lo : o < 16) (lr : r < 64) where
    office_is : office_of (code o r) ≡ o
    office_is = div-mul-add o 64 r lr

    role_is : role_of (code o r) ≡ r
    role_is = mod-mul-add o 64 r lr

    over_is : (b : ℕ) → (office_at bank (office_of (code o r))).over (role_of (code o r)) (role_of b) ≡ (office_at bank o).over r (role_of b)
    over_is b = ap₂ (λ x y. (office_at bank x).over y (role_of b)) office_is role_is

    -- a row of that office alone, with the roles that it has r over
    pub row_over :
        (roles : ℕ → Bool) → ((i : ℕ) → i < 64 → roles i ≡ (office_at bank o).over r i)
        → (b : ℕ) → Decides (ltb o 16 && (eqb (office_of b) o && roles (role_of b))) (Over bank (code o r) b)
    row_over roles e b =
        let at = e (role_of b) (omega arith) in let is = over_is b in let office = office_is in
        grind (arith, nat_tests)

    -- the same row without the role itself: the codes that a step of seniority leads to
    pub row_apart :
        (roles : ℕ → Bool) → ((i : ℕ) → i < 64 → roles i ≡ ((office_at bank o).over r i && not (eqb i r)))
        → (b : ℕ) → Decides (ltb o 16 && (eqb (office_of b) o && roles (role_of b))) ((code o r ≡ b → ⊥) × Over bank (code o r) b)
    row_apart roles e b =
        let at = e (role_of b) (omega arith) in let is = over_is b in let office = office_is in let role = role_is in
        grind (arith, nat_tests)

  -- the code of a role is below 1,024
  pub role_below : LawfulBank bank → (a : ℕ) → IsRole bank a → a < 1024
  role_below lawful a h = grind (arith, lawful.heard, get_or_past bank (office_of a) no_office)
