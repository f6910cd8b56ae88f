-- The office that a shared part and a seniority make, sealed or under drafting.
use Rattle.std.specs.Prelude.{ℕ, Bool}
use Rattle.offices.specs.Model.{OfficeModel}
use Rattle.offices.specs.Order.{within}
use Rattle.offices.specs.Bases.{base_roles, office_with}
use Rattle.offices.specs.declared.base.OfficeBase.{OfficeBase}
use Rattle.drafting.specs.declared.sealed.Sealed.{Sealed}
use Rattle.drafting.specs.declared.draft.Draft.{Draft}

-- seniority is kept among 64 roles, and the office has the first of them
abbrev pub office_of : OfficeBase → (ℕ → ℕ → Bool) → OfficeModel
office_of b over = office_with b (within (base_roles b) over)

-- a sealed office by its answers; `over` is what its kind of seniority says
abbrev pub sealed_as : {S : Type 0} → (S → ℕ → ℕ → Bool) → Sealed S → OfficeModel
sealed_as over x = office_of x.base (over x.seniority)

-- the office that sealing the draft would give
abbrev pub drafted_as : {S : Type 0} → (S → ℕ → ℕ → Bool) → Draft S → OfficeModel
drafted_as over d = sealed_as over d.office
