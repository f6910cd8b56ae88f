-- What an office is to everything above it: its answers to six questions, and the laws that they keep.
use Rattle.std.specs.Prelude.{◌≡◌, ℕ, ◌<◌, ◌≤◌, Bool, true, List, length, Some, None, Option, slice_index}
use Rattle.std.specs.List.{slice_get, AllByRecursion}
use Rattle.offices.specs.Order.{Order}

-- an exclusive set: its roles in their fixed order, and its bound
pub record SetModel : Type 0 where
  pub members : List ℕ
  pub bound : ℕ

-- how many roles there are, which is over which, which are shared, and the exclusive sets
pub record OfficeModel : Type 0 where
  pub roles : ℕ
  pub over : ℕ → ℕ → Bool
  pub shared : ℕ → Bool
  pub sets : List SetModel

abbrev pub bound_of : Option SetModel → ℕ
bound_of (Some s) = s.bound
bound_of None = 0

abbrev pub member_of : Option SetModel → ℕ → Option ℕ
member_of (Some s) p = slice_get s.members p
member_of None p = None

-- the bound of set k, or 0
abbrev pub bound_at : List SetModel → ℕ → ℕ
bound_at sets k = bound_of (slice_get sets k)

-- the role at place p of set k, or nothing
abbrev pub member_at : List SetModel → ℕ → ℕ → Option ℕ
member_at sets k p = member_of (slice_get sets k) p

-- a set of an office with n roles: 2 to 8 different roles, and a bound from 2 to their number
pub record Shaped (n : ℕ) (s : SetModel) : Type 0 where
  pub least : 2 ≤ length s.members
  pub most : length s.members ≤ 8
  pub low : 2 ≤ s.bound
  pub high : s.bound ≤ length s.members
  pub exist : AllByRecursion (λ r. r < n) s.members
  pub differ : (p q : ℕ) → p < length s.members → q < length s.members → slice_index s.members p ≡ slice_index s.members q → p ≡ q

-- the laws of every office
pub record Lawful (m : OfficeModel) : Type 0 where
  pub few : m.roles ≤ 64
  pub order : Order m.roles m.over
  pub marks : (a : ℕ) → m.shared a ≡ true → a < m.roles
  pub eight : length m.sets ≤ 8
  pub shaped : AllByRecursion (Shaped m.roles) m.sets
