-- Which roles a set of roles holds, and a relation kept as one set for each role.
use Rattle.std.specs.Prelude.{◌≡◌, ℕ, ◌<◌, Bool, true, false, ◌&&◌, List, Some, None, Option, slice_index_or}
use Rattle.search.specs.Chains.{tally}
use Rattle.offices.specs.Word.{bit}
use Rattle.offices.specs.declared.role_set.RoleSet.{RoleSet}

abbrev pub holds : RoleSet → ℕ → Bool
holds s r = bit s.word r

abbrev pub nobody : RoleSet
nobody = record { word = 0 }

-- the row of a holds b
abbrev pub row_holds : List RoleSet → ℕ → ℕ → Bool
row_holds rows a b = holds (slice_index_or rows a nobody) b

-- the lowest role that the first holds and the second lacks
abbrev pub FirstOutside : RoleSet → RoleSet → Option ℕ → Type 0
FirstOutside s t None = (i : ℕ) → holds s i ≡ true → holds t i ≡ true
FirstOutside s t (Some r) =
    (r < 64) × (holds s r ≡ true) × (holds t r ≡ false) × ((i : ℕ) → i < r → holds s i ≡ true → holds t i ≡ true)

-- how many roles both hold
unfoldable pub common_roles : RoleSet → RoleSet → ℕ
common_roles s t = tally (λ i. holds s i && holds t i) 64
