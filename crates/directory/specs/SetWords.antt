-- The members of an exclusive set, and the sets of roles that hold the members of each.
use Rattle.std.specs.Prelude.{◌≡◌, ℕ, Bool, false, ◌||◌, List, [], ◌∷◌, ◌==◌, slice_index_or}
use Rattle.offices.specs.Model.{SetModel}
use Rattle.offices.specs.Members.{row_holds}
use Rattle.offices.specs.declared.role_set.RoleSet.{RoleSet}
use Rattle.law.specs.Roles.{no_set}

-- i is one of these
abbrev pub among : ℕ → List ℕ → Bool
among i [] = false
among i (x ∷ xs) = i == x || among i xs

-- the members of set k, none where there is no such set
abbrev pub members_at : List SetModel → ℕ → List ℕ
members_at sets k = (slice_index_or sets k no_set).members

-- row k holds the members of set k
abbrev pub WordsHold : List RoleSet → List SetModel → Type 0
WordsHold words sets = (k i : ℕ) → row_holds words k i ≡ among i (members_at sets k)
