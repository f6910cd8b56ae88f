-- The exclusive sets that a table holds.
use Rattle.std.specs.Prelude.{ℕ, cond, List, [], map, take, nat_le}
use Rattle.std.specs.List.{AllByRecursion}
use Rattle.offices.specs.Model.{SetModel, Shaped}
use Rattle.offices.specs.declared.exclusive.ExclusiveSet.{ExclusiveSet}

abbrev pub set_model : ExclusiveSet → SetModel
set_model s = record { members = take s.size s.members; bound = s.bound }

abbrev pub sets_of : ℕ → List ExclusiveSet → List SetModel
sets_of count xs = map set_model (take count xs)

abbrev pub AllShaped : ℕ → ℕ → List ExclusiveSet → Type 0
AllShaped roles count xs = AllByRecursion (Shaped roles) (sets_of count xs)

-- of sets made for n roles, those that fit r roles and the room
abbrev pub fitted : ℕ → ℕ → ℕ → List SetModel → List SetModel
fitted n r room own = cond (nat_le n r) (take room own) []
