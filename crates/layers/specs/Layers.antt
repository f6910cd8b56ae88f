-- The offices that the layers stand for.
use Rattle.std.specs.Prelude.{ℕ, ◌-◌, Bool, not, ◌&&◌, List, ◌++◌, length, Ok, Err, nat_eq}
use Rattle.offices.specs.Model.{OfficeModel, SetModel}
use Rattle.offices.specs.Drafting.{Answer}
use Rattle.offices.specs.Sets.{fitted}

-- the office m, with the mark off each role that `off` holds
abbrev pub withheld_model : OfficeModel → (ℕ → Bool) → OfficeModel
withheld_model m off = record { roles = m.roles; over = m.over; shared = λ a. m.shared a && not (off a); sets = m.sets }

abbrev pub after_withhold : Answer → OfficeModel → ℕ → OfficeModel
after_withhold (Ok u) m role = withheld_model m (λ a. nat_eq a role)
after_withhold (Err e) m role = m

-- the own sets, made for n roles, that count over the office m: all that there is room for, if m has those roles
abbrev pub fitting : OfficeModel → ℕ → List SetModel → List SetModel
fitting m n own = fitted n m.roles (8 - length m.sets) own

-- the office m, with these sets after its own
abbrev pub house_model : OfficeModel → ℕ → List SetModel → OfficeModel
house_model m n own = record { roles = m.roles; over = m.over; shared = m.shared; sets = m.sets ++ fitting m n own }
