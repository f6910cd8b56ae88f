-- The offices, roles and sets of a bank, by their numbers and codes.
use Rattle.std.specs.Prelude.{◌≡◌, ℕ, ◌<◌, ◌≤◌, true, List, [], length, slice_index, slice_index_or}
use Rattle.offices.specs.Model.{OfficeModel, SetModel, Lawful}
use Rattle.banks.specs.Banks.{office_at}
use Rattle.banks.specs.Codes.{code, office_of, role_of}

-- at most sixteen offices are heard, and each is lawful
pub record LawfulBank (bank : List OfficeModel) : Type 0 where
  pub heard : length bank ≤ 16
  pub lawful : (o : ℕ) → Lawful (office_at bank o)

-- what the questions about a set that is not there get
abbrev pub no_set : SetModel
no_set = record { members = []; bound = 0 }

abbrev pub set_at : List OfficeModel → ℕ → ℕ → SetModel
set_at bank o k = slice_index_or (office_at bank o).sets k no_set

-- the code of the role at place p of a set of office o
abbrev pub member_code : ℕ → SetModel → ℕ → ℕ
member_code o set p = code o (slice_index set.members p)

abbrev pub IsOffice : List OfficeModel → ℕ → Type 0
IsOffice bank o = o < length bank

-- c is the code of a role (an office that is not there has no roles)
abbrev pub IsRole : List OfficeModel → ℕ → Type 0
IsRole bank c = role_of c < (office_at bank (office_of c)).roles

abbrev pub IsSet : List OfficeModel → ℕ → ℕ → Type 0
IsSet bank o k = k < length (office_at bank o).sets

-- two codes of one office, which has the first over the second
abbrev pub Over : List OfficeModel → ℕ → ℕ → Type 0
Over bank a b = (office_of a ≡ office_of b) × ((office_at bank (office_of a)).over (role_of a) (role_of b) ≡ true)
