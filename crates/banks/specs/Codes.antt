-- The codes of a bank's roles.
use Rattle.std.specs.Prelude.{ℕ, ◌+◌, ◌*◌, ◌/◌, ◌%◌, cond, List, Some, None, Option, nat_lt}
use Rattle.offices.specs.Model.{OfficeModel}
use Rattle.banks.specs.Banks.{office_at}
use Rattle.banks.specs.declared.codes.RoleAt.{RoleAt}

-- the code of a role, and back
abbrev pub code : ℕ → ℕ → ℕ
code o r = o * 64 + r

abbrev pub office_of : ℕ → ℕ
office_of c = c / 64

abbrev pub role_of : ℕ → ℕ
role_of c = c % 64

-- the code of role r of office o, if there is such a role
abbrev pub code_answer : List OfficeModel → ℕ → ℕ → Option ℕ
code_answer bank o r = cond (nat_lt r (office_at bank o).roles) (Some (code o r)) None

-- the role that has the code c, if there is one
abbrev pub role_answer : List OfficeModel → ℕ → Option RoleAt
role_answer bank c = cond (nat_lt (role_of c) (office_at bank (office_of c)).roles) (Some (record { office = office_of c; role = role_of c })) None
