-- What the shared part of an office says of it.
use Rattle.std.specs.Prelude.{ℕ, Bool, List}
use Rattle.offices.specs.Model.{OfficeModel, SetModel}
use Rattle.offices.specs.Members.{holds}
use Rattle.offices.specs.Sets.{sets_of}
use Rattle.offices.specs.declared.table.SetTable.{SetTable}
use Rattle.offices.specs.declared.base.OfficeBase.{OfficeBase}

abbrev pub table_sets : SetTable → List SetModel
table_sets t = sets_of t.count t.sets

abbrev pub table_roles : SetTable → ℕ
table_roles t = t.roles

abbrev pub base_roles : OfficeBase → ℕ
base_roles b = b.table.roles

abbrev pub base_sets : OfficeBase → List SetModel
base_sets b = table_sets b.table

abbrev pub base_shared : OfficeBase → ℕ → Bool
base_shared b = holds b.shared

-- the office with this seniority
abbrev pub office_with : OfficeBase → (ℕ → ℕ → Bool) → OfficeModel
office_with b over = record { roles = base_roles b; over = over; shared = base_shared b; sets = base_sets b }
