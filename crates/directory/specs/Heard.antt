-- What a directory says of the offices in it.
use Rattle.std.specs.Prelude.{ℕ, List, map, take, vec_items}
use Rattle.offices.specs.Bases.{office_with}
use Rattle.offices.specs.Members.{row_holds}
use Rattle.offices.specs.Model.{OfficeModel}
use Rattle.directory.specs.declared.entry.OfficeEntry.{OfficeEntry}
use Rattle.directory.specs.declared.directory.Directory.{Directory}

abbrev pub entry_model : OfficeEntry → OfficeModel
entry_model e = office_with e.base (row_holds e.juniors)

-- the offices in it, by their numbers
unfoldable pub heard : Directory → List OfficeModel
heard d = map entry_model (vec_items d.entries)

-- an office as far as its first k sets
abbrev pub first_sets : ℕ → OfficeModel → OfficeModel
first_sets k m = record { roles = m.roles; over = m.over; shared = m.shared; sets = take k m.sets }
