-- A bank by the offices that are heard, and the codes of its roles.
use Rattle.std.specs.Prelude.{ℕ, false, List, [], ◌∷◌, ◌++◌, take, slice_index_or}
use Rattle.offices.specs.Model.{OfficeModel}

-- the answers of an office that is not there
abbrev pub no_office : OfficeModel
no_office = record { roles = 0; over = λ a b. false; shared = λ a. false; sets = [] }

abbrev pub office_at : List OfficeModel → ℕ → OfficeModel
office_at bank o = slice_index_or bank o no_office

-- one office more; the first 16 are heard
abbrev pub with_office : List OfficeModel → OfficeModel → List OfficeModel
with_office bank m = take 16 (bank ++ (m ∷ []))
