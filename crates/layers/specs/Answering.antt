-- Who answers for a set of an office with house rules.
use Rattle.std.specs.Prelude.{◌≡◌, ℕ, None}
use Rattle.std.specs.List.{slice_get}
use Rattle.offices.specs.Model.{OfficeModel}
use Rattle.offices.specs.Bases.{table_sets}
use Rattle.offices.specs.declared.table.SetTable.{SetTable}
use Rattle.layers.specs.Housed.{housed}
use Rattle.layers.specs.declared.house.Answerer.{Answerer}
use Rattle.layers.specs.declared.house.Answerer.TheVariants.{Lower, Own, Nobody}

abbrev pub Answers : Answerer → OfficeModel → SetTable → ℕ → Type 0
Answers Lower m t k = slice_get (housed m t).sets k ≡ slice_get m.sets k
Answers (Own i) m t k = slice_get (housed m t).sets k ≡ slice_get (table_sets t) i
Answers Nobody m t k = slice_get (housed m t).sets k ≡ None
