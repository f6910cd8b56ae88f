-- An office with the sets of a table after its own.
use Rattle.offices.specs.Model.{OfficeModel}
use Rattle.offices.specs.Bases.{table_roles, table_sets}
use Rattle.offices.specs.declared.table.SetTable.{SetTable}
use Rattle.layers.specs.Layers.{house_model}

abbrev pub housed : OfficeModel → SetTable → OfficeModel
housed m t = house_model m (table_roles t) (table_sets t)
