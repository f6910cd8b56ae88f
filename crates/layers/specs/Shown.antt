-- A layer by its answers; `model` is what the office below says.
use Rattle.offices.specs.Model.{OfficeModel}
use Rattle.offices.specs.Members.{holds}
use Rattle.layers.specs.Layers.{withheld_model}
use Rattle.layers.specs.Housed.{housed}
use Rattle.layers.specs.declared.withheld.Withheld.{Withheld}
use Rattle.layers.specs.declared.house.HouseRules.{HouseRules}

abbrev pub withheld_as : {O : Type 0} → (O → OfficeModel) → Withheld O → OfficeModel
withheld_as model x = withheld_model (model x.below) (holds x.withheld)

abbrev pub housed_as : {O : Type 0} → (O → OfficeModel) → HouseRules O → OfficeModel
housed_as model x = housed (model x.below) x.own
