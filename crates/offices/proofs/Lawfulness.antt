-- An office over a shared part is lawful where its seniority is an order.
use Rattle.std.proofs.Common.{ℕ, Bool, arith}
use Rattle.std.specs.List.{AllByRecursion}
use Rattle.offices.specs.Model.{Lawful, Shaped}
use Rattle.offices.specs.Order.{Order}
use Rattle.offices.specs.Bases.{table_roles, table_sets, base_roles, office_with}
use Rattle.offices.specs.declared.table.SetTable.{SetTable}
use Rattle.offices.specs.declared.base.OfficeBase.{OfficeBase}
use Rattle.offices.proofs.Props.{shaped_from}
use Rattle.offices.proofs.SetRows.{length_sets}

pub table_shaped : (t : SetTable) → AllByRecursion (Shaped (table_roles t)) (table_sets t)
table_shaped t = shaped_from (table_roles t) (table_sets t) t.shaped

pub office_lawful : (b : OfficeBase) (over : ℕ → ℕ → Bool) → Order (base_roles b) over → Lawful (office_with b over)
office_lawful b over o =
    let t = b.table in
    record {
      few = t.few;
      order = o;
      marks = b.marked;
      eight = omega (arith, length_sets t.count t.sets (omega (arith, t.eight, t.room)), t.eight);
      shaped = table_shaped t;
    }
