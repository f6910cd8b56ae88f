use Rattle.std.proofs.Common.{◌≡◌, ℕ, ◌<◌, ◌≤◌, List, length, Some, None, Option, ap, sym, ◌∙◌, Bor, MatchOption, false}
use Rattle.std.specs.List.{HoldsAt}
use Rattle.std.specs.Option.{option_copied, unwrap_or}
use Rattle.offices.specs.Members.{holds, row_holds}
use Rattle.offices.specs.declared.role_set.RoleSet.{RoleSet}
use Rattle.offices.proofs.RowFacts.{row_past}
use Rattle.directory.proofs.entries.row.Goals as goal

found : (rows : List RoleSet) (k : ℕ) (r : Option (Bor RoleSet)) (blank : RoleSet) → ((i : ℕ) → holds blank i ≡ false) → MatchOption r (length rows ≤ k) (λ x. (k < length rows) × HoldsAt (λ y. x.now ≡ y) rows k) → (i : ℕ) → holds (unwrap_or (option_copied r) blank) i ≡ row_holds rows k i
found rows k None blank none h i = none i ∙ sym (row_past rows k i h)
found rows k (Some x) blank none h i = ap (λ s. holds s i) (h.1 _)

pub returns : goal.returns
returns c i =
    ap (λ s. holds s i) (c.unwrap_or.ensures ∙ ap (λ o. unwrap_or o c.empty.result) c.copied.ensures)
    ∙ found c.args.rows.now c.from.result c.get.result c.empty.result c.empty.ensures c.get.ensures.lookup.3 i
    ∙ ap (λ k. row_holds c.args.rows.now k i) c.from.ensures
