-- A row that is not there gains nothing.
use Rattle.std.proofs.Common.{◌≡◌, ℕ, ◌≤◌, Bool, ◌&&◌, ◌||◌, List, length, sym, ap, ◌∙◌}
use Rattle.offices.specs.Members.{row_holds}
use Rattle.offices.specs.declared.role_set.RoleSet.{RoleSet}
use Rattle.offices.proofs.RowFacts.{row_past}
use Rattle.matrix_office.specs.Rows.{joined}

pub joined_past : (rows : List RoleSet) (s : ℕ) (below : ℕ → Bool) (a b : ℕ) → length rows ≤ a → row_holds rows a b ≡ joined (row_holds rows) s below a b
joined_past rows s below a b h =
    row_past rows a b h ∙ sym (ap (λ x. x || (row_holds rows a s && below b)) (row_past rows a b h) ∙ ap (λ x. x && below b) (row_past rows a s h))
