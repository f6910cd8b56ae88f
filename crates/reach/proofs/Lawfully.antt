-- The laws, over links, holdings and starts that tests pass.
use Rattle.reach.specs.Laws.{RowGrows, TableGrows, StepsGrow, RowBegins, TableBegins, StepsBegin, BestBySteps, Passing, NoLinks}
use Rattle.reach.proofs.Exactness.{exact_more, exact_none}
use Rattle.reach.proofs.JuniorRows.{role_below}
use Rattle.reach.proofs.ExactTables.{table_more, table_none}
use Rattle.reach.proofs.ExactSteps.{steps_more, steps_none, best_by_steps}

pub row_grows : RowGrows
row_grows bank linked starts f g u v ef eg = exact_more bank (Passing linked) u v (Passing starts) f g ef eg

pub table_grows : TableGrows
table_grows bank linked held outsiders t t' u v rv e x =
    table_more bank (λ c. Passing (held c)) (λ o. Passing (outsiders o)) (Passing linked) t t' u v rv e x

pub steps_grow : StepsGrow
steps_grow bank linked t t' u v lawful ru rv e x =
    steps_more bank (Passing linked) t t' u v (role_below bank lawful u ru) (role_below bank lawful v rv) e x

pub row_begins : RowBegins
row_begins bank starts f lawful roles e = exact_none bank lawful NoLinks (λ l h. h) (Passing starts) roles f e

pub table_begins : TableBegins
table_begins bank held outsiders t lawful holders outside x =
    table_none bank (λ c. Passing (held c)) (λ o. Passing (outsiders o)) NoLinks lawful (λ l h. h) holders outside t x

pub steps_begin : StepsBegin
steps_begin bank t e = steps_none bank NoLinks (λ l h. h) t e

pub best_steps : BestBySteps
best_steps bank linked starts t b xs x p = best_by_steps bank (Passing linked) t x (Passing starts) (Passing starts) (λ a s. s) (λ a s. s) b xs p
