-- What keeps rows, tables and steps exact.
use Rattle.std.specs.Prelude.{◌≡◌, ℕ, Bool, true, List, Decides, ◌≢◌}
use Rattle.search.specs.Asked.{Steps}
use Rattle.search.specs.Chains.{Best}
use Rattle.offices.specs.Model.{OfficeModel}
use Rattle.law.specs.Roles.{LawfulBank, IsRole, Over}
use Rattle.law.specs.Sound.{Link, Step}
use Rattle.reach.specs.Rows.{joined}
use Rattle.reach.specs.Tables.{Entered}
use Rattle.reach.specs.Steps.{has_step, WithStep}
use Rattle.reach.specs.Exact.{Exact, Only, WithLink, Juniors, ExactTable, JuniorTable, ExactlySteps}
use Rattle.reach.specs.declared.table.ReachTable.{ReachTable}
use Rattle.reach.specs.declared.step_table.StepTable.{StepTable}

-- what a test passes
abbrev pub Passing : {A : Type 0} → (A → Bool) → A → Type 0
Passing test x = test x ≡ true

abbrev pub NoLinks : Link → Type 0
NoLinks l = ⊥

-- one link more: a row that has its first code gets what is reached from its second
abbrev pub RowGrows : Type 0
RowGrows = (bank : List OfficeModel) (linked : Link → Bool) (starts f g : ℕ → Bool) (u v : ℕ)
    → Exact bank (Passing linked) (Passing starts) f → Exact bank (Passing linked) (Only v) g
    → Exact bank (WithLink (Passing linked) u v) (Passing starts) (joined f u g)

abbrev pub TableGrows : Type 0
TableGrows = (bank : List OfficeModel) (linked : Link → Bool) (held outsiders : ℕ → ℕ → Bool) (t t' : ReachTable) (u v : ℕ)
    → IsRole bank v → Entered t u v t'
    → ExactTable bank (Passing linked) (λ c. Passing (held c)) (λ o. Passing (outsiders o)) t
    → ExactTable bank (WithLink (Passing linked) u v) (λ c. Passing (held c)) (λ o. Passing (outsiders o)) t'

abbrev pub StepsGrow : Type 0
StepsGrow = (bank : List OfficeModel) (linked : Link → Bool) (t t' : StepTable) (u v : ℕ)
    → LawfulBank bank → IsRole bank u → IsRole bank v → WithStep t u v t'
    → ExactlySteps bank (Passing linked) t → ExactlySteps bank (WithLink (Passing linked) u v) t'

-- no link: a row that has the juniors of some roles is exact for these
abbrev pub RowBegins : Type 0
RowBegins = (bank : List OfficeModel) (starts f : ℕ → Bool)
    → LawfulBank bank → ((a : ℕ) → starts a ≡ true → IsRole bank a) → Juniors bank (Passing starts) f
    → Exact bank NoLinks (Passing starts) f

abbrev pub TableBegins : Type 0
TableBegins = (bank : List OfficeModel) (held outsiders : ℕ → ℕ → Bool) (t : ReachTable)
    → LawfulBank bank → ((c a : ℕ) → held c a ≡ true → IsRole bank a) → ((o a : ℕ) → outsiders o a ≡ true → IsRole bank a)
    → JuniorTable bank (λ c. Passing (held c)) (λ o. Passing (outsiders o)) t
    → ExactTable bank NoLinks (λ c. Passing (held c)) (λ o. Passing (outsiders o)) t

-- with no link, the steps are those to the other codes that a code is over
abbrev pub StepsBegin : Type 0
StepsBegin = (bank : List OfficeModel) (t : StepTable)
    → ((a b : ℕ) → Decides (has_step t a b) ((a ≢ b) × Over bank a b))
    → ExactlySteps bank NoLinks t

-- where the steps are exact, the best chain by them is the best by seniority and the links
abbrev pub BestBySteps : Type 0
BestBySteps = (bank : List OfficeModel) (linked : Link → Bool) (starts : ℕ → Bool) (t : StepTable) (b : ℕ) (xs : List ℕ)
    → ExactlySteps bank (Passing linked) t
    → Best (Steps (has_step t)) (Passing starts) b xs → Best (Step bank (Passing linked)) (Passing starts) b xs
