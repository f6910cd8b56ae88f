use Rattle.std.proofs.Common.{◌≡◌, ℕ, ◌<◌, false, ◌&&◌, ◌||◌, eqb, ltb, sym, ap, ◌∙◌, ap₂, ⊎_elim, arith, rules}
use Rattle.std.proofs.lemmas.Bool.{cases_lt, lt-ltb, le-ltb}
use Rattle.offices.specs.Members.{holds, nobody}
use Rattle.offices.specs.declared.role_set.RoleSet.{RoleSet}
use Rattle.offices.specs.Order.{itself_alone}
use Rattle.std.proofs.Math.Bool.{and-true}
use Rattle.offices.proofs.RowFacts.{row_past}
use Rattle.matrix_office.proofs.rows.diagonal.Goals as goal

alone_at : (a b : ℕ) (e r : RoleSet) → a < 64 → ((i : ℕ) → holds e i ≡ false) → ((i : ℕ) → holds r i ≡ (holds e i || (eqb i a && ltb a 64))) → holds r b ≡ itself_alone 64 a b
alone_at a b e r l none told =
    told b ∙ ap₂ (λ x y. x || (eqb b a && y)) (none b) (lt-ltb a 64 l) ∙ and-true (eqb b a) ∙ sym (ap (λ x. x && eqb b a) (lt-ltb a 64 l))

pub returns : goal.returns
returns c a b =
    let h = c.from_fn.ensures.items in
    ⊎_elim
    (λ (l : a < 64). let k = (h.at a nobody l).2 in search (rules, alone_at))
    (λ l. row_past c.from_fn.result a b (omega (arith, h.long)) ∙ sym (ap (λ x. x && eqb b a) (le-ltb a 64 l)))
    (cases_lt a 64)
