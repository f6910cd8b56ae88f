use Rattle.std.proofs.Common.{◌≡◌, ⊎_elim, if◌then◌else◌, ap, ◌∙◌, sym, arith}
use Rattle.std.proofs.lemmas.Bool.{cases_eq, eq-eqb, ne_eqb}
use Rattle.banks.specs.Banks.{office_at}
use Rattle.banks.specs.Joined.{at_last, at_other}
use Rattle.banks.proofs.join.Join.is_last.Goals as goal

pub returns-then-office-lt16 : goal.returns-then-office-lt16
returns-then-office-lt16 g c =
    let x = c.args.self.now in
    let ms = g.B.Bank.offices x.bank in
    let m = g.O.Office.model x.last in
    let k = c.args.office in
    let n = c.office_count.result in
    let few = g.met.B.Bank.heard x.bank in
    ⊎_elim
    (λ (e : k ≡ n). at_last ms m k (omega arith) (omega arith) ∙ sym (ap (λ b. if b then m else office_at ms k) (eq-eqb k n e)))
    (λ (d : k ≡ n → ⊥). at_other ms m k few (λ e. absurd (omega arith)) ∙ sym (ap (λ b. if b then m else office_at ms k) (ne_eqb k n d)))
    (cases_eq k n)
