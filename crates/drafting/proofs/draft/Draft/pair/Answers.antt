use Rattle.std.proofs.Common.{◌≡◌, ◌<◌, Bool, true, false, Ok, sym, refl, ap, ◌∙◌, ⊎_elim, arith}
use Rattle.std.specs.Bool.{MatchBool}
use Rattle.std.proofs.lemmas.Bool.{cases_Bool}
use Rattle.answers.specs.declared.Refusal.TheVariants.{NoSuchRole, Circular}
use Rattle.offices.specs.Order.{within, grown}
use Rattle.offices.specs.Bases.{base_roles, office_with}
use Rattle.offices.specs.Drafting.{pair}
use Rattle.offices.proofs.Closing.{grown_same}
use Rattle.offices.proofs.Histories.{keeps_refused, keeps_pair, keeps_to}
use Rattle.offices.proofs.PairAnswers.{answer_same, answer_follows}
use Rattle.drafting.specs.Models.{office_of}
use Rattle.drafting.specs.Within.{within_at, within_order, answer_kept, not_settled, settled_senior, settled_junior, settled_same, settled_known, office_after}
use Rattle.drafting.proofs.draft.Draft.pair.Goals as goal

-- what a test that is known says of the one or the other
first_of : (b : Bool) (P Q : Type 0) → b ≡ true → P → MatchBool b P Q
first_of true P Q e p = p
first_of false P Q e p = cc

second_of : (b : Bool) (P Q : Type 0) → b ≡ false → Q → MatchBool b P Q
second_of false P Q e q = q
second_of true P Q e q = cc

pub returns-then-senior-roles-clause-kind : goal.returns-then-senior-roles-clause-kind
returns-then-senior-roles-clause-kind g c =
    let d = c.args.self.now.office in
    let n = base_roles d.base in
    let seen = within n (g.S.Seniority.over d.seniority) in
    let e : c.role_count-roles.result ≡ n = c.role_count-roles.ensures in
    first_of _ _ _
    (⊎_elim
    (λ out. settled_senior n seen c.args.senior c.args.junior (omega arith))
    (λ out. settled_junior n seen c.args.senior c.args.junior (omega (arith, out.1)))
    c.then-senior-roles.either)
    refl

pub returns-then-senior-roles-clause-history : goal.returns-then-senior-roles-clause-history
returns-then-senior-roles-clause-history g c =
    let d = c.args.self.now.office in
    keeps_refused (office_of d.base (g.S.Seniority.over d.seniority)) (pair c.args.senior c.args.junior) NoSuchRole

pub returns-then-senior-junior : goal.returns-then-senior-junior
returns-then-senior-junior g c =
    let d = c.args.self.now.office in
    let s = c.args.senior in
    let j = c.args.junior in
    let n = base_roles d.base in
    let over = g.S.Seniority.over d.seniority in
    record {
      answer = answer_same n (within n over) (g.S.Seniority.own d.seniority s j) s j (omega arith) (omega arith) c.if-senior-junior.true;
      after = refl;
      kind = first_of _ _ _ (settled_same n (within n over) s j c.if-senior-junior.true) refl;
      history = keeps_refused (office_of d.base over) (pair s j) Circular;
    }

pub returns-then-is_over : goal.returns-then-is_over
returns-then-is_over g c =
    let d = c.args.self.now.office in
    let s = c.args.senior in
    let j = c.args.junior in
    let n = base_roles d.base in
    let over = g.S.Seniority.over d.seniority in
    let order = g.met.S.Seniority.order d.seniority in
    let ls : s < n = omega arith in
    let lj : j < n = omega arith in
    let follows : over s j ≡ true = sym c.if-is_over.ensures in
    let seen : within n over s j ≡ true = within_at n over s j ls lj ∙ follows in
    let apart : within n over j s ≡ false = within_at n over j s lj ls ∙ ⊎_elim (λ t. absurd (c.if-senior-junior.false (order.apart s j follows t))) (λ f. f) (cases_Bool (over j s)) in
    let same : within n over ≡ grown (within n over) s j = sym (grown_same n (within n over) (within_order n over d.base.table.few order) s j seen) in
    let after = ap (office_with d.base) same in
    record {
      answer = answer_follows n (within n over) (g.S.Seniority.own d.seniority s j) s j ls lj c.if-senior-junior.false apart seen;
      after = after;
      kind = first_of _ _ _ (settled_known n (within n over) s j seen) refl;
      history = keeps_to _ _ _ _ _ after (keeps_pair (office_of d.base over) s j (Ok tt) (λ e. (ls, lj)));
    }

pub returns : goal.returns
returns g c =
    let d = c.args.self.now.office in
    let s = c.args.senior in
    let j = c.args.junior in
    let n = base_roles d.base in
    let over = g.S.Seniority.over d.seniority in
    let own = g.S.Seniority.own d.seniority s j in
    let ls : s < n = omega arith in
    let lj : j < n = omega arith in
    let ne = c.if-senior-junior.false in
    let new : over s j ≡ false = sym c.if-is_over.ensures in
    let few = d.base.table.few in
    let e = c.keep.ensures in
    let after = office_after d.base over (g.S.Seniority.over c.keep.new.self) c.keep.result s j ls lj e.after in
    record {
      answer = e.answer ∙ answer_kept n over own s j few ls lj ne new;
      after = after;
      kind = second_of _ _ _ (not_settled n over own s j few ls lj ne new) e.stored;
      history = keeps_to _ _ _ _ _ after (keeps_pair (office_of d.base over) s j c.keep.result (λ x. (ls, lj)));
    }
