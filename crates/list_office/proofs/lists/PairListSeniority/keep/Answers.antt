use Rattle.std.proofs.Common.{set, Ok, sym, ◌∙◌, subst, arith, length-set}
use Rattle.std.proofs.lemmas.Bool.Decides.{nat_tests}
use Rattle.offices.specs.Members.{row_holds}
use Rattle.drafting.proofs.KeepAnswers.{storable_pair}
use Rattle.list_office.specs.declared.pair.Pair.{Pair}
use Rattle.list_office.specs.Listed.{pairs_in}
use Rattle.list_office.specs.Pairs.{Rows, Acyclic}
use Rattle.list_office.specs.PairProps.{rows_from, acyclic_from}
use Rattle.list_office.proofs.Answering.{over_kept}
use Rattle.list_office.proofs.PairFacts.{rows_push, acyclic_push}
use Rattle.list_office.proofs.lists.PairListSeniority.keep.Goals as goal

pub invariant_of-self : goal.invariant_of-self
invariant_of-self c =
    let l = c.args.self.now in
    let p : Pair = record { senior = c.args.senior; junior = c.args.junior } in
    let may = storable_pair c.is_over.result p.senior p.junior (sym c.in_ok-storable.was ∙ c.storable.ensures) in
    let rows = l.rows in
    let more = sym c.push.ensures.items in
    let juniors = set l.juniors p.senior c.with-below.result in
    record {
      most = grind (arith, nat_tests);
      rows = length-set l.juniors p.senior c.with-below.result ∙ l.rows;
      steps = ∣ subst (Rows (row_holds juniors)) more (rows_push l.juniors (pairs_in l) p c.with-below.result (omega (arith, may.0)) may.1 (rows_from (row_holds l.juniors) (pairs_in l) l.steps) c.with-below.ensures) ∣₁;
      order = ∣ subst (Acyclic 64) more (acyclic_push 64 (pairs_in l) p (acyclic_from 64 (pairs_in l) l.order) may.0 may.1 (sym c.is_over.ensures ∙ may.2)) ∣₁;
    }

pub returns-clause-after : goal.returns-clause-after
returns-clause-after c =
    over_kept (Ok tt) (pairs_in c.args.self.now) _ (record { senior = c.args.senior; junior = c.args.junior }) c.push.ensures.items
