use Rattle.std.proofs.Common.{is_some, Some, sym, ap, ◌∙◌}
use Rattle.std.proofs.lemmas.List.{length-set}
use Rattle.drafting.proofs.KeepAnswers.{storable_pair}
use Rattle.tree_office.specs.Seniors.{senior_in}
use Rattle.tree_office.specs.Climbing.{none_from_is_some}
use Rattle.tree_office.proofs.OneMore.{tree_more, over_more}
use Rattle.tree_office.proofs.trees.TreeSeniority.keep.Goals as goal

pub invariant_of-self : goal.invariant_of-self
invariant_of-self c =
    let t = c.args.self.now in
    let j = c.args.junior in
    let may = storable_pair c.is_over.result c.args.senior j (sym c.in_ok-storable.was ∙ c.storable.ensures) in
    let root = none_from_is_some (senior_in t j) (ap is_some (sym c.senior.ensures.value) ∙ sym c.if-is_some.ensures) in
    record {
      room = length-set t.seniors j (Some c.args.senior) ∙ t.room;
      grows = ∣ tree_more t c.args.senior j may.0 may.1 (sym c.is_over.ensures ∙ may.2) root ∣₁;
    }

pub returns-clause-after : goal.returns-clause-after
returns-clause-after c =
    let t = c.args.self.now in
    let j = c.args.junior in
    let may = storable_pair c.is_over.result c.args.senior j (sym c.in_ok-storable.was ∙ c.storable.ensures) in
    let root = none_from_is_some (senior_in t j) (ap is_some (sym c.senior.ensures.value) ∙ sym c.if-is_some.ensures) in
    over_more t c.args.senior j may.0 may.1 (sym c.is_over.ensures ∙ may.2) root
