use Rattle.std.proofs.Common.{◌∙◌, arith, rules}
use Rattle.offices.specs.Bases.{base_sets}
use Rattle.offices.specs.Model.{member_at}
use Rattle.offices.proofs.Lawfulness.{table_shaped}
use Rattle.directory.specs.SetWords.{among, members_at}
use Rattle.directory.proofs.Folding.{roles_folded}
use Rattle.directory.proofs.Gathering.{gathered_all}
use Rattle.directory.proofs.Membership.{member_nth, members_few, members_exist, among_below}
use Rattle.directory.proofs.Placing.{YieldsList-from_places}
use Rattle.directory.proofs.words.word_of.Goals as goal

pub returns : goal.returns
returns c i =
    let t = c.args.base.now.table in
    let sets = base_sets c.args.base.now in
    let set = c.args.set in
    let ms = members_at sets set in
    let shaped = table_shaped t in
    let few = members_few t.roles sets shaped set in
    let exist = members_exist t.roles sets shaped set in
    roles_folded _ (λ x. x) _ _ _ _ _ _ c.fold.ensures.ran
    (YieldsList-from_places _ (member_at sets set) _ (λ p r q k. search rules) ms 8 c.map_while.ensures.source c.map_while.ensures.closure (member_nth sets set) few) c.empty.ensures (λ w x b q k. search rules) i
    ∙ gathered_all (λ j. among j ms) 64 (λ j h. let l = among_below t.roles ms exist j h in omega (arith, l, t.few)) i
