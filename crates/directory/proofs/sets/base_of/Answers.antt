use Rattle.std.proofs.Common.{◌<◌, length, refl, ◌∙◌, arith}
use Rattle.directory.proofs.Adding.{set_accepted, set_added}
use Rattle.directory.proofs.sets.base_of.Goals as goal

pub unwrap-requires : goal.unwrap-requires
unwrap-requires g c =
    let m = g.O.Office.model c.args.office.now in
    let law = g.met.O.Office.lawful c.args.office.now in
    let there : c.loop-set.set < length m.sets = omega arith in
    let members = c.deref.ensures.0 ∙ c.listed_members-members.ensures in
    let e = c.exclude.ensures.answer ∙ set_accepted m law c.loop-set.set there c.loop-set.base c.loop-set.invariant _ members _ c.set_bound.ensures in rw e refl

pub loop-set-preserved : goal.loop-set-preserved
loop-set-preserved g c =
    let m = g.O.Office.model c.args.office.now in
    let law = g.met.O.Office.lawful c.args.office.now in
    let there : c.loop-set.set < length m.sets = omega arith in
    let members = c.deref.ensures.0 ∙ c.listed_members-members.ensures in
    (rw c.unwrap.ensures at c.exclude.ensures.after m.over) ∙ set_added m law c.loop-set.set there c.loop-set.base c.loop-set.invariant _ members _ c.set_bound.ensures
