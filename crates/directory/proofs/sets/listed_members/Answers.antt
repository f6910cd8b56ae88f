use Rattle.std.proofs.Common.{[], ◌∷◌, ◌++◌, take, sym, ap, ◌∙◌, arith}
use Rattle.std.proofs.lemmas.List.{take_all, take_more}
use Rattle.directory.specs.SetWords.{members_at}
use Rattle.directory.proofs.Membership.{member_nth, nth_some, nth_none}
use Rattle.directory.proofs.sets.listed_members.Goals as goal

pub returns-in_default : goal.returns-in_default
returns-in_default g c =
    let sets = (g.O.Office.model c.args.office.now).sets in
    let ms = members_at sets c.args.set in
    let p = c.loop-place.place in
    let none = sym c.set_member.ensures ∙ c.in_default.is in
    let end = nth_none ms p (sym (member_nth sets c.args.set p) ∙ none) in
    c.loop-place.invariant.same ∙ take_all p ms end

pub loop-place-preserved : goal.loop-place-preserved
loop-place-preserved g c =
    let sets = (g.O.Office.model c.args.office.now).sets in
    let ms = members_at sets c.args.set in
    let p = c.loop-place.place in
    let at = nth_some ms p c.in-Some.role (sym (member_nth sets c.args.set p) ∙ sym c.in-Some.ensures) in
    record {
      within = omega (arith, at.0);
      same = c.push.ensures.items ∙ ap (λ xs. xs ++ (c.in-Some.role ∷ [])) c.loop-place.invariant.same ∙ ap (λ x. take p ms ++ (x ∷ [])) (sym at.1) ∙ sym (take_more ms p 0 at.0);
    }
