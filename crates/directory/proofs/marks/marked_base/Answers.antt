use Rattle.std.proofs.Common.{sym, refl, ap, ◌∙◌, arith}
use mathlib.Core.Path.{fun_ext}
use Rattle.offices.specs.Bases.{office_with}
use Rattle.offices.specs.Model.{OfficeModel}
use Rattle.offices.specs.declared.base.OfficeBase.{OfficeBase}
use Rattle.directory.proofs.Gathering.{gathered_none}
use Rattle.directory.proofs.Listing.{same_model}
use Rattle.directory.proofs.Marking.{first_marks, marked_more, marked_same}
use Rattle.directory.proofs.marks.marked_base.Goals as goal
use Rattle.directory.proofs.marks.marked_base.Goals.{then-is_shared, else-is_shared}

pub loop-role-init : goal.loop-role-init
loop-role-init g c =
    let m = g.O.Office.model c.args.office.now in
    let law = g.met.O.Office.lawful c.args.office.now in
    let new = c.new-base.ensures in
    same_model c.new-base.result m.over (first_marks 0 m) (omega (arith, law.few, c.role_count-roles.ensures, new.1)) refl
    (ap (λ (x : OfficeModel). x.shared) new.0 ∙ fun_ext (gathered_none m.shared)) (ap (λ (x : OfficeModel). x.sets) new.0)

pub loop-role-preserved : goal.loop-role-preserved
loop-role-preserved g c =
    let m = g.O.Office.model c.args.office.now in
    let j = c.loop-role.role in
    let before = office_with c.loop-role.base m.over in
    elim c.if-is_shared.branch [
      | then-is_shared w ↦ ap (λ (b : OfficeBase). office_with b m.over) w.base-is ∙ (rw w.unwrap.ensures at w.share.ensures.after m.over) ∙ marked_more m before j c.loop-role.invariant (sym w.if-is_shared.ensures)
      | else-is_shared w ↦ ap (λ (b : OfficeBase). office_with b m.over) w.base-is ∙ marked_same m before j c.loop-role.invariant (sym w.if-is_shared.ensures)
    ]
