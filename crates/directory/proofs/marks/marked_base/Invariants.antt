use Rattle.std.proofs.Common.{◌≡◌}
use Rattle.offices.specs.Bases.{office_with}
use Rattle.directory.proofs.Marking.{first_marks}
use Rattle.directory.proofs.marks.marked_base.Given as goal

abbrev pub invariant-loop-role : goal.invariant-loop-role
invariant-loop-role g l =
    let m = g.O.Office.model l.office in
    office_with l.base m.over ≡ first_marks l.role m
