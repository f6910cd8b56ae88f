use Rattle.std.proofs.Common.{◌≡◌}
use Rattle.offices.specs.Bases.{office_with}
use Rattle.directory.specs.Heard.{first_sets}
use Rattle.directory.proofs.sets.base_of.Given as goal

abbrev pub invariant-loop-set : goal.invariant-loop-set
invariant-loop-set g l =
    let m = g.O.Office.model l.office in
    office_with l.base m.over ≡ first_sets l.set m
