use Rattle.std.proofs.Common.{◌≡◌, ◌≤◌, length, take}
use Rattle.directory.specs.SetWords.{members_at}
use Rattle.directory.proofs.sets.listed_members.Given as goal

abbrev pub invariant-loop-place : goal.invariant-loop-place
invariant-loop-place g l =
    let ms = members_at (g.O.Office.model l.office).sets l.set in
    record { within : l.place ≤ length ms; same : l.members.items ≡ take l.place ms }
