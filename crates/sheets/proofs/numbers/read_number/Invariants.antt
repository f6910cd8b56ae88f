use Rattle.std.proofs.Common.{◌≡◌}
use Rattle.sheets.proofs.Counted.{upto}
use Rattle.sheets.proofs.numbers.read_number.Given as goal

abbrev pub invariant-loop-byte : goal.invariant-loop-byte
invariant-loop-byte l = l.number ≡ upto l.field l.byte-index
