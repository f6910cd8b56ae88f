use Rattle.std.proofs.Common.{◌≡◌, ℕ, ◌<◌, ◌≤◌}
use Rattle.reach.specs.Rows.{has, joined}
use Rattle.reach.proofs.Places.{at_place}
use Rattle.reach.proofs.rows.Rows.extend.Given as goal

abbrev pub invariant-loop-row : goal.invariant-loop-row
invariant-loop-row g l = record {
  done : (a b : ℕ) → a < l.row-index → at_place l.row-items a b ≡ joined (at_place l.fn.self.rows.items a) l.fn.from (has l.fn.beyond) b;
  rest : (a b : ℕ) → l.row-index ≤ a → at_place l.row-items a b ≡ at_place l.fn.self.rows.items a b;
}
