use Rattle.std.proofs.Common.{◌≡◌, ℕ, ◌<◌, ◌≤◌, ◌||◌, length}
use Rattle.offices.specs.Members.{row_holds}
use Rattle.reach.proofs.row.Row.join.Given as goal

abbrev pub invariant-loop-office : goal.invariant-loop-office
invariant-loop-office l = record {
  long : length l.roles-items ≡ 16;
  done : (k : ℕ) → k < l.office → (i : ℕ) → row_holds l.roles-items k i ≡ (row_holds l.fn.self.offices k i || row_holds l.fn.other.offices k i);
  rest : (k : ℕ) → l.office ≤ k → (i : ℕ) → row_holds l.roles-items k i ≡ row_holds l.fn.self.offices k i;
}
