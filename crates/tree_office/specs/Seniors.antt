-- What a tree says of its roles.
use Rattle.std.specs.Prelude.{ℕ, Bool, cond, is_some, Some, Ok, Err, Option, ◌==◌}
use Rattle.answers.specs.declared.Refusal.TheVariants.{SeniorTaken}
use Rattle.offices.specs.Drafting.{Answer}
use Rattle.tree_office.specs.declared.tree.Tree.{Tree}
use Rattle.tree_office.specs.Climb.{senior_of, tree_over}

abbrev pub senior_in : Tree → ℕ → Option ℕ
senior_in t = senior_of t.seniors

abbrev pub climbed : Tree → ℕ → ℕ → Bool
climbed t = tree_over 64 (senior_in t)

-- the answer to a pair that does not follow already, by the direct senior that the junior has
abbrev pub free_answer : Option ℕ → Answer
free_answer up = cond (is_some up) (Err SeniorTaken) (Ok tt)

-- the direct seniors after a pair was answered so
abbrev pub with_senior : Answer → (ℕ → Option ℕ) → ℕ → ℕ → ℕ → Option ℕ
with_senior (Ok u) up s j b = cond (b == j) (Some s) (up b)
with_senior (Err e) up s j b = up b
