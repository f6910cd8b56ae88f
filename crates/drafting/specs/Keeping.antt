-- What a kind of seniority answers.
use Rattle.std.specs.Prelude.{ℕ, Bool, cond, not, ◌&&◌, ◌||◌, Err, ◌==◌, nat_lt}
use Rattle.answers.specs.declared.Refusal.TheVariants.{NoSuchRole, Circular}
use Rattle.offices.specs.Drafting.{Answer}

-- the answer to a pair among 64 roles, where `circle` says whether the junior is over the senior
abbrev pub checked : Bool → Answer → ℕ → ℕ → Answer
checked circle own s j = cond (nat_lt s 64 && nat_lt j 64) (cond circle (Err Circular) own) (Err NoSuchRole)

-- every role is over itself, so senior and junior may be one here
abbrev pub keep_answer : (ℕ → ℕ → Bool) → Answer → ℕ → ℕ → Answer
keep_answer over own s j = checked (over j s) own s j

-- the pair is answered without a look at what the kind stores: no such role, one role twice, or it follows already
abbrev pub settled : ℕ → (ℕ → ℕ → Bool) → ℕ → ℕ → Bool
settled n over s j = not (nat_lt s n && nat_lt j n) || (s == j || over s j)
