-- Seniority by one direct senior for each role.
use Rattle.std.specs.Prelude.{◌≡◌, ℕ, zero, suc, ◌<◌, Bool, false, ◌&&◌, ◌||◌, List, Some, None, Option, ◌==◌, ◌≢◌, nat_lt, slice_index_or}
use Rattle.offices.specs.Order.{Order}

-- the test at the role that is there
abbrev pub on : Option ℕ → (ℕ → Bool) → Bool
on (Some p) test = test p
on None test = false

-- a comes up among the first f roles from b upward
unfoldable pub climb : ℕ → (ℕ → Option ℕ) → ℕ → ℕ → Bool
climb zero up a b = false
climb (suc f) up a b = a == b || on (up b) (climb f up a)

-- the direct senior of b
abbrev pub senior_of : List (Option ℕ) → ℕ → Option ℕ
senior_of direct b = slice_index_or direct b None

abbrev pub tree_over : ℕ → (ℕ → Option ℕ) → ℕ → ℕ → Bool
tree_over n up a b = nat_lt b n && climb 64 up a b

-- a role is over another exactly if it is that role, or is over that role's direct senior
pub record TreeLaw (n : ℕ) (up : ℕ → Option ℕ) (over : ℕ → ℕ → Bool) : Type 0 where
  pub step : (a b : ℕ) → b < n → over a b ≡ (a == b || on (up b) (over a))
  pub placed : (b p : ℕ) → up b ≡ Some p → (b < n) × (p < n) × (b ≢ p)

-- a tree without a circle
abbrev pub Grows : ℕ → (ℕ → Option ℕ) → Type 0
Grows n up = Order n (tree_over n up) × TreeLaw n up (tree_over n up)
