-- In an office in columns, a role is over itself and those before it in its column, and over no other.
use Rattle.std.specs.Prelude.{◌≡◌, ℕ, ◌%◌, ◌<◌, ◌≤◌, true, ◌==◌, nat_le, nat_lt}
use Rattle.std.proofs.lemmas.Bool.{and_parts, and_from, ltb-true, lt-ltb, eqb-true, eq-eqb, leb-true, le-leb}
use Rattle.cases.specs.Columns.{columns_model}

-- what it tells that a is over b
pub told : (n a b : ℕ) → (columns_model n).over a b ≡ true → (a < n) × (b < n) × (a % 8 ≡ b % 8) × (b ≤ a)
told n a b h =
    let p = and_parts (nat_lt a n) _ h in
    let q = and_parts (nat_lt b n) _ p.1 in
    let r = and_parts (a % 8 == b % 8) (nat_le b a) q.1 in
    (ltb-true a n p.0, ltb-true b n q.0, eqb-true (a % 8) (b % 8) r.0, leb-true b a r.1)

-- what tells that a is over b
pub tell : (n a b : ℕ) → a < n → b < n → a % 8 ≡ b % 8 → b ≤ a → (columns_model n).over a b ≡ true
tell n a b la lb e l =
    and_from (nat_lt a n) _ (lt-ltb a n la) (and_from (nat_lt b n) _ (lt-ltb b n lb) (and_from (a % 8 == b % 8) (nat_le b a) (eq-eqb (a % 8) (b % 8) e) (le-leb b a l)))
