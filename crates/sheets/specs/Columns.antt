-- Numbers in six columns.
use Rattle.std.specs.Prelude.{◌≡◌, ℕ, ◌+◌, ◌-◌, ◌/◌, ◌%◌, ◌≤◌, cond, List, [], ◌∷◌, Some, None, Option, nat_lt}

-- the byte of the column that counts powers p of ten: a space where the number is below p, else its digit
abbrev pub column_byte : ℕ → ℕ → ℕ
column_byte p n = cond (nat_lt n p) 32 (48 + n / p % 10)

-- a number right-justified in six columns, without leading zeros
unfoldable pub six : ℕ → List ℕ
six n = column_byte 100000 n ∷ column_byte 10000 n ∷ column_byte 1000 n ∷ column_byte 100 n ∷ column_byte 10 n ∷ (48 + n % 10) ∷ []

-- a field holds a number exactly if it is written so
abbrev pub Holds : List ℕ → ℕ → Type 0
Holds field n = (n ≤ 999999) × (field ≡ six n)

abbrev pub HoldsNumber : List ℕ → Type 0
HoldsNumber field = (n : ℕ) × Holds field n

abbrev pub ReadsNumber : List ℕ → Option ℕ → Type 0
ReadsNumber field (Some n) = Holds field n
ReadsNumber field None = HoldsNumber field → ⊥

-- what a byte counts in its column
abbrev pub counts : ℕ → ℕ
counts b = cond (nat_lt b 48) 0 (cond (nat_lt b 58) (b - 48) 0)
