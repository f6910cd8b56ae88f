-- Which codes a row has, and rows by their places.
use Rattle.std.specs.Prelude.{◌≡◌, ℕ, Bool, false, cond, ◌&&◌, ◌||◌, replicate, ◌==◌, nat_lt, slice_index_or}
use Rattle.offices.specs.Members.{nobody, row_holds}
use Rattle.banks.specs.Codes.{office_of, role_of}
use Rattle.reach.specs.declared.row.Row.{Row}
use Rattle.reach.specs.declared.rows.Rows.{Rows}

-- the code b is below 1,024, and its role is among those of its office
unfoldable pub has : Row → ℕ → Bool
has r b = nat_lt b 1024 && row_holds r.offices (office_of b) (role_of b)

-- the row with no code
abbrev pub blank : Row
blank = record { offices = replicate 16 nobody }

-- row a has the code b; a row that is not there has none
unfoldable pub rows_have : {n : ℕ} → Rows n → ℕ → ℕ → Bool
rows_have t a b = has (slice_index_or t.rows.items a blank) b

-- rows with no code
abbrev pub Blank : {n : ℕ} → Rows n → Type 0
Blank t = (a b : ℕ) → rows_have t a b ≡ false

-- n rows, of which row k is written, if there is one
abbrev pub replaced : ℕ → (ℕ → ℕ → Bool) → ℕ → (ℕ → Bool) → ℕ → ℕ → Bool
replaced n rows k row a b = cond (a == k && nat_lt k n) (row b) (rows a b)

-- what x has, and where it has u also what `beyond` has
abbrev pub joined : (ℕ → Bool) → ℕ → (ℕ → Bool) → ℕ → Bool
joined x u beyond b = x b || (x u && beyond b)
