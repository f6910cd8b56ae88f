-- What a reach table says, and how a link changes it.
use Rattle.std.specs.Prelude.{◌≡◌, ℕ, Bool}
use Rattle.reach.specs.Rows.{rows_have, Blank, joined}
use Rattle.reach.specs.declared.table.ReachTable.{ReachTable}

-- the code b is reached from the code a
abbrev pub code_reaches : ReachTable → ℕ → ℕ → Bool
code_reaches t = rows_have t.codes

-- from the roles of card c
abbrev pub card_reaches : ReachTable → ℕ → ℕ → Bool
card_reaches t = rows_have t.cards

-- from the roles of all the offices that office o does not trust
abbrev pub owner_reaches : ReachTable → ℕ → ℕ → Bool
owner_reaches t = rows_have t.owners

pub record NothingReached (t : ReachTable) : Type 0 where
  pub codes : Blank t.codes
  pub cards : Blank t.cards
  pub owners : Blank t.owners

-- the table after a link from u to v: each row that has u also has what the code v reaches
pub record Entered (t : ReachTable) (u v : ℕ) (t' : ReachTable) : Type 0 where
  pub codes : (a b : ℕ) → code_reaches t' a b ≡ joined (code_reaches t a) u (code_reaches t v) b
  pub cards : (c b : ℕ) → card_reaches t' c b ≡ joined (card_reaches t c) u (code_reaches t v) b
  pub owners : (o b : ℕ) → owner_reaches t' o b ≡ joined (owner_reaches t o) u (code_reaches t v) b
