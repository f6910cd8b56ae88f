-- Lines and tokens match.
use Rattle.std.specs.Prelude.{◌≡◌, ℕ, List, length, Ok, Result}
use Rattle.answers.specs.declared.Refusal.{Refusal}
use Rattle.sheets.specs.declared.fault.Fault.{Fault}
use Rattle.sheets.specs.declared.token.Token.{Token}
use Rattle.sheets.specs.Slips.{meaning, written, Writable}
use Rattle.sheets.specs.Reading.{Reads, Means}
use Rattle.sheets.specs.Fields.{Clean}
use Rattle.sheets.specs.Writing.{Writes}

-- a line reads as a token exactly if the token can be written and this is its line
abbrev pub Exactly : Type 0
Exactly =
    (line : List ℕ) (r : Result Token Fault) → Reads line r → (t : Token)
    → (Means r (meaning t) → Writable (meaning t) × (line ≡ written (meaning t)))
    × (Writable (meaning t) × (line ≡ written (meaning t)) → Means r (meaning t))

-- the two calls agree: `read_line` answers with the token exactly if `write_line` accepts it and leaves this line
abbrev pub CallsAgree : Type 0
CallsAgree =
    (line : List ℕ) (r : Result Token Fault) → Reads line r
    → (t : Token) (before after : List ℕ) (a : Result (Unit {0}) Refusal) → length before ≡ 20 → Writes t before a after
    → (Means r (meaning t) → (a ≡ Ok tt) × (after ≡ line))
    × ((a ≡ Ok tt) × (after ≡ line) → Means r (meaning t))

-- tokens that differ have lines that differ
abbrev pub Apart : Type 0
Apart =
    (t u : Token) → Writable (meaning t) → Writable (meaning u) → written (meaning t) ≡ written (meaning u)
    → meaning t ≡ meaning u

-- no line with a stray byte, a leading zero or a number that is not right-justified reads as a token
abbrev pub FieldsClean : Type 0
FieldsClean = (line : List ℕ) (t : Token) → Reads line (Ok t) → Clean (meaning t) line

abbrev pub LinesAndTokensMatch : Type 0
LinesAndTokensMatch = Exactly × CallsAgree × Apart × FieldsClean
