-- What a token means, which line is written for it, and which tokens can be written.
use Rattle.std.specs.Prelude.{◌≡◌, ℕ, ◌<◌, ◌≤◌, List, ◌++◌, length, codes, slice_index}
use Rattle.sheet_words.specs.declared.PairWord.{PairWord}
use Rattle.sheet_words.specs.declared.PairWord.TheVariants as word
use Rattle.sheet_words.specs.declared.Word.TheVariants.{Pair}
use Rattle.sheet_words.specs.declared.Word.TheVariants as sole
use Rattle.sheet_words.specs.Words.{word_of}
use Rattle.sheets.specs.declared.token.Token.{Token}
use Rattle.sheets.specs.declared.token.Token.TheVariants.{Issue, Assign, Relieve, Handback, Trust, Distrust, Link, Try, Suspend, Resume, Withdraw, May, Box, Send}
use Rattle.sheets.specs.Columns.{six}

-- a token as plain values: its word and its numbers, or the bytes of its shelf mark
pub data Slip : Type 0 where
  pair_slip : PairWord → ℕ → ℕ → Slip
  handback_slip : ℕ → Slip
  box_slip : List ℕ → Slip
  send_slip : Slip

abbrev pub meaning : Token → Slip
meaning (Issue card office) = pair_slip word.Issue card office
meaning (Assign card code) = pair_slip word.Assign card code
meaning (Relieve card code) = pair_slip word.Relieve card code
meaning (Handback card) = handback_slip card
meaning (Trust truster trusted) = pair_slip word.Trust truster trusted
meaning (Distrust truster trusted) = pair_slip word.Distrust truster trusted
meaning (Link from to) = pair_slip word.Link from to
meaning (Try from to) = pair_slip word.Try from to
meaning (Suspend from to) = pair_slip word.Suspend from to
meaning (Resume from to) = pair_slip word.Resume from to
meaning (Withdraw from to) = pair_slip word.Withdraw from to
meaning (May card code) = pair_slip word.May card code
meaning (Box mark) = box_slip mark.now
meaning Send = send_slip

-- six unused columns
abbrev pub blank : List ℕ
blank = codes "      "

-- the word in columns 1 to 8, and what follows it in columns 9 to 20
abbrev pub written : Slip → List ℕ
written (pair_slip w a b) = word_of (Pair w) ++ (six a ++ six b)
written (handback_slip a) = word_of sole.Handback ++ (six a ++ blank)
written (box_slip mark) = word_of sole.Box ++ mark
written send_slip = word_of sole.Send ++ (blank ++ blank)

-- a shelf mark: twelve bytes from the space to the tilde
abbrev pub Mark : List ℕ → Type 0
Mark bs = (length bs ≡ 12) × ((i : ℕ) → i < 12 → (32 ≤ slice_index bs i) × (slice_index bs i ≤ 126))

abbrev pub Writable : Slip → Type 0
Writable (pair_slip w a b) = (a ≤ 999999) × (b ≤ 999999)
Writable (handback_slip a) = a ≤ 999999
Writable (box_slip mark) = Mark mark
Writable send_slip = Unit {0}
