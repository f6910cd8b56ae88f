-- The word of each request: eight bytes, from the left, filled with spaces.
use Rattle.std.specs.Prelude.{◌≡◌, ℕ, List, Some, None, codes, Option, ◌≢◌}
use Rattle.sheet_words.specs.declared.PairWord.{PairWord}
use Rattle.sheet_words.specs.declared.PairWord.TheVariants.{Issue, Assign, Relieve, Trust, Distrust, Link, Try, Suspend, Resume, Withdraw, May}
use Rattle.sheet_words.specs.declared.Word.{Word}
use Rattle.sheet_words.specs.declared.Word.TheVariants.{Pair, Handback, Box, Send}

abbrev pub pair_word_of : PairWord → List ℕ
pair_word_of Issue = codes "ISSUE   "
pair_word_of Assign = codes "ASSIGN  "
pair_word_of Relieve = codes "RELIEVE "
pair_word_of Trust = codes "TRUST   "
pair_word_of Distrust = codes "DISTRUST"
pair_word_of Link = codes "LINK    "
pair_word_of Try = codes "TRY     "
pair_word_of Suspend = codes "SUSPEND "
pair_word_of Resume = codes "RESUME  "
pair_word_of Withdraw = codes "WITHDRAW"
pair_word_of May = codes "MAY     "

abbrev pub word_of : Word → List ℕ
word_of (Pair p) = pair_word_of p
word_of Handback = codes "HANDBACK"
word_of Box = codes "BOX     "
word_of Send = codes "SEND    "

-- bytes read as a word exactly if they are that word's
abbrev pub Spells : List ℕ → Option Word → Type 0
Spells bs (Some w) = bs ≡ word_of w
Spells bs None = (w : Word) → bs ≢ word_of w
