-- Requests, their answers, and what an answer writes.
use Rattle.std.specs.Prelude.{ℕ, List, [], ◌++◌, length, drop, replicate, slice_set}
use Rattle.answers.specs.Numbers.{number_of}
use Rattle.answers.specs.declared.Refusal.{Refusal}
use Rattle.answers.specs.declared.Refusal.TheVariants.{Unsound}
use Rattle.law.specs.Sound.{Link}
use Rattle.law.specs.Findings.{Finding}

-- a box is a list of links that stand or fall together; TRY asks what LINK would be answered
pub data Request : Type 0 where
  issue : (card office : ℕ) → Request
  assign : (card code : ℕ) → Request
  relieve : (card code : ℕ) → Request
  handback : (card : ℕ) → Request
  trust : (office other : ℕ) → Request
  distrust : (office other : ℕ) → Request
  link : (asked : Link) → Request
  try : (asked : Link) → Request
  box : (lines : List Link) → Request
  suspend : (asked : Link) → Request
  resume : (asked : Link) → Request
  withdraw : (asked : Link) → Request
  may : (card code : ℕ) → Request

-- why a request is refused: a check by its name, or the last check, with what it found
pub data Reason : Type 0 where
  plain : (refusal : Refusal) → Reason
  unsound : (finding : Finding) (chain : List ℕ) → Reason

-- a box is refused at a line, by its place from 0; MAY is granted with a chain, or denied
pub data Answer : Type 0 where
  accepted : Answer
  refused : (reason : Reason) → Answer
  refused_at : (place : ℕ) (reason : Reason) → Answer
  granted : (chain : List ℕ) → Answer
  denied : Answer

abbrev pub reason_number : Reason → ℕ
reason_number (plain r) = number_of r
reason_number (unsound f xs) = number_of Unsound

abbrev pub answer_number : Answer → ℕ
answer_number accepted = 0
answer_number (refused why) = reason_number why
answer_number (refused_at i why) = reason_number why
answer_number (granted xs) = 0
answer_number denied = 0

-- the chain that goes onto the strip: only a yes and a 16 have one
abbrev pub reason_chain : Reason → List ℕ
reason_chain (plain r) = []
reason_chain (unsound f xs) = xs

abbrev pub chain_of : Answer → List ℕ
chain_of accepted = []
chain_of (refused why) = reason_chain why
chain_of (refused_at i why) = reason_chain why
chain_of (granted xs) = xs
chain_of denied = []

-- the strip after: the chain in its first places, the others as they were
abbrev pub strip_after : Answer → List ℕ → List ℕ
strip_after a strip = chain_of a ++ drop (length (chain_of a)) strip

-- the answers on a box's lines after, from those with which they came
abbrev pub box_after : Answer → List ℕ → List ℕ
box_after accepted came = replicate (length came) 0
box_after (refused why) came = came
box_after (refused_at i why) came = slice_set (replicate (length came) 99) i (reason_number why)
box_after (granted xs) came = came
box_after denied came = came

-- only a box writes answers on lines
abbrev pub lines_after : Request → Answer → List ℕ → List ℕ
lines_after (box ls) a came = box_after a came
lines_after (issue c o) a came = came
lines_after (assign c r) a came = came
lines_after (relieve c r) a came = came
lines_after (handback c) a came = came
lines_after (trust o p) a came = came
lines_after (distrust o p) a came = came
lines_after (link l) a came = came
lines_after (try l) a came = came
lines_after (suspend l) a came = came
lines_after (resume l) a came = came
lines_after (withdraw l) a came = came
lines_after (may c r) a came = came
