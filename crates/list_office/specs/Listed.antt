-- What a list of pairs says.
use Rattle.std.specs.Prelude.{ℕ, Bool, cond, List, [], ◌∷◌, ◌++◌, length, Ok, Err, nat_lt}
use Rattle.answers.specs.declared.Refusal.TheVariants.{PairsFull}
use Rattle.offices.specs.Drafting.{Answer}
use Rattle.list_office.specs.declared.pair.Pair.{Pair}
use Rattle.list_office.specs.declared.list.PairList.{PairList}
use Rattle.list_office.specs.Pairs.{closed_by}

-- the pairs stored, in the order in which they came
abbrev pub pairs_in : PairList → List Pair
pairs_in l = l.pairs.items

abbrev pub list_over : PairList → ℕ → ℕ → Bool
list_over l = closed_by 64 (pairs_in l)

-- the answer to a pair that does not follow already
abbrev pub room_answer : List Pair → Answer
room_answer ps = cond (nat_lt (length ps) 128) (Ok tt) (Err PairsFull)

-- the pairs after one was answered so
abbrev pub with_pair : Answer → List Pair → Pair → List Pair
with_pair (Ok u) ps p = ps ++ (p ∷ [])
with_pair (Err e) ps p = ps
