-- The answer that a history calls for, and histories in which each was given.
use Rattle.std.specs.Prelude.{◌≡◌, ℕ, suc, ◌≤◌, ◌⊎◌, List, [], ◌∷◌, length}
use Rattle.search.specs.Chains.{Best, Reached}
use Rattle.offices.specs.Model.{OfficeModel}
use Rattle.law.specs.Counting.{Many}
use Rattle.law.specs.Sound.{Link, Step}
use Rattle.law.specs.Requests.{Request, Answer, Reason, accepted, refused, refused_at, granted, denied, issue, assign, relieve, handback, trust, distrust, link, try, box, suspend, resume, withdraw, may, strip_after, lines_after}
use Rattle.law.specs.Histories.{Event, accepting, Holds, InForce}
use Rattle.law.specs.Checks.{FirstRefusal, checks, linking}

-- the answer to a LINK
abbrev pub LinkAnswer : List OfficeModel → List Event → ℕ → Link → Answer → Type 0
LinkAnswer bank h n l a = FirstRefusal bank (linking bank h n l) (λ b. b ≡ accepted) a

-- a box's lines from place i on, each judged as a LINK after the lines before it were accepted
abbrev pub LinesAnswer : List OfficeModel → ℕ → List Event → ℕ → List Link → Answer → Type 0
LinesAnswer bank n h i [] a = a ≡ accepted
LinesAnswer bank n h i (l ∷ ls) a =
    ((why : Reason) × LinkAnswer bank h n l (refused why) × (a ≡ refused_at i why))
    ⊎ (LinkAnswer bank h n l accepted × LinesAnswer bank n (accepting n (link l) h) (suc i) ls a)

-- MAY: granted with the best chain over links in force from a role that the card holds, exactly if there is one
abbrev pub MayAnswer : List OfficeModel → List Event → ℕ → ℕ → Answer → Type 0
MayAnswer bank h c r a =
    ((chain : List ℕ) × Best (Step bank (InForce h)) (Holds h c) r chain × (a ≡ granted chain))
    ⊎ ((Reached (Step bank (InForce h)) (Holds h c) r → ⊥) × (a ≡ denied))

-- what a request answers that no check refuses
abbrev pub Unrefused : List OfficeModel → List Event → ℕ → Request → Answer → Type 0
Unrefused bank h n (issue c o) a = a ≡ accepted
Unrefused bank h n (assign c r) a = a ≡ accepted
Unrefused bank h n (relieve c r) a = a ≡ accepted
Unrefused bank h n (handback c) a = a ≡ accepted
Unrefused bank h n (trust o p) a = a ≡ accepted
Unrefused bank h n (distrust o p) a = a ≡ accepted
Unrefused bank h n (link l) a = a ≡ accepted
Unrefused bank h n (try l) a = a ≡ accepted
Unrefused bank h n (box ls) a = LinesAnswer bank n h 0 ls a
Unrefused bank h n (suspend l) a = a ≡ accepted
Unrefused bank h n (resume l) a = a ≡ accepted
Unrefused bank h n (withdraw l) a = a ≡ accepted
Unrefused bank h n (may c r) a = MayAnswer bank h c r a

-- the answer that the history calls for, to a request with a strip of n places
abbrev pub CalledFor : List OfficeModel → List Event → ℕ → Request → Answer → Type 0
CalledFor bank h n q a = FirstRefusal bank (checks bank h n q) (Unrefused bank h n q) a

-- every event was answered as the history before it calls for
abbrev pub Right : List OfficeModel → List Event → Type 0
Right bank [] = Unit {0}
Right bank (e ∷ h) = CalledFor bank h e.strip e.request e.answer × Right bank h

-- all that a request comes to: its answer, and what its strip and the answers on its lines are after it
pub record ComesTo (bank : List OfficeModel) (h : List Event) (q : Request) (strip lines : List ℕ) (a : Answer) (strip' lines' : List ℕ) : Type 0 where
  pub answer : CalledFor bank h (length strip) q a
  pub strip_is : strip' ≡ strip_after a strip
  pub lines_are : lines' ≡ lines_after q a lines

-- MAY's count is open between these bounds: at most the codes reached, and on a yes at least the chain's length less 1
pub record CountFits (bank : List OfficeModel) (h : List Event) (card count : ℕ) (a : Answer) : Type 0 where
  pub most : Many (Reached (Step bank (InForce h)) (Holds h card)) count
  pub least : (chain : List ℕ) → a ≡ granted chain → length chain ≤ suc count
