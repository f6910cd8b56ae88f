-- A history, and what it says of cards, trust and links.
use Rattle.std.specs.Prelude.{◌≡◌, ℕ, ◌⊎◌, ◌↔◌, List, [], ◌∷◌}
use mathlib.Core.List.{Memᴰ}
use Rattle.law.specs.Sound.{Link, Scene}
use Rattle.law.specs.Requests.{Request, Answer, accepted, issue, assign, relieve, handback, trust, distrust, link, box, suspend, resume, withdraw}

-- a request, the length of the strip that came with it, and its answer; a history is a list of events since the
-- register was new, refused ones among them, the newest first
pub record Event : Type 0 where
  pub request : Request
  pub strip : ℕ
  pub answer : Answer

-- the history with this request accepted
abbrev pub accepting : ℕ → Request → List Event → List Event
accepting n q h = record { request = q; strip = n; answer = accepted } ∷ h

-- an accepted request began it, and no accepted one after that ended it
abbrev pub Since : (Request → Type 0) → (Request → Type 0) → List Event → Type 0
Since Begins Ends [] = ⊥
Since Begins Ends (e ∷ h) =
    ((e.answer ≡ accepted) × Begins e.request)
    ⊎ (((e.answer ≡ accepted) × Ends e.request → ⊥) × Since Begins Ends h)

-- this request, or one of these two
abbrev pub Is : Request → Request → Type 0
Is q r = r ≡ q

abbrev pub Either : Request → Request → Request → Type 0
Either q q' r = (r ≡ q) ⊎ (r ≡ q')

-- a LINK of it, or a box with it among its lines
abbrev pub Enters : Link → Request → Type 0
Enters l r = (r ≡ link l) ⊎ ((lines : List Link) × (r ≡ box lines) × Memᴰ l lines)

module _ (h : List Event) where
  -- the card has this home office
  abbrev pub Issued : ℕ → ℕ → Type 0
  Issued c o = Since (Is (issue c o)) (Is (handback c)) h

  -- the card holds the role of this code
  abbrev pub Holds : ℕ → ℕ → Type 0
  Holds c r = Since (Is (assign c r)) (Either (relieve c r) (handback c)) h

  -- the first office trusts the second; each trusts itself
  abbrev pub Trusts : ℕ → ℕ → Type 0
  Trusts o p = (o ≡ p) ⊎ Since (Is (trust o p)) (Is (distrust o p)) h

  abbrev pub Standing : Link → Type 0
  Standing l = Since (Enters l) (Is (withdraw l)) h

  abbrev pub Suspended : Link → Type 0
  Suspended l = Since (Is (suspend l)) (Either (resume l) (withdraw l)) h

  abbrev pub InForce : Link → Type 0
  InForce l = Standing l × (Suspended l → ⊥)

  -- what has to be sound after this history: chains run over all standing links
  abbrev pub scene : Scene
  scene = record { linked = Standing; held = Holds; trusted = Trusts }

-- two histories that say the same of cards, trust and links
pub record Alike (h h' : List Event) : Type 0 where
  pub issued : (c o : ℕ) → Issued h c o ↔ Issued h' c o
  pub held : (c r : ℕ) → Holds h c r ↔ Holds h' c r
  pub trusted : (o p : ℕ) → Trusts h o p ↔ Trusts h' o p
  pub standing : (l : Link) → Standing h l ↔ Standing h' l
  pub suspended : (l : Link) → Suspended h l ↔ Suspended h' l
