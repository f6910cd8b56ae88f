-- What is promised of every register, as theorems about histories.
use Rattle.std.specs.Prelude.{◌≡◌, ℕ, ◌≤◌, Bool, true, ◌⊎◌, ◌↔◌, List, [], ◌∷◌, ◌++◌, length, ◌≢◌}
use mathlib.Core.List.{Permᴰ}
use Rattle.answers.specs.declared.Refusal.TheVariants.{LinksFull}
use Rattle.offices.specs.Model.{OfficeModel}
use Rattle.banks.specs.Banks.{office_at}
use Rattle.banks.specs.Codes.{office_of, role_of}
use Rattle.law.specs.Roles.{LawfulBank, IsRole, Over}
use Rattle.law.specs.Counting.{Many}
use Rattle.law.specs.Sound.{Link, Scene, Sound, Leads}
use Rattle.law.specs.Requests.{Request, Answer, accepted, refused, plain, answer_number, chain_of, link, try, assign, distrust, box}
use Rattle.law.specs.Histories.{Event, accepting, Issued, Holds, Standing, Suspended, scene, Alike}
use Rattle.law.specs.Checks.{Check, ◌when◌, unless_sound, Refuses, checks}
use Rattle.law.specs.Right.{CalledFor, Right, ComesTo}

-- every right history is sound
abbrev pub RightIsSound : Type 0
RightIsSound = (bank : List OfficeModel) (h : List Event) → LawfulBank bank → Right bank h → Sound bank (scene h)

-- no request has two outcomes: one answer with its finding and chain, one strip and one set of lines after it
abbrev pub OneOutcome : Type 0
OneOutcome =
    (bank : List OfficeModel) (h : List Event) (q : Request) (strip lines : List ℕ) (a a' : Answer) (s s' l l' : List ℕ) →
    ComesTo bank h q strip lines a s l → ComesTo bank h q strip lines a' s' l' → (a ≡ a') × (s ≡ s') × (l ≡ l')

-- and none is without: it cannot be that each answer is wrong
abbrev pub SomeAnswer : Type 0
SomeAnswer =
    (bank : List OfficeModel) (h : List Event) (n : ℕ) (q : Request) →
    LawfulBank bank → ((a : Answer) → CalledFor bank h n q a → ⊥) → ⊥

-- none of the checks refuses
abbrev pub NoneRefuses : List OfficeModel → List Check → Type 0
NoneRefuses bank [] = Unit {0}
NoneRefuses bank (c ∷ cs) = (Refuses bank c → ⊥) × NoneRefuses bank cs

-- the checks before the last one
abbrev pub earlier : List Check → List Check
earlier [] = []
earlier ((r when P) ∷ cs) = r when P ∷ earlier cs
earlier (unless_sound s ∷ cs) = []

-- the requests, but for boxes, that can make a register unsound, and what each would enter
pub data CanHarm : Request → Request → Type 0 where
  by_assigning : {c r : ℕ} → CanHarm (assign c r) (assign c r)
  by_distrusting : {o p : ℕ} → CanHarm (distrust o p) (distrust o p)
  by_linking : {l : Link} → CanHarm (link l) (link l)
  by_trying : {l : Link} → CanHarm (try l) (link l)

-- 16 is drawn exactly if no earlier check refuses and the request, accepted, would make the history unsound
abbrev pub SixteenExactly : Type 0
SixteenExactly =
    (bank : List OfficeModel) (h : List Event) (n : ℕ) (q : Request) (a : Answer) →
    ((ls : List Link) → q ≢ box ls) → CalledFor bank h n q a →
    (answer_number a ≡ 16)
    ↔ ((q' : Request) × CanHarm q q' × NoneRefuses bank (earlier (checks bank h n q)) × (Sound bank (scene (accepting n q' h)) → ⊥))

-- the history with these LINKs sent one after another, each accepted
abbrev pub sent : ℕ → List Link → List Event → List Event
sent n [] h = h
sent n (l ∷ ls) h = sent n ls (accepting n (link l) h)

-- a box draws 16 exactly if one of its lines does, read as a LINK after all lines before it were accepted
abbrev pub BoxSixteenExactly : Type 0
BoxSixteenExactly =
    (bank : List OfficeModel) (h : List Event) (n : ℕ) (ls : List Link) (a : Answer) → Right bank h → CalledFor bank h n (box ls) a →
    (answer_number a ≡ 16)
    ↔ ((before : List Link) × (l : Link) × (after : List Link) × (b : Answer) × (ls ≡ before ++ (l ∷ after))
    × Right bank (sent n before h) × CalledFor bank (sent n before h) n (link l) b × (answer_number b ≡ 16))

-- a box is accepted exactly if its links, sent singly in any order with as long a strip, all are; and whatever comes
-- later, any request then, MAY among them, gets the same answer and chain after the box as after the links
abbrev pub BoxInAnyOrder : Type 0
BoxInAnyOrder =
    (bank : List OfficeModel) (h : List Event) (n : ℕ) (ls ms : List Link) → Permᴰ ls ms →
    (Right bank (accepting n (box ls) h) ↔ Right bank (sent n ms h))
    × ((later : List Event) (k : ℕ) (q : Request) (a : Answer) →
    CalledFor bank (later ++ accepting n (box ls) h) k q a ↔ CalledFor bank (later ++ sent n ms h) k q a)

-- what is not accepted changes nothing, nor does TRY, nor MAY (whose answers are no acceptance)
abbrev pub OnlyAcceptedChange : Type 0
OnlyAcceptedChange = (h : List Event) (e : Event) → (e.answer ≡ accepted → (l : Link) × (e.request ≡ try l)) → Alike (e ∷ h) h

-- a scene that is given by tests
abbrev pub tested : (Link → Bool) → (ℕ → ℕ → Bool) → (ℕ → ℕ → Bool) → Scene
tested linked held trusted = record { linked = λ l. linked l ≡ true; held = λ c r. held c r ≡ true; trusted = λ o p. trusted o p ≡ true }

-- the links and holdings of v are w's too, and whom w trusts v trusts
pub record Within (v w : Scene) : Type 0 where
  pub linked : (l : Link) → v.linked l → w.linked l
  pub held : (c r : ℕ) → v.held c r → w.held c r
  pub trusted : (o p : ℕ) → w.trusted o p → v.trusted o p

-- more links, more holdings or less trust never make an unsound scene sound
abbrev pub MoreNeverMends : Type 0
MoreNeverMends =
    (bank : List OfficeModel) (linked linked' : Link → Bool) (held held' trusted trusted' : ℕ → ℕ → Bool) →
    Within (tested linked held trusted) (tested linked' held' trusted') →
    (Sound bank (tested linked held trusted) → ⊥) → Sound bank (tested linked' held' trusted') → ⊥

-- the same of what two histories say
abbrev pub MoreSaidNeverMends : Type 0
MoreSaidNeverMends =
    (bank : List OfficeModel) (h h' : List Event) → Within (scene h) (scene h') → (Sound bank (scene h) → ⊥) → Sound bank (scene h') → ⊥

-- a chain that is called for fits on the strip that came with the request
abbrev pub ChainFits : Type 0
ChainFits =
    (bank : List OfficeModel) (h : List Event) (n : ℕ) (q : Request) (a : Answer) →
    LawfulBank bank → Right bank h → CalledFor bank h n q a → length (chain_of a) ≤ n

-- what holds of cards and links after every right history
pub record Kept (bank : List OfficeModel) (h : List Event) : Type 0 where
  pub cards : (c o : ℕ) → Issued h c o → c ≤ 255
  pub homes : (c o o' : ℕ) → Issued h c o → Issued h c o' → o ≡ o'
  pub holdings : (c r : ℕ) → Holds h c r → Issued h c (office_of r) × IsRole bank r
  pub ends : (l : Link) → Standing h l → IsRole bank l.from × IsRole bank l.to × (office_of l.from ≢ office_of l.to)
  pub shared : (l : Link) → Standing h l → (office_at bank (office_of l.to)).shared (role_of l.to) ≡ true
  pub suspended : (l : Link) → Suspended h l → Standing h l
  pub few : Many (Standing h) 257 → ⊥

-- 15 is drawn only where 256 links stand
abbrev pub FullAt256 : Type 0
FullAt256 = (bank : List OfficeModel) (h : List Event) (n : ℕ) (l : Link) → CalledFor bank h n (link l) (refused (plain LinksFull)) → Many (Standing h) 256

abbrev pub AllKept : Type 0
AllKept = (bank : List OfficeModel) (h : List Event) → Right bank h → Kept bank h

-- with one link more, a chain goes as before, or to the link's beginning and on from its end
abbrev pub OneLinkMore : Type 0
OneLinkMore =
    (bank : List OfficeModel) (h : List Event) (n u v a b : ℕ) →
    Leads bank (Standing (accepting n (link (record { from = u; to = v })) h)) a b
    ↔ (Leads bank (Standing h) a b ⊎ (Leads bank (Standing h) a u × Leads bank (Standing h) v b))

-- without links, a chain from a role is seniority
abbrev pub NoLink : Type 0
NoLink = (bank : List OfficeModel) → LawfulBank bank → (a b : ℕ) → IsRole bank a → Leads bank (Standing []) a b ↔ Over bank a b

-- the whole guarantee
pub record Guarantee : Type 0 where
  pub sound : RightIsSound
  pub one_outcome : OneOutcome
  pub some_answer : SomeAnswer
  pub sixteen : SixteenExactly
  pub box_sixteen : BoxSixteenExactly
  pub any_order : BoxInAnyOrder
  pub only_accepted : OnlyAcceptedChange
  pub fits : ChainFits
  pub kept : AllKept
  pub full : FullAt256
