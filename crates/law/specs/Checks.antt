-- The checks of each request, in their order.
use Rattle.std.specs.Prelude.{◌≡◌, ℕ, ◌<◌, false, ◌⊎◌, List, [], ◌∷◌}
use Rattle.answers.specs.declared.Refusal.{Refusal}
use Rattle.answers.specs.declared.Refusal.TheVariants.{NoSuchOffice, NoSuchCode, NoSuchCard, ShortStrip, SameOffice, AlreadyLinked, NotLinked, AlreadySuspended, AlreadyInForce, NotShared, OwnTrust, AlreadyIssued, NotIssued, ForeignRole, AlreadyHeld, NotHeld, LinksFull}
use Rattle.offices.specs.Model.{OfficeModel}
use Rattle.banks.specs.Banks.{office_at}
use Rattle.banks.specs.Codes.{office_of, role_of}
use Rattle.law.specs.Roles.{IsOffice, IsRole}
use Rattle.law.specs.Counting.{Many}
use Rattle.law.specs.Sound.{Link, Scene, Sound}
use Rattle.law.specs.Findings.{Finding, Finds}
use Rattle.law.specs.Requests.{Request, Answer, Reason, refused, plain, unsound, issue, assign, relieve, handback, trust, distrust, link, try, box, suspend, resume, withdraw, may}
use Rattle.law.specs.Histories.{Event, accepting, Issued, Holds, Standing, Suspended, InForce, scene}

-- a check: its refusal, and what holds where it refuses; or the last one, which refuses where this scene is unsound
pub data Check : Type 1 where
  ◌when◌ : Refusal → Type 0 → Check
  unless_sound : Scene → Check

infix 90 ◌when◌
abbrev pub Refuses : List OfficeModel → Check → Type 0
Refuses bank (r when P) = P
Refuses bank (unless_sound s) = Sound bank s → ⊥

-- why, where it refuses
abbrev pub Says : List OfficeModel → Check → Reason → Type 0
Says bank (r when P) why = why ≡ plain r
Says bank (unless_sound s) why = (f : Finding) × (chain : List ℕ) × Finds bank s f chain × (why ≡ unsound f chain)

-- refused by the first check that holds; where none does, what the request itself answers
abbrev pub FirstRefusal : List OfficeModel → List Check → (Answer → Type 0) → Answer → Type 0
FirstRefusal bank [] Else a = Else a
FirstRefusal bank (c ∷ cs) Else a =
    (Refuses bank c × ((why : Reason) × Says bank c why × (a ≡ refused why)))
    ⊎ ((Refuses bank c → ⊥) × FirstRefusal bank cs Else a)

module _ (bank : List OfficeModel) (h : List Event) (strip : ℕ) where
  abbrev pub NoOffice : ℕ → Type 0
  NoOffice o = IsOffice bank o → ⊥

  abbrev pub NoRole : ℕ → Type 0
  NoRole c = IsRole bank c → ⊥

  abbrev pub Unissued : ℕ → Type 0
  Unissued c = (o : ℕ) → Issued h c o → ⊥

  -- LINK and TRY
  abbrev pub linking : Link → List Check
  linking l =
      ShortStrip when (strip < 1024)
      ∷ NoSuchCode when (NoRole l.from ⊎ NoRole l.to)
      ∷ SameOffice when (office_of l.from ≡ office_of l.to)
      ∷ NotShared when ((office_at bank (office_of l.to)).shared (role_of l.to) ≡ false)
      ∷ AlreadyLinked when Standing h l
      ∷ LinksFull when Many (Standing h) 256
      ∷ unless_sound (scene (accepting strip (link l) h))
      ∷ []

  abbrev pub checks : Request → List Check
  checks (issue c o) = NoSuchCard when (255 < c) ∷ NoSuchOffice when NoOffice o ∷ AlreadyIssued when ((home : ℕ) × Issued h c home) ∷ []
  checks (assign c r) =
      ShortStrip when (strip < 1024)
      ∷ NoSuchCard when (255 < c)
      ∷ NotIssued when Unissued c
      ∷ NoSuchCode when NoRole r
      ∷ ForeignRole when (Issued h c (office_of r) → ⊥)
      ∷ AlreadyHeld when Holds h c r
      ∷ unless_sound (scene (accepting strip (assign c r) h))
      ∷ []
  checks (relieve c r) =
      NoSuchCard when (255 < c)
      ∷ NotIssued when Unissued c
      ∷ NoSuchCode when NoRole r
      ∷ ForeignRole when (Issued h c (office_of r) → ⊥)
      ∷ NotHeld when (Holds h c r → ⊥)
      ∷ []
  checks (handback c) = NoSuchCard when (255 < c) ∷ NotIssued when Unissued c ∷ []
  checks (trust o p) = NoSuchOffice when (NoOffice o ⊎ NoOffice p) ∷ []
  checks (distrust o p) =
      ShortStrip when (strip < 1024)
      ∷ NoSuchOffice when (NoOffice o ⊎ NoOffice p)
      ∷ OwnTrust when (o ≡ p)
      ∷ unless_sound (scene (accepting strip (distrust o p) h))
      ∷ []
  checks (link l) = linking l
  checks (try l) = linking l
  checks (box []) = []
  checks (box (l ∷ ls)) = ShortStrip when (strip < 1024) ∷ []
  checks (suspend l) = NotLinked when (Standing h l → ⊥) ∷ AlreadySuspended when Suspended h l ∷ []
  checks (resume l) = NotLinked when (Standing h l → ⊥) ∷ AlreadyInForce when InForce h l ∷ []
  checks (withdraw l) = NotLinked when (Standing h l → ⊥) ∷ []
  checks (may c r) = ShortStrip when (strip < 1024) ∷ NoSuchCard when (255 < c) ∷ NotIssued when Unissued c ∷ NoSuchCode when NoRole r ∷ []
