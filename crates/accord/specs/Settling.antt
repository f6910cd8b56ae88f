-- How a request is settled by the tables: the law's checks read off them, and what each accepted request changes.
use Rattle.std.specs.Prelude.{◌≡◌, ℕ, suc, ◌-◌, ◌<◌, ◌≤◌, Bool, true, false, cond, ◌&&◌, ◌⊎◌, List, [], ◌∷◌, Some, None, Option, ◌==◌, ◌≢◌, nat_lt}
use Rattle.answers.specs.declared.Refusal.TheVariants.{NoSuchOffice, NoSuchCode, NoSuchCard, ShortStrip, SameOffice, AlreadyLinked, NotLinked, AlreadySuspended, AlreadyInForce, NotShared, OwnTrust, AlreadyIssued, NotIssued, ForeignRole, AlreadyHeld, NotHeld, LinksFull}
use Rattle.search.specs.Chains.{Best, Reached}
use Rattle.offices.specs.Model.{OfficeModel}
use Rattle.banks.specs.Banks.{office_at}
use Rattle.banks.specs.Codes.{office_of, role_of}
use Rattle.law.specs.Roles.{IsOffice, IsRole}
use Rattle.law.specs.Sound.{Link, Step}
use Rattle.law.specs.Requests.{Request, Answer, Reason, accepted, refused, refused_at, granted, denied, issue, assign, relieve, handback, trust, distrust, link, try, box, suspend, resume, withdraw, may}
use Rattle.law.specs.Checks.{Check, ◌when◌, unless_sound, FirstRefusal}
use Rattle.accord.specs.Tables.{Tables, Holding, Recorded, Resting, Acting, table_scene}

-- the same tables, as far as the link records stand
pub record Same (t u : Tables) : Type 0 where
  pub home : (c : ℕ) → t.home c ≡ u.home c
  pub held : (c k : ℕ) → t.held c k ≡ u.held c k
  pub trusted : (o p : ℕ) → t.trusted o p ≡ u.trusted o p
  pub count : t.count ≡ u.count
  pub link : (i : ℕ) → i < u.count → t.link i ≡ u.link i
  pub suspended : (i : ℕ) → i < u.count → t.suspended i ≡ u.suspended i

module _ (t : Tables) where
  -- card c has this home, or none, and holds nothing
  abbrev pub carded : ℕ → Option ℕ → Tables
  carded c o = record {
    home = λ d. cond (d == c) o (t.home d);
    held = λ d k. cond (d == c) false (t.held d k);
    trusted = t.trusted;
    link = t.link;
    suspended = t.suspended;
    count = t.count;
  }

  -- card c holds this role of its home too, or no longer
  abbrev pub holding : ℕ → ℕ → Bool → Tables
  holding c r b = record {
    home = t.home;
    held = λ d k. cond (d == c && k == r) b (t.held d k);
    trusted = t.trusted;
    link = t.link;
    suspended = t.suspended;
    count = t.count;
  }

  abbrev pub trusting : ℕ → ℕ → Bool → Tables
  trusting o p b = record {
    home = t.home;
    held = t.held;
    trusted = λ x y. cond (x == o && y == p) b (t.trusted x y);
    link = t.link;
    suspended = t.suspended;
    count = t.count;
  }

  -- a record more, in force, behind the others
  abbrev pub with_record : Link → Tables
  with_record l = record {
    home = t.home;
    held = t.held;
    trusted = t.trusted;
    link = λ i. cond (i == t.count) l (t.link i);
    suspended = λ i. cond (i == t.count) false (t.suspended i);
    count = suc t.count;
  }

  -- the record at place k is suspended, or in force
  abbrev pub rested : ℕ → Bool → Tables
  rested k b = record {
    home = t.home;
    held = t.held;
    trusted = t.trusted;
    link = t.link;
    suspended = λ i. cond (i == k) b (t.suspended i);
    count = t.count;
  }

  -- the record at place k is gone, and those behind it have moved up
  abbrev pub without_record : ℕ → Tables
  without_record k = record {
    home = t.home;
    held = t.held;
    trusted = t.trusted;
    link = λ i. cond (nat_lt i k) (t.link i) (t.link (suc i));
    suspended = λ i. cond (nat_lt i k) (t.suspended i) (t.suspended (suc i));
    count = t.count - 1;
  }

-- the tables with records of these links more
abbrev pub with_records : List Link → Tables → Tables
with_records [] t = t
with_records (l ∷ ls) t = with_records ls (with_record t l)

-- the record of the link is at place k
abbrev pub At : Tables → Link → ℕ → Type 0
At t l k = (k < t.count) × (t.link k ≡ l)

-- what an accepted request changes
abbrev pub Changed : Tables → Request → Tables → Type 0
Changed t (issue c o) u = Same u (carded t c (Some o))
Changed t (assign c r) u = Same u (holding t c (role_of r) true)
Changed t (relieve c r) u = Same u (holding t c (role_of r) false)
Changed t (handback c) u = Same u (carded t c None)
Changed t (trust o p) u = Same u (trusting t o p true)
Changed t (distrust o p) u = Same u (trusting t o p false)
Changed t (link l) u = Same u (with_record t l)
Changed t (try l) u = Same u t
Changed t (box ls) u = Same u (with_records ls t)
Changed t (suspend l) u = (k : ℕ) × At t l k × Same u (rested t k true)
Changed t (resume l) u = (k : ℕ) × At t l k × Same u (rested t k false)
Changed t (withdraw l) u = (k : ℕ) × At t l k × Same u (without_record t k)
Changed t (may c r) u = Same u t

module _ (bank : List OfficeModel) (t : Tables) (strip : ℕ) where
  abbrev pub Unissued : ℕ → Type 0
  Unissued c = (o : ℕ) → t.home c ≢ Some o

  abbrev pub table_linking : Link → List Check
  table_linking l =
      ShortStrip when (strip < 1024)
      ∷ NoSuchCode when ((IsRole bank l.from → ⊥) ⊎ (IsRole bank l.to → ⊥))
      ∷ SameOffice when (office_of l.from ≡ office_of l.to)
      ∷ NotShared when ((office_at bank (office_of l.to)).shared (role_of l.to) ≡ false)
      ∷ AlreadyLinked when Recorded t l
      ∷ LinksFull when (256 ≤ t.count)
      ∷ unless_sound (table_scene (with_record t l))
      ∷ []

  -- the checks of each request, in their order
  abbrev pub table_checks : Request → List Check
  table_checks (issue c o) = NoSuchCard when (255 < c) ∷ NoSuchOffice when (IsOffice bank o → ⊥) ∷ AlreadyIssued when ((home : ℕ) × (t.home c ≡ Some home)) ∷ []
  table_checks (assign c r) =
      ShortStrip when (strip < 1024)
      ∷ NoSuchCard when (255 < c)
      ∷ NotIssued when Unissued c
      ∷ NoSuchCode when (IsRole bank r → ⊥)
      ∷ ForeignRole when (t.home c ≢ Some (office_of r))
      ∷ AlreadyHeld when Holding t c r
      ∷ unless_sound (table_scene (holding t c (role_of r) true))
      ∷ []
  table_checks (relieve c r) =
      NoSuchCard when (255 < c)
      ∷ NotIssued when Unissued c
      ∷ NoSuchCode when (IsRole bank r → ⊥)
      ∷ ForeignRole when (t.home c ≢ Some (office_of r))
      ∷ NotHeld when (Holding t c r → ⊥)
      ∷ []
  table_checks (handback c) = NoSuchCard when (255 < c) ∷ NotIssued when Unissued c ∷ []
  table_checks (trust o p) = NoSuchOffice when ((IsOffice bank o → ⊥) ⊎ (IsOffice bank p → ⊥)) ∷ []
  table_checks (distrust o p) =
      ShortStrip when (strip < 1024)
      ∷ NoSuchOffice when ((IsOffice bank o → ⊥) ⊎ (IsOffice bank p → ⊥))
      ∷ OwnTrust when (o ≡ p)
      ∷ unless_sound (table_scene (trusting t o p false))
      ∷ []
  table_checks (link l) = table_linking l
  table_checks (try l) = table_linking l
  table_checks (box []) = []
  table_checks (box (l ∷ ls)) = ShortStrip when (strip < 1024) ∷ []
  table_checks (suspend l) = NotLinked when (Recorded t l → ⊥) ∷ AlreadySuspended when Resting t l ∷ []
  table_checks (resume l) = NotLinked when (Recorded t l → ⊥) ∷ AlreadyInForce when Acting t l ∷ []
  table_checks (withdraw l) = NotLinked when (Recorded t l → ⊥) ∷ []
  table_checks (may c r) = ShortStrip when (strip < 1024) ∷ NoSuchCard when (255 < c) ∷ NotIssued when Unissued c ∷ NoSuchCode when (IsRole bank r → ⊥) ∷ []

-- a box's lines from place i on, each judged as a LINK with the records of the lines before it entered
abbrev pub TableLines : List OfficeModel → ℕ → Tables → ℕ → List Link → Answer → Type 0
TableLines bank n t i [] a = a ≡ accepted
TableLines bank n t i (l ∷ ls) a =
    ((why : Reason) × FirstRefusal bank (table_linking bank t n l) (λ b. b ≡ accepted) (refused why) × (a ≡ refused_at i why))
    ⊎ (FirstRefusal bank (table_linking bank t n l) (λ b. b ≡ accepted) accepted × TableLines bank n (with_record t l) (suc i) ls a)

abbrev pub TableMay : List OfficeModel → Tables → ℕ → ℕ → Answer → Type 0
TableMay bank t c r a =
    ((chain : List ℕ) × Best (Step bank (Acting t)) (Holding t c) r chain × (a ≡ granted chain))
    ⊎ ((Reached (Step bank (Acting t)) (Holding t c) r → ⊥) × (a ≡ denied))

abbrev pub TableUnrefused : List OfficeModel → Tables → ℕ → Request → Answer → Type 0
TableUnrefused bank t n (issue c o) a = a ≡ accepted
TableUnrefused bank t n (assign c r) a = a ≡ accepted
TableUnrefused bank t n (relieve c r) a = a ≡ accepted
TableUnrefused bank t n (handback c) a = a ≡ accepted
TableUnrefused bank t n (trust o p) a = a ≡ accepted
TableUnrefused bank t n (distrust o p) a = a ≡ accepted
TableUnrefused bank t n (link l) a = a ≡ accepted
TableUnrefused bank t n (try l) a = a ≡ accepted
TableUnrefused bank t n (box ls) a = TableLines bank n t 0 ls a
TableUnrefused bank t n (suspend l) a = a ≡ accepted
TableUnrefused bank t n (resume l) a = a ≡ accepted
TableUnrefused bank t n (withdraw l) a = a ≡ accepted
TableUnrefused bank t n (may c r) a = TableMay bank t c r a

-- the tables after: changed as the request says if it is accepted, and else the same
abbrev pub After : Tables → Request → Answer → Tables → Type 0
After t q accepted u = Changed t q u
After t q (refused why) u = Same u t
After t q (refused_at i why) u = Same u t
After t q (granted xs) u = Same u t
After t q denied u = Same u t

-- a request is settled: by the first check that holds, read off the tables, and with the tables after it
pub record Settled (bank : List OfficeModel) (t : Tables) (n : ℕ) (q : Request) (a : Answer) (u : Tables) : Type 0 where
  pub answer : FirstRefusal bank (table_checks bank t n q) (TableUnrefused bank t n q) a
  pub after : After t q a u
