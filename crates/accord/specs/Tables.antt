-- What a register's tables say of cards, trust and links, as functions.
use Rattle.std.specs.Prelude.{◌≡◌, ℕ, ◌<◌, Bool, true, false, ◌⊎◌, List, Some, Option}
use Rattle.offices.specs.Model.{OfficeModel}
use Rattle.banks.specs.Codes.{office_of, role_of}
use Rattle.law.specs.Roles.{IsRole}
use Rattle.law.specs.Sound.{Link, Scene}

-- each card's home office, if it is issued, and the roles of that office that it holds; whom each office was told to
-- trust; and the link records: the first `count` of them stand, and what lies behind that end has no meaning
pub record Tables : Type 0 where
  pub home : ℕ → Option ℕ
  pub held : ℕ → ℕ → Bool
  pub trusted : ℕ → ℕ → Bool
  pub link : ℕ → Link
  pub suspended : ℕ → Bool
  pub count : ℕ

module _ (t : Tables) where
  -- the card holds the role of this code
  abbrev pub Holding : ℕ → ℕ → Type 0
  Holding c r = (t.home c ≡ Some (office_of r)) × (t.held c (role_of r) ≡ true)

  abbrev pub Trusting : ℕ → ℕ → Type 0
  Trusting o p = (o ≡ p) ⊎ (t.trusted o p ≡ true)

  -- one of the records that stand is of this link
  abbrev pub Recorded : Link → Type 0
  Recorded l = (i : ℕ) × (i < t.count) × (t.link i ≡ l)

  abbrev pub Resting : Link → Type 0
  Resting l = (i : ℕ) × (i < t.count) × (t.link i ≡ l) × (t.suspended i ≡ true)

  -- one of the records that stand is of this link, and it is in force
  abbrev pub Acting : Link → Type 0
  Acting l = (i : ℕ) × (i < t.count) × (t.link i ≡ l) × (t.suspended i ≡ false)

  -- what has to be sound
  abbrev pub table_scene : Scene
  table_scene = record { linked = Recorded; held = Holding; trusted = Trusting }

  -- links join roles, cards hold roles, and only the cards from 0 to 255 are issued
  pub record Proper (bank : List OfficeModel) : Type 0 where
    pub ends : (i : ℕ) → i < t.count → IsRole bank (t.link i).from × IsRole bank (t.link i).to
    pub roles : (c r : ℕ) → Holding c r → IsRole bank r
    pub cards : (c o : ℕ) → t.home c ≡ Some o → c < 256
