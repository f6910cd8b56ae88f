-- When links, holdings and trust are sound: the three rules.
use Rattle.std.specs.Prelude.{◌≡◌, ℕ, ◌<◌, ◌⊎◌, List, length, ◌≢◌}
use Rattle.search.specs.Chains.{Reaches, Reached}
use Rattle.offices.specs.Model.{OfficeModel, SetModel}
use Rattle.banks.specs.Codes.{office_of}
use Rattle.law.specs.Roles.{set_at, member_code, IsRole, IsSet, Over}
use Rattle.law.specs.Counting.{Many}

-- a link leads from a code to a code
pub record Link : Type 0 where
  pub from : ℕ
  pub to : ℕ

-- what soundness is asked of: which links count, which card holds which code, which office trusts which
pub record Scene : Type 1 where
  pub linked : Link → Type 0
  pub held : ℕ → ℕ → Type 0
  pub trusted : ℕ → ℕ → Type 0

-- a step leads from a role to a different one that it is over, or along a link
abbrev pub Step : List OfficeModel → (Link → Type 0) → ℕ → ℕ → Type 0
Step bank linked a b = ((a ≢ b) × Over bank a b) ⊎ linked (record { from = a; to = b })

-- some chain leads from a to b
abbrev pub Leads : List OfficeModel → (Link → Type 0) → ℕ → ℕ → Type 0
Leads bank linked a b = Reaches (Step bank linked) a b

module _ (bank : List OfficeModel) (s : Scene) where
  -- from one of the starts a chain leads to the role at place p of a set of office o
  abbrev pub PlaceReached : (ℕ → Type 0) → ℕ → SetModel → ℕ → Type 0
  PlaceReached Start o set p = (p < length set.members) × Reached (Step bank s.linked) Start (member_code o set p)

  -- from the starts, as many roles of set k of office o are reached as its bound, or more
  abbrev pub Overreached : (ℕ → Type 0) → ℕ → ℕ → Type 0
  Overreached Start o k = IsSet bank o k × Many (PlaceReached Start o (set_at bank o k)) (set_at bank o k).bound

  -- all roles of the offices that o does not trust
  abbrev pub Outsiders : ℕ → ℕ → Type 0
  Outsiders o a = IsRole bank a × (s.trusted o (office_of a) → ⊥)

  -- rule 1: where a chain leads between two codes of one office, that office has the first over the second
  abbrev pub Hierarchy : Type 0
  Hierarchy = (a b : ℕ) → IsRole bank a → IsRole bank b → office_of a ≡ office_of b → Leads bank s.linked a b → Over bank a b

  -- rule 2: from a card's roles fewer roles of a set are reached than its bound
  abbrev pub Exclusion : Type 0
  Exclusion = (o k card : ℕ) → Overreached (s.held card) o k → ⊥

  -- rule 3: from all roles of the offices that the set's office does not trust, taken together, fewer are reached
  abbrev pub Exposure : Type 0
  Exposure = (o k : ℕ) → Overreached (Outsiders o) o k → ⊥

  pub record Sound : Type 0 where
    pub hierarchy : Hierarchy
    pub exclusion : Exclusion
    pub exposure : Exposure
