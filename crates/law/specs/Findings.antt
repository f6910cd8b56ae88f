-- What is found where links, holdings and trust are unsound.
use Rattle.std.specs.Prelude.{◌≡◌, ℕ, ◌≤◌, List, [], ◌∷◌, Decides}
use Rattle.search.specs.Chains.{Before, Best}
use Rattle.offices.specs.Model.{OfficeModel, SetModel}
use Rattle.offices.specs.Word.{bit}
use Rattle.banks.specs.Codes.{office_of}
use Rattle.law.specs.Roles.{set_at, member_code, IsRole, Over}
use Rattle.law.specs.Sound.{Scene, Step, Leads, PlaceReached, Overreached, Outsiders, Hierarchy, Exclusion}

-- the first broken rule, and where: two codes, or a set, the card, and a byte with bit p for each reached place p
pub data Finding : Type 0 where
  breaks_hierarchy : (first second : ℕ) → Finding
  breaks_exclusion : (office set card places : ℕ) → Finding
  breaks_exposure : (office set places : ℕ) → Finding

-- a finding as it is told; what its rule does not give is 0
pub record Told : Type 0 where
  pub rule : ℕ
  pub first : ℕ
  pub second : ℕ
  pub office : ℕ
  pub set : ℕ
  pub card : ℕ
  pub places : ℕ

abbrev pub told : Finding → Told
told (breaks_hierarchy a b) = record { rule = 1; first = a; second = b; office = 0; set = 0; card = 0; places = 0 }
told (breaks_exclusion o k c ps) = record { rule = 2; first = 0; second = 0; office = o; set = k; card = c; places = ps }
told (breaks_exposure o k ps) = record { rule = 3; first = 0; second = 0; office = o; set = k; card = 0; places = ps }

module _ (bank : List OfficeModel) (s : Scene) where
  -- two codes at which rule 1 is broken
  abbrev pub Misled : ℕ → ℕ → Type 0
  Misled a b = IsRole bank a × IsRole bank b × (office_of a ≡ office_of b) × Leads bank s.linked a b × (Over bank a b → ⊥)

  -- the byte has a bit for each reached place
  abbrev pub Marks : (ℕ → Type 0) → ℕ → SetModel → ℕ → Type 0
  Marks Start o set places = (p : ℕ) → Decides (bit places p) (PlaceReached bank s Start o set p)

  -- the finding: the first broken rule, and there the lowest numbers
  abbrev pub Found : Finding → Type 0
  Found (breaks_hierarchy a b) = Misled a b × ((a' b' : ℕ) → Misled a' b' → Before (a ∷ b ∷ []) (a' ∷ b' ∷ []))
  Found (breaks_exclusion o k c places) =
      Hierarchy bank s
      × Overreached bank s (s.held c) o k
      × ((o' k' c' : ℕ) → Overreached bank s (s.held c') o' k' → Before (o ∷ k ∷ c ∷ []) (o' ∷ k' ∷ c' ∷ []))
      × Marks (s.held c) o (set_at bank o k) places
  Found (breaks_exposure o k places) =
      Hierarchy bank s
      × Exclusion bank s
      × Overreached bank s (Outsiders bank s o) o k
      × ((o' k' : ℕ) → Overreached bank s (Outsiders bank s o') o' k' → Before (o ∷ k ∷ []) (o' ∷ k' ∷ []))
      × Marks (Outsiders bank s o) o (set_at bank o k) places

  -- the place that a finding's chain leads to: the lowest that is reached
  pub record ShownPlace (Start : ℕ → Type 0) (o : ℕ) (set : SetModel) (p : ℕ) : Type 0 where
    pub reached : PlaceReached bank s Start o set p
    pub lowest : (q : ℕ) → PlaceReached bank s Start o set q → p ≤ q

  -- the best chain from the starts to the shown place
  pub record Shows (Start : ℕ → Type 0) (o : ℕ) (set : SetModel) (chain : List ℕ) : Type 0 where
    pub place : ℕ
    pub shown : ShownPlace Start o set place
    pub best : Best (Step bank s.linked) Start (member_code o set place) chain

  -- the chain of a finding
  abbrev pub Explains : Finding → List ℕ → Type 0
  Explains (breaks_hierarchy a b) chain = Best (Step bank s.linked) (λ x. x ≡ a) b chain
  Explains (breaks_exclusion o k c places) chain = Shows (s.held c) o (set_at bank o k) chain
  Explains (breaks_exposure o k places) chain = Shows (Outsiders bank s o) o (set_at bank o k) chain

  abbrev pub Finds : Finding → List ℕ → Type 0
  Finds f chain = Found f × Explains f chain
