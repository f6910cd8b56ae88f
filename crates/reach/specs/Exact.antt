-- When rows say exactly where chains lead.
use Rattle.std.specs.Prelude.{◌≡◌, ℕ, ◌<◌, Bool, false, ◌⊎◌, List, Decides}
use Rattle.search.specs.Chains.{Reached}
use Rattle.offices.specs.Model.{OfficeModel}
use Rattle.law.specs.Roles.{IsRole, Over}
use Rattle.law.specs.Sound.{Link, Step}
use Rattle.reach.specs.Tables.{code_reaches, card_reaches, owner_reaches}
use Rattle.reach.specs.Steps.{has_step}
use Rattle.reach.specs.declared.table.ReachTable.{ReachTable}
use Rattle.reach.specs.declared.step_table.StepTable.{StepTable}

-- f has exactly the codes that chains lead to from the starts
abbrev pub Exact : List OfficeModel → (Link → Type 0) → (ℕ → Type 0) → (ℕ → Bool) → Type 0
Exact bank linked Start f = (b : ℕ) → Decides (f b) (Reached (Step bank linked) Start b)

-- one code alone as the start
abbrev pub Only : ℕ → ℕ → Type 0
Only a x = x ≡ a

-- the links with one more, from u to v
abbrev pub WithLink : (Link → Type 0) → ℕ → ℕ → Link → Type 0
WithLink linked u v l = linked l ⊎ (l ≡ record { from = u; to = v })

-- f has exactly the codes that some start is over
abbrev pub Juniors : List OfficeModel → (ℕ → Type 0) → (ℕ → Bool) → Type 0
Juniors bank Start f = (b : ℕ) → Decides (f b) ((a : ℕ) × Start a × Over bank a b)

module _ (bank : List OfficeModel) where
  -- every row of a table is exact: that of a role for this role alone, and a code that is no role's reaches nothing;
  -- that of a card for the codes that it holds, and that of an office for its outsiders
  pub record ExactTable (linked : Link → Type 0) (held outsiders : ℕ → ℕ → Type 0) (t : ReachTable) : Type 0 where
    pub roles : (a : ℕ) → IsRole bank a → Exact bank linked (Only a) (code_reaches t a)
    pub others : (a b : ℕ) → (IsRole bank a → ⊥) → code_reaches t a b ≡ false
    pub cards : (c : ℕ) → c < 256 → Exact bank linked (held c) (card_reaches t c)
    pub owners : (o : ℕ) → o < 16 → Exact bank linked (outsiders o) (owner_reaches t o)

  -- every row of a table has exactly the juniors of its starts
  pub record JuniorTable (held outsiders : ℕ → ℕ → Type 0) (t : ReachTable) : Type 0 where
    pub codes : (a b : ℕ) → Decides (code_reaches t a b) (Over bank a b)
    pub cards : (c : ℕ) → c < 256 → Juniors bank (held c) (card_reaches t c)
    pub owners : (o : ℕ) → o < 16 → Juniors bank (outsiders o) (owner_reaches t o)

  -- a table of steps has exactly those of seniority and these links
  abbrev pub ExactlySteps : (Link → Type 0) → StepTable → Type 0
  ExactlySteps linked t = (a b : ℕ) → Decides (has_step t a b) (Step bank linked a b)
