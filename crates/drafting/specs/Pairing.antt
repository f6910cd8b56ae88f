-- What a draft answers to a pair, and what becomes of what its kind of seniority stores.
use Rattle.std.specs.Prelude.{◌≡◌, ℕ, Bool}
use Rattle.std.specs.Bool.{MatchBool}
use Rattle.offices.specs.Drafting.{Answer, pair_answer}
use Rattle.drafting.specs.Keeping.{settled}
use Rattle.drafting.specs.Models.{drafted_as}
use Rattle.drafting.specs.declared.draft.Draft.{Draft}

-- the answer to a pair; `over` is what the kind says, and `own` what it answers to a pair that does not follow already
abbrev pub pair_answered : {S : Type 0} → (S → ℕ → ℕ → Bool) → (S → ℕ → ℕ → Answer) → Draft S → ℕ → ℕ → Answer
pair_answered over own d s j = pair_answer (drafted_as over d).roles (drafted_as over d).over (own d.office.seniority s j) s j

-- what the kind stores stays as it was, or, where the pair was not settled without it, is what the kind promises
abbrev pub PairKept : {S : Type 0} → (S → ℕ → ℕ → Bool) → (S → ℕ → ℕ → Answer → S → Type 0) → Draft S → ℕ → ℕ → Answer → Draft S → Type 0
PairKept over stored d s j r after =
    MatchBool (settled (drafted_as over d).roles (drafted_as over d).over s j)
    (after.office.seniority ≡ d.office.seniority)
    (stored d.office.seniority s j r after.office.seniority)
