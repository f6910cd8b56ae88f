-- Chains put end to end, and chains of a wider step relation.
use Rattle.std.proofs.Common.{ℕ, List, ◌∷◌}
use Rattle.search.specs.Chains.{Chain, alone, onward, Reaches}

pub chain_on : {S : ℕ → ℕ → Type 0} {a b c : ℕ} {xs : List ℕ} → Chain S a b xs → Reaches S b c → Reaches S a c
chain_on alone r = r
chain_on {a = a} (onward s rest) r = let q = chain_on rest r in (a ∷ q.0, onward s q.1)

pub chain_wider : {S T : ℕ → ℕ → Type 0} {a b : ℕ} {xs : List ℕ} → ((x y : ℕ) → S x y → T x y) → Chain S a b xs → Chain T a b xs
chain_wider f alone = alone
chain_wider f (onward s rest) = onward (f _ _ s) (chain_wider f rest)

pub reaches_step : {S : ℕ → ℕ → Type 0} {a b c : ℕ} → S a b → Reaches S b c → Reaches S a c
reaches_step {a = a} s r = (a ∷ r.0, onward s r.1)

pub reaches_itself : {S : ℕ → ℕ → Type 0} (a : ℕ) → Reaches S a a
reaches_itself a = (_, alone)
