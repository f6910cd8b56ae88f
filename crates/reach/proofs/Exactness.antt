-- Rows stay exact as links are added, and are exact with no link where they have the juniors.
use Rattle.std.proofs.Common.{ℕ, Bool, ◌&&◌, ◌⊎◌, List, Decides, sym, refl, subst, inl, inr}
use Rattle.std.proofs.lemmas.Bool.Decides.{Decides-like, Decides-and, Decides-or}
use Rattle.search.specs.Chains.{Reached}
use Rattle.offices.specs.Model.{OfficeModel}
use Rattle.law.specs.Roles.{LawfulBank, IsRole, Over}
use Rattle.law.specs.Sound.{Link, Step, Leads}
use Rattle.law.proofs.Links.{one_more}
use Rattle.law.proofs.Scenes.{leads_more, chain_over, over_leads}
use Rattle.reach.specs.Rows.{joined}
use Rattle.reach.specs.Exact.{Exact, Only, WithLink, Juniors}
use Rattle.reach.proofs.Starting.{from_one}

module _ (bank : List OfficeModel) where
  -- one link more: a chain that uses it, however often, comes to u and goes on from v
  module _ (linked : Link → Type 0) (u v : ℕ) (Start : ℕ → Type 0) where
    abbrev Ways : ℕ → Type 0
    Ways b = Reached (Step bank linked) Start b ⊎ (Reached (Step bank linked) Start u × Reached (Step bank linked) (Only v) b)

    into : (b : ℕ) → Ways b → Reached (Step bank (WithLink linked u v)) Start b
    into b (inl r) = (r.0, r.1, (one_more bank linked u v r.0 b).1 (inl r.2))
    into b (inr (r, s)) = (r.0, r.1, (one_more bank linked u v r.0 b).1 (inr (r.2, subst (λ x. Leads bank linked x b) s.1 s.2)))

    back : (b : ℕ) → Reached (Step bank (WithLink linked u v)) Start b → Ways b
    back b r = elim ((one_more bank linked u v r.0 b).0 r.2) [
      | inl k ↦ inl (r.0, r.1, k)
      | inr k ↦ inr ((r.0, r.1, k.0), (v, refl, k.1))
    ]

    pub exact_more :
        (f g : ℕ → Bool) → Exact bank linked Start f → Exact bank linked (Only v) g
        → Exact bank (WithLink linked u v) Start (joined f u g)
    exact_more f g ef eg b =
        Decides-like (joined f u g b) (into b) (back b) (Decides-or (f b) (f u && g b) (ef b) (Decides-and (f u) (g b) (ef u) (eg b)))

  -- the same links in other words
  pub exact_alike :
      (linked linked' : Link → Type 0) → ((l : Link) → linked l → linked' l) → ((l : Link) → linked' l → linked l)
      → (Start : ℕ → Type 0) (f : ℕ → Bool) → Exact bank linked Start f → Exact bank linked' Start f
  exact_alike linked linked' into back Start f e b =
      Decides-like (f b)
      (λ r. (r.0, r.1, leads_more bank linked linked' into r.0 b r.2))
      (λ r. (r.0, r.1, leads_more bank linked' linked back r.0 b r.2))
      (e b)

  -- no link
  module _ (lawful : LawfulBank bank) (linked : Link → Type 0) (none : (l : Link) → linked l → ⊥) where
    -- the juniors of starts that are roles
    pub exact_none :
        (Start : ℕ → Type 0) → ((a : ℕ) → Start a → IsRole bank a)
        → (f : ℕ → Bool) → Juniors bank Start f → Exact bank linked Start f
    exact_none Start roles f e b =
        Decides-like (f b)
        (λ r. (r.0, r.1, over_leads bank lawful linked none r.0 b r.2))
        (λ r. (r.0, r.1, chain_over bank lawful linked none (roles r.0 r.1) r.2.1))
        (e b)

    -- the juniors of one role
    pub exact_role :
        (a : ℕ) → IsRole bank a → (f : ℕ → Bool) → ((b : ℕ) → Decides (f b) (Over bank a b))
        → Exact bank linked (Only a) f
    exact_role a role f e = exact_none (Only a) (λ x q. subst (λ y. IsRole bank y) (sym q) role) f (from_one (Over bank) a f e)
