-- Chains with one link more, and with none.
use Rattle.std.proofs.Common.{◌≡◌, ℕ, ◌⊎◌, ◌↔◌, List, [], sym, refl, ap, subst, inl, inr}
use Rattle.search.specs.Chains.{Chain, alone, onward}
use Rattle.search.proofs.Chaining.{chain_on, reaches_step, reaches_itself}
use Rattle.offices.specs.Model.{OfficeModel}
use Rattle.law.specs.Sound.{Link, Step, Leads}
use Rattle.law.specs.Requests.{link}
use Rattle.law.specs.Histories.{accepting, Standing}
use Rattle.law.specs.Promises.{OneLinkMore, NoLink}
use Rattle.law.proofs.Scenes.{leads_more, chain_over, over_leads}
use Rattle.law.proofs.Alikes.{one}

module _ (bank : List OfficeModel) (linked : Link → Type 0) (u v : ℕ) where
  abbrev More : Link → Type 0
  More l = linked l ⊎ (l ≡ record { from = u; to = v })

  abbrev Ways : ℕ → ℕ → Type 0
  Ways a b = Leads bank linked a b ⊎ (Leads bank linked a u × Leads bank linked v b)

  before : {a m b : ℕ} → Step bank linked a m → Ways m b → Ways a b
  before {a} s (inl r) = inl (reaches_step s r)
  before {a} s (inr r) = inr (reaches_step s r.0, r.1)

  across : {a m b : ℕ} → u ≡ a → v ≡ m → Ways m b → Ways a b
  across {a} {m} {b} e f w = inr (subst (λ z. Leads bank linked z u) e (reaches_itself u), elim w [ inl r ↦ subst (λ z. Leads bank linked z b) (sym f) r | inr r ↦ r.1 ])

  split : {a b : ℕ} {xs : List ℕ} → Chain (Step bank More) a b xs → Ways a b
  split {a} alone = inl (reaches_itself a)
  split (onward (inl s) k) = before (inl s) (split k)
  split (onward (inr (inl l)) k) = before (inr l) (split k)
  split (onward (inr (inr e)) k) = across (ap (λ (l : Link). l.from) (sym e)) (ap (λ (l : Link). l.to) (sym e)) (split k)

  join : (a b : ℕ) → Ways a b → Leads bank More a b
  join a b (inl r) = leads_more bank linked More (λ p l. inl l) a b r
  join a b (inr r) =
      let there = leads_more bank linked More (λ p l. inl l) a u r.0 in
      let on = leads_more bank linked More (λ p l. inl l) v b r.1 in
      chain_on there.1 (reaches_step (inr (inr refl)) on)

pub one_more : (bank : List OfficeModel) (linked : Link → Type 0) (u v a b : ℕ)
    → Leads bank (λ l. linked l ⊎ (l ≡ record { from = u; to = v })) a b ↔ (Leads bank linked a b ⊎ (Leads bank linked a u × Leads bank linked v b))
one_more bank linked u v a b = ((λ r. split bank linked u v r.1), join bank linked u v a b)

pub one_link_more : OneLinkMore
one_link_more bank h n u v a b =
    let l : Link = record { from = u; to = v } in
    let new : Link → Type 0 = Standing (accepting n (link l) h) in
    let more : Link → Type 0 = λ q. Standing h q ⊎ (q ≡ l) in
    let e = one_more bank (Standing h) u v a b in (
      (λ r. e.0 (leads_more bank new more (λ q s. elim ((one n h l q).0 s) [ inl x ↦ inr x | inr x ↦ inl x ]) a b r)),
      (λ w. leads_more bank more new (λ q s. (one n h l q).1 (elim s [ inl x ↦ inr x | inr x ↦ inl x ])) a b (e.1 w)),
    )

pub no_link : NoLink
no_link bank lawful a b role = ((λ r. chain_over bank lawful (Standing []) (λ p s. s) role r.1), over_leads bank lawful (Standing []) (λ p s. s) a b)
