-- Tables stay exact as links are entered.
use Rattle.std.proofs.Common.{◌≡◌, ℕ, Bool, true, ◌&&◌, ◌||◌, List, ◌∙◌, ap₂, ⊎_elim}
use Rattle.std.proofs.lemmas.Bool.{cases_Bool}
use Rattle.std.proofs.lemmas.Bool.Decides.{Decides-at}
use Rattle.offices.specs.Model.{OfficeModel}
use Rattle.law.specs.Roles.{LawfulBank, IsRole}
use Rattle.law.specs.Sound.{Link}
use Rattle.law.proofs.Scenes.{over_roles}
use Rattle.reach.specs.declared.table.ReachTable.{ReachTable}
use Rattle.reach.specs.Rows.{joined}
use Rattle.reach.specs.Tables.{code_reaches, card_reaches, owner_reaches, Entered}
use Rattle.reach.specs.Exact.{Exact, Only, WithLink, ExactTable, JuniorTable}
use Rattle.reach.proofs.Exactness.{exact_more, exact_alike, exact_none, exact_role}

module _ (bank : List OfficeModel) (held outsiders : ℕ → ℕ → Type 0) where
  module _ (linked : Link → Type 0) where
    pub table_more :
        (t t' : ReachTable) (u v : ℕ) → IsRole bank v → Entered t u v t'
        → ExactTable bank linked held outsiders t → ExactTable bank (WithLink linked u v) held outsiders t'
    table_more t t' u v role e x =
        let g = code_reaches t v in let exact_v = x.roles v role in
        let row : (Start : ℕ → Type 0) (f f' : ℕ → Bool) → ((b : ℕ) → f' b ≡ joined f u g b) → Exact bank linked Start f → Exact bank (WithLink linked u v) Start f' =
        λ Start f f' is ef b. Decides-at (f' b) (joined f u g b) (is b) (exact_more bank linked u v Start f g ef exact_v b) in
        record {
          roles = λ a r. row (Only a) (code_reaches t a) (code_reaches t' a) (e.codes a) (x.roles a r);
          others = λ a b no. e.codes a b ∙ ap₂ (λ p q. p || (q && g b)) (x.others a b no) (x.others a u no);
          cards = λ c l. row (held c) (card_reaches t c) (card_reaches t' c) (e.cards c) (x.cards c l);
          owners = λ o l. row (outsiders o) (owner_reaches t o) (owner_reaches t' o) (e.owners o) (x.owners o l);
        }

    pub table_alike :
        (linked' : Link → Type 0) → ((l : Link) → linked l → linked' l) → ((l : Link) → linked' l → linked l)
        → (t : ReachTable) → ExactTable bank linked held outsiders t → ExactTable bank linked' held outsiders t
    table_alike linked' into back t x = record {
      roles = λ a r. exact_alike bank linked linked' into back (Only a) (code_reaches t a) (x.roles a r);
      others = x.others;
      cards = λ c l. exact_alike bank linked linked' into back (held c) (card_reaches t c) (x.cards c l);
      owners = λ o l. exact_alike bank linked linked' into back (outsiders o) (owner_reaches t o) (x.owners o l);
    }

    pub table_none :
        LawfulBank bank → ((l : Link) → linked l → ⊥)
        → ((c a : ℕ) → held c a → IsRole bank a) → ((o a : ℕ) → outsiders o a → IsRole bank a)
        → (t : ReachTable) → JuniorTable bank held outsiders t → ExactTable bank linked held outsiders t
    table_none lawful none holders outside t x = record {
      roles = λ a r. exact_role bank lawful linked none a r (code_reaches t a) (x.codes a);
      others = λ a b no. ⊎_elim (λ (h : code_reaches t a b ≡ true). absurd (no ((over_roles bank lawful a b ((x.codes a b).0 h)).0))) (λ h. h) (cases_Bool (code_reaches t a b));
      cards = λ c l. exact_none bank lawful linked none (held c) (holders c) (card_reaches t c) (x.cards c l);
      owners = λ o l. exact_none bank lawful linked none (outsiders o) (outside o) (owner_reaches t o) (x.owners o l);
    }
