-- The offices of a directory: each is lawful, and there are at most sixteen.
use Rattle.std.proofs.Common.{◌≡◌, ℕ, zero, suc, ◌<◌, ◌≤◌, Bool, List, [], ◌∷◌, map, length, get_or, Some, None, vec_items, vec_len, Option, sym, ap, ◌∙◌, arith, Bor, MatchOption}
use mathlib.Core.Logic.{∥∥₁_elim}
use denote.Struct.Props.{props}
use Rattle.std.specs.List.{HoldsAt}
use Rattle.std.proofs.lemmas.List.{length-map, get_or-map, get_or_past}
use Rattle.offices.specs.Bases.{base_roles, base_sets, base_shared, office_with}
use Rattle.offices.specs.Members.{row_holds}
use Rattle.offices.specs.Model.{SetModel, OfficeModel, Lawful}
use Rattle.offices.specs.declared.base.OfficeBase.{OfficeBase}
use Rattle.offices.specs.declared.role_set.RoleSet.{RoleSet}
use Rattle.offices.proofs.Lawfulness.{office_lawful}
use Rattle.offices.proofs.Props.{order_from}
use Rattle.banks.specs.Banks.{no_office, office_at}
use Rattle.banks.specs.Joined.{none_lawful}
use Rattle.law.specs.Roles.{LawfulBank}
use Rattle.directory.specs.Heard.{entry_model, heard}
use Rattle.directory.specs.SetWords.{WordsHold}
use Rattle.directory.specs.declared.entry.OfficeEntry.{OfficeEntry}
use Rattle.directory.specs.declared.directory.Directory.{Directory}

words_prop : (words : List RoleSet) (sets : List SetModel) → IsProp (WordsHold words sets)
words_prop words sets = hlevel props

pub words_from : (words : List RoleSet) (sets : List SetModel) → ∥ WordsHold words sets ∥₁ → WordsHold words sets
words_from words sets t = ∥∥₁_elim t (words_prop words sets) (λ h. h)

pub entry_lawful : (e : OfficeEntry) → Lawful (entry_model e)
entry_lawful e = office_lawful e.base (row_holds e.juniors) (order_from (base_roles e.base) (row_holds e.juniors) e.order)

entries_lawful : (es : List OfficeEntry) (o : ℕ) → Lawful (office_at (map entry_model es) o)
entries_lawful [] o = none_lawful
entries_lawful (e ∷ es) zero = entry_lawful e
entries_lawful (e ∷ es) (suc o) = entries_lawful es o

module _ (d : Directory) where
  pub length_heard : length (heard d) ≡ vec_len d.entries
  unfolding heard
  length_heard = length-map (vec_items d.entries) entry_model ∙ sym d.entries.ok.0

  pub heard_few : length (heard d) ≤ 16
  heard_few = let few = d.sixteen in omega (arith, length_heard)

  each_lawful : (o : ℕ) → Lawful (office_at (heard d) o)
  unfolding heard
  each_lawful = entries_lawful (vec_items d.entries)

  pub heard_lawful : LawfulBank (heard d)
  heard_lawful = record { heard = heard_few; lawful = each_lawful }

  pub heard_at : (o : ℕ) (e : OfficeEntry) → o < vec_len d.entries → e ≡ get_or (vec_items d.entries) o e → office_at (heard d) o ≡ entry_model e
  unfolding heard
  heard_at o e l h = get_or-map entry_model (vec_items d.entries) o e no_office (omega (arith, d.entries.ok.0)) ∙ ap entry_model (sym h)

  pub heard_none : (o : ℕ) → vec_len d.entries ≤ o → office_at (heard d) o ≡ no_office
  unfolding heard
  heard_none o l = get_or_past (heard d) o no_office (omega (arith, length_heard))

  -- what a look at the entries found
  pub heard_found : (o : ℕ) (xs : List OfficeEntry) (r : Option (Bor OfficeEntry)) → xs ≡ vec_items d.entries → MatchOption r (length xs ≤ o) (λ x. (o < length xs) × HoldsAt (λ y. x.now ≡ y) xs o) → MatchOption r (office_at (heard d) o ≡ no_office) (λ x. office_at (heard d) o ≡ entry_model x.now)
  heard_found o xs None e h = heard_none o (omega (arith, d.entries.ok.0, ap length e))
  heard_found o xs (Some x) e h = heard_at o x.now (omega (arith, d.entries.ok.0, ap length e, h.0)) (h.1 x.now ∙ ap (λ ys. get_or ys o x.now) e)

pub same_model : (b : OfficeBase) (over : ℕ → ℕ → Bool) (m : OfficeModel) → base_roles b ≡ m.roles → over ≡ m.over → base_shared b ≡ m.shared → base_sets b ≡ m.sets → office_with b over ≡ m
same_model b over m p q r s = λ i. record { roles = p i; over = q i; shared = r i; sets = s i }
