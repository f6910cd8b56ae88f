-- What the search says of a list of pairs is its seniority.
use Rattle.std.proofs.Common.{◌≡◌, ℕ, ◌<◌, ◌≤◌, Bool, true, false, ◌⊎◌, List, length, get_or, set, replicate, Ok, Err, Some, None, Option, Result, MatchOption, MatchResult, sym, ap, ◌∙◌, subst, inr, ⊎_elim, arith, length-set}
use Rattle.std.proofs.lemmas.List.{get_or-set_same, get_or-set_other, get_or-replicate, get_or_past, length-replicate}
use Rattle.std.proofs.lemmas.Bool.{cases_Bool, cases_eq, cases_lt, false≢true}
use Rattle.std.specs.Option.{is_some}
use Rattle.search.specs.Chains.{Reaches}
use Rattle.search.specs.Asked.{Steps}
use Rattle.search.specs.Outcomes.{Fitting, Finds, Misses, Searched}
use Rattle.search.specs.declared.Outcome.{Outcome}
use Rattle.search.specs.declared.Unfit.{Unfit}
use Rattle.offices.specs.Order.{Closes}
use Rattle.offices.specs.Drafting.{Answer, over_after}
use Rattle.offices.specs.Members.{row_holds}
use Rattle.offices.proofs.Closing.{closes_same, not_over}
use Rattle.list_office.specs.declared.pair.Pair.{Pair}
use Rattle.list_office.specs.declared.list.PairList.{PairList}
use Rattle.list_office.specs.Listed.{pairs_in, list_over, with_pair}
use Rattle.list_office.specs.Pairs.{has_pair, closed_by}
use Rattle.list_office.specs.PairProps.{rows_from, acyclic_from, steps_inside}
use Rattle.list_office.proofs.PairFacts.{closes_pairs, closed_push}

-- the marks of one start
abbrev pub one_start : ℕ → List Bool
one_start s = set (replicate 64 false) s true

pub start_marked : (s : ℕ) → s < 64 → get_or (one_start s) s false ≡ true
start_marked s l = get_or-set_same (replicate 64 false) s true false (omega (arith, length-replicate 64 false))

only_start : (s v : ℕ) → get_or (one_start s) v false ≡ true → v ≡ s
only_start s v h = ⊎_elim
    (λ e. e)
    (λ ne. absurd (false≢true (sym (get_or-set_other (replicate 64 false) s v true false ne ∙ blank v) ∙ h)))
    (cases_eq v s)
  where
    blank : (v : ℕ) → get_or (replicate 64 false) v false ≡ false
    blank v = ⊎_elim (λ l. get_or-replicate 64 v false false l) (λ l. get_or_past (replicate 64 false) v false (omega (arith, length-replicate 64 false))) (cases_lt v 64)

module _ (l : PairList) where
  list_closes : Closes 64 (list_over l) (Steps (row_holds l.juniors))
  list_closes =
      let rows = rows_from (row_holds l.juniors) (pairs_in l) l.steps in
      closes_same 64 (list_over l) (λ a b. has_pair (pairs_in l) a b ≡ true) (Steps (row_holds l.juniors))
      (λ a b h. rows a b ∙ h)
      (λ a b h. sym (rows a b) ∙ h)
      (closes_pairs 64 (pairs_in l) (acyclic_from 64 (pairs_in l) l.order))

  module _ (s j : ℕ) where
    pub over_found : (near home len looked : ℕ) (old new : List ℕ) → Finds 64 (row_holds l.juniors) (one_start s) j near home old new len looked → list_over l s j ≡ true
    over_found near home len looked old new f =
        let b = f.best in
        let from : b.from ≡ s = only_start s b.from b.starts.1 in
        (list_closes s j).1 (subst (λ x. x < 64) from b.starts.0, subst (λ x. Reaches (Steps (row_holds l.juniors)) x j) from (f.chain, b.leads))

    pub over_missed : (near home looked : ℕ) (old new : List ℕ) → s < 64 → Misses 64 (row_holds l.juniors) (one_start s) j near home old new looked → list_over l s j ≡ false
    over_missed near home looked old new ls m = ⊎_elim
        (λ t. absurd (m.none (s, (ls, start_marked s (omega arith)), ((list_closes s j).0 t).1)))
        (λ f. f)
        (cases_Bool (list_over l s j))

    pub over_outside : (64 ≤ s) ⊎ (64 ≤ j) → list_over l s j ≡ false
    over_outside = not_over 64 (list_over l) (acyclic_from 64 (pairs_in l) l.order).order s j

-- no step leads from or to what is no role
pub no_step : (l : PairList) (a b : ℕ) → (64 ≤ a) ⊎ (64 ≤ b) → row_holds l.juniors a b ≡ false
no_step l a b out = ⊎_elim
    (λ t. let in-range = steps_inside l a b t in
    absurd (⊎_elim (λ h. omega (arith, in-range.0)) (λ h. omega (arith, in-range.1)) out))
    (λ f. f)
    (cases_Bool (row_holds l.juniors a b))

-- slices of 64 places are too short for no list of pairs
pub over_unfit : (l : PairList) (s j near home strip : ℕ) → 64 ≤ near → 64 ≤ home → 64 ≤ strip → (Fitting 64 j (length (one_start s)) near home strip → ⊥) → list_over l s j ≡ false
over_unfit l s j near home strip ln lh ls unfit = ⊎_elim
    (λ lj. absurd (unfit (record {
      target = lj;
      starts_room = omega (arith, length-set (replicate 64 false) s true, length-replicate 64 false);
      near_room = omega arith;
      home_room = omega arith;
      strip_room = omega arith;
    })))
    (λ lj. over_outside l s j (inr lj))
    (cases_lt j 64)

-- what a search with such slices says, and whether it found a chain
module _ (l : PairList) (s j near home : ℕ) (old new : List ℕ) (ls : s < 64) (ln : 64 ≤ near) (lh : 64 ≤ home) (lo : 64 ≤ length old) where
  over_len : (len : Option ℕ) (looked : ℕ) → MatchOption len (Misses 64 (row_holds l.juniors) (one_start s) j near home old new looked) (λ n. Finds 64 (row_holds l.juniors) (one_start s) j near home old new n looked) → is_some len ≡ list_over l s j
  over_len None looked told = sym (over_missed l s j near home looked old new ls told)
  over_len (Some n) looked told = sym (over_found l s j near home n looked old new told)

  pub over_told : (r : Result Outcome Unfit) (b : Bool) → Searched 64 (row_holds l.juniors) (one_start s) j near home old new r → MatchResult r (λ o. b ≡ is_some o.len) (λ _. b ≡ false) → b ≡ list_over l s j
  over_told (Ok o) b told said = said ∙ over_len o.len o.looked told
  over_told (Err e) b told said = said ∙ sym (over_unfit l s j near home (length old) ln lh lo told.0)

-- the pairs after one was answered so, and their seniority
pub over_kept : (r : Answer) (ps new : List Pair) (p : Pair) → new ≡ with_pair r ps p → closed_by 64 new ≡ over_after r (closed_by 64 ps) p.senior p.junior
over_kept (Ok u) ps new p e = ap (closed_by 64) e ∙ closed_push 64 ps p
over_kept (Err x) ps new p e = ap (closed_by 64) e
