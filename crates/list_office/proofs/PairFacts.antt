-- One pair more in a list; its seniority is the closure of its pairs.
use Rattle.std.proofs.Common.{◌≡◌, ℕ, ◌<◌, Bool, true, false, ◌&&◌, ◌||◌, eqb, ltb, ◌⊎◌, List, [], ◌∷◌, ◌++◌, length, set, fold, sym, refl, ap, ◌∙◌, subst, ap₂, inl, inr, ⊎_elim}
use Rattle.std.proofs.lemmas.List.Sums.{fold_push}
use Rattle.std.proofs.lemmas.Bool.{or_cases, or_left, or_right, and_parts, and_from, eqb-true, eq-eqb, ne_eqb, lt-ltb, cases_eq, false≢true}
use Rattle.offices.specs.Order.{Order, Closes, itself_alone, grown}
use Rattle.offices.specs.Members.{holds, row_holds}
use Rattle.offices.specs.declared.role_set.RoleSet.{RoleSet}
use Rattle.std.proofs.Math.Bool.{or-false, and-true, or_assoc}
use Rattle.offices.proofs.Closing.{alone_order, closes_none, closes_more, closes_same, grown_order}
use Rattle.offices.proofs.RowFacts.{row_set_same, row_set_other}
use Rattle.list_office.specs.declared.pair.Pair.{Pair}
use Rattle.list_office.specs.Pairs.{has_pair, closed_by, Rows, Acyclic}

pub has_push : (ps : List Pair) (p : Pair) (a b : ℕ) → has_pair (ps ++ (p ∷ [])) a b ≡ (has_pair ps a b || (eqb a p.senior && eqb b p.junior))
has_push [] p a b = or-false (eqb a p.senior && eqb b p.junior)
has_push (q ∷ qs) p a b =
    ap (λ x. (eqb a q.senior && eqb b q.junior) || x) (has_push qs p a b)
    ∙ sym (or_assoc (eqb a q.senior && eqb b q.junior) (has_pair qs a b) (eqb a p.senior && eqb b p.junior))

pub closed_none : (n : ℕ) → closed_by n [] ≡ itself_alone n
unfolding closed_by
closed_none n = refl

pub closed_push : (n : ℕ) (ps : List Pair) (p : Pair) → closed_by n (ps ++ (p ∷ [])) ≡ grown (closed_by n ps) p.senior p.junior
unfolding closed_by
closed_push n ps p = fold_push (λ over (q : Pair). grown over q.senior q.junior) (itself_alone n) ps p

-- the pair itself, or one before it
newest : (ps : List Pair) (p : Pair) (a b : ℕ) → has_pair (ps ++ (p ∷ [])) a b ≡ true → (has_pair ps a b ≡ true) ⊎ ((a ≡ p.senior) × (b ≡ p.junior))
newest ps p a b h = ⊎_elim
    (λ t. inl t)
    (λ t. let e = and_parts (eqb a p.senior) (eqb b p.junior) t in inr (eqb-true a p.senior e.0, eqb-true b p.junior e.1))
    (or_cases (has_pair ps a b) (eqb a p.senior && eqb b p.junior) (sym (has_push ps p a b) ∙ h))

module _ (n : ℕ) where
  pub acyclic_none : Acyclic n []
  acyclic_none = record {
    inside = λ a b h. absurd (false≢true h);
    order = subst (Order n) (sym (closed_none n)) (alone_order n);
  }

  pub acyclic_push : (ps : List Pair) (p : Pair) → Acyclic n ps → p.senior < n → p.junior < n → closed_by n ps p.junior p.senior ≡ false → Acyclic n (ps ++ (p ∷ []))
  acyclic_push ps p ok ls lj never = record {
    inside = λ a b h. ⊎_elim
        (λ t. ok.inside a b t)
        (λ e. (subst (λ x. x < n) (sym e.0) ls, subst (λ x. x < n) (sym e.1) lj))
        (newest ps p a b h);
    order = subst (Order n) (sym (closed_push n ps p)) (grown_order n (closed_by n ps) ok.order p.senior p.junior never);
  }

  -- from any relation that closes its pairs, the pairs of a list more
  closes_fold : (ps : List Pair) (over : ℕ → ℕ → Bool) (P : ℕ → ℕ → Type 0) → Closes n over P → ((a b : ℕ) → P a b → (a < n) × (b < n)) → ((a b : ℕ) → has_pair ps a b ≡ true → (a < n) × (b < n)) → Closes n (fold (λ o (q : Pair). grown o q.senior q.junior) over ps) (λ a b. P a b ⊎ (has_pair ps a b ≡ true))
  closes_fold [] over P cl inside there = closes_same n over P (λ a b. P a b ⊎ (false ≡ true)) (λ a b p. inl p) (λ a b h. ⊎_elim (λ p. p) (λ e. absurd (false≢true e)) h) cl
  closes_fold (p ∷ ps) over P cl inside there =
      let s = p.senior in
      let j = p.junior in
      let here = there s j (or_left (eqb s s && eqb j j) (has_pair ps s j) (and_from (eqb s s) (eqb j j) (eq-eqb s s refl) (eq-eqb j j refl))) in
      let Q : ℕ → ℕ → Type 0 = λ a b. P a b ⊎ ((a ≡ s) × (b ≡ j)) in
      let more : Closes n (grown over s j) Q = closes_more n over P Q s j cl inside here.0 here.1 (λ a b q. inl q) (inr (refl, refl)) (λ a b q. q) in
      let rest = closes_fold ps (grown over s j) Q more
      (λ a b q. ⊎_elim (inside a b) (λ e. (subst (λ x. x < n) (sym e.0) here.0, subst (λ x. x < n) (sym e.1) here.1)) q)
      (λ a b h. there a b (or_right (eqb a s && eqb b j) (has_pair ps a b) h)) in
      closes_same n (fold (λ o (q : Pair). grown o q.senior q.junior) (grown over s j) ps) (λ a b. Q a b ⊎ (has_pair ps a b ≡ true)) (λ a b. P a b ⊎ (has_pair (p ∷ ps) a b ≡ true))
      (λ a b h. ⊎_elim
      (λ q. ⊎_elim (λ x. inl x) (λ e. inr (or_left (eqb a s && eqb b j) (has_pair ps a b) (and_from (eqb a s) (eqb b j) (eq-eqb a s e.0) (eq-eqb b j e.1)))) q)
      (λ t. inr (or_right (eqb a s && eqb b j) (has_pair ps a b) t))
      h)
      (λ a b h. ⊎_elim
      (λ x. inl (inl x))
      (λ t. ⊎_elim
      (λ u. let e = and_parts (eqb a s) (eqb b j) u in inl (inr (eqb-true a s e.0, eqb-true b j e.1)))
      (λ u. inr u)
      (or_cases (eqb a s && eqb b j) (has_pair ps a b) t))
      h)
      rest

  pub closes_pairs : (ps : List Pair) → Acyclic n ps → Closes n (closed_by n ps) (λ a b. has_pair ps a b ≡ true)
  unfolding closed_by
  closes_pairs ps ok =
      closes_same n (fold (λ o (q : Pair). grown o q.senior q.junior) (itself_alone n) ps) (λ a b. ⊥ ⊎ (has_pair ps a b ≡ true)) (λ a b. has_pair ps a b ≡ true)
      (λ a b h. ⊎_elim (λ x. absurd x) (λ t. t) h)
      (λ a b h. inr h)
      (closes_fold ps (itself_alone n) (λ a b. ⊥) (closes_none n (λ a b. ⊥) (λ a b x. x)) (λ a b x. absurd x) ok.inside)

-- one junior more in the row of its senior
pub rows_push : (rows : List RoleSet) (ps : List Pair) (p : Pair) (row : RoleSet) → p.senior < length rows → p.junior < 64 → Rows (row_holds rows) ps → ((i : ℕ) → holds row i ≡ (row_holds rows p.senior i || (eqb i p.junior && ltb p.junior 64))) → Rows (row_holds (set rows p.senior row)) (ps ++ (p ∷ []))
rows_push rows ps p row ls lj was told a b = ⊎_elim
    (λ e. subst (λ x. row_holds (set rows p.senior row) x b ≡ has_pair (ps ++ (p ∷ [])) x b) (sym e) here)
    (λ ne. row_set_other rows p.senior row a b ne ∙ was a b ∙ sym (has_push ps p a b ∙ ap (λ x. has_pair ps a b || (x && eqb b p.junior)) (ne_eqb a p.senior ne) ∙ or-false (has_pair ps a b)))
    (cases_eq a p.senior)
  where
    s : ℕ
    s = p.senior

    here : row_holds (set rows p.senior row) p.senior b ≡ has_pair (ps ++ (p ∷ [])) p.senior b
    here =
        row_set_same rows p.senior row b ls
        ∙ told b
        ∙ ap₂ (λ x y. x || (eqb b p.junior && y)) (was p.senior b) (lt-ltb p.junior 64 lj)
        ∙ ap (λ x. has_pair ps p.senior b || x) (and-true (eqb b p.junior))
        ∙ sym (has_push ps p p.senior b ∙ ap (λ x. has_pair ps p.senior b || (x && eqb b p.junior)) (eq-eqb p.senior p.senior refl))
