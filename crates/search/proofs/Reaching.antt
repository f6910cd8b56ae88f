-- What the layers say of chains.
use Rattle.std.proofs.Common.{◌≡◌, ℕ, zero, suc, ◌+◌, ◌<◌, ◌≤◌, Bool, true, ◌⊎◌, List, [], ◌∷◌, ◌++◌, Option, Some, None, length, sym, refl, ap, ◌∙◌, inl, inr, ⊎_elim, add-one, arith}
use Rattle.std.proofs.Math.Nat.{add-sub_cancel}
use Rattle.std.proofs.lemmas.List.{length_push}
use Rattle.std.proofs.lemmas.Bool.{cond-true, cond-false, cases_eq, cases_lt, cases_Bool}
use Rattle.search.specs.Chains.{Chain, alone, onward}
use Rattle.search.specs.Asked.{Steps, Marked}
use Rattle.search.specs.Arrivals.{Shortest, Arrives, Stops}
use Rattle.search.specs.Layers.{Layered, Grown, Going, Begun, at_layer, below_layer, marked, distance, is_at, is_below}
use Rattle.search.proofs.Distances.{cases_distance, none_or_some, one_distance, below_true, below_some, below_far, below_none, below_zero, at_false}
use Rattle.search.proofs.Tallies.{tally_none, tally_lt, tally_le, tally_same, tally_split, tally_zero}

-- a chain has a node
pub chain_some : {S : ℕ → ℕ → Type 0} {a t : ℕ} {xs : List ℕ} → Chain S a t xs → 0 < length xs
chain_some alone = omega arith
chain_some (onward e c) = omega arith

-- one more step at the end
pub chain_push : {S : ℕ → ℕ → Type 0} {a u v : ℕ} {xs : List ℕ} → Chain S a u xs → S u v → Chain S a v (xs ++ (v ∷ []))
chain_push alone h = onward h alone
chain_push (onward e c) h = onward e (chain_push c h)

module _ (n : ℕ) (s : ℕ → ℕ → Bool) (marks : List Bool) (inside : (a b : ℕ) → s a b ≡ true → (a < n) × (b < n)) where
  module _ (k : ℕ) (d : List (Option ℕ)) (p : Layered n s (marked marks) k d) where
    -- a chain's end is no farther than the chain is long
    near : {a t : ℕ} {xs : List ℕ} → Chain (Steps s) a t xs → (i : ℕ) → distance d a ≡ Some i → length xs + i ≤ k + 1 → (m : ℕ) × (distance d t ≡ Some m) × (m + 1 ≤ length xs + i)
    near alone i h l = (i, h, omega arith)
    near (onward {a = a} {b = b} e c) i h l =
        let some = chain_some c in
        let w = inside a b e in
        let f = p.ahead a b i w.0 w.1 e h (omega arith) in
        let r = near c f.0 f.1 (omega (arith, f.2)) in
        (r.0, r.1, omega (arith, r.2, f.2))

    pub near_end : {a t : ℕ} {xs : List ℕ} → Marked n marks a → Chain (Steps s) a t xs → length xs ≤ k + 1 → (m : ℕ) × (distance d t ≡ Some m) × (m + 1 ≤ length xs)
    near_end {a = a} m c l =
        let r = near c 0 (p.origin a m.0 m.1) (omega arith) in
        (r.0, r.1, omega (arith, r.2))

    -- a node with a distance has a chain
    pub chain_to : (j v : ℕ) → v < n → distance d v ≡ Some j → (a : ℕ) × (xs : List ℕ) × Marked n marks a × Chain (Steps s) a v xs × (length xs ≡ j + 1)
    chain_to zero v lv e = (v, v ∷ [], (lv, p.starts v lv e), alone, refl)
    chain_to (suc j) v lv e =
        let b = p.back v j lv (rw add-one e) in
        let r = chain_to j b.0 b.1 b.2 in
        (r.0, r.1 ++ (v ∷ []), r.2, chain_push r.3 b.3, omega (arith, length_push r.1 v, r.4))

    module _ (none : at_layer k d n ≡ 0) where
      not_at : (v : ℕ) → v < n → distance d v ≡ Some k → ⊥
      not_at v lv = at_false k (distance d v) (tally_none (λ w. is_at k (distance d w)) n none v lv)

      nearer_than : (v m : ℕ) → v < n → distance d v ≡ Some m → m ≤ k → m < k
      nearer_than v m lv h l = ⊎_elim (λ q. absurd (not_at v lv (h ∙ ap Some q))) (λ q. omega arith) (cases_eq m k)

      -- where no node is at k, each chain stays below k
      closed : {a t : ℕ} {xs : List ℕ} → Chain (Steps s) a t xs → (i : ℕ) → distance d a ≡ Some i → i < k → (m : ℕ) × (distance d t ≡ Some m) × (m < k)
      closed alone i h l = (i, h, l)
      closed (onward {a = a} {b = b} e c) i h l =
          let w = inside a b e in
          let f = p.ahead a b i w.0 w.1 e h l in
          closed c f.0 f.1 (nearer_than b f.0 w.1 f.1 (omega (arith, f.2)))

      pub closed_end : {a t : ℕ} {xs : List ℕ} → Marked n marks a → Chain (Steps s) a t xs → (m : ℕ) × (distance d t ≡ Some m) × (m < k)
      closed_end {a = a} m c =
          let z = p.origin a m.0 m.1 in
          closed c 0 z (nearer_than a 0 m.0 z (omega arith))

    module _ (t looked : ℕ) (lt : t < n) (seen : looked ≡ below_layer k d n) where
      pub shortest : distance d t ≡ Some k → Shortest (Steps s) (Marked n marks) t (k + 1)
      shortest at = record {
        one = chain_to k t lt at;
        least = λ a ys m c. ⊎_elim (λ l. let h = near_end m c (omega arith) in let w = one_distance h.0 k h.1 at in absurd (omega (arith, h.2, w))) (λ l. l) (cases_lt (length ys) (k + 1));
      }

      pub arrives : k ≤ looked → distance d t ≡ Some k → Arrives n s marks t d (k + 1) looked
      arrives few at =
          let sh = shortest at in
          let o = sh.one in
          record {
            shortest = sh;
            count = (
              (λ v. is_below k (distance d v)),
              (λ v lv. (
                (λ h. let l = below_true k (distance d v) h in let r = chain_to l.0 v lv l.1 in (r.0, r.1, r.2, r.3, λ b ys m c. omega (arith, l.2, r.4, sh.least b ys m c))),
                (λ r. let w = r.4 o.0 o.1 o.2 o.3 in let e = o.4 in let h = near_end r.2 r.3 (omega arith) in below_some k h.0 (distance d v) h.1 (omega (arith, h.2))),
              )),
              seen,
            );
            some = omega arith;
            short = omega arith;
            fits = omega (arith, seen, tally_lt (λ v. is_below k (distance d v)) n t lt (below_far k k (distance d t) at (omega arith)));
            labels = rw (add-sub_cancel k 1) p;
          }

      pub stops : at_layer k d n ≡ 0 → distance d t ≡ None → Stops n s marks t looked
      stops none at = record {
        none = λ r. let h = closed_end none r.1 r.2.1 in none_or_some h.0 at h.1;
        count = (
          (λ v. is_below k (distance d v)),
          (λ v lv. (
            (λ h. let l = below_true k (distance d v) h in let r = chain_to l.0 v lv l.1 in (r.0, r.2, (r.1, r.3))),
            (λ r. let h = closed_end none r.1 r.2.1 in below_some k h.0 (distance d v) h.1 h.2),
          )),
          seen,
        );
        fits = omega (arith, seen, tally_le (λ v. is_below k (distance d v)) n);
      }

module _ (n : ℕ) (s : ℕ → ℕ → Bool) (st : ℕ → Bool) where
  pub begun_layered : (d : List (Option ℕ)) → Begun st n d → Layered n s st 0 d
  begun_layered d h =
      let ways : (v : ℕ) → v < n → ((st v ≡ true) × (distance d v ≡ Some 0)) ⊎ (distance d v ≡ None) =
      λ v lv. ⊎_elim (λ b. inl (b, h v lv ∙ cond-true (st v) (Some 0) None b)) (λ b. inr (h v lv ∙ cond-false (st v) (Some 0) None b)) (cases_Bool (st v)) in
      let zero_alone : (v j : ℕ) → v < n → distance d v ≡ Some j → 0 ≡ j =
      λ v j lv e. ⊎_elim (λ a. one_distance 0 j a.1 e) (λ a. absurd (none_or_some j a e)) (ways v lv) in
      record {
        origin = λ v lv t. h v lv ∙ cond-true (st v) (Some 0) None t;
        starts = λ v lv e. ⊎_elim (λ a. a.0) (λ a. absurd (none_or_some 0 a e)) (ways v lv);
        back = λ v j lv e. absurd (omega (arith, zero_alone v (j + 1) lv e));
        ahead = λ u v j lu lv t e l. absurd (omega arith);
        bound = λ v j lv e. omega (arith, zero_alone v j lv e);
      }

  pub going_none : (t : ℕ) (d : List (Option ℕ)) → t < n → Begun st n d → Going n s st t 0 0 d
  going_none t d lt h = record {
    layered = begun_layered d h;
    seen = sym (tally_zero (λ v. is_below 0 (distance d v)) n (λ v lv. below_zero (distance d v)));
    few = omega arith;
    room = omega arith;
    target = ⊎_elim (λ b. inr (h t lt ∙ cond-true (st t) (Some 0) None b)) (λ b. inl (h t lt ∙ cond-false (st t) (Some 0) None b)) (cases_Bool (st t));
  }

  -- one layer moves no node into those below it
  below_grown : (k : ℕ) (d e : List (Option ℕ)) → Grown k d e → below_layer (k + 1) d n ≡ below_layer (k + 1) e n
  below_grown k d e q = tally_same (λ v. is_below (k + 1) (distance d v)) (λ v. is_below (k + 1) (distance e v)) n (λ v lv. ⊎_elim
      (λ a. below_none (k + 1) (distance d v) a ∙ sym (⊎_elim (λ b. below_none (k + 1) (distance e v) b) (λ b. below_far (k + 1) (k + 1) (distance e v) b (omega arith)) (q.fresh v a)))
      (λ a. ap (is_below (k + 1)) (a.1 ∙ sym (q.same v a.0 a.1)))
      (cases_distance (distance d v)))

  pub going_room : (k looked m : ℕ) (d : List (Option ℕ)) → looked ≡ below_layer k d n → m ≡ at_layer k d n → looked + m ≤ n
  going_room k looked m d h many = let a = tally_split (distance d) k n in omega (arith, h, many, a, tally_le (λ v. is_below (k + 1) (distance d v)) n)

  pub going_more : (t k looked m : ℕ) (d e : List (Option ℕ)) → Going n s st t k looked d → distance d t ≡ None → Layered n s st (k + 1) e → Grown k d e → m ≡ at_layer k d n → 0 < m → Going n s st t (k + 1) (looked + m) e
  going_more t k looked m d e p at next q many some = record {
    layered = next;
    seen = let a = tally_split (distance d) k n in let b = below_grown k d e q in let h = p.seen in omega arith;
    few = omega (arith, p.few);
    room = going_room k looked m d p.seen many;
    target = q.fresh t at;
  }
