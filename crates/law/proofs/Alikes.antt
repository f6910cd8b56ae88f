-- Histories that say the same, and what boxes and links add.
use Rattle.std.proofs.Common.{◌≡◌, ℕ, ◌<◌, ◌⊎◌, ◌↔◌, List, [], ◌∷◌, ◌++◌, sym, refl, ap, ◌∙◌, subst, inl, inr, arith}
use mathlib.Core.List.Memᴰ
use mathlib.Core.List.Permᴰ
use mathlib.Core.List.{Memᴰ, Permᴰ}
use mathlib.Core.Logic.Iff
use Rattle.law.specs.Sound.{Link}
use Rattle.law.specs.Requests.{Request, accepted, issue, assign, relieve, handback, link, box, suspend, resume, withdraw}
use Rattle.law.specs.Histories.{Event, accepting, Since, Is, Either, Enters, Issued, Holds, Trusts, Standing, Suspended, scene, Alike}
use Rattle.law.specs.Promises.{Within, sent}
use Rattle.law.proofs.Changes.{kind, or_both, since_on, issued_still, held_still, trusted_still, suspended_still}

-- the second says what the first says, and that these links stand
pub record Adds (ls : List Link) (h h' : List Event) : Type 0 where
  pub issued : (c o : ℕ) → Issued h' c o ↔ Issued h c o
  pub held : (c r : ℕ) → Holds h' c r ↔ Holds h c r
  pub trusted : (o p : ℕ) → Trusts h' o p ↔ Trusts h o p
  pub standing : (p : Link) → Standing h' p ↔ (Memᴰ p ls ⊎ Standing h p)
  pub suspended : (p : Link) → Suspended h' p ↔ Suspended h p

pub alike_back : {h h' : List Event} → Alike h h' → Alike h' h
alike_back x = record {
  issued = λ c o. Iff.symm (x.issued c o);
  held = λ c r. Iff.symm (x.held c r);
  trusted = λ o p. Iff.symm (x.trusted o p);
  standing = λ p. Iff.symm (x.standing p);
  suspended = λ p. Iff.symm (x.suspended p);
}

since_same : (B E : Request → Type 0) (e : Event) (h h' : List Event) → Since B E h ↔ Since B E h' → Since B E (e ∷ h) ↔ Since B E (e ∷ h')
since_same B E e h h' x = (since_on B E e h h' x.0, since_on B E e h' h x.1)

own_or : (o p : ℕ) (h h' : List Event) → Trusts h o p ↔ Trusts h' o p → (e : Event) → Trusts (e ∷ h) o p ↔ Trusts (e ∷ h') o p
own_or o p h h' x e = (go h h' x.0, go h' h x.1)
  where
    go : (h h' : List Event) → (Trusts h o p → Trusts h' o p) → Trusts (e ∷ h) o p → Trusts (e ∷ h') o p
    go h h' f (inl i) = inl i
    go h h' f (inr (inl s)) = inr (inl s)
    go h h' f (inr (inr s)) = elim (f (inr s.1)) [ inl i ↦ inl i | inr t ↦ inr (inr (s.0, t)) ]

pub alike_on : {h h' : List Event} (e : Event) → Alike h h' → Alike (e ∷ h) (e ∷ h')
alike_on {h} {h'} e x = record {
  issued = λ c o. since_same (Is (issue c o)) (Is (handback c)) e h h' (x.issued c o);
  held = λ c r. since_same (Is (assign c r)) (Either (relieve c r) (handback c)) e h h' (x.held c r);
  trusted = λ o p. own_or o p h h' (x.trusted o p) e;
  standing = λ p. since_same (Enters p) (Is (withdraw p)) e h h' (x.standing p);
  suspended = λ p. since_same (Is (suspend p)) (Either (resume p) (withdraw p)) e h h' (x.suspended p);
}

pub alike_later : {h h' : List Event} (later : List Event) → Alike h h' → Alike (later ++ h) (later ++ h')
alike_later [] x = x
alike_later (e ∷ es) x = alike_on e (alike_later es x)

pub within_alike : {h h' : List Event} → Alike h h' → Within (scene h) (scene h')
within_alike x = record { linked = λ p. (x.standing p).0; held = λ c r. (x.held c r).0; trusted = λ o p. (x.trusted o p).1 }

-- what an accepted LINK or box adds
entry_adds : (n : ℕ) (h : List Event) (q : Request) → kind q < 3 → (ls : List Link) → ((l : Link) → Enters l q ↔ Memᴰ l ls) → Adds ls h (accepting n q h)
entry_adds n h q entry ls same =
    let e : Event = record { request = q; strip = n; answer = accepted } in
    record {
      issued = issued_still e h (λ a. ((λ i. omega arith), λ i. omega arith));
      held = held_still e h (λ a. ((λ i. omega arith), (λ i. omega arith), λ i. omega arith));
      trusted = trusted_still e h (λ a. ((λ i. omega arith), λ i. omega arith));
      standing = λ l. (
        λ x. elim x [ inl b ↦ inl ((same l).0 b.1) | inr s ↦ inr s.1 ],
        λ x. elim x [ inl m ↦ inl (refl, (same l).1 m) | inr s ↦ inr ((λ b. let k = ap kind b.1 in omega arith), s) ],
      );
      suspended = suspended_still e h (λ a. ((λ i. omega arith), (λ i. omega arith), λ i. omega arith));
    }

pub box_adds : (n : ℕ) (h : List Event) (ls : List Link) → Adds ls h (accepting n (box ls) h)
box_adds n h ls = entry_adds n h (box ls) (omega arith) ls (λ p. (go p, λ m. inr (ls, refl, m)))
  where
    go : (p : Link) → Enters p (box ls) → Memᴰ p ls
    go p (inl e) = let z : ◌≡◌ {A = ℕ} 0 1 = cc in absurd (omega arith)
    go p (inr x) = let b = x.1 in let e : ls ≡ x.0 = cc in subst (λ y. Memᴰ p y) (sym e) x.2

pub link_adds : (n : ℕ) (h : List Event) (l : Link) → Adds (l ∷ []) h (accepting n (link l) h)
link_adds n h l = entry_adds n h (link l) (omega arith) (l ∷ []) (λ p. (go p, λ m. inl (back p (Memᴰ.cases_cons m))))
  where
    go : (p : Link) → Enters p (link l) → Memᴰ p (l ∷ [])
    go p (inl e) = Memᴰ.head (cc)
    go p (inr x) = let b = x.1 in let z : ◌≡◌ {A = ℕ} 0 1 = cc in absurd (omega arith)

    back : (p : Link) → (p ≡ l) ⊎ Memᴰ p [] → link l ≡ link p
    back p (inl e) = cc
    back p (inr m) = absurd (Memᴰ.not-nil m)

adds_then : {p : Link} {ps : List Link} {h h' h'' : List Event} → Adds (p ∷ []) h h' → Adds ps h' h'' → Adds (p ∷ ps) h h''
adds_then {p} {ps} {h} {h'} x y = record {
  issued = λ c o. Iff.trans (y.issued c o) (x.issued c o);
  held = λ c r. Iff.trans (y.held c r) (x.held c r);
  trusted = λ o q. Iff.trans (y.trusted o q) (x.trusted o q);
  standing = λ q. (λ s. to q ((y.standing q).0 s), λ s. (y.standing q).1 (from q s));
  suspended = λ q. Iff.trans (y.suspended q) (x.suspended q);
}
  where
    to : (q : Link) → Memᴰ q ps ⊎ Standing h' q → Memᴰ q (p ∷ ps) ⊎ Standing h q
    to q (inl m) = inl (Memᴰ.tail m)
    to q (inr s) = elim ((x.standing q).0 s) [ inl m ↦ elim (Memᴰ.cases_cons m) [ inl e ↦ inl (Memᴰ.head e) | inr z ↦ absurd (Memᴰ.not-nil z) ] | inr t ↦ inr t ]

    from : (q : Link) → Memᴰ q (p ∷ ps) ⊎ Standing h q → Memᴰ q ps ⊎ Standing h' q
    from q (inl m) = elim (Memᴰ.cases_cons m) [ inl e ↦ inr ((x.standing q).1 (inl (Memᴰ.head e))) | inr z ↦ inl z ]
    from q (inr t) = inr ((x.standing q).1 (inr t))

adds_none : (h : List Event) → Adds [] h h
adds_none h = record {
  issued = λ c o. (λ x. x, λ x. x);
  held = λ c o. (λ x. x, λ x. x);
  trusted = λ c o. (λ x. x, λ x. x);
  standing = λ p. (λ x. inr x, λ x. elim x [ inl m ↦ absurd (Memᴰ.not-nil m) | inr s ↦ s ]);
  suspended = λ p. (λ x. x, λ x. x);
}

pub sent_adds : (n : ℕ) (h : List Event) (ls : List Link) → Adds ls h (sent n ls h)
sent_adds n h [] = adds_none h
sent_adds n h (p ∷ ps) = adds_then (link_adds n h p) (sent_adds n (accepting n (link p) h) ps)

perm_mem : {A : Type 0} {x : A} {ls ms : List A} → Permᴰ ls ms → Memᴰ x ls → Memᴰ x ms
perm_mem Permᴰ.nil m = m
perm_mem (Permᴰ.cons e d) m = elim (Memᴰ.cases_cons m) [ inl i ↦ Memᴰ.head (i ∙ e) | inr k ↦ Memᴰ.tail (perm_mem d k) ]
perm_mem (Permᴰ.swap e e') m = elim (Memᴰ.cases_cons m) [ inl i ↦ Memᴰ.tail (Memᴰ.head (i ∙ e)) | inr k ↦ elim (Memᴰ.cases_cons k) [ inl i ↦ Memᴰ.head (i ∙ e') | inr j ↦ Memᴰ.tail (Memᴰ.tail j) ] ]
perm_mem (Permᴰ.trans d d') m = perm_mem d' (perm_mem d m)

pub alike_adds : {ls ms : List Link} {h h' h'' : List Event} → Permᴰ ls ms → Adds ls h h' → Adds ms h h'' → Alike h' h''
alike_adds d x y = record {
  issued = λ c o. Iff.trans (x.issued c o) (Iff.symm (y.issued c o));
  held = λ c o. Iff.trans (x.held c o) (Iff.symm (y.held c o));
  trusted = λ c o. Iff.trans (x.trusted c o) (Iff.symm (y.trusted c o));
  standing = λ p. Iff.trans (x.standing p) (Iff.trans (or_both (perm_mem d, perm_mem (Permᴰ.symm d)) Iff.rfl) (Iff.symm (y.standing p)));
  suspended = λ p. Iff.trans (x.suspended p) (Iff.symm (y.suspended p));
}

-- one LINK more
pub one : (n : ℕ) (h : List Event) (l q : Link) → Standing (accepting n (link l) h) q ↔ ((q ≡ l) ⊎ Standing h q)
one n h l q = Iff.trans ((link_adds n h l).standing q) (or_both (only, λ e. Memᴰ.head e) Iff.rfl)
  where
    only : Memᴰ q (l ∷ []) → q ≡ l
    only m = elim (Memᴰ.cases_cons m) [ inl e ↦ e | inr z ↦ absurd (Memᴰ.not-nil z) ]
