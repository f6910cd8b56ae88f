-- What `storable` says of a pair.
use Rattle.std.proofs.Common.{◌≡◌, ℕ, ◌<◌, Bool, true, false, cond, ◌&&◌, ltb, Ok, Err, refl}
use Rattle.std.proofs.lemmas.Bool.{and_parts, ltb-true}
use Rattle.answers.specs.declared.Refusal.TheVariants.{NoSuchRole, Circular}
use Rattle.offices.specs.Drafting.{Answer}
use Rattle.drafting.specs.Keeping.{checked}

abbrev tested : Bool → Bool → Answer → Answer
tested there circle own = cond there (cond circle (Err Circular) own) (Err NoSuchRole)

through : (there circle : Bool) → Ok tt ≡ tested there circle (Ok tt) → (there ≡ true) × (circle ≡ false)
through true false e = (refl, refl)
through true true e = cc
through false circle e = cc

-- what may be stored is a pair of roles that closes no circle
pub storable_pair : (circle : Bool) (s j : ℕ) → Ok tt ≡ checked circle (Ok tt) s j → (s < 64) × (j < 64) × (circle ≡ false)
storable_pair circle s j e =
    let p = through (ltb s 64 && ltb j 64) circle e in
    let q = and_parts (ltb s 64) (ltb j 64) p.0 in
    (ltb-true s 64 q.0, ltb-true j 64 q.1, p.1)
