-- What a table of exclusive sets answers.
use Rattle.std.proofs.Common.{◌≡◌, ℕ, ◌<◌, ◌≤◌, List, length, get_or, take, Some, None, ap, ◌∙◌, arith}
use Rattle.std.specs.List.{slice_get}
use Rattle.std.proofs.lemmas.Option.{slice_get-get_or, slice_get_past}
use Rattle.std.proofs.lemmas.List.{length-map, length-take-le, get_or-map, get_or-take}
use Rattle.offices.specs.Sets.{set_model, sets_of}
use Rattle.offices.specs.declared.exclusive.ExclusiveSet.{ExclusiveSet}

pub length_sets : (c : ℕ) (xs : List ExclusiveSet) → c ≤ length xs → length (sets_of c xs) ≡ c
length_sets c xs h = length-map (take c xs) set_model ∙ length-take-le c xs h

pub nth_sets : (c : ℕ) (xs : List ExclusiveSet) (k : ℕ) (d : ExclusiveSet) → c ≤ length xs → k < c → slice_get (sets_of c xs) k ≡ Some (set_model (get_or xs k d))
nth_sets c xs k d h l =
    let n : length (sets_of c xs) ≡ c = length_sets c xs h in
    let m : length (take c xs) ≡ c = length-take-le c xs h in
    slice_get-get_or (sets_of c xs) k (set_model d) (omega arith)
    ∙ ap Some (get_or-map set_model (take c xs) k d (set_model d) (omega arith) ∙ ap set_model (get_or-take c xs k d l))

pub nth_no_set : (c : ℕ) (xs : List ExclusiveSet) (k : ℕ) → c ≤ length xs → c ≤ k → slice_get (sets_of c xs) k ≡ None
nth_no_set c xs k h l = let n : length (sets_of c xs) ≡ c = length_sets c xs h in slice_get_past (sets_of c xs) k (omega arith)

pub nth_front : (n : ℕ) (xs : List ℕ) (p : ℕ) → n ≤ length xs → p < n → slice_get (take n xs) p ≡ Some (get_or xs p 0)
nth_front n xs p h l =
    let m : length (take n xs) ≡ n = length-take-le n xs h in
    slice_get-get_or (take n xs) p 0 (omega arith) ∙ ap Some (get_or-take n xs p 0 l)

pub nth_front_past : (n : ℕ) (xs : List ℕ) (p : ℕ) → n ≤ length xs → n ≤ p → slice_get (take n xs) p ≡ None
nth_front_past n xs p h l =
    let m : length (take n xs) ≡ n = length-take-le n xs h in
    slice_get_past (take n xs) p (omega arith)
