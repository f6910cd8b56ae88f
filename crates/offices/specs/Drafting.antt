-- Drafting an office: what each call is answered, what it changes, and what the office is
-- after any list of calls and their answers.
use Rattle.std.specs.Prelude.{◌≡◌, ℕ, ◌<◌, min, Bool, true, false, cond, not, ◌&&◌, ◌||◌, List, [], ◌∷◌, ◌++◌, length, Ok, Err, Decides, Result, ◌==◌, nat_le, nat_lt}
use Rattle.std.specs.List.{list_all}
use mathlib.Core.List.{Memᴰ}
use Rattle.answers.specs.declared.Refusal.{Refusal}
use Rattle.answers.specs.declared.Refusal.TheVariants.{NoSuchRole, Circular, BadSet, SetsFull}
use Rattle.offices.specs.Model.{OfficeModel, SetModel}
use Rattle.offices.specs.Order.{Closes, itself_alone, grown}

abbrev pub Answer : Type 0
Answer = Result (Unit {0}) Refusal

-- the three calls of a draft
pub data Call : Type 0 where
  pair : (senior junior : ℕ) → Call
  share : (role : ℕ) → Call
  exclude : (members : List ℕ) (bound : ℕ) → Call

-- a call and its answer
pub record Event : Type 0 where
  pub call : Call
  pub answer : Answer

-- the call is among these, and was accepted
abbrev pub Accepted : List Event → Call → Type 0
Accepted h c = Memᴰ (record { call = c; answer = Ok tt }) h

-- the pair was accepted
abbrev pub Paired : List Event → ℕ → ℕ → Type 0
Paired h s j = Accepted h (pair s j)

abbrev pub set_told : Call → Answer → List SetModel
set_told (exclude ms t) (Ok u) = record { members = ms; bound = t } ∷ []
set_told (exclude ms t) (Err e) = []
set_told (pair s j) r = []
set_told (share a) r = []

-- the accepted sets in the order of their calls; the newest event is first
abbrev pub sets_told : List Event → List SetModel
sets_told [] = []
sets_told (e ∷ h) = sets_told h ++ set_told e.call e.answer

-- m is the office drafted with n roles by these calls and answers, the newest first:
-- a role is over another exactly by the accepted pairs and what follows from them
pub record Drafted (n : ℕ) (h : List Event) (m : OfficeModel) : Type 0 where
  pub roles : m.roles ≡ min n 64
  pub inside : (s j : ℕ) → Paired h s j → (s < m.roles) × (j < m.roles)
  pub over : Closes m.roles m.over (Paired h)
  pub shared : (a : ℕ) → Decides (m.shared a) (Accepted h (share a))
  pub sets : m.sets ≡ sets_told h

-- whatever calls and answers led to the office before, they and this event lead to the office after
abbrev pub Keeps : OfficeModel → Call → Answer → OfficeModel → Type 0
Keeps before c r after = (n : ℕ) (h : List Event) → Drafted n h before → Drafted n (record { call = c; answer = r } ∷ h) after

-- n roles, each over itself alone, nothing shared and no set
abbrev pub fresh : ℕ → OfficeModel
fresh n = record { roles = n; over = itself_alone n; shared = λ a. false; sets = [] }

-- the answer to a pair, in an office of n roles with this seniority; `own` is what the kind of office
-- answers to one that does not follow already
abbrev pub pair_answer : ℕ → (ℕ → ℕ → Bool) → Answer → ℕ → ℕ → Answer
pair_answer n over own s j =
    cond (nat_lt s n && nat_lt j n)
    (cond (s == j || over j s) (Err Circular) (cond (over s j) (Ok tt) own))
    (Err NoSuchRole)

abbrev pub over_after : Answer → (ℕ → ℕ → Bool) → ℕ → ℕ → ℕ → ℕ → Bool
over_after (Ok u) over s j = grown over s j
over_after (Err e) over s j = over

abbrev pub after_pair : Answer → OfficeModel → ℕ → ℕ → OfficeModel
after_pair r m s j = record { roles = m.roles; over = over_after r m.over s j; shared = m.shared; sets = m.sets }

-- the answer to a shared mark, in an office of n roles
abbrev pub mark_answer : ℕ → ℕ → Answer
mark_answer n a = cond (nat_lt a n) (Ok tt) (Err NoSuchRole)

abbrev pub after_mark : Answer → OfficeModel → ℕ → OfficeModel
after_mark (Ok u) m role = record { roles = m.roles; over = m.over; shared = λ a. m.shared a || (a == role); sets = m.sets }
after_mark (Err e) m role = m

-- x is not among these
abbrev pub missing : ℕ → List ℕ → Bool
missing x = list_all (λ y. not (y == x))

-- no role is repeated
abbrev pub all_differ : List ℕ → Bool
all_differ [] = true
all_differ (x ∷ xs) = missing x xs && all_differ xs

abbrev pub all_below : ℕ → List ℕ → Bool
all_below n = list_all (λ x. nat_lt x n)

-- 2 to 8 different roles, and a bound from 2 to their number
abbrev pub good_set : List ℕ → ℕ → Bool
good_set ms t = nat_le 2 (length ms) && (nat_le (length ms) 8 && (nat_le 2 t && (nat_le t (length ms) && all_differ ms)))

-- the answer to a set, in an office of n roles with these sets
abbrev pub set_answer : ℕ → List SetModel → List ℕ → ℕ → Answer
set_answer n sets ms t =
    cond (nat_le 8 (length sets)) (Err SetsFull)
    (cond (good_set ms t) (cond (all_below n ms) (Ok tt) (Err NoSuchRole)) (Err BadSet))

abbrev pub with_set : Answer → List SetModel → List ℕ → ℕ → List SetModel
with_set (Ok u) sets ms t = sets ++ (record { members = ms; bound = t } ∷ [])
with_set (Err e) sets ms t = sets

abbrev pub after_set : Answer → OfficeModel → List ℕ → ℕ → OfficeModel
after_set r m ms t = record { roles = m.roles; over = m.over; shared = m.shared; sets = with_set r m.sets ms t }
