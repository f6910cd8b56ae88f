-- The shared marks of an office, one role after another.
use Rattle.std.proofs.Common.{◌≡◌, ℕ, ◌+◌, Bool, true, false, ◌&&◌, ltb, [], Ok, ap, ◌∙◌}
use mathlib.Core.Path.{fun_ext}
use Rattle.offices.specs.Model.{OfficeModel}
use Rattle.offices.specs.Drafting.{after_mark}
use Rattle.directory.proofs.Gathering.{gathered_yes, gathered_no}

-- an office with these marks and no set
abbrev pub with_marks : OfficeModel → (ℕ → Bool) → OfficeModel
with_marks m marks = record { roles = m.roles; over = m.over; shared = marks; sets = [] }

-- the marks below role j, and no set
abbrev pub first_marks : ℕ → OfficeModel → OfficeModel
first_marks j m = with_marks m (λ a. ltb a j && m.shared a)

module _ (m b : OfficeModel) (j : ℕ) (before : b ≡ first_marks j m) where
  pub marked_more : m.shared j ≡ true → after_mark (Ok tt) b j ≡ first_marks (j + 1) m
  marked_more t = ap (λ x. after_mark (Ok tt) x j) before ∙ ap (with_marks m) (fun_ext (gathered_yes m.shared j t))

  pub marked_same : m.shared j ≡ false → b ≡ first_marks (j + 1) m
  marked_same n = before ∙ ap (with_marks m) (fun_ext (gathered_no m.shared j n))
