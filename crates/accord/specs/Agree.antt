-- When a register's tables and a history of requests agree.
use Rattle.std.specs.Prelude.{◌≡◌, ℕ, ◌<◌, ◌↔◌, List, Some, ◌≢◌}
use Rattle.law.specs.Sound.{Link}
use Rattle.law.specs.Histories.{Event, Issued, Holds, Trusts, Standing, Suspended}
use Rattle.accord.specs.Tables.{Tables, Holding, Trusting, Recorded, Resting}

-- the tables say of cards, trust and links what the history says, and no link has two records
pub record Agree (t : Tables) (h : List Event) : Type 0 where
  pub homes : (c o : ℕ) → Issued h c o ↔ (t.home c ≡ Some o)
  pub holdings : (c r : ℕ) → Holds h c r ↔ Holding t c r
  pub trust : (o p : ℕ) → Trusts h o p ↔ Trusting t o p
  pub standing : (l : Link) → Standing h l ↔ Recorded t l
  pub suspended : (l : Link) → Suspended h l ↔ Resting t l
  pub apart : (i j : ℕ) → i < j → j < t.count → t.link i ≢ t.link j
