-- What keeps tables and histories in accord.
use Rattle.std.specs.Prelude.{◌≡◌, ℕ, false, List, [], ◌∷◌, None}
use Rattle.offices.specs.Model.{OfficeModel}
use Rattle.law.specs.Requests.{Request, Answer}
use Rattle.law.specs.Histories.{Event}
use Rattle.law.specs.Right.{Right}
use Rattle.accord.specs.Tables.{Tables, Proper}
use Rattle.accord.specs.Agree.{Agree}
use Rattle.accord.specs.Settling.{Settled}

-- tables with no card issued, nobody told to trust anyone and no record
abbrev pub Empty : Tables → Type 0
Empty t = (t.count ≡ 0) × ((c : ℕ) → t.home c ≡ None) × ((o p : ℕ) → t.trusted o p ≡ false)

-- empty tables agree with the empty history
abbrev pub EmptyAgrees : Type 0
EmptyAgrees = (t : Tables) → Empty t → Agree t []

-- a request that is settled by the tables is answered right, and the tables after agree with the history after
abbrev pub SettledAgrees : Type 0
SettledAgrees =
    (bank : List OfficeModel) (t u : Tables) (n : ℕ) (q : Request) (a : Answer) (h : List Event) → Settled bank t n q a u →
    Right bank h → Agree t h → Right bank (record { request = q; strip = n; answer = a } ∷ h) × Agree u (record { request = q; strip = n; answer = a } ∷ h)

-- tables that agree with a right history join roles, hold roles, and issue none but the 256 cards
abbrev pub AgreeProper : Type 0
AgreeProper = (bank : List OfficeModel) (t : Tables) (h : List Event) → Right bank h → Agree t h → Proper t bank
