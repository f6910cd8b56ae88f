-- The number of each refusal.
use Rattle.std.specs.Prelude.{ℕ}
use Rattle.answers.specs.declared.Refusal.{Refusal}
use Rattle.answers.specs.declared.Refusal.TheVariants.{NoSuchOffice, NoSuchCode, NoSuchCard, ShortStrip, SameOffice, AlreadyLinked, NotLinked, AlreadySuspended, AlreadyInForce, NotShared, OwnTrust, AlreadyIssued, NotIssued, ForeignRole, AlreadyHeld, NotHeld, LinksFull, Unsound, NoSuchRole, Circular, PairsFull, SeniorTaken, BadSet, SetsFull, WrongLength, UnknownWord, BadField}

abbrev pub number_of : Refusal → ℕ
number_of NoSuchOffice = 1
number_of NoSuchCode = 2
number_of NoSuchCard = 3
number_of ShortStrip = 4
number_of SameOffice = 5
number_of AlreadyLinked = 6
number_of NotLinked = 7
number_of AlreadySuspended = 8
number_of AlreadyInForce = 8
number_of NotShared = 9
number_of OwnTrust = 10
number_of AlreadyIssued = 11
number_of NotIssued = 12
number_of ForeignRole = 13
number_of AlreadyHeld = 14
number_of NotHeld = 14
number_of LinksFull = 15
number_of Unsound = 16
number_of NoSuchRole = 21
number_of Circular = 22
number_of PairsFull = 23
number_of SeniorTaken = 24
number_of BadSet = 25
number_of SetsFull = 26
number_of WrongLength = 31
number_of UnknownWord = 32
number_of BadField = 33
