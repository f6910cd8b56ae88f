-- The sample bank, and worked examples over it.
use Rattle.std.specs.Prelude.{◌≡◌, ℕ, Bool, false, ◌||◌, List, [], ◌∷◌, length, ◌==◌, slice_index_or}
use Rattle.answers.specs.declared.Refusal.TheVariants.{NoSuchCode, NoSuchCard, ShortStrip, SameOffice, NotLinked, AlreadyInForce, NotShared, NotHeld}
use Rattle.offices.specs.Model.{OfficeModel, SetModel}
use Rattle.law.specs.Sound.{Link}
use Rattle.law.specs.Findings.{breaks_hierarchy, breaks_exclusion, breaks_exposure}
use Rattle.law.specs.Requests.{Request, Answer, Reason, accepted, refused, refused_at, granted, denied, plain, unsound, issue, assign, relieve, handback, trust, distrust, link, try, box, suspend, resume, withdraw, may, lines_after}
use Rattle.law.specs.Histories.{Event}
use Rattle.law.specs.Right.{Right}

abbrev pub among : ℕ → List ℕ → Bool
among x [] = false
among x (y ∷ ys) = x == y || among x ys

-- an office from the roles that each role is over, the shared roles and the sets
abbrev pub listed : List (List ℕ) → List ℕ → List SetModel → OfficeModel
listed rows marks sets = record { roles = length rows; over = λ a b. among b (slice_index_or rows a []); shared = λ a. among a marks; sets = sets }

-- office 0: 4 roles, 1 and 2 over 3, shared 1, 2, 3, a set of 1 and 2 with bound 2; office 1: 0 over 1 over 2, all
-- shared; office 2: 0 over 1, and 1 is shared (a layer withholds 0)
abbrev pub sample : List OfficeModel
sample =
    listed ((0 ∷ []) ∷ (1 ∷ 3 ∷ []) ∷ (2 ∷ 3 ∷ []) ∷ (3 ∷ []) ∷ []) (1 ∷ 2 ∷ 3 ∷ []) (record { members = 1 ∷ 2 ∷ []; bound = 2 } ∷ [])
    ∷ listed ((0 ∷ 1 ∷ 2 ∷ []) ∷ (1 ∷ 2 ∷ []) ∷ (2 ∷ []) ∷ []) (0 ∷ 1 ∷ 2 ∷ []) []
    ∷ listed ((0 ∷ 1 ∷ []) ∷ (1 ∷ []) ∷ []) (1 ∷ []) []
    ∷ []

abbrev pub ◌⇢◌ : ℕ → ℕ → Link
a ⇢ b = record { from = a; to = b }

-- a request with a strip of 1,024 places, and its answer
abbrev pub ◌answers◌ : Request → Answer → Event
q answers a = record { request = q; strip = 1024; answer = a }

infix 95 ◌⇢◌
infix 90 ◌answers◌
-- both roles of the set are reached from outside, role 1 along this chain
abbrev pub exposed_by : List ℕ → Reason
exposed_by chain = unsound (breaks_exposure 0 0 3) chain

-- each a right history over the sample bank, the newest event first
pub record WorkedExamples : Type 0 where
  pub first_link : Right sample (link (65 ⇢ 1) answers accepted ∷ [])
  pub exposure : Right sample (link (64 ⇢ 2) answers refused (exposed_by (65 ∷ 1 ∷ [])) ∷ link (65 ⇢ 1) answers accepted ∷ [])
  pub hierarchy : Right sample (link (3 ⇢ 64) answers refused (unsound (breaks_hierarchy 2 1) (2 ∷ 3 ∷ 64 ∷ 65 ∷ 1 ∷ [])) ∷ link (65 ⇢ 1) answers accepted ∷ [])
  pub one_office : Right sample (link (64 ⇢ 66) answers refused (plain SameOffice) ∷ [])
  pub withheld : Right sample (link (64 ⇢ 128) answers refused (plain NotShared) ∷ [])
  pub no_role : Right sample (link (3 ⇢ 67) answers refused (plain NoSuchCode) ∷ [])
  pub there_and_back : Right sample (link (129 ⇢ 1) answers accepted ∷ link (1 ⇢ 129) answers accepted ∷ [])
  pub through_another : Right sample (link (129 ⇢ 2) answers refused (unsound (breaks_hierarchy 1 2) (1 ∷ 129 ∷ 2 ∷ [])) ∷ link (1 ⇢ 129) answers accepted ∷ [])
  pub boxed : Right sample (box (65 ⇢ 1 ∷ 64 ⇢ 2 ∷ []) answers refused_at 1 (exposed_by (65 ∷ 1 ∷ [])) ∷ [])
  pub boxed_lines : lines_after (box (65 ⇢ 1 ∷ 64 ⇢ 2 ∷ [])) (refused_at 1 (exposed_by (65 ∷ 1 ∷ []))) (0 ∷ 0 ∷ []) ≡ 99 ∷ 16 ∷ []
  pub suspended_counts : Right sample (link (64 ⇢ 2) answers refused (exposed_by (65 ∷ 1 ∷ [])) ∷ suspend (65 ⇢ 1) answers accepted ∷ link (65 ⇢ 1) answers accepted ∷ [])
  pub exclusion : Right sample (assign 7 64 answers refused (unsound (breaks_exclusion 0 0 7 3) (64 ∷ 65 ∷ 1 ∷ [])) ∷ issue 7 1 answers accepted
      ∷ link (64 ⇢ 2) answers accepted ∷ trust 0 1 answers accepted ∷ link (65 ⇢ 1) answers accepted ∷ [])
  pub granted_by : Right sample (may 7 3 answers granted (65 ∷ 1 ∷ 3 ∷ []) ∷ assign 7 65 answers accepted ∷ issue 7 1 answers accepted
      ∷ link (64 ⇢ 2) answers refused (exposed_by (65 ∷ 1 ∷ [])) ∷ link (65 ⇢ 1) answers accepted ∷ [])
  -- a suspended link carries nobody
  pub suspended_denies : Right sample (may 7 3 answers denied ∷ suspend (65 ⇢ 1) answers accepted ∷ assign 7 65 answers accepted ∷ issue 7 1 answers accepted
      ∷ link (65 ⇢ 1) answers accepted ∷ [])
  pub resumed : Right sample (resume (65 ⇢ 1) answers refused (plain AlreadyInForce) ∷ resume (65 ⇢ 1) answers accepted ∷ suspend (65 ⇢ 1) answers accepted
      ∷ link (65 ⇢ 1) answers accepted ∷ [])
  pub withdrawn : Right sample (suspend (65 ⇢ 1) answers refused (plain NotLinked) ∷ withdraw (65 ⇢ 1) answers accepted ∷ link (65 ⇢ 1) answers accepted ∷ [])
  pub distrusted : Right sample (distrust 0 1 answers refused (exposed_by (65 ∷ 1 ∷ [])) ∷ link (64 ⇢ 2) answers accepted ∷ trust 0 1 answers accepted
      ∷ link (65 ⇢ 1) answers accepted ∷ [])
  -- TRY enters nothing
  pub tried : Right sample (try (65 ⇢ 1) answers accepted ∷ try (65 ⇢ 1) answers accepted ∷ [])
  -- two offices together expose what neither does alone
  pub shared_out : Right sample (link (129 ⇢ 2) answers refused (exposed_by (65 ∷ 1 ∷ [])) ∷ link (65 ⇢ 1) answers accepted ∷ [])
  -- a link between two offices that breaks the hierarchy of a third
  pub third_office : Right sample (link (66 ⇢ 129) answers refused (unsound (breaks_hierarchy 1 2) (1 ∷ 66 ∷ 129 ∷ 2 ∷ []))
      ∷ link (129 ⇢ 2) answers accepted ∷ link (1 ⇢ 66) answers accepted ∷ [])
  -- an office does not trust whom the trusted trust
  pub trust_ends : Right sample (link (129 ⇢ 2) answers refused (exposed_by (129 ∷ 1 ∷ []))
      ∷ link (129 ⇢ 1) answers accepted ∷ trust 1 2 answers accepted ∷ trust 0 1 answers accepted ∷ [])
  -- nor whom it is trusted by
  pub trust_directed : Right sample (link (64 ⇢ 2) answers refused (exposed_by (65 ∷ 1 ∷ []))
      ∷ link (65 ⇢ 1) answers accepted ∷ trust 1 0 answers accepted ∷ [])
  pub last_card : Right sample (issue 256 1 answers refused (plain NoSuchCard) ∷ issue 255 1 answers accepted ∷ [])
  -- a card that comes back holds nothing
  pub emptied : Right sample (relieve 7 65 answers refused (plain NotHeld) ∷ issue 7 1 answers accepted ∷ handback 7 answers accepted
      ∷ assign 7 65 answers accepted ∷ issue 7 1 answers accepted ∷ [])
  -- the missing role is told before the foreign office
  pub in_order : Right sample (assign 7 67 answers refused (plain NoSuchCode) ∷ issue 7 0 answers accepted ∷ [])
  pub short_strip : Right sample (record { request = link (65 ⇢ 1); strip = 1023; answer = refused (plain ShortStrip) } ∷ [])
  pub empty_box : Right sample (record { request = box []; strip = 0; answer = accepted } ∷ [])
