-- What a commit and a resolve ask over one kind of states, they ask over another, where each of their requests is asked
-- there too; and
-- what each of their requests keeps, they keep.
use Rattle.xa_words.specs.declared.death.Death.TheVariants as death
use Rattle.xa_base.proofs.{◌≡◌, ℕ, zero, suc, Bool, true, false, List, [], ◌∷◌, length, min, Option, Some, None, refl}
use Rattle.xa_base.proofs.{ap, arith, Contains, Contains-append_left, Contains-push, All, All-cons, All-nil, All-head}
use Rattle.xa_base.proofs.{All-tail, ◌≤◌}
use Rattle.xa_base.specs.{Chain}
use Rattle.xa_base.specs.Lists.Chain.{none, more}
use Rattle.xa_words.specs.{TranName, XidName, Death, Op, OpenRm, Prepare, Forget, Code}
use Rattle.xa_calls.specs.Scans.{Asking}
pub use Rattle.xa_calls.proofs.Morphisms.{Keeps, Morphism, keeps}
use Rattle.xa_calls.proofs.Morphisms.{Carries, and_so, and_then, plain, stays}
use Rattle.xa_driver.specs.{Branch, LastKnown, Ending, Outcome, AsksFor, AtBranch, second_op, third_op, is_decided}
use Rattle.xa_driver.specs.{AsksIf, ResolvesBranch, ResolvesAt, is_to_commit, outcome_op, ResolvesInTurn, begun, next}
use Rattle.xa_driver.specs.{EachBranch, Putting, HaveAsked, HaveTold, AsksOrPuts, VotesAndHears, VotesAndObeys, CameTo}
use Rattle.xa_driver.specs.{CameToVotes, ComesTo, CommitOutcome, comes_to_commit, has_branch_at, to_come, knows_commit}
use Rattle.xa_driver.specs.{votes_known}
use Rattle.xa_driver.specs.declared.done.CommitOutcome.TheVariants as outcome
use Rattle.xa_driver.specs.declared.done.LastKnown.TheVariants as known_as
use Rattle.xa_log.specs.{LogState, Records}
use Rattle.xa_scan.specs.{ScanView, left_at}

-- ---- what is asked

-- what is wanted, if anything is, is so
abbrev pub IsAskedFor : (Op → Type 0) → Option Op → Type 0
IsAskedFor P None = Unit {0}
IsAskedFor P (Some op) = P op

-- anything is
abbrev pub Any : Op → Type 0
Any op = Unit {0}

pub any_asked : (op : Option Op) → IsAskedFor Any op
any_asked None = tt
any_asked (Some op) = tt

-- manager m's outcome asks only for what is so
pub record Asks (P : Op → Type 0) (records : Records) (m : ℕ) (o : Outcome) : Type 0 where
  pub ends : o.m ≡ m → o.commit ≡ is_to_commit records m o.xid → P (outcome_op o.commit o.xid)
  pub forgets : o.m ≡ m → is_decided o.code ≡ true → P (Forget o.xid)

pub anything : (records : Records) (m : ℕ) (o : Outcome) → Asks Any records m o
anything records m o = record { ends = λ _ _. tt; forgets = λ _ _. tt }

-- ---- a branch, and a manager

module _ {D E : Type 0} {So : Op → Type 0} {A : Asking D} {B : Asking E} {f : D → E} {Q P : D → Type 0}
    (carried : Morphism So A B f Q P) where
  pub for_mapped : (op : Option Op) (code : Option Code) (d e : D) → IsAskedFor So op → AsksFor A op code d e
      → Carries Q P d e (AsksFor B op code (f d) (f e))
  for_mapped None code d e so nothing = stays nothing.1 (nothing.0, ap f nothing.1)
  for_mapped (Some op) None d e so nothing = absurd nothing
  for_mapped (Some op) (Some c) d e so asked = carried.each d e op c so asked

  -- a branch that votes, and is told
  pub obeys_mapped : (commit : Bool) (b : Branch) (v : Code) (s : Option Code) (end : Ending) (d e : D)
      → So (Prepare b.xid)
      → IsAskedFor So (second_op commit b.xid v) → VotesAndObeys A commit b v s end d e
      → Carries Q P d e (VotesAndObeys B commit b v s end (f d) (f e))
  obeys_mapped commit b v s end d e asks told is =
      and_then (carried.each d is.prepared (Prepare b.xid) v asks is.prepares)
      (for_mapped (second_op commit b.xid v) s is.prepared e told is.obeys)
      (λ x y. record { prepared = f is.prepared; prepares = x; obeys = y; ends = is.ends })

  -- a commit at a branch
  module _ (commit : Bool) (b : Branch) (vote : Code) (second : Option Code) (ending : Ending) (old new : D)
      (is : AtBranch A commit b vote second ending old new)
      (told : IsAskedFor So (second_op commit b.xid vote)) (forgot : IsAskedFor So (third_op b.xid second)) where
    -- from its vote on
    pub rest_mapped : Carries Q P is.prepared new
        (AsksFor B (second_op commit b.xid vote) second (f is.prepared) (f is.decided) × AsksFor B
        (third_op b.xid second) is.third (f is.decided) (f new))
    rest_mapped =
        and_then (for_mapped (second_op commit b.xid vote) second is.prepared is.decided told is.obeys)
        (for_mapped (third_op b.xid second) is.third is.decided new forgot is.forgets) (λ x y. (x, y))

    pub branch_mapped : So (Prepare b.xid)
        → Carries Q P old new (AtBranch B commit b vote second ending (f old) (f new))
    branch_mapped asks =
        and_then (obeys_mapped commit b vote second ending old is.decided asks told is.obeyed)
        (for_mapped (third_op b.xid second) is.third is.decided new forgot is.forgets)
        (λ x y. record { decided = f is.decided; third = is.third; obeyed = x; forgets = y })

  -- a resolve
  pub if_mapped : (asks : Bool) (op : Op) (d e : D) → (asks ≡ true → So op) → AsksIf asks A op d e
      → Carries Q P d e (AsksIf asks B op (f d) (f e))
  if_mapped false op d e so same = stays same (ap f same)
  if_mapped true op d e so asked = and_so (carried.each d e op asked.0 (so refl) asked.1) (λ x. (asked.0, x))

  module _ (records : Records) (m : ℕ) where
    pub outcome_mapped : (o : Outcome) (d e : D) → Asks So records m o → ResolvesBranch A records m o d e
        → Carries Q P d e (ResolvesBranch B records m o (f d) (f e))
    outcome_mapped o d e so is =
        and_then
        (carried.each d is.decided (outcome_op o.commit o.xid) o.code (so.ends is.manager is.decision) is.obeys)
        (if_mapped (is_decided o.code) (Forget o.xid) is.decided e (so.forgets is.manager) is.forgets)
        (λ x y. record { manager = is.manager; decision = is.decision; decided = f is.decided; obeys = x; forgets = y })

    pub outcomes_mapped : (d : D) (os : List Outcome) (e : D) → ((o : Outcome) → Contains os o → Asks So records m o)
        → Chain (ResolvesBranch A records m) d os e
        → Carries Q P d e (Chain (ResolvesBranch B records m) (f d) os (f e))
    outcomes_mapped d os e so (none xs last z same) = stays same (none xs (f last) z (ap f same))
    outcomes_mapped d os e so (more xs o now last before is) =
        and_then (outcomes_mapped d xs now (λ p there. so p (Contains-append_left xs (o ∷ []) p there)) before)
        (outcome_mapped o now last (so o (Contains-push xs o)) is) (λ c r. more xs o (f now) (f last) c r)

    pub resolves_mapped : (xs : List XidName) (os : List Outcome) (d e : D) → So OpenRm
        → ((o : Outcome) → Contains os o → Asks So records m o)
        → ResolvesAt A records m xs os d e → Carries Q P d e (ResolvesAt B records m xs os (f d) (f e))
    resolves_mapped [] os d e opens so is = stays is.1 (is.0, ap f is.1)
    resolves_mapped (x ∷ xs) os d e opens so is =
        and_then (carried.each d is.opened OpenRm is.code opens is.opens) (outcomes_mapped is.opened os e so is.each)
        (λ o c. record { opened = f is.opened; code = is.code; opens = o; each = c; xids_are = is.xids_are })

-- what was resolved in turn was, whatever of each request is looked at
pub turns_by : {D E : Type 0} (f : D → E) (asking : ℕ → Asking D) (other : ℕ → Asking E)
    → ((m : ℕ) (d : D) (op : Op) (e : D) (code : Code) → asking m d op e code → other m (f d) op (f e) code)
    → (records : Records) (z : ScanView) (old : D) (n : ℕ) (os : List Outcome) (new : D)
    → ResolvesInTurn asking records z old n os new → ResolvesInTurn other records z (f old) n os (f new)
turns_by f asking other is records z old n os new (begun outcomes last nil same) =
    begun outcomes (f last) nil (ap f same)
turns_by f asking other is records z old n os new (next k m xs ys all d e before here r grown) =
    next k m xs ys all (f d) (f e) (turns_by f asking other is records z old k xs d before) here
    ((resolves_mapped (plain (asking m) (other m) f (is m)) records m (left_at z m) ys d e tt
    (λ o there. anything records m o) r).over tt tt) grown

-- ---- a branch of a commit that was cut short

-- So is what is put, and isn't waited for.
pub record PutMorphism {D E : Type 0} (So : Op → Type 0) (U : Putting D) (V : Putting E) (f : D → E)
    (Q P : D → Type 0) : Type 0 where
  pub each : (d e : D) (op : Op) → So op → U d op e → Carries Q P d e (V (f d) op (f e))

-- What is put is what is asked, with some code.
pub puts_some : {D E : Type 0} {So : Op → Type 0} {A : Asking D} {B : Asking E} {f : D → E} {Q P : D → Type 0}
    → Morphism So A B f Q P
    → PutMorphism So (λ d op e. (c : Code) × A d op e c) (λ d op e. (c : Code) × B d op e c) f Q P
puts_some carried =
    record { each = λ d e op so asked. and_so (carried.each d e op asked.0 so asked.1) (λ x. (asked.0, x)) }

module _ {D E : Type 0} {So : Op → Type 0} {A : Asking D} {B : Asking E} {U : Putting D} {V : Putting E} {f : D → E}
    {Q P : D → Type 0}
    (carried : Morphism So A B f Q P) (put : PutMorphism So U V f Q P) where
  tells_mapped : (k : ℕ) (op : Option Op) (d e : D) → IsAskedFor So op → AsksOrPuts A U k op d e
      → Carries Q P d e (AsksOrPuts B V k op (f d) (f e))
  tells_mapped k None d e so same = stays same (ap f same)
  tells_mapped zero (Some op) d e so is = put.each d e op so is
  tells_mapped (suc k) (Some op) d e so is = and_so (carried.each d e op is.0 so is.1) (λ x. (is.0, x))

  pub hears_mapped : (commit : Bool) (k : ℕ) (b : Branch) (v : Code) (d e : D) → So (Prepare b.xid)
      → IsAskedFor So (second_op commit b.xid v)
      → VotesAndHears A U commit k b v d e → Carries Q P d e (VotesAndHears B V commit k b v (f d) (f e))
  hears_mapped commit k b v d e asks told is =
      and_then (carried.each d is.prepared (Prepare b.xid) v asks is.prepares)
      (tells_mapped k (second_op commit b.xid v) is.prepared e told is.tells)
      (λ x y. record { prepared = f is.prepared; prepares = x; tells = y })

-- ---- what a commit came to

-- so is each vote by which a commit was decided that came to this, if it was
abbrev pub VotesAre : (Code → Type 0) → CommitOutcome → Type 0
VotesAre W (outcome.Decided done) = All W done.votes.items
VotesAre W (outcome.Undecided votes) = Unit {0}
VotesAre W (outcome.Died at known) = All W (votes_known known)

-- any votes will do
pub any_votes : (o : CommitOutcome) → VotesAre (λ v. Unit {0}) o
any_votes (outcome.Decided done) = λ k d lt. tt
any_votes (outcome.Undecided votes) = tt
any_votes (outcome.Died at known) = λ k d lt. tt

-- whatever it came to, it did nothing at a manager without a branch
pub comes_others : {D : Type 0} (A : Asking D) (U : Putting D) (death : Option Death) (tran : TranName)
    (bs : List Branch) (old new : ℕ → D)
    (log later : LogState) (o : CommitOutcome) → ComesTo A U death tran bs old new log later o → (m : ℕ) → 1 ≤ m
    → has_branch_at bs m ≡ false → new m ≡ old m
comes_others A U death tran bs old new log later (outcome.Decided done) is = is.1.others
comes_others A U death tran bs old new log later (outcome.Undecided votes) is = is.1.others
comes_others A U death tran bs old new log later (outcome.Died at known) is = is.1.others

-- ---- all branches

-- at each branch where C holds, with a vote of which W holds, what P says is what Q says, and R holds
pub each_so : (C R : Branch → Type 0) (W : Code → Type 0) (P Q : Branch → Code → Option Code → Ending → Type 0)
    → ((b : Branch) (v : Code) (s : Option Code) (e : Ending) → C b → W v → P b v s e → Q b v s e × R b)
    → (bs : List Branch) (vs : List Code) (ss : List (Option Code)) (es : List Ending) → All C bs → All W vs
    → EachBranch P bs vs ss es
    → EachBranch Q bs vs ss es × All R bs
each_so C R W P Q so [] [] [] [] all votes h = (tt, All-nil R)
each_so C R W P Q so (b ∷ bs) (v ∷ vs) (s ∷ ss) (e ∷ es) all votes h =
    search (
      arith,
      each_so C R W P Q so bs vs ss es (All-tail C b bs all) (All-tail W v vs votes) h.1,
      All-head,
      All-tail,
      All-cons,
      h.0,
      h.1,
    )
each_so C R W P Q so bs vs ss es all votes h = absurd h

-- What is asked of each manager, over its states. At a branch where C holds its first request is so, Q held of its
-- manager's state
-- before the commit, and P holds of the one after it.
module _ {D E : Type 0} {So : ℕ → Op → Type 0} {A : Asking D} {B : Asking E} {f : ℕ → D → E} {Q P : ℕ → D → Type 0}
    (carried : (m : ℕ) → Morphism (So m) A B (f m) (Q m) (P m)) (old new : ℕ → D) (C : Branch → Type 0)
    (starts : (b : Branch) → C b → So b.m (Prepare b.xid) × Q b.m (old b.m) × P b.m (new b.m)) where
  abbrev Kept : Branch → Type 0
  Kept b = Q b.m (new b.m)

  abbrev before : ℕ → E
  before m = f m (old m)

  abbrev after : ℕ → E
  after m = f m (new m)

  -- what a branch carries over is so, and Q is kept
  met : (b : Branch) (X : Type 0) → C b → Carries (Q b.m) (P b.m) (old b.m) (new b.m) X → X × Kept b
  met b X c is = let at = starts b c in (is.over at.1 at.2, is.on at.1)

  -- so of the first of some branches, with the rest
  joined : {X Y : Type 0} (b : Branch) (bs : List Branch) → All C (b ∷ bs)
      → (C b → Carries (Q b.m) (P b.m) (old b.m) (new b.m) X) → Y × All Kept bs
      → (X × Y) × All Kept (b ∷ bs)
  joined {X} {Y} b bs all is rest =
      let c = All-head C b bs all in let one = met b X c (is c) in ((one.0, rest.0), All-cons Kept b bs one.1 rest.1)

  -- a commit that came to its end
  decided_mapped : (W : Code → Type 0) (commit : Bool)
      → ((b : Branch) → C b → (v : Code) → W v → IsAskedFor (So b.m) (second_op commit b.xid v))
      → ((b : Branch) → C b → (s : Option Code) → IsAskedFor (So b.m) (third_op b.xid s))
      → (bs : List Branch) (vs : List Code) (ss : List (Option Code)) (es : List Ending) → All C bs → All W vs
      → EachBranch (λ b v s e. AtBranch A commit b v s e (old b.m) (new b.m)) bs vs ss es
      → EachBranch (λ b v s e. AtBranch B commit b v s e (before b.m) (after b.m)) bs vs ss es × All Kept bs
  decided_mapped W commit told forgot =
      each_so C Kept W (λ b v s e. AtBranch A commit b v s e (old b.m) (new b.m))
      (λ b v s e. AtBranch B commit b v s e (before b.m) (after b.m))
      (λ b v s e c w is. met b _ c
      (branch_mapped (carried b.m) commit b v s e (old b.m) (new b.m) is (told b c v w) (forgot b c s)
      (starts b c).0))

  -- as far as a commit came that was cut short
  module _ {U : Putting D} {V : Putting E} (put : (m : ℕ) → PutMorphism (So m) U V (f m) (Q m) (P m)) where
    asked_mapped : (bs : List Branch) (vs : List Code) → All C bs → HaveAsked A U bs vs old new
        → HaveAsked B V bs vs before after × All Kept bs
    asked_mapped [] [] all h = (tt, All-nil Kept)
    asked_mapped [] (v ∷ vs) all h = absurd h
    asked_mapped (b ∷ bs) [] all h =
        joined b bs all (λ c. (put b.m).each (old b.m) (new b.m) (Prepare b.xid) (starts b c).0 h.0)
        (asked_mapped bs [] (All-tail C b bs all) h.1)
    asked_mapped (b ∷ bs) (v ∷ vs) all h =
        joined b bs all (λ c. (carried b.m).each (old b.m) (new b.m) (Prepare b.xid) v (starts b c).0 h.0)
        (asked_mapped bs vs (All-tail C b bs all) h.1)

    module _ (W : Code → Type 0) (commit : Bool)
        (told : (b : Branch) → C b → (v : Code) → W v → IsAskedFor (So b.m) (second_op commit b.xid v)) where
      told_mapped : (k : ℕ) (bs : List Branch) (vs : List Code) → All C bs → All W vs
          → HaveTold A U commit k bs vs old new
          → HaveTold B V commit k bs vs before after × All Kept bs
      told_mapped k [] [] all votes h = (tt, All-nil Kept)
      told_mapped k (b ∷ bs) (v ∷ vs) all votes h =
          joined b bs all
          (λ c. hears_mapped (carried b.m) (put b.m) commit k b v (old b.m) (new b.m) (starts b c).0
          (told b c v (All-head W v vs votes)) h.0)
          (told_mapped (to_come (second_op commit b.xid v) k) bs vs (All-tail C b bs all) (All-tail W v vs votes) h.1)
      told_mapped k bs vs all votes h = absurd h

      obeyed_mapped : (bs : List Branch) (vs : List Code) (ss : List (Option Code)) (es : List Ending) → All C bs
          → All W vs
          → EachBranch (λ b v s e. VotesAndObeys A commit b v s e (old b.m) (new b.m)) bs vs ss es
          → EachBranch (λ b v s e. VotesAndObeys B commit b v s e (before b.m) (after b.m)) bs vs ss es × All Kept bs
      obeyed_mapped =
          each_so C Kept W (λ b v s e. VotesAndObeys A commit b v s e (old b.m) (new b.m))
          (λ b v s e. VotesAndObeys B commit b v s e (before b.m) (after b.m))
          (λ b v s e c w is. met b _ c
          (obeys_mapped (carried b.m) commit b v s e (old b.m) (new b.m) (starts b c).0 (told b c v w) is))

    module _ (W : Code → Type 0) (tran : TranName) (bs : List Branch) (log later : LogState) (all : All C bs) where
      came_to_votes : (count : ℕ) (votes : List Code) → CameToVotes A U count bs old new log later votes
          → CameToVotes B V count bs before after log later votes × All Kept bs
      came_to_votes count votes far = search (arith, asked_mapped, far.asked)

      came_mapped : (at : Death) (known : LastKnown)
          → ((b : Branch) → C b → (v : Code) → W v → IsAskedFor (So b.m) (second_op (knows_commit known) b.xid v))
          → All W (votes_known known)
          → CameTo A U at tran bs old new log later known
          → CameTo B V at tran bs before after log later known × All Kept bs
      came_mapped (death.Preparing k) (known_as.Votes votes) told given far =
          came_to_votes (min k (length bs)) votes.items far
      came_mapped death.Prepared (known_as.Votes votes) told given far = came_to_votes (length bs) votes.items far
      came_mapped death.Decided (known_as.Decided decision votes) told given far =
          let asked = asked_mapped bs votes.items all far.asked in search (arith, asked.0, asked.1)
      came_mapped (death.Telling k) (known_as.Decided decision votes) told given far =
          let heard = told_mapped W decision.commit told k bs votes.items all given far.told in
          search (arith, heard.0, heard.1)
      came_mapped death.Told (known_as.Told done) told given far =
          let each =
          obeyed_mapped W done.commit told bs done.votes.items far.seconds done.endings.items all given far.each in
          (record { seconds = far.seconds; each = each.0; decided = far.decided }, each.1)
      came_mapped at known told given far = absurd far

      -- whatever a commit came to
      pub comes_mapped : (death : Option Death) (o : CommitOutcome)
          → ((b : Branch) → C b → (v : Code) → W v → IsAskedFor (So b.m) (second_op (comes_to_commit o) b.xid v))
          → ((b : Branch) → C b → (s : Option Code) → IsAskedFor (So b.m) (third_op b.xid s)) → VotesAre W o
          → ComesTo A U death tran bs old new log later o
          → ComesTo B V death tran bs before after log later o × All Kept bs
      comes_mapped death (outcome.Decided done) told forgot given (lives, is) =
          let each =
          decided_mapped W done.commit told forgot bs done.votes.items is.seconds done.endings.items all given
          is.each in (
            (
              lives,
              record {
                seconds = is.seconds;
                each = each.0;
                others = λ m low no. ap (f m) (is.others m low no);
                decided = is.decided;
              },
            ),
            each.1,
          )
      comes_mapped death (outcome.Undecided votes) told forgot given (comes, is) =
          let asked = asked_mapped bs votes.items all is.asked in (
            (
              comes,
              record {
                asked = asked.0;
                counted = is.counted;
                others = λ m low no. ap (f m) (is.others m low no);
                wanted = is.wanted;
              },
            ),
            asked.1,
          )
      comes_mapped death (outcome.Died at known) told forgot given (dead, is) =
          let far = came_mapped at known told given is.far in
          ((dead, record { far = far.0; others = λ m low no. ap (f m) (is.others m low no) }), far.1)
