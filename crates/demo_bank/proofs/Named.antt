-- Which branches a teller's requests name, and which requests of a settled journal name a branch: those of its own
-- transfers.
use Rattle.xa_base.proofs.{◌≡◌, ◌≢◌, ℕ, suc, ◌+◌, ◌^◌, ◌<◌, ◌≤◌, true, false, ◌||◌, List, [], ◌∷◌, ◌++◌, length, sym}
use Rattle.xa_base.proofs.{refl, ap, ◌∙◌, subst, arith, Option, Some, None, ℤ, pos, ◌+ℤ◌, ints, neg_ℤ, ◌⊎◌, ⊎_elim}
use Rattle.xa_base.proofs.{get_or, eq-eqb, All, cases_eq, All-nil, cases_lt, filter-append, append_assoc, append-nil}
use Rattle.xa_base.proofs.{length-append, All-tail, All-append, All-weaker, all_right, Bool, list_any, or_parts}
use Rattle.std.proofs.lemmas.Nat.{from_be_bytes-to_be_bytes_8}
use Rattle.xa_words.specs.{XidName, xid_eq, Decides-xid_eq, tran_of, Death, Op, Shut, Request, TranName, Code}
use Rattle.xa_tables.specs.{names, History, of_thread}
use Rattle.xa_desk.specs.{LedgerView, DeskView, ledger, numbered}
use Rattle.xa_log.specs.{LogState, IsReadAs}
use Rattle.xa_driver.specs.{CommitOutcome, yes_of, Branch}
use Rattle.xa_driver.specs.declared.done.CommitOutcome.TheVariants as outcome
use Rattle.xa_work.specs.{WorkOutcome, HaveSent, IsFor, IsOpenRm, NamesOnly, ComesOfCommit, HaveWorked, Change, GivenUp}
use Rattle.xa_work.specs.{NotBegun, Commit, Refused, IfLost, IsRefused, LeavesKnown, LosesRecord, is_last}
use Rattle.xa_work.specs.Units.Transacts.{commits, refused}
use Rattle.xa_work.proofs.Named.{comes_named, worked_for}
use Rattle.xa_work.proofs.Sent.{call_sent, have_as, have_none, have_on}
use Rattle.demo_bank.specs.{Habits, Leg, Transfer, death_in, shut_before, AreLegs, Makes, MakesEach, MakesNext, MayShut}
use Rattle.demo_bank.specs.{branches_of_legs, changes_of, gtrid_of, paid_first, pays_first, tran_of_transfer, with_legs}
use Rattle.demo_bank.specs.{without_legs, is_undecided, IsReadEither}
use Rattle.xa_switch.specs.{Settling, IsSettled, sent, history}
use Rattle.laws_commit.specs.{IsBetween, OnlyTheseName}
use Rattle.laws_commit.proofs.Sites.{request_of, all_earlier, all_later, own_all, own_between, sides}
use Rattle.xa_work.specs.declared.unit.Refusal.{Refusal}
use Rattle.xa_work.specs.Units.IsRefused.{barred, unbegun, undone}

-- ---- names of transfers

-- the branch is one of thread t's transfer of number n
pub record IsOf (t n : ℕ) (x : XidName) : Type 0 where
  pub small : n < 2 ^ 32
  pub gtrid : x.gtrid ≡ gtrid_of t n

-- a transfer has one thread and one number
pub one_transfer : (t n u k : ℕ) (x : XidName) → t < 2 ^ 32 → u < 2 ^ 32 → IsOf t n x → IsOf u k x → (u ≡ t) × (k ≡ n)
one_transfer t n u k x low high one two = grind (arith, from_be_bytes-to_be_bytes_8)

-- the request names only branches of thread t's transfers with numbers that pass
pub record Names (t : ℕ) (passes : ℕ → Type 0) (op : Op) : Type 0 where
  pub each : (x : XidName) → names x op ≡ true → (n : ℕ) × (passes n × IsOf t n x)

pub names_as : (t : ℕ) (P Q : ℕ → Type 0) → ((n : ℕ) → P n → Q n) → (op : Op) → Names t P op → Names t Q op
names_as t P Q also op h = record { each = λ x e. let z = h.each x e in (z.0, (also z.0 z.1.0, z.1.1)) }

-- ---- the legs of a transfer

pub record LegsOf (t n : ℕ) (one two : Leg) : Type 0 where
  pub first : IsOf t n one.branch.xid
  pub second : IsOf t n two.branch.xid
  pub tran : tran_of one.branch.xid ≡ tran_of_transfer t n
  pub apart : one.branch.m ≢ two.branch.m
  pub sum : one.delta +ℤ two.delta ≡ pos 0

pays_and_paid : (a b v : ℤ) → a ≡ neg_ℤ v → b ≡ v → a +ℤ b ≡ pos 0
pays_and_paid a b v e f = omega (arith, ints, e, f)

paid_and_pays : (a b v : ℤ) → a ≡ v → b ≡ neg_ℤ v → a +ℤ b ≡ pos 0
paid_and_pays a b v e f = omega (arith, ints, e, f)

pub legs_are : (t n : ℕ) (tr : Transfer) (one two : Leg) → AreLegs t n tr one two → LegsOf t n one two
legs_are t n tr one two (pays_first small rising pays paid) = search (arith, pays_and_paid)
legs_are t n tr one two (paid_first small rising paid pays) = search (arith, paid_and_pays)

-- ---- a transfer

-- the number is this one
abbrev pub Is : ℕ → ℕ → Type 0
Is n k = k ≡ n

-- one of two branches
pub either_named : (P : XidName → Type 0) (a b x : XidName) → P a → P b → (xid_eq a x || (xid_eq b x || false)) ≡ true
    → P x
either_named P a b x one two e = search (arith, Decides-xid_eq)

-- a request that names no other branch than the legs' names the transfer
pub only_names : (t n : ℕ) (one two : Leg) → LegsOf t n one two → (op : Op) → NamesOnly (branches_of_legs one two) op
    → Names t (Is n) op
only_names t n one two legs op only =
    record {
      each = λ x e.
          (n, (refl, either_named (IsOf t n) one.branch.xid two.branch.xid x legs.first legs.second (only x e)));
    }

for_names : (t n : ℕ) (one two : Leg) → LegsOf t n one two → (op : Op) → IsFor (branches_of_legs one two) op
    → Names t (Is n) op
for_names t n one two legs op for_it = only_names t n one two legs op for_it.named

-- the work of its legs
pub work_names : (t n : ℕ) (one two : Leg) (k : List ℕ) (old new : List LedgerView) → LegsOf t n one two
    → HaveWorked (changes_of one two k) (branches_of_legs one two) old new → HaveSent (Names t (Is n)) old new
work_names t n one two k old new legs work =
    have_as (for_names t n one two legs) old new
    (worked_for (changes_of one two k) (branches_of_legs one two) old new work)

-- what comes of its commit
pub comes_names : (t n : ℕ) (one two : Leg) (death : Option Death) (o : CommitOutcome) (worked : DeskView)
    (new : List LedgerView) (log later : LogState)
    → LegsOf t n one two → ComesOfCommit (branches_of_legs one two) death o worked new log later
    → HaveSent (Names t (Is n)) worked.ledgers new
comes_names t n one two death o worked new log later legs comes =
    have_as (only_names t n one two legs) worked.ledgers new
    (comes_named (branches_of_legs one two) death o worked new log later comes)

pub transfer_names : {R : LogState → Type 0} (t n : ℕ) (tr : Transfer) (habits : Habits) (o : WorkOutcome)
    (old new : DeskView) (log later : LogState)
    → Makes t n tr habits o old new log later R → HaveSent (Names t (Is n)) old.ledgers new.ledgers
transfer_names t n tr habits o old new log later
    (with_legs one two left legs (commits worked outcome is begins known work comes) kept read) =
    let of_it = legs_are t n tr one two legs in
    have_on old.ledgers worked.ledgers new.ledgers
    (work_names t n one two tr.account old.ledgers worked.ledgers of_it work)
    (comes_names t n one two (death_in habits n) outcome worked new.ledgers log left of_it comes)
transfer_names t n tr habits o old new log later (with_legs one two left legs (refused same why sent) kept read) =
    have_as (for_names t n one two (legs_are t n tr one two legs)) old.ledgers new.ledgers sent
transfer_names t n tr habits o old new log later (without_legs is none same unlogged) =
    search (arith, have_none, old.ledgers, new.ledgers)

-- ---- a store that is shut

abbrev pub IsShut : Op → Type 0
IsShut op = op ≡ Shut

pub shut_sent : (store : Option ℕ) (old new : DeskView) → MayShut store old new
    → HaveSent IsShut old.ledgers new.ledgers
shut_sent None old new same = have_none old.ledgers new.ledgers (ap (λ (d : DeskView). d.ledgers) same)
shut_sent (Some m) old new shuts = call_sent IsShut m Shut shuts.0 old new refl shuts.1

-- a request that names no branch
pub unnaming : (t : ℕ) (P : ℕ → Type 0) (op : Op) → ((x : XidName) → names x op ≡ false) → Names t P op
unnaming t P op none = record { each = λ x e. let z : false ≡ true = sym (none x) ∙ e in cc }

pub shut_names : (t : ℕ) (P : ℕ → Type 0) (op : Op) → IsShut op → Names t P op
shut_names t P op is = unnaming t P op (λ x. ap (names x) is)

pub opens_names : (t : ℕ) (P : ℕ → Type 0) (op : Op) → IsOpenRm op → Names t P op
opens_names t P op is = unnaming t P op (λ x. ap (names x) is)

pub next_names : {R : LogState → Type 0} (t n : ℕ) (tr : Transfer) (habits : Habits) (o : WorkOutcome)
    (old new : DeskView) (log later : LogState)
    → MakesNext t n tr habits o old new log later R → HaveSent (Names t (Is n)) old.ledgers new.ledgers
next_names t n tr habits o old new log later next =
    have_on old.ledgers next.shut.ledgers new.ledgers
    (have_as (shut_names t (Is n)) old.ledgers next.shut.ledgers
    (shut_sent (shut_before habits n) old next.shut next.shuts))
    (transfer_names t n tr habits o next.shut new log later next.makes)

-- from this number on
abbrev pub IsFrom : ℕ → ℕ → Type 0
IsFrom n k = n ≤ k

-- where no transfer was made nothing was done
pub none_made : (R : LogState → Type 0) (t : ℕ) (habits : Habits) (n : ℕ) (trs : List Transfer) (old new : DeskView)
    (log later : LogState)
    → MakesEach t habits n trs [] old new log later R → (new ≡ old) × (later ≡ log)
none_made R t habits n [] old new log later h = h
none_made R t habits n (tr ∷ trs) old new log later h = h

pub transfers_name : (R : LogState → Type 0) (t : ℕ) (habits : Habits) (n : ℕ) (trs : List Transfer)
    (os : List WorkOutcome) (old new : DeskView) (log later : LogState)
    → MakesEach t habits n trs os old new log later R → HaveSent (Names t (IsFrom n)) old.ledgers new.ledgers
transfers_name R t habits n trs [] old new log later h = search (arith, have_none, none_made, old.ledgers, new.ledgers)
transfers_name R t habits n (tr ∷ trs) (o ∷ os) old new log later (mid, now, makes, rest) =
    have_on old.ledgers mid.ledgers new.ledgers
    (have_as (names_as t (Is n) (IsFrom n) (λ k e. omega (arith, e))) old.ledgers mid.ledgers
    (next_names t n tr habits o old mid log now makes))
    (have_as (names_as t (IsFrom (n + 1)) (IsFrom n) (λ k le. omega (arith, le))) mid.ledgers new.ledgers
    (transfers_name R t habits (n + 1) trs os mid new now later rest))
transfers_name R t habits n [] (o ∷ os) old new log later h = absurd h

pub makes_none : (R : LogState → Type 0) (t : ℕ) (habits : Habits) (n : ℕ) (trs : List Transfer) (d : DeskView)
    (log : LogState)
    → MakesEach t habits n trs [] d d log log R
makes_none R t habits n [] d log = (refl, refl)
makes_none R t habits n (tr ∷ trs) d log = (refl, refl)

-- one transfer more at the end, and more that weren't made
pub makes_more : (R : LogState → Type 0) (t : ℕ) (habits : Habits) (n : ℕ) (trs : List Transfer) (os : List WorkOutcome)
    (tr : Transfer) (unmade : List Transfer) (o : WorkOutcome) (old mid new : DeskView) (log now later : LogState)
    → length os ≡ length trs → MakesEach t habits n trs os old mid log now R
    → MakesNext t (n + length trs) tr habits o mid new now later R
    → MakesEach t habits n (trs ++ tr ∷ unmade) (os ++ o ∷ []) old new log later R
makes_more R t habits n [] [] tr unmade o old mid new log now later many (same, unlogged) makes =
    let here : MakesNext t n tr habits o mid new now later R =
    subst (λ k. MakesNext t k tr habits o mid new now later R) (let e : n + 0 ≡ n = omega arith in e) makes in
    (new, later, rw same at (rw unlogged at here), makes_none R t habits (n + 1) unmade new later)
makes_more R t habits n (r ∷ trs) (p ∷ os) tr unmade o old mid new log now later many (next, state, one, rest) makes = (
  next,
  state,
  one,
  makes_more R t habits (n + 1) trs os tr unmade o next mid new state now later (omega (arith, many)) rest
      (subst (λ k. MakesNext t k tr habits o mid new now later R)
      (let e : n + suc (length trs) ≡ n + 1 + length trs = omega arith in e) makes),
)
makes_more R t habits n (r ∷ trs) [] tr unmade o old mid new log now later many h makes = absurd (omega (arith, many))
makes_more R t habits n [] (p ∷ os) tr unmade o old mid new log now later many h makes = absurd h

-- Which requests of a settled journal name a branch: those of its own transfer, where each thread's requests name only
-- the
-- branches of its own transfers.

-- ---- requests by their numbers

-- after a request of the thread its numbers are greater
later_numbers : (t : ℕ) (before after : History) (r : Request) (n : ℕ) (ops : List Op)
    → of_thread t (before ++ r ∷ after) ≡ numbered t n ops → r.thread ≡ t
    → All (λ q. q.thread ≡ t → r.number < q.number) after
later_numbers t before after r n ops e own k d lt mine =
    let z =
    sides t r.number r.op (of_thread t before) (of_thread t after) n ops
    (search (arith, filter-append, request_of, eq-eqb)) in
    let up = all_later t after (suc r.number) z.post z.later k d lt mine in
    omega (arith, up)

-- ---- a branch of one transfer

-- any number
abbrev pub IsAny : ℕ → Type 0
IsAny n = Unit {0}

abbrev pub IsBelow : ℕ → ℕ → Type 0
IsBelow n k = k < n

-- what was sent by now names branches of transfers before this one
abbrev pub Earlier : ℕ → ℕ → List LedgerView → Type 0
Earlier t n at = (m : ℕ) → 1 ≤ m → All (Names t (IsBelow n)) (ledger at m).sent

pub earlier_on : (t n k : ℕ) (Q : Op → Type 0) (old new : List LedgerView) → n ≤ k
    → ((op : Op) → Q op → Names t (IsBelow k) op) → Earlier t n old
    → HaveSent Q old new → Earlier t k new
earlier_on t n k Q old new upto also before h m up =
    let z = h m up in
    rw z.sent
    (All-append (Names t (IsBelow k)) (ledger old m).sent z.more
    (All-weaker (Names t (IsBelow n)) (Names t (IsBelow k))
    (names_as t (IsBelow n) (IsBelow k) (λ i lt. omega (arith, lt, upto))) (ledger old m).sent
    (before m up)) (All-weaker Q (Names t (IsBelow k)) also z.more z.each))

-- the thread names only branches of its transfers, or it is none, and sent nothing
abbrev pub IsTold : Settling → ℕ → Type 0
IsTold s u = ((u < 2 ^ 32) × ((m : ℕ) → 1 ≤ m → All (Names u IsAny) (sent s u m))) ⊎ ((m : ℕ) → sent s u m ≡ [])

-- in a journal the branch is named by its own thread alone, with numbers from a to below b
abbrev pub NamedWithin : Settling → ℕ → XidName → ℕ → ℕ → ℕ → Type 0
NamedWithin s m x t a b = All (λ q. names x q.op ≡ true → IsBetween t a b q) (history s m)

module _ (s : Settling) (settled : IsSettled s) (told : (u : ℕ) → IsTold s u) (t n m : ℕ) (x : XidName)
    (low : t < 2 ^ 32) (of_it : IsOf t n x)
    (positive : 1 ≤ m) where
  abbrev Unnamed : Op → Type 0
  Unnamed op = names x op ≡ true → ⊥

  -- another thread doesn't name it
  by_others : (u : ℕ) → u ≢ t → All Unnamed (sent s u m)
  by_others u other =
      ⊎_elim
      (λ (is : (u < 2 ^ 32) × ((m : ℕ) → 1 ≤ m → All (Names u IsAny) (sent s u m))).
      All-weaker (Names u IsAny) Unnamed
      (λ op h named. let z = h.each x named in other (one_transfer t n u z.0 x low is.0 of_it z.1.1).0) (sent s u m)
      (is.1 m positive))
      (λ (none : (m : ℕ) → sent s u m ≡ []). rw (none m) (All-nil Unnamed))
      (told u)

  -- nor does what names transfers of other numbers
  of_another : (P : ℕ → Type 0) → (P n → ⊥) → (ops : List Op) → All (Names t P) ops → All Unnamed ops
  of_another P never ops =
      All-weaker (Names t P) Unnamed
      (λ op h named. let z = h.each x named in never (rw (one_transfer t n t z.0 x low low of_it z.1.1).1 at z.1.0))
      ops

  module _ (pre mid post : List Op) (split : sent s t m ≡ pre ++ (mid ++ post))
      (earlier : All (Names t (IsBelow n)) pre)
      (later : All (Names t (IsFrom (n + 1))) post) where
    pub named_within : (b : ℕ) → b ≡ length pre + length mid → NamedWithin s m x t (length pre) b
    named_within b is k d lt named =
        let q : Request = get_or (history s m) k d in
        let carried = (settled.agree q.thread m).carried in
        ⊎_elim
        (λ (own : q.thread ≡ t).
        let taken : of_thread t (history s m) ≡ numbered t 0 (sent s t m) = (settled.agree t m).carried in
        let last : sent s t m ≡ (pre ++ mid) ++ (post ++ []) = search (arith, append_assoc, append-nil) in
        let early =
        own_between t Unnamed (history s m) [] pre (mid ++ post) (taken ∙ ap (numbered t 0) split)
        (of_another (IsBelow n) (λ lt. omega (arith, lt)) pre earlier) k d lt own in
        let late =
        own_between t Unnamed (history s m) (pre ++ mid) post [] (taken ∙ ap (numbered t 0) last)
        (of_another (IsFrom (n + 1)) (λ le. omega (arith, le)) post later) k d lt own in
        let high = all_earlier t (history s m) 0 (sent s t m) taken k d lt own in
        let size : length (sent s t m) ≡ length (pre ++ mid) + length post = search (arith, length-append) in
        let both = length-append pre mid in
        record {
          thread = own;
          from = ⊎_elim (λ (under : q.number < length pre). absurd (early (omega arith) (omega (arith, under)) named))
              (λ (up : length pre ≤ q.number). up) (cases_lt q.number (length pre));
          below = ⊎_elim (λ (under : q.number < b). under)
              (λ (up : b ≤ q.number). absurd (late (omega (arith, up, is, both)) (omega (arith, high, size)) named))
              (cases_lt q.number b);
        })
        (λ (other : q.thread ≢ t). absurd
        (own_all q.thread Unnamed (history s m) 0 (sent s q.thread m) carried (by_others q.thread other) k d lt refl
        named))
        (cases_eq q.thread t)

-- so after a request of its thread nobody but the thread itself names it
pub only_these : (s : Settling) (settled : IsSettled s) (t m a first last : ℕ) (x : XidName)
    → NamedWithin s m x t a last
    → OnlyTheseName x t first last (history s m)
only_these s settled t m a first last x named before after r place own number =
    let all : All (λ q. names x q.op ≡ true → IsBetween t a last q) (before ++ r ∷ after) =
    rw place at named in
    let rest =
    All-tail (λ q. names x q.op ≡ true → IsBetween t a last q) r after
    (all_right (λ q. names x q.op ≡ true → IsBetween t a last q) before (r ∷ after) all) in
    λ k d lt is.
    let z = rest k d lt is in
    let up =
    later_numbers t before after r 0 (sent s t m) (sym (ap (of_thread t) place) ∙ (settled.agree t m).carried) own k
    d lt z.thread in
    record { thread = z.thread; from = omega (arith, up, number); below = z.below }

-- ---- what a log may be read as matters only to a transfer of which nobody knows whether its record was made

-- what holds where the record is lost
pub if_so : (P : List Code → Type 0) (o : WorkOutcome) → (is_undecided o ≡ true → (votes : List Code) → P votes)
    → IfLost P o
if_so P (Commit (outcome.Undecided votes)) all = all refl votes.items
if_so P o all = tt

pub if_both : (P Q S : List Code → Type 0) (o : WorkOutcome) → ((votes : List Code) → P votes → Q votes → S votes)
    → IfLost P o → IfLost Q o → IfLost S o
if_both P Q S (Commit (outcome.Undecided votes)) also h k = also votes.items h k
if_both P Q S o also h k = tt

-- where others follow, none is lost
pub none_lost : (P : List Code → Type 0) (o : WorkOutcome) → is_last o ≡ false → IfLost P o
none_lost P (Commit (outcome.Undecided votes)) e = cc
none_lost P o e = tt

-- what a log that has lost the record may be read as
pub lost_so : {L : Type 0} (state : L → LogState) (knows : L → Type 0) (loses : TranName → List Bool → L → L → Type 0)
    (bs : List Branch) (old new : L)
    (o : WorkOutcome) → IfLost (LosesRecord loses bs old new) o → LeavesKnown (knows new) o
    → IsReadEither (IsReadAs state knows loses new) bs (state old) o
lost_so state knows loses bs old new (Commit (outcome.Undecided votes)) lost known =
    λ tran read one may. may.lost known old tran (yes_of bs votes.items) (lost tran one)
lost_so state knows loses bs old new o lost known = tt

-- what was refused came to no more
pub refused_so : (bs : List Branch) (cs : List Change) (o : WorkOutcome) (old new : DeskView) (log : LogState)
    (Known : Type 0)
    → IsRefused bs cs o old new log Known → (why : Refusal) × (o ≡ Refused why)
refused_so bs cs o old new log Known (unbegun is may same) = (NotBegun, is)
refused_so bs cs o old new log Known (undone tried is may known tries gives_up) = (GivenUp, is)
refused_so bs cs o old new log Known (barred tried is may known tries may_not gives_up) = (GivenUp, is)

pub makes_any : {R S : LogState → Type 0} (t n : ℕ) (tr : Transfer) (habits : Habits) (o : WorkOutcome)
    (old new : DeskView) (log later : LogState)
    → is_last o ≡ false → Makes t n tr habits o old new log later R → Makes t n tr habits o old new log later S
makes_any t n tr habits o old new log later goes_on (with_legs one two left legs made kept read) =
    with_legs one two left legs made kept (none_lost _ o goes_on)
makes_any t n tr habits o old new log later goes_on (without_legs is none same unlogged) =
    without_legs is none same unlogged

pub next_any : {R S : LogState → Type 0} (t n : ℕ) (tr : Transfer) (habits : Habits) (o : WorkOutcome)
    (old new : DeskView) (log later : LogState)
    → is_last o ≡ false → MakesNext t n tr habits o old new log later R → MakesNext t n tr habits o old new log later S
next_any t n tr habits o old new log later goes_on next =
    record {
      shut = next.shut;
      shuts = next.shuts;
      makes = makes_any t n tr habits o next.shut new log later goes_on next.makes;
    }

pub each_any : (R S : LogState → Type 0) (t : ℕ) (habits : Habits) (n : ℕ) (trs : List Transfer) (os : List WorkOutcome)
    (old new : DeskView) (log later : LogState)
    → list_any is_last os ≡ false → MakesEach t habits n trs os old new log later R
    → MakesEach t habits n trs os old new log later S
each_any R S t habits n [] [] old new log later none h = h
each_any R S t habits n (tr ∷ trs) [] old new log later none h = h
each_any R S t habits n (tr ∷ trs) (o ∷ os) old new log later none (mid, now, makes, rest) =
    let parts = or_parts (is_last o) (list_any is_last os) none in (
      mid,
      now,
      next_any t n tr habits o old mid log now parts.0 makes,
      each_any R S t habits (n + 1) trs os mid new now
          later parts.1 rest,
    )
each_any R S t habits n [] (o ∷ os) old new log later none h = absurd h
