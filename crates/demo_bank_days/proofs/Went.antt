-- The logs of all tellers: what they have after their transfers, of these and of others, and how a thread went whose
-- log was read back.
use Rattle.xa_base.proofs.{map, append_assoc, map-append, rules, ◌≡◌, ℕ, ◌+◌, List, [], ◌∷◌, ◌++◌, length, append-nil}
use Rattle.xa_base.proofs.{sym, ap, ◌∙◌, arith, none_of, zero, suc, nat_lt, Bool, Some, slice_get, some_same, refl}
use Rattle.xa_base.proofs.{subst, or-false, if◌then◌else◌, ◌^◌, ◌<◌, ◌≤◌, ◌⊎◌, true, false, inl, inr, cases_lt}
use Rattle.xa_base.proofs.{cases_Bool, ◌||◌, All, list_any, or_parts, slice_get_within, all_at, got}
use Rattle.xa_words.specs.{TranName, tran_of, Code, key_eq, Decides-key_eq}
use Rattle.xa_log.specs.{LogState, record_of, IsReadAs}
use Rattle.demo_bank.specs.{Teller, ReadsBack, Habits, Transfer, is_undecided, death_in, Makes, MakesEach}
use Rattle.demo_bank.specs.{branches_of_legs, log_after_forgetting, gtrid_of, with_legs, without_legs, TransfersCome}
use Rattle.demo_bank.specs.{HasMade, ended, lived, unknown, tran_of_transfer}
use Rattle.demo_bank_days.specs.{AreReadBack, ForEach, IsReadBack, IsGtridOfTransfer, DayAndNight, IsToldAll, WorkedIn}
use Rattle.xa_desk.specs.{DeskView}
use Rattle.laws_commit.specs.{is_recorded}
use Rattle.xa_work.specs.{Commit, WorkOutcome, IfLost, is_last, HaveSent, IsOpenRm}
use Rattle.xa_work.specs.Units.Transacts.{commits, refused}
use Rattle.demo_bank.proofs.Named.{legs_are, none_made, one_transfer, Names, makes_none, IsAny, if_both, if_so}
use Rattle.demo_bank.proofs.Named.{none_lost, refused_so}
use Rattle.demo_bank_days.proofs.Come.{IsReadSo, has_come}
use Rattle.xa_switch.specs.{Settling, sent}
use Rattle.xa_driver.specs.declared.done.CommitOutcome.TheVariants as outcome
use Rattle.demo_bank.proofs.Only.{all_told}

-- ---- lists to which elements are pushed one by one, by what each has of another list's

module _ {A B C : Type 0} (f : A → C) (g : B → C) (xs xs' : List A) (x : A) (push : xs' ≡ xs ++ x ∷ []) (y : B)
    (same : f x ≡ g y) where
  pub pushed_map : (ys : List B) → map f xs ≡ map g ys → map f xs' ≡ map g (ys ++ y ∷ [])
  pushed_map ys e =
      ap (map f) push ∙ map-append f xs (x ∷ []) ∙ (λ i. e i ++ same i ∷ []) ∙ sym (map-append g ys (y ∷ []))

  -- what was pushed came from the front of what is left
  pub moved_map : (rest rest' : List B) (zs : List C) → rest ≡ y ∷ rest' → map f xs ++ map g rest ≡ zs
      → map f xs' ++ map g rest' ≡ zs
  moved_map rest rest' zs front e = search (arith, map-append, append_assoc)

-- how many are left once one is taken from the front
pub one_fewer : {A : Type 0} (n m : ℕ) (xs ys : List A) (x : A) → xs ≡ x ∷ ys → m + 1 ≡ n → n ≡ length xs
    → m ≡ length ys
one_fewer n m xs ys x front next all = let size = ap (λ l. length l) front in omega (arith, size, next, all)

-- what was taken is all, once nothing is left
pub all_taken : {A : Type 0} (done rest all : List A) (n : ℕ) → done ++ rest ≡ all → n ≡ length rest → n ≡ 0
    → done ≡ all
all_taken done rest all n so_far counted none =
    sym (append-nil done) ∙ ap (λ l. done ++ l) (sym (none_of rest (sym counted ∙ none))) ∙ so_far

-- ---- the logs of all tellers, one by one, with what they were found to have

module _ {L : Type 0} (P : ℕ → Teller L → L → Bool → Type 0) where
  pub back_many : (t : ℕ) (tellers : List (Teller L)) (logs : List L) (founds : List Bool)
      → ForEach P t tellers logs founds
      → (length logs ≡ length tellers) × (length founds ≡ length tellers)
  back_many t [] [] [] h = (refl, refl)
  back_many t (teller ∷ tellers) (log ∷ logs) (found ∷ founds) h =
      search (arith, back_many (t + 1) tellers logs founds h.1, h.1)
  back_many t tellers logs founds h = absurd h

  -- what holds at place k, of the thread after so many
  pub back_at : (t k : ℕ) (tellers : List (Teller L)) (logs : List L) (founds : List Bool)
      → ForEach P t tellers logs founds
      → (teller : Teller L) → slice_get tellers k ≡ Some teller
      → (log : L) × (found : Bool) × (slice_get logs k ≡ Some log) × (slice_get founds k ≡ Some found) × P (t + k)
      teller log found
  back_at t k [] [] [] h teller at = cc
  back_at t zero (x ∷ tellers) (log ∷ logs) (found ∷ founds) h teller at =
      let number : t ≡ t + 0 = omega arith in (
        log,
        found,
        refl,
        refl,
        subst (λ (p : ℕ × Teller L). P p.0 p.1 log found)
            (λ i. (number i, some_same x teller at i)) h.0,
      )
  back_at t (suc k) (x ∷ tellers) (l ∷ logs) (f ∷ founds) h teller at =
      let (log, found, log_at, found_at, back) = back_at (t + 1) k tellers logs founds h.1 teller at in
      let number : t + 1 + k ≡ t + suc k = omega arith in
      (log, found, log_at, found_at, rw number at back)
  back_at t k tellers logs founds h teller at = absurd h

  -- one more
  pub one_back_more : (t : ℕ) (tellers : List (Teller L)) (logs : List L) (founds : List Bool) (teller : Teller L)
      (log : L) (found : Bool)
      → ForEach P t tellers logs founds → P (t + length tellers) teller log found
      → ForEach P t (tellers ++ teller ∷ []) (logs ++ log ∷ []) (founds ++ found ∷ [])
  one_back_more t [] [] [] teller log found h its =
      (subst (λ u. P u teller log found) (let e : t + 0 ≡ t = omega arith in e) its, tt)
  one_back_more t (x ∷ tellers) (l ∷ logs) (f ∷ founds) teller log found h its =
      search (arith, one_back_more (t + 1) tellers logs founds teller log found h.1)
  one_back_more t tellers logs founds teller log found h its = absurd h

-- what holds of each, and so does another
all_so : {L : Type 0} (P Q : ℕ → Teller L → L → Bool → Type 0)
    → ((t : ℕ) (teller : Teller L) (log : L) (found : Bool) → P t teller log found → Q t teller log found)
    → (t : ℕ) (tellers : List (Teller L)) (logs : List L) (founds : List Bool) → ForEach P t tellers logs founds
    → ForEach Q t tellers logs founds
all_so P Q so t [] [] [] h = tt
all_so P Q so t (x ∷ tellers) (l ∷ logs) (f ∷ founds) h =
    (so t x l f h.0, all_so P Q so (t + 1) tellers logs founds h.1)
all_so P Q so t tellers logs founds h = absurd h

module _ {L : Type 0} (state : L → LogState) (knows : L → Type 0) (loses : TranName → List Bool → L → L → Type 0)
    (reopens : L → L → Type 0) where
  is_read_back : (t : ℕ) (teller : Teller L) (log : L) (found : Bool)
      → ReadsBack state knows loses reopens t teller log found
      → IsReadBack state knows loses t teller log found
  is_read_back t teller log found z = search (arith, nat_lt, z.finds)

  -- so they were read back
  pub are_read_back : (t : ℕ) (tellers : List (Teller L)) (logs : List L) (founds : List Bool)
      → ForEach (ReadsBack state knows loses reopens) t tellers logs founds
      → AreReadBack state knows loses t tellers logs founds
  are_read_back = all_so (ReadsBack state knows loses reopens) (IsReadBack state knows loses) is_read_back

-- ---- numbers

-- a transaction is of one transfer of one thread
pub named_once : (t u n k : ℕ) (gtrid : List ℕ) → t < 2 ^ 32 → u < 2 ^ 32 → IsGtridOfTransfer t n gtrid
    → IsGtridOfTransfer u k gtrid
    → (u ≡ t) × (k ≡ n)
named_once t u n k gtrid low high one two = search (arith, one_transfer)

-- it is of a transfer or not
named_or_not : (t n : ℕ) (tran : TranName) → IsGtridOfTransfer t n tran.gtrid ⊎ (IsGtridOfTransfer t n tran.gtrid → ⊥)
named_or_not t n tran = elim (cases_lt n (2 ^ 32)) [
  | inr great ↦ inr (λ z. let small = z.small in omega (arith, small, great))
  | inl small ↦ elim (cases_Bool (key_eq tran.gtrid (gtrid_of t n))) [
    | inl same ↦ inl (record { small = small; gtrid_ = (Decides-key_eq tran.gtrid (gtrid_of t n)).0 same })
    | inr other ↦ inr
        (λ z. let same : key_eq tran.gtrid (gtrid_of t n) ≡ true = (Decides-key_eq tran.gtrid (gtrid_of t n)).1
        z.gtrid_ in cc)
  ]
]

-- or of one of so many
abbrev pub IsNamedFrom : ℕ → ℕ → ℕ → List ℕ → Type 0
IsNamedFrom t n count gtrid = (k : ℕ) × (n ≤ k) × (k < n + count) × IsGtridOfTransfer t k gtrid

-- ---- the log

-- the log as it left it is as its habits leave it
pub left_is : (habits : Habits) (o : WorkOutcome) → habits.forgets ≡ false → (tran : TranName) (left later : LogState)
    → later ≡ (if habits.forgets then log_after_forgetting tran o left else left) → later ≡ left
left_is habits o keeps tran left later kept =
    kept ∙ ap (λ b. if b then log_after_forgetting tran o left else left) keeps

module _ (R : LogState → Type 0) (t n : ℕ) (tr : Transfer) (habits : Habits) (o : WorkOutcome)
    (keeps : habits.forgets ≡ false) where
  -- the records of other transactions stay
  pub makes_keeps : (old new : DeskView) (log later : LogState) → Makes t n tr habits o old new log later R
      → IfLost (λ votes. R later) o
      → (tran : TranName) → (IsGtridOfTransfer t n tran.gtrid → ⊥) → record_of later tran ≡ record_of log tran
  makes_keeps old new log later
      (with_legs one two left legs (commits worked outcome is begins known_ work comes) kept read) may tran other =
      let of_one = (legs_are t n tr one two legs).first in
      let same : later ≡ left = left_is habits o keeps (tran_of one.branch.xid) left later kept in
      ap (λ (l : LogState). record_of l tran) same
      ∙ (has_come one.branch two.branch (death_in habits n) (is_recorded left (tran_of one.branch.xid)) worked
      new.ledgers log left outcome comes
      (rw is at
      (if_both _ (λ votes. R later)
      (IsReadSo (branches_of_legs one two) (tran_of one.branch.xid) log left
      (is_recorded left (tran_of one.branch.xid))) o
      (λ votes either may_. record { either = λ u is. either u left is (rw same at may_); found_ = refl }) read
      may))).others tran
      (λ is. other (record { small = of_one.small; gtrid_ = ap (λ (u : TranName). u.gtrid) is ∙ of_one.gtrid }))
  makes_keeps old new log later (with_legs one two left legs (refused same why sent) kept read) may tran other =
      ap (λ (l : LogState). record_of l tran) (left_is habits o keeps (tran_of one.branch.xid) left later kept ∙ same)
  makes_keeps old new log later (without_legs is none same unlogged) may tran other =
      ap (λ (l : LogState). record_of l tran) unlogged

-- of the last alone nobody may know whether its record was made
abbrev pub AreKnown : List WorkOutcome → Type 0
AreKnown [] = Unit {0}
AreKnown (o ∷ []) = Unit {0}
AreKnown (o ∷ p ∷ os) = (is_last o ≡ false) × AreKnown (p ∷ os)

pub rest_known : (o : WorkOutcome) (os : List WorkOutcome) → AreKnown (o ∷ os) → AreKnown os
rest_known o [] h = tt
rest_known o (p ∷ os) h = h.1

module _ (R : LogState → Type 0) (t : ℕ) (habits : Habits) (keeps : habits.forgets ≡ false) where
  -- where nobody knows of a transfer whether its record was made, no other was made after it
  pub lost_last : (P : List Code → Type 0) (n : ℕ) (trs : List Transfer) (o : WorkOutcome) (os : List WorkOutcome)
      (mid new : DeskView) (now later : LogState)
      → MakesEach t habits n trs os mid new now later R → AreKnown (o ∷ os)
      → (os ≡ [] → later ≡ now → is_undecided o ≡ true → (votes : List Code) → P votes) → IfLost P o
  lost_last P n trs o [] mid new now later h known so =
      if_so P o (so refl (none_made R t habits n trs mid new now later h).1)
  lost_last P n trs o (p ∷ os) mid new now later h known so = none_lost P o known.0

  -- the record of a transaction stays, or it is of one of these transfers
  pub each_keeps : (n : ℕ) (trs : List Transfer) (os : List WorkOutcome) (old new : DeskView) (log later : LogState)
      → MakesEach t habits n trs os old new log later R → AreKnown os → R later → (tran : TranName)
      → (record_of later tran ≡ record_of log tran) ⊎ IsNamedFrom t n (length trs) tran.gtrid
  each_keeps n trs [] old new log later h known may tran = inl (search (arith, none_made))
  each_keeps n (tr ∷ trs) (o ∷ os) old new log later (mid, now, makes, rest) known may tran =
      elim (named_or_not t n tran) [
        | inl here ↦ inr (n, omega arith, omega arith, here)
        | inr other ↦ elim (each_keeps (n + 1) trs os mid new now later rest (rest_known o os known) may tran) [
          | inl same ↦
              let so =
              lost_last (λ votes. R now) (n + 1) trs o os mid new now later rest known
              (λ _ unlogged _ votes. rw unlogged at may) in
              inl (same ∙ makes_keeps R t n tr habits o keeps makes.shut mid log now makes.makes so tran other)
          | inr z ↦ inr (z.0, omega (arith, z.1), omega (arith, z.2), z.3)
        ]
      ]
  each_keeps n [] (o ∷ os) old new log later h known may tran = absurd h

-- ---- of the last alone nobody may know whether its record was made

undecided_last : (o : WorkOutcome) → is_last o ≡ false → is_undecided o ≡ false
undecided_last o e = search (arith, rules)

lives_known : (os : List WorkOutcome) → list_any is_last os ≡ false → AreKnown os
lives_known (o ∷ p ∷ os) e =
    let parts = or_parts (is_last o) (list_any is_last (p ∷ os)) e in (parts.0, lives_known (p ∷ os) parts.1)
lives_known os e = search arith

ends_known : (before : List WorkOutcome) (o : WorkOutcome) → list_any is_last before ≡ false
    → AreKnown (before ++ o ∷ [])
ends_known [] o e = tt
ends_known (p ∷ []) o e = let parts = or_parts (is_last p) false e in (parts.0, tt)
ends_known (p ∷ q ∷ before) o e =
    let parts = or_parts (is_last p) (list_any is_last (q ∷ before)) e in (parts.0, ends_known (q ∷ before) o parts.1)

come_known : (Known K : Type 0) (trs : List Transfer) (os : List WorkOutcome) → TransfersCome Known K trs os
    → AreKnown os
come_known Known K trs os (lived none many knows) = lives_known os none
come_known Known K trs os (ended before o is none last leaves) = rw is (ends_known before o none)
come_known Known K trs os (unknown never none) = rw none tt

-- ---- the log as it is read

-- where nobody knows whether its record was made, a transfer leaves the log as it is read
module _ (R : LogState → Type 0) (t : ℕ) (habits : Habits) (keeps : habits.forgets ≡ false) (read : LogState) where
  makes_read : (n : ℕ) (tr : Transfer) (o : WorkOutcome) (old new : DeskView) (log later : LogState)
      → is_undecided o ≡ true
      → Makes t n tr habits o old new log later R → Makes t n tr habits o old new log read R
  makes_read n tr o old new log later un
      (with_legs one two left legs (commits worked (outcome.Undecided votes) is begins known work came) kept so) =
      with_legs one two read legs
      (commits worked (outcome.Undecided votes) is begins known work
      (record { may = came.may; comes = came.comes; managers = came.managers })) (rw keeps) so
  makes_read n tr o old new log later un
      (with_legs one two left legs (commits worked outcome is begins known work came) kept so) =
      absurd (let z : is_undecided (Commit outcome) ≡ true = rw is at un in cc)
  makes_read n tr o old new log later un (with_legs one two left legs (refused same why sent_) kept so) =
      search (arith, refused_so)
  makes_read n tr o old new log later un (without_legs is none same unlogged) = cc (ap is_undecided is)

  the_others : (b c : Bool) → b ≡ false → (b || c) ≡ true → c ≡ true
  the_others b c e f = search (arith, rules)

  each_read : (n : ℕ) (trs : List Transfer) (os : List WorkOutcome) (old new : DeskView) (log later : LogState)
      → AreKnown os
      → list_any is_undecided os ≡ true → MakesEach t habits n trs os old new log later R
      → MakesEach t habits n trs os old new log read R
  each_read n trs [] old new log later known un h = cc
  each_read n (tr ∷ trs) (o ∷ []) old new log later known un (mid, now, makes, rest) = (
    mid,
    read,
    record {
      shut = makes.shut;
      shuts = makes.shuts;
      makes = makes_read n tr o makes.shut mid log now (sym (or-false (is_undecided o)) ∙ un) makes.makes;
    },
    rw ((none_made R t habits (n + 1) trs mid new now later rest).0) (makes_none R t habits (n + 1) trs mid read),
  )
  each_read n (tr ∷ trs) (o ∷ p ∷ os) old new log later known un (mid, now, makes, rest) =
      search (arith, each_read (n + 1) trs (p ∷ os) mid new now later known.1, the_others, list_any, undecided_last)
  each_read n [] (o ∷ os) old new log later known un h = absurd h

-- the thread
module _ {L : Type 0} (state : L → LogState) (knows : L → Type 0) (loses : TranName → List Bool → L → L → Type 0)
    (s : Settling) (n t : ℕ)
    (old new : Teller L) (log : L) (found : Bool) where
  abbrev pub ReadsAs : LogState → Type 0
  ReadsAs = IsReadAs state knows loses new.log

  pub record WentSo : Type 0 where
    pub its : WorkedIn state knows loses s t old new
    pub open its use *
    pub opened : DeskView
    pub opens : HaveSent IsOpenRm desk.ledgers opened.ledgers
    pub makes : MakesEach t old.habits old.habits.first old.transfers.items new.outcomes.items opened left
        (state old.log) (state log) ReadsAs
    pub known : AreKnown new.outcomes.items
    pub may : ReadsAs (state log)
    pub found_ : (k : ℕ) → k + 1 ≡ old.habits.first + length new.outcomes.items
        → list_any is_undecided new.outcomes.items ≡ true → k < 2 ^ 32
        → found ≡ is_recorded (state log) (tran_of_transfer t k)
    pub names : (m : ℕ) → 1 ≤ m → All (Names t IsAny) (sent s t m)

  pub went : WorkedIn state knows loses s t old new → IsToldAll n old new → IsReadBack state knows loses t new log found
      → knows log → WentSo
  went w z back known =
      let made : HasMade old.transfers.items old.habits old.outcomes.items w.desk (state old.log) (knows old.log)
      new.outcomes.items w.left (state new.log) (knows new.log) ReadsAs =
      w.worked.made z.memory in
      let same : new.outcomes.items ≡ made.more = made.told ∙ ap (λ l. l ++ made.more) z.begins in
      let all_known : AreKnown new.outcomes.items =
      rw same (come_known (knows old.log) (knows new.log) old.transfers.items made.more made.comes) in
      let each : MakesEach t old.habits old.habits.first old.transfers.items new.outcomes.items made.makes.opened w.left
      (state old.log) (state new.log) ReadsAs =
      search (arith, made.makes.opened, w.left, made.more, w.thread) in
      record {
        its = w;
        opened = made.makes.opened;
        opens = made.makes.opens;
        makes = search (arith, each_read, made.makes.opened, w.left, z.keeps, back.same);
        known = all_known;
        may = back.read known;
        found_ = search (arith, w.worked.habits, back.finds);
        names = all_told ReadsAs s t old.transfers.items old.habits made.more w.desk w.left (state old.log)
            (state new.log) w.thread w.nothing made.makes w.ended;
      }

-- a day and its night
module _ {L : Type 0} {state : L → LogState} {knows : L → Type 0} {loses : TranName → List Bool → L → L → Type 0}
    (d : DayAndNight state knows loses) where
  open d use {day as s, olds, news, logs, founds, first as n, is_day, told_all, back, known}

  pub as_many : (length news ≡ length olds) × (length logs ≡ length olds) × (length founds ≡ length news)
  as_many =
      let z = back_many (IsReadBack state knows loses) 1 news logs founds back in (is_day.many, z.0 ∙ is_day.many, z.1)

  -- what the teller at a place did, and its log that was read back
  pub record AtPlace (i : ℕ) (old : Teller L) : Type 0 where
    pub new : Teller L
    pub log : L
    pub found : Bool
    pub old_at : slice_get olds i ≡ Some old
    pub new_at : slice_get news i ≡ Some new
    pub log_at : slice_get logs i ≡ Some log
    pub found_at : slice_get founds i ≡ Some found
    pub all : IsToldAll n old new
    pub went : WentSo state knows loses s n (i + 1) old new log found

  pub at_place : (i : ℕ) (old : Teller L) → slice_get olds i ≡ Some old → AtPlace i old
  at_place i old at =
      let new = got news i (let within = slice_get_within olds i old at in omega (arith, within, as_many.0)) in
      let (log, found, log_at, found_at, read) =
      back_at (IsReadBack state knows loses) 1 i news logs founds back new.0 new.1 in
      let number : 1 + i ≡ i + 1 = omega arith in
      let told_so = told_all i old new.0 at new.1 in
      record {
        new = new.0;
        log = log;
        found = found;
        old_at = at;
        new_at = new.1;
        log_at = log_at;
        found_at = found_at;
        all = told_so;
        went =
            went state knows loses s n (i + 1) old new.0 log found (is_day.each i old new.0 at new.1) told_so
            (rw number at read) (all_at knows logs i log known log_at);
      }

  -- whose log this is
  pub owner : (i : ℕ) (log : L) → slice_get logs i ≡ Some log
      → (old : Teller L) × (place : AtPlace i old) × (place.log ≡ log)
  owner i log at =
      let old = got olds i (let within = slice_get_within logs i log at in omega (arith, within, as_many.1)) in
      let place = at_place i old.0 old.1 in
      (old.0, place, some_same place.log log (sym place.log_at ∙ at))
