-- What several logs have that are read as one.
-- What the transfers of all tellers come to at one store, for one account.
use Rattle.xa_base.proofs.{or_none, each_number, total_append, cases_eq, option_or, ◌≡◌, ◌≢◌, ℕ, zero, suc, Bool}
use Rattle.xa_base.proofs.{Option, None, Some, List, [], ◌∷◌, length, map, slice_get, sym, refl, ap, ◌∙◌, arith}
use Rattle.xa_base.proofs.{some_same, ◌+◌, ◌^◌, ◌<◌, ◌≤◌, true, false, ◌||◌, ◌++◌, subst, inl, inr, list_any, or-true}
use Rattle.xa_base.proofs.{list_any-append, get_or, All, length-map, slice_get_within, All-nil, All-weaker, got}
use Rattle.xa_base.proofs.{got_map, is_missing, false_from_ne_true}
use Rattle.xa_words.specs.{TranName, XidName, Op}
use Rattle.xa_log.specs.{Records, all_records, record_in, LogState, record_of, IsReadAs}
use Rattle.xa_base.specs.{total, MOST_MANAGERS, IsUpTo}
use Rattle.xa_tables.specs.{Tables, state_of, names}
use Rattle.xa_desk.specs.{LedgerView, DeskView, ledger}
use Rattle.xa_switch.specs.{Again, Settling, ledgers_of, sent, first_of, history}
use Rattle.laws_commit.specs.{is_recorded, ResolveCall}
use Rattle.laws_balances.specs.{DayLeg}
use Rattle.xa_work.specs.{WorkOutcome, HasSent, HaveSent, IfLost}
use Rattle.xa_work.proofs.Sent.{none_sent, sent_on, sent_as, have_on, have_as}
use Rattle.demo_bank.specs.{Habits, Transfer, is_undecided, MakesEach, tran_of_transfer, Teller}
use Rattle.demo_bank.proofs.Named.{IsOf, Is, IsFrom, Names, names_as, next_names, one_transfer, transfers_name}
use Rattle.demo_bank.proofs.Named.{opens_names, Earlier, IsBelow, earlier_on, IsTold}
use Rattle.demo_bank_days.specs.{IsGtridOfTransfer, is_applied, told as told_of, DayAndNight, all_told, records_of_logs}
use Rattle.demo_bank_days.proofs.Went.{AreKnown, each_keeps, lost_last, named_once, rest_known, AtPlace, as_many}
use Rattle.demo_bank_days.proofs.Went.{at_place, owner}
use Rattle.demo_bank_days.proofs.Made.{CameOut, IsFoundSo, IsStore, Noted, NotedSent, TransferAt, next_at, noted_none}
use Rattle.demo_bank_days.proofs.Made.{LegsSo, both_legs, counts_for, no_legs, legs_as}
use Rattle.demo_bank_days.proofs.Out.{IsScene, BranchesComeOut}
use Rattle.laws_commit.proofs.Sites.{own_all}
use Rattle.laws_commit.proofs.Settled.{by_ledger}

-- what xa_log has of several logs: of none, and of one more
abbrev pub NoLogs : Type 0
NoLogs = (tran : TranName) → record_in (all_records []) tran ≡ None

abbrev pub OneLogMore : Type 0
OneLogMore =
    (first : Records) (others : List Records) (tran : TranName)
    → record_in (all_records (first ∷ others)) tran ≡ option_or (record_in first tran)
    (record_in (all_records others) tran)

module _ (none : NoLogs) (more : OneLogMore) (tran : TranName) {L : Type 0} (f : L → Records) where
  -- what these logs have of it, and what all of them have
  abbrev own : L → Option (List Bool)
  own l = record_in (f l) tran

  abbrev in_all : List L → Option (List Bool)
  in_all ls = record_in (all_records (map f ls)) tran

  none_in_all : (ls : List L) → ((k : ℕ) (l : L) → slice_get ls k ≡ Some l → own l ≡ None) → in_all ls ≡ None
  none_in_all [] each = none tran
  none_in_all (l ∷ ls) each =
      more (f l) (map f ls) tran ∙ ap (λ o. option_or o (in_all ls)) (each 0 l refl)
      ∙ none_in_all ls (λ k p at. each (suc k) p at)

  -- where one of them alone may have a record of it, they have what that has
  pub one_in_all : (ls : List L) (i : ℕ) (l : L) → slice_get ls i ≡ Some l
      → ((k : ℕ) (p : L) → k ≢ i → slice_get ls k ≡ Some p → own p ≡ None)
      → in_all ls ≡ own l
  one_in_all [] i l at others = cc
  one_in_all (p ∷ ls) zero l at others =
      more (f p) (map f ls) tran
      ∙ ap (λ o. option_or (own p) o) (none_in_all ls (λ k q there. others (suc k) q (λ e. omega (arith, e)) there))
      ∙ or_none (own p) None refl ∙ ap own (some_same p l at)
  one_in_all (p ∷ ls) (suc i) l at others =
      more (f p) (map f ls) tran ∙ ap (λ o. option_or o (in_all ls)) (others 0 p (λ e. omega (arith, e)) refl)
      ∙ one_in_all ls i l at (λ k q apart there. others (suc k) q (λ e. apart (omega (arith, e))) there)

  -- as each has it, so have all
  pub same_in_all : (xs ys : List L) → length xs ≡ length ys
      → ((k : ℕ) (x y : L) → slice_get xs k ≡ Some x → slice_get ys k ≡ Some y → own x ≡ own y) → in_all xs ≡ in_all ys
  same_in_all (x ∷ xs) (y ∷ ys) many each =
      more (f x) (map f xs) tran
      ∙ (λ i. option_or (each 0 x y refl refl i)
      (same_in_all xs ys (omega (arith, many)) (λ k p r at there. each (suc k) p r at there) i))
      ∙ sym (more (f y) (map f ys) tran)
  same_in_all [] [] many each = refl
  same_in_all xs ys many each = absurd (omega (arith, many))

-- ---- what all transfers of one teller come to at one store, for one account: notes

pub noted_more : (records : Records) (legs more : List DayLeg) (op : Op) → Noted records legs op
    → Noted records (legs ++ more) op
noted_more records legs more op h x e = search (arith, list_any-append, or-true, h x e)

pub noted_after : (records : Records) (legs more : List DayLeg) (op : Op) → Noted records more op
    → Noted records (legs ++ more) op
noted_after records legs more op h x e = search (arith, list_any-append, or-true, h x e)

pub noted_both : (records : Records) (legs more : List DayLeg) (a b c : LedgerView) → HasSent (Noted records legs) a b
    → HasSent (Noted records more) b c
    → HasSent (Noted records (legs ++ more)) a c
noted_both records legs more a b c h k =
    sent_on (sent_as (noted_more records legs more) h) (sent_as (noted_after records legs more) k)

module _ {s : Settling} {again : Again} {q : ResolveCall} {next : Settling} (scene : IsScene s again q next) {m : ℕ}
    {T : Tables} (store : IsStore s m T)
    (j : List ℕ) (t : ℕ) (low : t < 2 ^ 32) (habits : Habits) (keeps : habits.forgets ≡ false) (R : LogState → Type 0)
    (is_found : Bool) where
  -- the branch is of one of these transfers, with numbers from n on, so many
  abbrev pub IsOneOf : ℕ → ℕ → XidName → Type 0
  IsOneOf n count x = (k : ℕ) × (n ≤ k) × (k < n + count) × IsOf t k x

  -- what they came to
  abbrev pub TransfersAt : ℕ → List Transfer → List WorkOutcome → LedgerView → LedgerView → Type 0
  TransfersAt n trs os a a' =
      LegsSo (CameOut s q next m T j) (IsOneOf n (length os)) (total (counts_for m j) (told_of is_found trs os))
      (NotedSent q a a')

  -- what was found is what the log has, as it was read, of the last of these transfers, where nobody knew whether its
  -- record
  -- was made
  abbrev pub IsFoundAt : ℕ → List WorkOutcome → LogState → Type 0
  IsFoundAt n os read =
      (k : ℕ) → k + 1 ≡ n + length os → list_any is_undecided os ≡ true → k < 2 ^ 32
      → is_found ≡ is_recorded read (tran_of_transfer t k)

  pub each_at : (n : ℕ) (trs : List Transfer) (os : List WorkOutcome) (old new : DeskView) (log later : LogState)
      → MakesEach t habits n trs os old new log later R
      → AreKnown os → R later → IsFoundAt n os later
      → ((k : ℕ) (x : XidName) → n ≤ k → IsOf t k x → state_of T x ≡ None)
      → HaveSent (λ op. ⊥) new.ledgers (ledgers_of s t) → Earlier t n old.ledgers
      → ((k : ℕ) (tran : TranName) → n ≤ k → IsGtridOfTransfer t k tran.gtrid
      → record_in q.records tran ≡ record_of later tran)
      → TransfersAt n trs os (ledger old.ledgers m) (ledger new.ledgers m)
  each_at n [] [] old new log later h known may so fresh ended before found =
      no_legs refl (rw h.0 (none_sent _ (ledger old.ledgers m)))
  each_at n (tr ∷ trs) [] old new log later h known may so fresh ended before found =
      no_legs refl (rw h.0 (none_sent _ (ledger old.ledgers m)))
  each_at n (tr ∷ trs) (o ∷ os) old new log later (mid, now, makes, rest) known may so fresh ended before found =
      let after_it : AreKnown os = rest_known o os known in
      let here : IfLost (λ votes. IsFoundSo R t n is_found now) o =
      lost_last R t habits keeps (λ votes. IsFoundSo R t n is_found now) (n + 1) trs o os mid new now later rest known
      (λ last same un votes. record {
        may = rw same at may;
        found_ = search (arith, list_any);
      }) in
      let rest_so : IsFoundAt (n + 1) os later =
      λ k last lost small. so k (omega (arith, last)) (ap (λ b. is_undecided o || b) lost ∙ or-true (is_undecided o))
      small in
      let after : HaveSent (Names t (IsFrom (n + 1))) mid.ledgers (ledgers_of s t) =
      have_on mid.ledgers new.ledgers (ledgers_of s t) (transfers_name R t habits (n + 1) trs os mid new now later rest)
      (have_as (λ op never. absurd never) new.ledgers (ledgers_of s t) ended) in
      let kept : (tran : TranName) → IsGtridOfTransfer t n tran.gtrid
      → record_of later tran ≡ record_of now tran = λ tran is.
      elim (each_keeps R t habits keeps (n + 1) trs os mid new now later rest after_it may tran) [
        | inl same ↦ same
        | inr z ↦ let same = (named_once t t n z.0 tran.gtrid low low is z.3).1 in absurd (omega (arith, same, z.1))
      ] in
      let head : TransferAt scene store j t low n tr (is_applied is_found o) (ledger old.ledgers m)
      (ledger mid.ledgers m) =
      next_at scene store j t low n tr habits o keeps R is_found (λ x. fresh n x (omega arith)) mid now here after
      (λ tran is. found n tran (omega arith) is ∙ kept tran is) old log makes before in
      let tail : TransfersAt (n + 1) trs os (ledger mid.ledgers m) (ledger new.ledgers m) =
      each_at (n + 1) trs os mid new now later rest after_it may rest_so (λ k x from. fresh k x (omega (arith, from)))
      ended
      (earlier_on t n (n + 1) (Names t (Is n)) old.ledgers mid.ledgers (omega arith)
      (names_as t (Is n) (IsBelow (n + 1)) (λ i e. omega (arith, e))) before
      (next_names t n tr habits o old mid log now makes)) (λ k tran from. found k tran (omega (arith, from))) in
      both_legs head tail (λ x its. (n, omega arith, omega arith, its))
      (λ x (k, from, below, its). (k, omega (arith, from), omega (arith, below), its))
      (λ x its (k, from, below, other). let same = (one_transfer t n t k x low low its other).1 in omega
      (arith, same, from))
      (noted_both q.records head.legs tail.legs (ledger old.ledgers m) (ledger mid.ledgers m) (ledger new.ledgers m))
  each_at n [] (o ∷ os) old new log later h known may so fresh ended before found = absurd h

-- what was sent to a manager to which nothing had been
all_sent : (P : Op → Type 0) (a a' : LedgerView) → a.sent ≡ [] → HasSent P a a' → All P a'.sent
all_sent P a a' none h = rw (h.sent ∙ ap (λ l. l ++ h.more) none) h.each

-- what laws_balances has of the branches of a commit, and xa_log of several logs
pub record Laws : Type 0 where
  pub outs : BranchesComeOut
  pub none : NoLogs
  pub more : OneLogMore

module _ (laws : Laws) {L : Type 0} {state : L → LogState} {knows : L → Type 0}
    {loses : TranName → List Bool → L → L → Type 0}
    (d : DayAndNight state knows loses) (many : length d.olds < 2 ^ 32) (m : ℕ) (up : IsUpTo d.stores m)
    (j : List ℕ) where
  open d use {
    day as s,
    again,
    resolve as q,
    next,
    olds,
    news,
    logs,
    founds,
    first as n,
    tables,
    is_day,
    begins,
    dawn,
    resolved,
  }

  store : IsStore s m (tables m)
  store = record { positive = up.0; first = begins.there m up }

  few : (k : ℕ) (U : Tables) → first_of s k ≡ Some U → IsUpTo MOST_MANAGERS k
  few k U is =
      let z = begins.only k U is in
      let low = z.0 in let high = z.1 in let most = begins.few in (low, omega (arith, high, most))

  pub told : (u : ℕ) → IsTold s u
  told =
      each_number (IsTold s) (length olds) (λ u outside. inr (is_day.others u outside)) (λ k below.
      let old = got olds k below in
      inl (omega (arith, below, many), (at_place d k old.0 old.1).went.names))

  scene : IsScene s again q next
  scene =
      record {
        outs = laws.outs;
        settled = is_day.settled;
        few = few;
        told = told;
        records = records_of_logs state logs;
        resolved = resolved;
      }

  low_at : (i : ℕ) (old : Teller L) → slice_get olds i ≡ Some old → i + 1 < 2 ^ 32
  low_at i old at = let within = slice_get_within olds i old at in omega (arith, within, many)

  -- ---- the logs

  -- the records of transactions that aren't of the thread's transfers of that day stay
  log_keeps : (i : ℕ) (old : Teller L) (z : AtPlace d i old) (tran : TranName)
      → ((k : ℕ) → n ≤ k → IsGtridOfTransfer (i + 1) k tran.gtrid → ⊥)
      → record_of (state z.log) tran ≡ record_of (state old.log) tran
  log_keeps i old z tran others =
      let w = z.went in
      elim (each_keeps (IsReadAs state knows loses z.new.log) (i + 1) old.habits z.all.keeps old.habits.first
      old.transfers.items z.new.outcomes.items w.opened w.left (state old.log) (state z.log) w.makes w.known w.may
      tran) [
        | inl same ↦ same
        | inr its ↦ absurd (others its.0 (omega (arith, its.1, z.all.counts)) its.3)
      ]

  -- what a thread's log had before the day is of its own earlier transfers
  old_none : (i : ℕ) (old : Teller L) (tran : TranName) → slice_get olds i ≡ Some old
      → ((k : ℕ) → k < n → IsGtridOfTransfer (i + 1) k tran.gtrid → ⊥)
      → record_of (state old.log) tran ≡ None
  old_none i old tran at others =
      is_missing (record_of (state old.log) tran)
      (false_from_ne_true _
      (λ on. let z = dawn.own i old.log tran (got_map (λ (t : Teller L). t.log) olds i old at) on in others z.0 z.1
      z.2))

  abbrev records_in : L → Records
  records_in log = (state log).records

  found_at : (i : ℕ) (old : Teller L) (z : AtPlace d i old) (k : ℕ) (tran : TranName)
      → IsGtridOfTransfer (i + 1) k tran.gtrid → record_in q.records tran ≡ record_of (state z.log) tran
  found_at i old z k tran named =
      ap (λ (r : Records). record_in r tran) resolved.by_
      ∙ one_in_all laws.none laws.more tran records_in logs i z.log z.log_at (λ u log apart there.
      let (old', place, log_is) = owner d u log there in
      let other : (e : ℕ) → IsGtridOfTransfer (u + 1) e tran.gtrid → ⊥ = λ e its.
      let same =
      (named_once (i + 1) (u + 1) k e tran.gtrid (low_at i old z.old_at) (low_at u old' place.old_at) named
      its).0 in
      apart (omega (arith, same)) in
      ap (λ (l : L). record_of (state l) tran) (sym log_is) ∙ log_keeps u old' place tran (λ e _. other e)
      ∙ old_none u old' tran place.old_at (λ e _. other e))

  -- a transaction that isn't of any transfer of that day
  pub found_before : (tran : TranName)
      → ((t k : ℕ) → 1 ≤ t → t ≤ length olds → n ≤ k → IsGtridOfTransfer t k tran.gtrid → ⊥)
      → record_in q.records tran ≡ record_in (records_of_logs state (map (λ t. t.log) olds)) tran
  found_before tran others =
      ap (λ (r : Records). record_in r tran) resolved.by_
      ∙ same_in_all laws.none laws.more tran records_in logs (map (λ (t : Teller L). t.log) olds)
      ((as_many d).1 ∙ sym (length-map olds (λ (t : Teller L). t.log)))
      (λ k log old_log at at'.
      let (old, place, log_is) = owner d k log at in
      let was : old.log ≡ old_log =
      some_same old.log old_log (sym (got_map (λ (t : Teller L). t.log) olds k old place.old_at) ∙ at') in
      let within = slice_get_within olds k old place.old_at in
      ap (λ (l : L). record_of (state l) tran) (sym log_is)
      ∙ log_keeps k old place tran (λ e from is. others (k + 1) e (omega arith) (omega (arith, within)) from is)
      ∙ ap (λ (l : L). record_of (state l) tran) was)

  -- ---- one thread

  abbrev Out : DayLeg → Type 0
  Out = CameOut s q next m (tables m) j

  -- what thread t's teller came to
  abbrev ThreadAt : ℕ → Bool → Teller L → Type 0
  ThreadAt t found new =
      LegsSo Out (λ x. (k : ℕ) × IsOf t k x)
      (total (counts_for m j) (told_of found new.transfers.items new.outcomes.items))
      (λ legs. All (Noted q.records legs) (sent s t m))

  thread_at : (i : ℕ) (old : Teller L) (place : AtPlace d i old) → ThreadAt (i + 1) place.found place.new
  thread_at i old place =
      let t : ℕ = i + 1 in
      let at = place.old_at in
      let new : Teller L = place.new in
      let z = place.all in
      let w = place.went in
      let R : LogState → Type 0 = IsReadAs state knows loses new.log in
      let within = slice_get_within olds i old at in
      let fresh : (k : ℕ) (x : XidName) → old.habits.first ≤ k → IsOf t k x
      → state_of (tables m) x ≡ None = λ k x above of_x.
      is_missing (state_of (tables m) x) (false_from_ne_true _ (λ there.
      let below =
      dawn.fresh m x up there t k (omega arith)
      (let e = length-map olds (λ (t : Teller L). t.log) in omega (arith, within, e))
      (record { small = of_x.small; gtrid_ = of_x.gtrid }) in
      omega (arith, below, above, z.counts))) in
      let before : (k : ℕ) → 1 ≤ k
      → All (Names t (IsBelow old.habits.first)) (ledger w.opened.ledgers k).sent = λ k low.
      let y = w.opens k low in
      all_sent (Names t (IsBelow old.habits.first)) (ledger w.desk.ledgers k) (ledger w.opened.ledgers k)
      (w.nothing k low)
      (sent_as (opens_names t (IsBelow old.habits.first)) y) in
      let a : TransfersAt scene store j t (low_at i old at) old.habits z.keeps R place.found old.habits.first
      old.transfers.items new.outcomes.items (ledger w.opened.ledgers m) (ledger w.left.ledgers m) =
      each_at scene store j t (low_at i old at) old.habits z.keeps R place.found old.habits.first old.transfers.items
      new.outcomes.items w.opened w.left
      (state old.log) (state place.log) w.makes w.known w.may w.found_ fresh w.ended before
      (λ k tran _ named. found_at i old place k tran named) in
      let P : Op → Type 0 = Noted q.records a.legs in
      let all : HasSent P (ledger w.desk.ledgers m) (ledger (ledgers_of s t) m) =
      sent_on (sent_as (λ op is. noted_none q.records a.legs op (λ x. ap (names x) is)) (w.opens m up.0))
      (sent_on a.notes (sent_as (λ op never. absurd never) (w.ended m up.0))) in
      rw w.worked.transfers
      (legs_as a (λ x (k, above, below, its). (k, its))
      (λ _. rw (by_ledger (ledgers_of s t) m (λ (l : LedgerView). l.sent) up.0 refl)
      (all_sent P (ledger w.desk.ledgers m) (ledger (ledgers_of s t) m) (w.nothing m up.0) all)))

  -- ---- all of them

  -- the branch is of a transfer of a thread after i, and up to i + count
  abbrev IsOfSome : ℕ → ℕ → XidName → Type 0
  IsOfSome i count x = (u : ℕ) × (i < u) × (u ≤ i + count) × ((k : ℕ) × IsOf u k x)

  -- what the tellers of threads after i came to
  abbrev pub DayAt : ℕ → List Bool → List (Teller L) → Type 0
  DayAt i fs ns =
      LegsSo Out (IsOfSome i (length ns)) (total (counts_for m j) (all_told fs ns))
      (λ legs. (u : ℕ) → i < u → u ≤ i + length ns → All (Noted q.records legs) (sent s u m))

  day_at : (i : ℕ) (fs : List Bool) (ns : List (Teller L)) → i + length ns < 2 ^ 32 → length fs ≡ length ns
      → ((k u : ℕ) (found : Bool) (new : Teller L) → slice_get fs k ≡ Some found → slice_get ns k ≡ Some new
      → u ≡ i + k + 1 → ThreadAt u found new)
      → DayAt i fs ns
  day_at i [] (new ∷ ns) high sizes each = absurd (omega (arith, sizes))
  day_at i (found ∷ fs) [] high sizes each = absurd (omega (arith, sizes))
  day_at i [] [] high sizes each = no_legs refl (λ u above upto. absurd (omega (arith, above, upto)))
  day_at i (found ∷ fs) (new ∷ ns) high sizes each =
      let head : ThreadAt (i + 1) found new = each 0 (i + 1) found new refl refl (omega arith) in
      let tail : DayAt (i + 1) fs ns =
      day_at (i + 1) fs ns (omega (arith, high)) (omega (arith, sizes))
      (λ k u f z f_at at is. each (suc k) u f z f_at at (omega (arith, is))) in
      rw (total_append (counts_for m j) (told_of found new.transfers.items new.outcomes.items) (all_told fs ns))
      (both_legs head tail (λ x its. (i + 1, omega arith, omega arith, its))
      (λ x (u, above, upto, its). (u, omega (arith, above), omega (arith, upto), its))
      (λ x (k, its) (u, above, upto, (e, others)).
      let same = (one_transfer (i + 1) k u e x (omega (arith, high)) (omega (arith, high, upto)) its others).0 in
      omega (arith, same, above))
      (λ one more u above upto. elim (cases_eq u (i + 1)) [
        | inl same ↦ rw same (All-weaker _ _ (noted_more q.records head.legs tail.legs) _ one)
        | inr other ↦ All-weaker _ _ (noted_after q.records head.legs tail.legs) _
            (more u (omega (arith, above, other)) (omega (arith, upto)))
      ]))

  pub whole : DayAt 0 founds news
  whole =
      let size = (as_many d).0 in
      day_at 0 founds news (omega (arith, many, size)) (as_many d).2 (λ k u found new f_at at is.
      let old = got olds k (let within = slice_get_within news k new at in omega (arith, within, size)) in
      let place = at_place d k old.0 old.1 in
      let number : k + 1 ≡ u = omega (arith, is) in
      let same : place.new ≡ new = some_same place.new new (sym place.new_at ∙ at) in
      let found_same : place.found ≡ found = some_same place.found found (sym place.found_at ∙ f_at) in
      subst (λ (p : ℕ × Bool × Teller L). ThreadAt p.0 p.1 p.2) (λ i. (number i, found_same i, same i))
      (thread_at k old.0 place))

  -- each request that the store took
  pub all_noted : All (λ r. Noted q.records whole.legs r.op) (history s m)
  all_noted k r lt =
      let P : Op → Type 0 = Noted q.records whole.legs in
      let own =
      each_number (λ u. All P (sent s u m)) (length olds) (λ u outside. rw (is_day.others u outside m) (All-nil P))
      (λ i below. whole.notes (i + 1) (omega arith) (omega (arith, below, (as_many d).0))) in
      let u : ℕ = (get_or (history s m) k r).thread in
      own_all u P (history s m) 0 (sent s u m) (is_day.settled.agree u m).carried (own u) k r lt refl
