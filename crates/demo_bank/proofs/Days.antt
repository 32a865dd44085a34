-- The members of a run, and a day whose transfers end whole, which conserves what all accounts are worth together.
use Rattle.xa_base.proofs.{refl, along, each_number, inl, inr, ◌≤◌, ◌≡◌, ◌≢◌, ℕ, ◌+◌, ◌-◌, ◌<◌, ◌⊎◌, List, [], length}
use Rattle.xa_base.proofs.{map, slice_get, sym, ap, ◌∙◌, subst, arith, Option, Some, None, length-map, slice_get_within}
use Rattle.xa_base.proofs.{got_map, got, all_at, was_mapped, find_numbered, find_none, ℤ, pos, ◌+ℤ◌, All, ◌^◌, Bool}
use Rattle.xa_base.proofs.{false, list_any, ints, all_right, total_nothing}
use Rattle.xa_base.specs.{Chain, total}
use Rattle.xa_base.specs.Lists.Chain.{none, more}
use Rattle.xa_words.specs.{Op, TranName, XidName}
use Rattle.xa_desk.specs.{DeskView, sent_to, DeskSeat, GoesOn, LedgerView}
use Rattle.xa_desk.proofs.Books.{fresh_sent}
use Rattle.xa_desk.proofs.Ledgers.{nobody_sent}
use Rattle.xa_switch.specs.{thread_part, ledgers_of, IsNewDesk, Setup, ThreadPart, find_thread, ledgers_in, sent}
use Rattle.xa_switch.specs.{Settling, Plan, IsOpenedWith, IsOfPlan, IsSound, IsSoundManager, planned, IsSettled}
use Rattle.xa_switch.specs.{accounts_of, plan_worth, settled_worth, threads_of_plan}
use Rattle.xa_driver.proofs.AtDeath.{as_many_managers}
use Rattle.laws_commit.specs.{NothingWasSent, OnlyTransfers, held_in_doubt, ends_in_doubt}
use Rattle.xa_crew.specs.{Attended, DeskWithCodes, EndsNumber, Member, HasRun, IsRun}
use Rattle.xa_crew.specs.Ending.EndsNumber.{kept as kept_there, free}
use Rattle.xa_work.specs.{HaveSent}
use Rattle.xa_work.proofs.Sent.{have_none, have_on, one_collected}
use Rattle.laws_tables.specs.{AddsAsItWorks}
use Rattle.xa_tables.specs.{Tables, opening, IsOpening, History}
use Rattle.xa_driver.specs.{Branch, Done}
use Rattle.xa_log.specs.{IsReadAs, LogState}
use Rattle.demo_bank.specs.{Teller, EndsWhole, HasMade, IsUndoubted, TellerWorks}
use Rattle.demo_bank.proofs.Only.{all_told, only_transfers}
use Rattle.demo_bank.proofs.Named.{IsTold}

-- The members of a run: each worked from a desk that had sent nothing, the end of its desk sent nothing more, and no
-- other thread sent anything.

-- ---- the end of a desk sends nothing

abbrev pub Never : Op → Type 0
Never op = ⊥

number_sent : (k : ℕ) (old new : DeskWithCodes) → EndsNumber k old new → HaveSent Never old.0.ledgers new.0.ledgers
number_sent k old new (kept_there c takes told) =
    search (arith, one_collected, takes.collects, takes.collects.looks.rest, old.0.ledgers, takes.operation)
number_sent k old new (free empty e) = have_none old.0.ledgers new.0.ledgers (ap (λ (q : DeskWithCodes). q.0.ledgers) e)

numbers_sent : (old : DeskWithCodes) (ks : List ℕ) (new : DeskWithCodes) → Chain EndsNumber old ks new
    → HaveSent Never old.0.ledgers new.0.ledgers
numbers_sent old ks new runs =
    along (λ (q : DeskWithCodes). HaveSent Never old.0.ledgers q.0.ledgers) old ks new runs
    (λ k now next is sent. have_on old.0.ledgers now.0.ledgers next.0.ledgers sent (number_sent k now next is))
    (have_none old.0.ledgers old.0.ledgers refl)

-- ---- a desk that was opened

nothing_sent : (p : Setup) (k : ℕ) (d : DeskView) → IsNewDesk p k d → NothingWasSent d.ledgers
nothing_sent p k d is = search (arith, fresh_sent, p.numbers.requests, p.use_async)

pub goes_thread : (old new : DeskView) → GoesOn old new → new.thread ≡ old.thread
goes_thread old new goes = ap (λ (q : DeskSeat). q.thread) goes.seat

-- ---- all threads

-- ---- the members

-- thread k + 1 of a run, with the client at place k
pub record MemberAt {C : Type 0} (works : C → DeskView → C → DeskView → Type 0) (p : Setup) (clients : List C)
    (attended : List (Attended C))
    (s : Settling) (k : ℕ) : Type 0 where
  pub member : Member C
  pub left : DeskView
  pub client_at : slice_get clients k ≡ Some member.client
  pub attended_at : slice_get attended k ≡ Some member.attended
  pub thread : member.desk.thread ≡ k + 1
  pub fresh : IsNewDesk p k member.desk
  pub nothing : NothingWasSent member.desk.ledgers
  pub worked : works member.client member.desk member.attended.client left
  pub end : HaveSent Never left.ledgers (ledgers_of s (k + 1))
  pub many : length (ledgers_of s (k + 1)) ≡ p.managers

module _ {C : Type 0} (works : C → DeskView → C → DeskView → Type 0) (p : Setup) (clients : List C)
    (attended : List (Attended C)) (s : Settling)
    (r : IsRun works p clients attended s) where
  many_members : length r.members ≡ p.numbers.threads
  many_members = sym (length-map r.members (λ (t : Member C). t.desk)) ∙ r.opened.threads

  new_desk_at : (k : ℕ) (mb : Member C) → slice_get r.members k ≡ Some mb → IsNewDesk p k mb.desk
  new_desk_at k mb at = r.opened.desks k mb.desk (got_map (λ (t : Member C). t.desk) r.members k mb at)

  ran_at : (k : ℕ) (mb : Member C) → slice_get r.members k ≡ Some mb → HasRun works mb
  ran_at k mb at = all_at (HasRun works) r.members k mb r.ran at

  ended_thread : (k : ℕ) (mb : Member C) → slice_get r.members k ≡ Some mb → mb.ended.thread ≡ k + 1
  ended_thread k mb at =
      let run = ran_at k mb at in
      run.ends.ends.thread ∙ goes_thread run.left run.ends.emptied run.ends.goes_on
      ∙ goes_thread mb.desk run.left run.goes_on
      ∙ ap (λ (d : DeskView). d.thread) (new_desk_at k mb at).made

  abbrev parts : List ThreadPart
  parts = map thread_part (map (λ (t : Member C). t.ended) r.members)

  threads_are : s.threads ≡ parts
  threads_are = ap (λ (q : Settling). q.threads) r.settles

  numbered_ : (k : ℕ) (q : ThreadPart) → slice_get parts k ≡ Some q → q.thread ≡ 0 + k + 1
  numbered_ k q at = grind (arith, was_mapped, ended_thread)

  ledgers_are : (k : ℕ) (mb : Member C) → slice_get r.members k ≡ Some mb → ledgers_of s (0 + k + 1) ≡ mb.ended.ledgers
  ledgers_are k mb at =
      ap (λ (l : List ThreadPart). ledgers_in (find_thread (0 + k + 1) l)) threads_are
      ∙ ap ledgers_in (find_numbered (λ (q : ThreadPart). q.thread) 0 parts numbered_ k (thread_part mb.ended)
      (got_map thread_part (map (λ (t : Member C). t.ended) r.members) k mb.ended
      (got_map (λ (t : Member C). t.ended) r.members k mb at)))

  pub member_at : (k : ℕ) → k < p.numbers.threads → MemberAt works p clients attended s k
  member_at k below =
      let (mb, at) = got r.members k (omega (arith, below, many_members)) in
      let run = ran_at k mb at in
      let fresh = new_desk_at k mb at in
      let number : 0 + k + 1 ≡ k + 1 = omega arith in
      let last : ledgers_of s (k + 1) ≡ run.ends.emptied.ledgers =
      ap (ledgers_of s) (sym number) ∙ ledgers_are k mb at ∙ run.ends.ends.ledgers in
      record {
        member = mb;
        left = run.left;
        client_at = ap (λ (l : List C). slice_get l k) r.clients_are
            ∙ got_map (λ (t : Member C). t.client) r.members k mb at;
        attended_at = ap (λ (l : List (Attended C)). slice_get l k) r.attended_are
            ∙ got_map (λ (t : Member C). t.attended) r.members k mb at;
        thread = ap (λ (d : DeskView). d.thread) fresh.made;
        fresh = fresh;
        nothing = nothing_sent p k mb.desk fresh;
        worked = run.worked;
        end = subst (HaveSent Never run.left.ledgers) (sym last)
            (numbers_sent (run.left, []) _ (run.ends.emptied, mb.attended.outstanding.items) run.ends.collects);
        many = search (arith, as_many_managers, length-map, run.left, run.ends.emptied, mb.desk);
      }

  nobody : (t : ℕ) → ((k : ℕ) (q : ThreadPart) → slice_get parts k ≡ Some q → q.thread ≢ t) → (m : ℕ) → sent s t m ≡ []
  nobody t never m =
      let none : find_thread t s.threads ≡ None =
      ap (find_thread t) threads_are ∙ find_none (λ (q : ThreadPart). q.thread) t parts never in
      ap (λ (o : Option ThreadPart). sent_to (ledgers_in o) m) none ∙ nobody_sent m

  pub nobody_else : (t : ℕ) → (t < 1) ⊎ (p.numbers.threads < t) → (m : ℕ) → sent s t m ≡ []
  nobody_else t outside = grind (arith, nobody, numbered_, slice_get_within, many_members, length-map)

-- ---- a teller of the day

module _ {L : Type 0} (state : L → LogState) (knows : L → Type 0) (loses : TranName → List Bool → L → L → Type 0)
    (p : Plan) (tellers : List (Teller L))
    (attended : List (Attended (Teller L))) (s : Settling)
    (r : IsRun (TellerWorks state knows loses) (planned p) tellers attended s) (sound : IsSound p)
    (whole : All EndsWhole attended) where
  abbrev TellerAt : ℕ → Type 0
  TellerAt k = MemberAt (TellerWorks state knows loses) (planned p) tellers attended s k

  few : p.threads < 2 ^ 32
  few = let most = sound.limits.threads.1 in omega (arith, most)

  whole_at : (k : ℕ) (z : TellerAt k) → EndsWhole z.member.attended
  whole_at k z = all_at EndsWhole attended k z.member.attended whole z.attended_at

  -- what its log may be read as
  abbrev reads : (k : ℕ) → TellerAt k → LogState → Type 0
  reads k z = IsReadAs state knows loses z.member.attended.client.log

  -- what a teller of the day made
  made_by : (k : ℕ) (z : TellerAt k)
      → HasMade z.member.client.transfers.items z.member.client.habits z.member.client.outcomes.items z.member.desk
      (state z.member.client.log) (knows z.member.client.log) z.member.attended.client.outcomes.items z.left
      (state z.member.attended.client.log) (knows z.member.attended.client.log) (reads k z)
  made_by k z = z.worked.made (whole_at k z).memory

  fine_of : (k : ℕ) (z : TellerAt k) → All IsUndoubted (made_by k z).more
  fine_of k z =
      all_right IsUndoubted z.member.client.outcomes.items (made_by k z).more
      (subst (All IsUndoubted) (made_by k z).told (whole_at k z).undoubted)

  told_at : (k : ℕ) → k < p.threads → IsTold s (k + 1)
  told_at k below =
      let z = member_at (TellerWorks state knows loses) (planned p) tellers attended s r k below in
      let made = made_by k z in
      inl (
        omega (arith, below, few),
        all_told (reads k z) s (k + 1) z.member.client.transfers.items z.member.client.habits made.more z.member.desk
            z.left (state z.member.client.log) (state z.member.attended.client.log) z.thread z.nothing made.makes z.end,
      )

  told : (u : ℕ) → IsTold s u
  told =
      each_number (IsTold s) p.threads
      (λ u outside. inr (nobody_else (TellerWorks state knows loses) (planned p) tellers attended s r u outside))
      told_at

  only_at : (adds : (t n : ℕ) (x : XidName) (k : List ℕ) (d : ℤ) (h : History) (T : Tables) → IsOpening T
      → AddsAsItWorks t n x k d T h)
      (undoubted : (p : Plan) (s : Settling) (t : ℕ) (old : List LedgerView) (bs : List Branch) (d : Done)
      → list_any ends_in_doubt d.endings.items ≡ false → held_in_doubt p s t old bs d ≡ pos 0)
      (opens : (p : Plan) (s : Settling) (m : ℕ) → IsSettled s → IsOfPlan p s → 1 ≤ m → m ≤ length p.managers.items
      → IsOpenedWith s m (opening (accounts_of p m)))
      (k : ℕ) → k < p.threads → OnlyTransfers p s (k + 1) (ledgers_of s (k + 1)) (pos 0)
  only_at adds undoubted opens k below =
      let z = member_at (TellerWorks state knows loses) (planned p) tellers attended s r k below in
      let made = made_by k z in
      only_transfers adds undoubted p s r.agrees (λ m up to. opens p s m r.agrees r.of_setup up to) told (k + 1)
      (omega (arith, below, few)) z.many
      (reads k z) z.member.client.transfers.items z.member.client.habits made.more z.member.desk z.left
      (state z.member.client.log) (state z.member.attended.client.log) z.thread z.nothing made.makes (fine_of k z)
      z.end

  pub day_law : (conserves : (p : Plan) (s : Settling) (doubt : ℕ → ℤ) → IsSettled s → IsOfPlan p s
      → All IsSoundManager p.managers.items
      → ((t : ℕ) → 1 ≤ t → t ≤ p.threads → OnlyTransfers p s t (ledgers_of s t) (doubt t))
      → settled_worth p s +ℤ total doubt (threads_of_plan p) ≡ plan_worth p)
      (undoubted : (p : Plan) (s : Settling) (t : ℕ) (old : List LedgerView) (bs : List Branch) (d : Done)
      → list_any ends_in_doubt d.endings.items ≡ false → held_in_doubt p s t old bs d ≡ pos 0)
      (adds : (t n : ℕ) (x : XidName) (k : List ℕ) (d : ℤ) (h : History) (T : Tables) → IsOpening T
      → AddsAsItWorks t n x k d T h)
      (opens : (p : Plan) (s : Settling) (m : ℕ) → IsSettled s → IsOfPlan p s → 1 ≤ m → m ≤ length p.managers.items
      → IsOpenedWith s m (opening (accounts_of p m)))
      → settled_worth p s ≡ plan_worth p
  day_law conserves undoubted adds opens =
      let all : settled_worth p s +ℤ total (λ (t : ℕ). pos 0) (threads_of_plan p) ≡ plan_worth p =
      conserves p s (λ t. pos 0) r.agrees r.of_setup sound.accounts (λ t positive below.
      let number : t - 1 + 1 ≡ t = omega (arith, positive) in
      subst (λ u. OnlyTransfers p s u (ledgers_of s u) (pos 0)) number
      (only_at adds undoubted opens (t - 1) (omega (arith, positive, below)))) in
      drop_nothing (settled_worth p s) (total (λ (t : ℕ). pos 0) (threads_of_plan p)) (plan_worth p) all
      (total_nothing (threads_of_plan p))
    where
      drop_nothing : (a b c : ℤ) → a +ℤ b ≡ c → b ≡ pos 0 → a ≡ c
      drop_nothing a b c e f = omega (arith, ints, e, f)
