-- Transfers conserve what all accounts are worth together, but for what branches in doubt hold.
use Rattle.xa_base.proofs.{none_all, [], slice_get_past, ne_eqb, or_from, cases_lt, eqb-true, le-leb, or_parts, ℤ, pos}
use Rattle.xa_base.proofs.{◌+ℤ◌, All, nat_le, ◌≡◌, ℕ, zero, suc, ◌+◌, ◌-◌, ◌<◌, ◌≤◌, true, false, if◌then◌else◌, List}
use Rattle.xa_base.proofs.{◌∷◌, length, length-append, get_or, sym, refl, ap, ◌∙◌, arith, list_any, range_with_len}
use Rattle.xa_base.proofs.{ints, +ℤ_idl as none_plus, +ℤ_idr as plus_none, contains_at, range_all, total_alike}
use Rattle.xa_base.proofs.{total_both, total_nothing, All-contains, inl, inr, cases_eq}
use Rattle.xa_driver.specs.{Done, is_commit, Branch, Ending, is_no, IsCommit, AreBranchesRising, has_branch_at}
use Rattle.xa_driver.specs.{HasSentNone, NoCommitWasSent, sent_so_far}
use Rattle.xa_base.specs.{total}
use Rattle.xa_words.specs.{XidName, Request, Code, are_accounts}
use Rattle.xa_tables.specs.{opening, tables_after, moved, held_by, is_of, HoldsItsAdditions, History}
use Rattle.xa_desk.specs.{LedgerView, DeskView, ledger, HaveGrown}
use Rattle.xa_desk.proofs.Ledgers.{growing_on, same_lists}
use Rattle.xa_switch.specs.{Plan, IsSoundManager, IsSettled, sent, IsOpenedWith, ledgers_of, history, threads_of_plan}
use Rattle.xa_switch.specs.{managers_of_plan, accounts_in, accounts_of, plan_worth, settled_worth, WorthIsOfThreads}
use Rattle.xa_switch.specs.{Settling, moved_by_thread}
use Rattle.xa_log.specs.{LogState}
use Rattle.laws_commit.specs.{IsFinishedIn, commit_call, ends_in_doubt, EachOutcome, AreLeftAlone, has_committed}
use Rattle.laws_commit.specs.{ends_rolled_back, ends_heuristic, ends_left, ends_read_only, taken_before, added_before}
use Rattle.laws_commit.specs.{added_by_all, total_in_doubt, held_in_doubt, OnlyTransfers, opened, worked, committed}
use Rattle.laws_commit.specs.{Tabled}
use Rattle.laws_commit.specs.Outcomes.{ends_committed}
use Rattle.laws_commit.proofs.Values.{within_parts, is_within, moved_parted, moved_without, moved_alike, moved_nothing}
use Rattle.laws_commit.proofs.Sites.{OpensWithSome, all_earlier}
use Rattle.laws_commit.proofs.Settled.{sent_between, Both, all_outcomes, growth_law, by_ledger, outcome_all}
use Rattle.laws_commit.proofs.OneOutcome.{committed_law, positive_all}

-- no branch of rising ones is at a manager before them
none_before : (lo m : ℕ) (bs : List Branch) → AreBranchesRising lo bs → m ≤ lo → has_branch_at bs m ≡ false
none_before lo m [] r le = refl
none_before lo m (b ∷ bs) r le =
    search (arith, none_before b.m m bs r.1 (omega (arith, r.0, le)), or_from, ne_eqb, b.m, r.1)

-- what counts at the managers of branches alone may be summed over the branches
over_branches : (g : ℕ → ℤ) (bs : List Branch) (lo n : ℕ) → AreBranchesRising lo bs
    → ((m : ℕ) → lo < m → has_branch_at bs m ≡ false → g m ≡ pos 0)
    → ((m : ℕ) → lo + n < m → g m ≡ pos 0) → total g (range_with_len (lo + 1) n) ≡ total (λ b. g b.m) bs
over_branches g [] lo zero r none beyond = refl
over_branches g (b ∷ bs) lo zero r none beyond =
    let rest : total g (range_with_len (b.m + 1) zero) ≡ total (λ c. g c.m) bs =
    over_branches g bs b.m zero r.1 (λ m lt _. beyond m (omega (arith, r.0, lt)))
    (λ m lt. beyond m (omega (arith, r.0, lt))) in
    sym (λ i. beyond b.m (omega (arith, r.0)) i +ℤ sym rest i)
over_branches g [] lo (suc n) r none beyond =
    (λ i. none (lo + 1) (omega arith) refl i +ℤ over_branches g [] (lo + 1) n tt
    (λ m lt e. none m (omega (arith, lt)) e) (λ m lt. beyond m (omega (arith, lt))) i)
over_branches g (b ∷ bs) lo (suc n) r none beyond =
    elim (cases_eq b.m (lo + 1)) [
      | inl same ↦
          let later : AreBranchesRising (lo + 1) bs = rw same at r.1 in
          let others : (m : ℕ) → lo + 1 < m → has_branch_at bs m ≡ false → g m ≡ pos 0 =
          search (arith, or_from, ne_eqb, b.m) in
          λ i. g (sym same i) +ℤ over_branches g bs (lo + 1) n later others (λ m lt. beyond m (omega (arith, lt))) i
      | inr apart ↦
          let above : lo + 1 < b.m = omega (arith, r.0, apart) in
          let free : g (lo + 1) ≡ pos 0 =
          none (lo + 1) (omega arith) (none_before (lo + 1) (lo + 1) (b ∷ bs) (above, r.1) (omega arith)) in
          omega (
            arith,
            ints,
            free,
            over_branches g (b ∷ bs) (lo + 1) n (above, r.1)
                (λ m lt f. none m (omega (arith, lt)) f) (λ m lt. beyond m (omega (arith, lt))),
          )
    ]

-- ---- one thread

module _ (law : Tabled) (opens : OpensWithSome)
    (holds : (accounts : List (List ℕ × ℕ)) (x : XidName) (h : History) → are_accounts accounts ≡ true
    → HoldsItsAdditions accounts x h)
    (p : Plan) (s : Settling) (settled : IsSettled s)
    (opens_with : (m : ℕ) → 1 ≤ m → m ≤ length p.managers.items → IsOpenedWith s m (opening (accounts_of p m)))
    (sound : All IsSoundManager p.managers.items) (t : ℕ) where
  sound_at : (m : ℕ) → 1 ≤ m → m ≤ length p.managers.items → are_accounts (accounts_of p m) ≡ true
  sound_at m positive below = search (arith, All-contains, contains_at)

  -- what the thread's requests with numbers from a to below b moved at manager m
  abbrev moved_in : ℕ → ℕ → ℕ → ℤ
  moved_in m a b = moved (accounts_of p m) (is_within t a b) (history s m) (opening (accounts_of p m))

  -- how many requests it has sent to manager m
  abbrev count : List LedgerView → ℕ → ℕ
  count at m = length (ledger at m).sent

  -- what all requests that it has sent have moved together
  abbrev moved_until : List LedgerView → ℤ
  moved_until at = total (λ m. moved_in m 0 (count at m)) (managers_of_plan p)

  -- what agrees at each manager agrees at all
  all_alike : (f g : ℕ → ℤ) → ((m : ℕ) → 1 ≤ m → f m ≡ g m)
      → total f (managers_of_plan p) ≡ total g (managers_of_plan p)
  all_alike f g same =
      total_alike f g (managers_of_plan p)
      (range_all (λ m. f m ≡ g m) 1 (length p.managers.items) (λ m positive below. same m positive))

  -- what is sent between two moments counts between them
  moved_on : (at later : List LedgerView) → HaveGrown at later
      → moved_until later ≡ moved_until at +ℤ total (λ m. moved_in m (count at m) (count later m)) (managers_of_plan p)
  moved_on at later grown =
      all_alike (λ m. moved_in m 0 (count later m))
      (λ m. moved_in m 0 (count at m) +ℤ moved_in m (count at m) (count later m)) (λ m positive.
      moved_parted (accounts_of p m) t (count at m) (count later m) (history s m) (opening (accounts_of p m))
      (let b = (grown.each m positive).sent in let e = ap length b.1 in omega
      (arith, e, length-append (ledger at m).sent b.0)))
      ∙ total_both (λ m. moved_in m 0 (count at m)) (λ m. moved_in m (count at m) (count later m)) (managers_of_plan p)

  -- requests without a Commit move nothing
  quiet_between : (at later : List LedgerView) → HaveGrown later (ledgers_of s t) → NoCommitWasSent at later → (m : ℕ)
      → 1 ≤ m
      → moved_in m (count at m) (count later m) ≡ pos 0
  quiet_between at later grown none m positive =
      let since : HasSentNone is_commit (ledger at m) (ledger later m) = none m positive in
      moved_without (accounts_of p m) (is_within t (count at m) (count later m)) (history s m)
      (opening (accounts_of p m)) (λ k d lt here.
      let w = within_parts t (count at m) (count later m) (get_or (history s m) k d) here in
      sent_between s settled t m positive (λ op. is_commit op ≡ false) (ledger at m) (ledger later m) since.more
      since.sent (none_all is_commit since.more since.none) (grown.each m positive) k d lt w.0 w.1 w.2)

  -- where nothing was sent nothing was moved
  none_within : (m k : ℕ) → moved_in m k k ≡ pos 0
  none_within m k = search (arith, moved_without, is_within, within_parts)

  -- a manager that isn't there has no accounts
  no_accounts : (m : ℕ) → length p.managers.items < m → accounts_of p m ≡ []
  no_accounts m past = ap accounts_in (slice_get_past p.managers.items (m - 1) (omega (arith, past)))

  no_moves : (m a b : ℕ) → length p.managers.items < m → moved_in m a b ≡ pos 0
  no_moves m a b past = search (arith, is_within, no_accounts, moved_nothing)

  -- ---- a commit of several branches

  module _ (old new : List LedgerView) where
    abbrev added : Branch → ℤ
    added = added_before p s t old

    -- what a branch's ending says of what it has added
    record BranchMoves (b : Branch) (vote : Code) (e : Ending) : Type 0 where
      moves : moved_in b.m (count old b.m) (count new b.m) ≡ (if ends_committed e then added b else pos 0)
      reads : ends_read_only e ≡ true → added b ≡ pos 0
      both : Both law opens s t b (count old b.m) (count new b.m) vote e

    -- a branch holds at its Prepare what it has added
    held_is : (b : Branch) → are_accounts (accounts_of p b.m) ≡ true
        → held_by (accounts_of p b.m) b.xid
        (tables_after (taken_before t (count old b.m) (history s b.m)) (opening (accounts_of p b.m))) ≡ added b
    held_is b good = holds (accounts_of p b.m) b.xid (taken_before t (count old b.m) (history s b.m)) good

    branch_moves : (b : Branch) (vote : Code) (e : Ending) → 1 ≤ b.m
        → Both law opens s t b (count old b.m) (count new b.m) vote e → BranchMoves b vote e
    branch_moves b vote e positive both =
        elim (cases_lt (length p.managers.items) b.m) [
          | inl past ↦ search (arith, no_moves, held_is, no_accounts, b.m, b.xid)
          | inr below ↦
              let good = sound_at b.m positive below in
              let counted = both.counted (opening (accounts_of p b.m)) (opens_with b.m positive below) in
              record {
                both = both;
                moves = counted.moves (accounts_of p b.m)
                    ∙ ap (λ v. if ends_committed e then v else pos 0) (held_is b good);
                reads = λ only_read. sym (held_is b good) ∙ counted.reads only_read (accounts_of p b.m);
              }
        ]

    abbrev moved_for : List Branch → ℤ
    moved_for bs = total (λ b. moved_in b.m (count old b.m) (count new b.m)) bs

    -- no branch was committed
    none_moved : (bs : List Branch) (vs : List Code) (es : List Ending) → list_any ends_committed es ≡ false
        → EachOutcome BranchMoves bs vs es
        → moved_for bs ≡ pos 0
    none_moved [] [] [] none h = refl
    none_moved (b ∷ bs) (v ∷ vs) (e ∷ es) none h =
        let parts = or_parts (ends_committed e) (list_any ends_committed es) none in
        λ i. (h.0.moves ∙ ap (λ c. if c then added b else pos 0) parts.0) i +ℤ none_moved bs vs es parts.1 h.1 i
    none_moved bs vs es none h = absurd h

    -- a branch of a committed transaction moved what it added, unless it is in doubt
    moved_or_doubted : (e : Ending) (v : ℤ) → ends_rolled_back e ≡ false → ends_left e ≡ false
        → ends_heuristic e ≡ false
        → (ends_read_only e ≡ true → v ≡ pos 0)
        → (if ends_committed e then v else pos 0) +ℤ (if ends_in_doubt e then v else pos 0) ≡ v
    moved_or_doubted e v back left plain reads = grind (arith, none_plus, plus_none)

    all_moved : (bs : List Branch) (vs : List Code) (es : List Ending) → list_any is_no vs ≡ false
        → list_any ends_rolled_back es ≡ false
        → EachOutcome BranchMoves bs vs es → moved_for bs +ℤ total_in_doubt added bs es ≡ total added bs
    all_moved [] [] [] unopposed kept h = refl
    all_moved (b ∷ bs) (v ∷ vs) (e ∷ es) unopposed kept h =
        let votes = or_parts (is_no v) (list_any is_no vs) unopposed in
        let backs = or_parts (ends_rolled_back e) (list_any ends_rolled_back es) kept in
        let here =
        moved_or_doubted e (added b) backs.0 (h.0.both.fated.unless_no votes.0) (h.0.both.undecided votes.0)
        h.0.reads in
        omega (arith, ints, here, h.0.moves, all_moved bs vs es votes.1 backs.1 h.1)
    all_moved bs vs es unopposed kept h = absurd h

  module _ (bs : List Branch) (desk : DeskView) (new : List LedgerView) (log later : LogState) (d : Done)
      (made : IsCommit bs desk new log later d)
      (grown : HaveGrown new (ledgers_of s t))
      (alone : AreLeftAlone s t bs (sent_so_far desk.ledgers) (sent_so_far new))
      (zero_sum : added_by_all p s t desk.ledgers bs ≡ pos 0) where
    open desk use {ledgers as old}

    f : IsFinishedIn s (commit_call t bs desk new log later d.endings.items) d
    f = record { settled = settled; finished = record { made = made; told = refl }; grown = grown }

    -- what the call moved, with what is in doubt, is nothing
    call_moves : moved_for old new bs +ℤ held_in_doubt p s t old bs d ≡ pos 0
    call_moves =
        let each =
        outcome_all (λ b. 1 ≤ b.m) (λ v. Unit {0}) (λ e. Unit {0})
        (λ b v e. Both law opens s t b (count old b.m) (count new b.m) v e) (BranchMoves old new)
        (λ b v e positive _ _. branch_moves old new b v e positive) bs d.votes.items d.endings.items
        (positive_all 0 bs made.may.rising) (λ k d lt. tt) (λ k d lt. tt)
        (all_outcomes law opens s _ d f alone) in
        elim (has_committed d) as
        (λ c. has_committed d ≡ c
        → moved_for old new bs +ℤ
        (if c then total_in_doubt (added_before p s t old) bs d.endings.items else pos 0) ≡ pos 0) [
          | true ↦ λ some.
              let whole = committed_law _ d made.may.tran f.finished made.may.one some in
              all_moved old new bs d.votes.items d.endings.items whole.unopposed whole.kept each ∙ zero_sum
          | false ↦ λ none. plus_none _ ∙ none_moved old new bs d.votes.items d.endings.items none each
        ] refl

    -- its requests are to the managers of its branches
    at_managers : total (λ m. moved_in m (count old m) (count new m)) (managers_of_plan p) ≡ moved_for old new bs
    at_managers =
        over_branches (λ m. moved_in m (count old m) (count new m)) bs 0 (length p.managers.items) made.may.rising
        (λ m positive none. ap (λ (l : LedgerView). moved_in m (count old m) (length l.sent))
        (made.trace.course.others m (omega (arith, positive)) none) ∙ none_within m (count old m))
        (λ m past. no_moves m (count old m) (count new m) (omega (arith, past)))

  pub thread_law : (at : List LedgerView) (doubt : ℤ) → OnlyTransfers p s t at doubt → HaveGrown at (ledgers_of s t)
      → moved_until at +ℤ doubt ≡ pos 0
  thread_law _ _ (opened at nothing) grown =
      plus_none _
      ∙ all_alike (λ m. moved_in m 0 (count at m)) (λ m. pos 0)
      (λ m positive. ap (λ l. moved_in m 0 (length l)) (nothing m positive) ∙ none_within m 0)
      ∙ total_nothing (managers_of_plan p)
  thread_law _ _ (worked at later doubt before growth none) grown =
      let quiet : total (λ m. moved_in m (count at m) (count later m)) (managers_of_plan p) ≡ pos 0 =
      all_alike (λ m. moved_in m (count at m) (count later m)) (λ m. pos 0) (quiet_between at later grown none)
      ∙ total_nothing (managers_of_plan p) in
      omega (
        arith,
        ints,
        moved_on at later growth,
        quiet,
        thread_law at doubt before
            (growing_on at later (ledgers_of s t) growth grown),
      )
  thread_law _ _ (committed bs desk new log later d doubt before made alone zero_sum) grown =
      let growth : HaveGrown desk.ledgers new = growth_law made.may.tran bs desk.ledgers new log later d made.trace in
      let before_it =
      thread_law desk.ledgers doubt before (growing_on desk.ledgers new (ledgers_of s t) growth grown) in
      omega (
        arith,
        ints,
        moved_on desk.ledgers new growth,
        at_managers bs desk new log later d made grown alone zero_sum,
        call_moves bs desk new log later d made grown alone zero_sum,
        before_it,
      )

  -- in the end its requests are all those of the thread
  whole_thread : moved_by_thread p s t ≡ moved_until (ledgers_of s t)
  whole_thread =
      all_alike (λ m. moved (accounts_of p m) (is_of t) (history s m) (opening (accounts_of p m)))
      (λ m. moved_in m 0 (count (ledgers_of s t) m)) (λ m positive.
      moved_alike (accounts_of p m) (is_of t) (is_within t 0 (count (ledgers_of s t) m)) (history s m)
      (opening (accounts_of p m)) (λ k d lt.
      let r : Request = get_or (history s m) k d in
      let lower = all_earlier t (history s m) 0 (sent s t m) (settled.agree t m).carried k d lt in
      let many : length (sent s t m) ≡ count (ledgers_of s t) m =
      ap length (by_ledger (ledgers_of s t) m (λ (z : LedgerView). z.sent) positive refl) in
      grind (arith, lower, many, eqb-true, le-leb, nat_le)))

  pub conserved_by : (doubt : ℤ) → OnlyTransfers p s t (ledgers_of s t) doubt → moved_by_thread p s t +ℤ doubt ≡ pos 0
  conserved_by doubt only =
      ap (λ v. v +ℤ doubt) whole_thread
      ∙ thread_law (ledgers_of s t) doubt only (same_lists (ledgers_of s t) (ledgers_of s t) refl)

-- ---- all threads

pub conserved_law : (p : Plan) (s : Settling) (doubt : ℕ → ℤ) → WorthIsOfThreads p s
    → ((t : ℕ) → 1 ≤ t → t ≤ p.threads → moved_by_thread p s t +ℤ doubt t ≡ pos 0)
    → settled_worth p s +ℤ total doubt (threads_of_plan p) ≡ plan_worth p
conserved_law p s doubt worth each =
    let none : total (moved_by_thread p s) (threads_of_plan p) +ℤ total doubt (threads_of_plan p) ≡ pos 0 =
    sym (total_both (moved_by_thread p s) doubt (threads_of_plan p))
    ∙ total_alike (λ t. moved_by_thread p s t +ℤ doubt t) (λ t. pos 0) (threads_of_plan p)
    (range_all (λ t. moved_by_thread p s t +ℤ doubt t ≡ pos 0) 1 p.threads
    (λ t positive below. each t positive (omega (arith, below))))
    ∙ total_nothing (threads_of_plan p) in
    omega (arith, ints, worth, none)

-- where no branch is in doubt nothing is missing
no_doubt : (f : Branch → ℤ) (bs : List Branch) (es : List Ending) → list_any ends_in_doubt es ≡ false
    → total_in_doubt f bs es ≡ pos 0
no_doubt f (b ∷ bs) (e ∷ es) none =
    let parts = or_parts (ends_in_doubt e) (list_any ends_in_doubt es) none in
    λ i. (if parts.0 i then f b else pos 0) +ℤ no_doubt f bs es parts.1 i
no_doubt f bs es none = refl

pub decided_law : (p : Plan) (s : Settling) (t : ℕ) (old : List LedgerView) (bs : List Branch) (d : Done)
    → list_any ends_in_doubt d.endings.items ≡ false
    → held_in_doubt p s t old bs d ≡ pos 0
decided_law p s t old bs d none = search (arith, no_doubt, d.endings.items)
