-- What a thread's lines add to its entries of a manager's journal, the place of each among them, and what the journals
-- add up to.
use Rattle.xa_base.proofs.{mapped_some, list_any, list_any_none, ◌≡◌, ℕ, ⊎_elim, zero, suc, ◌<◌, ◌≤◌, Bool, false, ◌==◌}
use Rattle.xa_base.proofs.{List, [], ◌∷◌, ◌++◌, Option, Some, None, sym, refl, ap, ◌∙◌, subst, arith, append_assoc}
use Rattle.xa_base.proofs.{append-nil, if◌then◌else◌, All, map, Contains, cases_lt, eqb-true, All-append, All-cons}
use Rattle.xa_base.proofs.{All-contains, All-nil, by_if, ◌⊎◌, inl, inr, length, length-append, snoc_parts, get_or, pos}
use Rattle.xa_base.proofs.{◌+ℤ◌, all_unmapped, All-map, All-permutation, along}
use Rattle.xa_words.specs.declared.flags.Call.TheVariants as call
use Rattle.script_grammar.specs.declared.step.Action.TheVariants as action
use Rattle.std.specs.FinMap as finmap
use Rattle.xa_base.specs.{MOST_MANAGERS, Chain}
use Rattle.xa_words.specs.{check_flags, TranName, XidName, Op, OpenRm, Prepare, Forget, Listed, Code}
use Rattle.xa_worker.specs.{Entry}
use Rattle.xa_scan.specs.{ScanView, left_at}
use Rattle.xa_switch.specs.{journal, Settling, IsSettled, IsOpenedWith, first_of}
use Rattle.xa_driver.specs.{Branch, CommitOutcome, Outcome, second_op, third_op, ResolvesAt, comes_to_commit}
use Rattle.xa_driver.specs.{outcome_op, has_branch_at}
use Rattle.xa_log.specs.{Records}
use Rattle.xa_calls.proofs.Morphisms.{Keeps, by_mapped, keeps}
use Rattle.xa_driver.proofs.Mapped.{Any, IsAskedFor, VotesAre, any_asked, any_votes, puts_some, comes_mapped}
use Rattle.xa_driver.proofs.Mapped.{comes_others, resolves_mapped}
use Rattle.script_grammar.specs.{CommitAll, ScriptCalled, ScriptAction, ScriptStep, Declared, IsScript, managers_of}
use Rattle.script_grammar.specs.{Content}
use Rattle.script_transcript.specs.{Answer, TranscriptLine, opened, opened_after, histories_at, name_of}
use Rattle.script_session.specs.{branches_of, named}
use Rattle.laws_transcript.specs.{entries_of, Wanted, wanted_in, Part, next_entry, PartAsked, Lists, CallTakes}
use Rattle.laws_transcript.specs.{CarriesOut, CarriesOutSome, TakesCommit, EndsLeft, TaskTakes, Line, TakesPart}
use Rattle.laws_transcript.specs.{AreCarriedOut, Beginning, ToldOpening, Former, TellsOf, Leaves, Tells, beginning}
use Rattle.laws_transcript.specs.{settled_over}
use Rattle.laws_transcript.specs.Wants.Wanted.{code_of, handle_for}
use Rattle.laws_transcript.specs.Parts.PartAsked.{answered as asked_answered, refused as asked_refused}
use Rattle.laws_transcript.specs.Parts.CallTakes.{answered, kept, refused, completes, lists}
use Rattle.laws_transcript.specs.Commits.CarriesOut.{carried, withheld}
use Rattle.laws_transcript.specs.Commits.CommitTakes.{refused as takes_none, commits}
use Rattle.laws_transcript.specs.Resolves.ResolveTakes.{refused as ends_none, resolved}
use Rattle.laws_transcript.proofs.Branches.{at_each}
use Rattle.xa_base.specs.Lists.Chain.{none as no_step, more as one_step}
use Rattle.laws_shown.specs.{LinePlace, IsSumOfShares}
use Rattle.xa_tables.specs.{Tables, History, Absent, added_over}
use Rattle.script_transcript.proofs.Worth.{first_is}
use Rattle.laws_transcript.proofs.Told.{begins_after}

-- ---- what a thread's lines add to its entries of a manager's journal, where all that they ask the manager is so

-- the op that a call asks for, if it does
abbrev pub op_in : Wanted → Option Op
op_in (code_of o) = Some o
op_in (handle_for o) = Some o
op_in other = None

module _ (P : Op → Type 0) where
  -- entries are added, and the op of each is so
  abbrev pub Adds : List Entry → List Entry → Type 0
  Adds old new = (more : List Entry) × (new ≡ old ++ more) × All (λ (e : Entry). P e.0.op) more

  pub adds_none : (old new : List Entry) → new ≡ old → Adds old new
  adds_none old new e = ([], e ∙ sym (append-nil old), All-nil (λ (e : Entry). P e.0.op))

  pub adds_both : (old mid new : List Entry) → Adds old mid → Adds mid new → Adds old new
  adds_both old mid new a b = (
    a.0 ++ b.0,
    b.1 ∙ ap (λ es. es ++ b.0) a.1
        ∙ append_assoc old a.0 b.0,
    All-append (λ (e : Entry). P e.0.op) a.0 b.0 a.2 b.2,
  )

  -- what is added at the branches, where nothing is without one
  adds_at : (bs : List Branch) (old new : Part) → new.entries 0 ≡ old.entries 0
      → ((m : ℕ) → 1 ≤ m → has_branch_at bs m ≡ false → new.entries m ≡ old.entries m)
      → (m : ℕ) → All (λ b. b.m ≡ m → Adds (old.entries b.m) (new.entries b.m)) bs
      → Adds (old.entries m) (new.entries m)
  adds_at bs old new nowhere others m all =
      at_each (λ k. Adds (old.entries k) (new.entries k)) m bs all
      (λ none. adds_none (old.entries m) (new.entries m) (elsewhere m none))
    where
      elsewhere : (m : ℕ) → has_branch_at bs m ≡ false → new.entries m ≡ old.entries m
      elsewhere zero none = nowhere
      elsewhere (suc m) none = others (suc m) (omega arith) none

  adds_one : (t : ℕ) (old new : List Entry) (op : Op) (c : Code) → P op → new ≡ old ++ next_entry t old op c ∷ []
      → Adds old new
  adds_one t old new op c so is = search (arith, All-cons, All-nil)

  -- what is asked, one request after another
  pub carries_adds : (t : ℕ) (old new : List Entry) (op : Op) (c : Code) → P op → CarriesOut t old op new c
      → Adds old new
  carries_adds t old new op c so (carried is) = adds_one t old new op c so is
  carries_adds t old new op c so (withheld fails shut same) = adds_none old new same

  -- ---- a commit

  -- what a commit asks at a branch of manager m is so, where W holds of its vote
  pub record AsksAt (W : Code → Type 0) (m : ℕ) (commit : Bool) (b : Branch) : Type 0 where
    pub prepares : b.m ≡ m → P (Prepare b.xid)
    pub obeys : b.m ≡ m → (v : Code) → W v → IsAskedFor P (second_op commit b.xid v)
    pub forgets : b.m ≡ m → (s : Option Code) → IsAskedFor P (third_op b.xid s)

  -- over the thread's entries of any manager
  module _ (m t : ℕ) (old : Part) where
    abbrev SoAt : ℕ → Op → Type 0
    SoAt k op = k ≡ m → P op

    abbrev AddsAt : ℕ → List Entry → Type 0
    AddsAt k es = k ≡ m → Adds (old.entries k) es

    adds_over : (k : ℕ) → Keeps (SoAt k) (CarriesOut t) (AddsAt k)
    adds_over k =
        keeps (CarriesOut t) (SoAt k) (AddsAt k)
        (λ d e op c so is so_far here. adds_both (old.entries k) d e (so_far here)
        (carries_adds t d e op c (so here) is))

    -- a branch starts with nothing added
    starts : (b : Branch) → SoAt b.m (Prepare b.xid)
        → SoAt b.m (Prepare b.xid) × AddsAt b.m (old.entries b.m) × Unit {0}
    starts b so = (so, (λ here. adds_none (old.entries b.m) (old.entries b.m) refl), tt)

    -- what is wanted of it after that is so
    so_at : (k : ℕ) (op : Option Op) → (k ≡ m → IsAskedFor P op) → IsAskedFor (SoAt k) op
    so_at k None so = tt
    so_at k (Some op) so = so

  -- whatever it came to
  pub commit_adds : (W : Code → Type 0) (m t : ℕ) (c : CommitAll TranName) (o : CommitOutcome) (old new : Part)
      → All (AsksAt W m (comes_to_commit o)) (branches_of c) → VotesAre W o → TakesCommit t c o old new
      → Adds (old.entries m) (new.entries m)
  commit_adds W m t c o old new so votes_so is =
      adds_at (branches_of c) old new is.nowhere
      (comes_others (CarriesOut t) (CarriesOutSome t) c.death (named c) (branches_of c) old.entries new.entries old.log
      new.log o is.course) m
      (comes_mapped (adds_over m t old) old.entries new.entries (AsksAt W m (comes_to_commit o))
      (λ b asks. starts m t old b asks.prepares) (λ k. puts_some (adds_over m t old k))
      W (named c) (branches_of c) old.log new.log so c.death o
      (λ b asks v w. so_at m t old b.m _ (λ here. asks.obeys here v w))
      (λ b asks s. so_at m t old b.m _ (λ here. asks.forgets here s)) votes_so is.course).1

  -- ---- a resolve

  -- what a resolve asks of a branch is so
  abbrev pub EndsSo : XidName → Type 0
  EndsSo x = ((commit : Bool) → P (outcome_op commit x)) × P (Forget x)

  outcome_so : (xs : List XidName) (os : List Outcome) → map (λ o. o.xid) os ≡ xs → All EndsSo xs → (o : Outcome)
      → Contains os o → EndsSo o.xid
  outcome_so xs os same all o there =
      All-contains (λ (w : Outcome). EndsSo w.xid) os o (all_unmapped (λ (w : Outcome). w.xid) EndsSo os (rw same all))
      there

  at_adds : (t : ℕ) (records : Records) (m : ℕ) (xs : List XidName) (os : List Outcome) (old new : List Entry)
      → P OpenRm → All EndsSo xs
      → ResolvesAt (CarriesOut t) records m xs os old new → Adds old new
  at_adds t records m [] os old new opens so is = adds_none old new is.1
  at_adds t records m (x ∷ xs) os old new opens so is =
      (resolves_mapped
      (keeps (CarriesOut t) P (Adds old)
      (λ d e op c so is so_far. adds_both old d e so_far (carries_adds t d e op c so is))) records m (x ∷ xs) os
      old new opens
      (λ o there. let each = outcome_so (x ∷ xs) os is.xids_are so o there in
      record { ends = λ _ _. each.0 o.commit; forgets = λ _ _. each.1 }) is).on (adds_none old old refl)

  ends_adds : (m t : ℕ) (outcomes : List Outcome) (old new : Part) → P OpenRm → All EndsSo (left_at old.scan m)
      → EndsLeft t outcomes old new
      → Adds (old.entries m) (new.entries m)
  ends_adds zero t outcomes old new opens so is = adds_none (old.entries 0) (new.entries 0) is.nowhere
  ends_adds (suc m) t outcomes old new opens so is =
      ⊎_elim
      (λ (past : MOST_MANAGERS < suc m). adds_none (old.entries (suc m)) (new.entries (suc m))
      (is.course.others (suc m) past))
      (λ (high : suc m ≤ MOST_MANAGERS).
      at_adds t old.log.records (suc m) (left_at old.scan (suc m)) (is.course.at (suc m)) (old.entries (suc m))
      (new.entries (suc m)) opens so (is.course.each (suc m) (omega arith, high)))
      (cases_lt MOST_MANAGERS (suc m))

  -- a call
  module _ (listed : (x : Option XidName) → P (Listed x)) (m : ℕ) where
    either_adds : (t n : ℕ) (op : Op) (c : Code) (old : List Entry) → (n ≡ m → P op)
        → Adds old (if m == n then old ++ next_entry t old op c ∷ [] else old)
    either_adds t n op c old so =
        by_if (Adds old) (m == n) (old ++ next_entry t old op c ∷ []) old
        (λ e. adds_one t old (old ++ next_entry t old op c ∷ []) op c (so (sym (eqb-true m n e))) refl)
        (λ _. adds_none old old refl)

    asked_adds : (t n : ℕ) (old : Part) (o : Op) (new : Part) (c : Code) → P o → PartAsked t n old o new c
        → Adds (old.entries m) (new.entries m)
    asked_adds t n old o new c so (asked_answered is) = rw is (either_adds t n o c (old.entries m) (λ _. so))
    asked_adds t n old o new c so (asked_refused why same) =
        adds_none (old.entries m) (new.entries m) (ap (λ (x : Part). x.entries m) same)

    listing_adds : (t : ℕ) (q : ScriptCalled) (n : ℕ) (a : Answer) (old new : Part) → Lists t q n a old new
        → Adds (old.entries m) (new.entries m)
    listing_adds t q n a old new is =
        let adds =
        by_mapped
        (keeps (PartAsked t q.manager) P (λ (x : Part). Adds (old.entries m) (x.entries m))
        (λ d e o c so asked so_far. adds_both (old.entries m) (d.entries m) (e.entries m) so_far
        (asked_adds t q.manager d o e c so asked)))
        listed old old.scan is.before is.asked new.scan is.after is.there (check_flags call.Recover q.flags) q.manager
        is.result is.recovers in
        rw is.stands (adds.on (adds_none (old.entries m) (old.entries m) refl))

    -- what a call asks its manager for is so
    abbrev pub AsksSo : ScriptCalled → Type 0
    AsksSo q = q.manager ≡ m → (o : Op) → op_in (wanted_in q) ≡ Some o → P o

    call_adds : (settled : Settling) (t : ℕ) (q : ScriptCalled) (a : Answer) (old new : Part) → AsksSo q
        → CallTakes settled t q a old new
        → Adds (old.entries m) (new.entries m)
    call_adds settled t q a old new so (answered o c asks told is) =
        rw is (either_adds t q.manager o c (old.entries m) (λ here. so here o (ap op_in asks)))
    call_adds settled t q a old new so (kept o c k asks low told free is) =
        rw is (either_adds t q.manager o c (old.entries m) (λ here. so here o (ap op_in asks)))
    call_adds settled t q a old new so (refused c is told same) =
        adds_none (old.entries m) (new.entries m) (ap (λ (x : Part). x.entries m) same)
    call_adds settled t q a old new so (lists n asks is) = listing_adds t q n a old new is
    call_adds settled t q a old new so (completes r k c asks there code told same) =
        search (arith, adds_none, old.entries, new.entries)

    -- ---- a line

    -- what is done asks manager m only what is so, where its thread's scans are z
    abbrev pub TaskSo : ScanView → ScriptAction → Type 0
    TaskSo z (action.Call q) = AsksSo q
    TaskSo z (action.CommitAll c) = (commit : Bool) → All (AsksAt (λ v. Unit {0}) m commit) (branches_of c)
    TaskSo z action.Resolve = P OpenRm × All EndsSo (left_at z m)

    pub takes_add : (settled : Settling) (x : ScriptAction) (t : ℕ) (a : Answer) (old new : Part) → TaskSo old.scan x
        → TaskTakes settled x t a old new
        → Adds (old.entries m) (new.entries m)
    takes_add settled (action.Call q) t a old new so is = call_adds settled t q a old new so is
    takes_add settled (action.CommitAll c) t a old new so (takes_none told same) =
        search (arith, adds_none, old.entries, new.entries)
    takes_add settled (action.CommitAll c) t a old new so (commits o told is) =
        commit_adds (λ v. Unit {0}) m t c o old new (so (comes_to_commit o)) (any_votes o) is
    takes_add settled action.Resolve t a old new so (ends_none told same) =
        adds_none (old.entries m) (new.entries m) (ap (λ (x : Part). x.entries m) same)
    takes_add settled action.Resolve t a old new so (resolved outcomes told is) =
        ends_adds m t outcomes.items old new so.0 so.1 is

-- where no op that is added passes a test
pub adds_no : (p : Op → Bool) (old new : List Entry) → Adds (λ op. p op ≡ false) old new
    → (more : List Entry) × (new ≡ old ++ more) × (list_any (λ e. p e.0.op) more ≡ false)
adds_no p old new adds = (adds.0, adds.1, list_any_none (λ (e : Entry). p e.0.op) adds.0 adds.2)

-- anything may be asked
pub any_task : (m : ℕ) (z : ScanView) (x : ScriptAction) → TaskSo Any (λ x. tt) m z x
any_task m z (action.Call q) = λ here o asks. tt
any_task m z (action.CommitAll c) = search (arith, any_asked)
any_task m z action.Resolve = (tt, λ k d lt. (λ commit. tt, tt))

pub takes_adds : (settled : Settling) (x : ScriptAction) (t : ℕ) (a : Answer) (old new : Part)
    → TaskTakes settled x t a old new → (m : ℕ)
    → Adds Any (old.entries m) (new.entries m)
takes_adds settled x t a old new is m = takes_add Any (λ x. tt) m settled x t a old new (any_task m old.scan x) is

-- ---- the place of a line among those of its thread

-- a list is empty, or it has a last element
ends : {X : Type 0} (ys : List X) → (ys ≡ []) ⊎ ((zs : List X) × (z : X) × (ys ≡ zs ++ z ∷ []))
ends [] = inl refl
ends {X} (y ∷ ys) =
    ⊎_elim (λ (e : ys ≡ []). inr ([], y, ap (λ l. y ∷ l) e))
    (λ (h : (zs : List X) × (z : X) × (ys ≡ zs ++ z ∷ [])). inr (y ∷ h.0, h.1, ap (λ l. y ∷ l) h.2))
    (ends ys)

module _ {X A : Type 0} (leads : X → A → A → Type 0) (first : A) where
  -- steps are parted at one of them
  pub part : (zs : List X) (last : A) → Chain leads first zs last → (xs : List X) (y : X) (ys : List X)
      → zs ≡ xs ++ y ∷ ys
      → (old : A) × (new : A) × Chain leads first xs old × leads y old new × Chain leads new ys last
  part zs last (no_step ws end e f) xs y ys is =
      let size = ap (λ (l : List X). length l) (sym e ∙ is) in absurd (omega (arith, size, length-append xs (y ∷ ys)))
  part zs last (one_step ws w now end before step) xs y ys is =
      ⊎_elim
      (λ (e : ys ≡ []).
      let parts = snoc_parts ws xs w y (is ∙ ap (λ (l : List X). xs ++ y ∷ l) e) in
      (now, end, rw parts.0 at before, rw parts.1 at step, no_step ys end e refl))
      (λ (h : (zs : List X) × (z : X) × (ys ≡ zs ++ z ∷ [])).
      let parts =
      snoc_parts ws (xs ++ y ∷ h.0) w h.1
      (is ∙ ap (λ (l : List X). xs ++ y ∷ l) h.2 ∙ sym (append_assoc xs (y ∷ h.0) (h.1 ∷ []))) in
      let (old, new, earlier, its, later) = part ws now before xs y h.0 parts.0 in
      let all = one_step h.0 h.1 now end later (rw parts.1 at step) in
      (old, new, earlier, its, subst (λ (l : List X). Chain leads new l end) (sym h.2) all))
      (ends ys)

pub places : (steps : List ScriptStep) (answers : List TranscriptLine) (settled : Settling) (t : ℕ) (first : Part)
    (told : AreCarriedOut steps answers settled t first) (before : List Line) (l : Line) (after : List Line)
    → told.lines ≡ before ++ l ∷ after → (old : Part) × (new : Part) × LinePlace told before l after old new
places steps answers settled t first told before l after is =
    let (old, new, earlier, takes, later) =
    part (TakesPart settled) first told.lines _ told.carried before l after is in
    (old, new, record { lines = is; earlier = earlier; takes = takes; later = later })

-- what lines put into the journals is only added
pub chain_adds : (settled : Settling) (first : Part) (ls : List Line) (last : Part)
    → Chain (TakesPart settled) first ls last → (m : ℕ)
    → Adds Any (first.entries m) (last.entries m)
chain_adds settled first ls last runs m =
    along (λ (p : Part). Adds Any (first.entries m) (p.entries m)) first ls last runs
    (λ x now next step so_far. adds_both Any (first.entries m) (now.entries m) (next.entries m) so_far
    (takes_adds settled x.task.action x.task.thread x.answer now next step m))
    (adds_none Any (first.entries m) (first.entries m) refl)

-- so what comes after a line
pub place_adds : {steps : List ScriptStep} {answers : List TranscriptLine} {settled : Settling} {t : ℕ} {first : Part}
    {told : AreCarriedOut steps answers settled t first}
    {before : List Line} {l : Line} {after : List Line} {old new : Part} → LinePlace told before l after old new
    → (m : ℕ)
    → Adds Any (new.entries m) (entries_of t (journal settled m))
place_adds {settled = settled} {after = after} {new = new} place m = chain_adds settled new after _ place.later m

-- ---- what is shown of a key is its value at the first opening and what the journals have added to it

module _ (opens : (s : Settling) (m : ℕ) (T : Tables) → IsSettled s → first_of s m ≡ Some T → IsOpenedWith s m T) where
  -- an opening that follows these
  opened_so : (s : Content) (before : List Former) (b : Beginning) (o : ToldOpening)
      → Chain (Leaves s) (beginning s) before b → TellsOf s b o → (m : ℕ) → 1 ≤ m
      → m ≤ managers_of s
      → IsOpenedWith o.settled m (opened_after s (map (λ f. f.opening.settled) before) m)
  opened_so s before b o former tells m low high =
      search (arith, first_is, begins_after, o.settled, tells.agree, b.tables, tells.managers)

  pub sums_of_shares : (s : Content) (answers : List TranscriptLine) (values : List Declared) (before : List Former)
      (last : ToldOpening)
      → IsScript s
      → Tells s answers values before last → All (IsSumOfShares s before last) values
  sums_of_shares s answers values before last is tells j e below =
      let d : Declared = get_or values j e in
      let T : Tables = opened s d.manager in
      let hs : List History = histories_at (settled_over before last) d.manager in
      let worth =
      mapped_some (λ v. v +ℤ added_over d.key (λ x. Absent) hs T) (finmap.get T.values d.key) (pos d.value)
      (tells.shown.worth j e below) in
      let There : ℕ × List ℕ → Type 0 = λ n. (1 ≤ n.0) × (n.0 ≤ managers_of s) in
      let (low, high) =
      all_unmapped name_of There values
      (All-permutation There (map name_of s.keys) (map name_of values) tells.shown.all
      (All-map There name_of s.keys is.of_managers)) j e below in
      record {
        former = λ xs f ys parted.
            let (old, new, earlier, leaves, later) =
            part (Leaves s) (beginning s) before tells.begins tells.former xs f ys parted in
            opened_so s xs old f.opening earlier leaves.tells d.manager low high;
        latest = opened_so s before tells.begins last tells.former tells.latest d.manager low high;
        first = worth.0;
        at_first = worth.1;
        sum = sym worth.2;
      }
