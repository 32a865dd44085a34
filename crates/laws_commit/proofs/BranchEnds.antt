-- How a branch ends that voted to commit, over openings one after another, by what it stands at as the first of them
-- ends,
-- and what its additions count for.
use Rattle.xa_base.proofs.{arith, ◌≡◌, ℕ, Bool, true, false, if◌then◌else◌, List, [], ◌∷◌, ◌++◌, sym, refl, ap, ◌∙◌}
use Rattle.xa_base.proofs.{subst, Option, Some, All, All-head, All-tail, all_left, ℤ, pos, ◌⊎◌, ◌≢◌, inl, inr, ⊎_elim}
use Rattle.xa_base.proofs.{Contains, some_same, at_false, at_true, both_ways}
use Rattle.xa_base.specs.{MOST_MANAGERS, IsUpTo}
use Rattle.xa_words.specs.{XidName, Request, tran_of, RmFail, Prepare}
use Rattle.xa_tables.specs.{HeuristicDecision, State, is_left_in, Fate, accepted, coded, commits_later, decided_fate}
use Rattle.xa_tables.specs.{fate, first_shut, is_in_doubt as is_unknown, is_live, last_or, late, parted, tables_after}
use Rattle.xa_tables.specs.{commits_over, reopened, reopened_fate, Tables, History, state_of, is_prepared, IsFateOf}
use Rattle.xa_tables.specs.{share, AreLeft, fate_of_state}
use Rattle.xa_switch.specs.{IsOpenedWith, first_of, history as history_of, settled_fate}
use Rattle.xa_driver.specs.{Ending, Branch, Outcome, is_decided}
use Rattle.laws_commit.specs.{Opening, ended_as, fate_through, histories, Tabled, IsAddition, prepare_of, WasAtFirst}
use Rattle.laws_commit.specs.{ends_heuristic, told_fate, AreInARow, EndsAs, IsKept, IsListed, OnlyResolves, ResolveCall}
use Rattle.laws_commit.specs.{became, last_of, resolves, tables_left, uses_of, IsUnlisted, SharesOver, commits_after}
use Rattle.xa_scan.specs.{left_at}
use Rattle.laws_commit.specs.Worth.{is_committed}
use Rattle.xa_tables.specs.Histories as history
use Rattle.laws_commit.proofs.Later.{last_ended, Walk, stands_first, ends_with, walk, walk_decides, walk_ends}
use Rattle.laws_commit.proofs.Leading.{IsTowards, Stands, waits, unforgotten, over, as_decided, led_after, IsOver}
use Rattle.laws_commit.proofs.Sites.{OpensWithFirst, fates, request_of}
use Rattle.laws_commit.proofs.Guided.{Comes, ends, tells, leaves, once, AtEnd, unknown_so, decided_one, decision_so}
use Rattle.laws_commit.proofs.Guided.{is_decided_so, is_known_so, untold, left_in_doubt}
use Rattle.laws_commit.proofs.Values.{commits_by, commits_or, add_place, share_is}
use Rattle.laws_commit.proofs.OneOutcome.{FindsMark}

-- ---- by the fate at the end of the first opening

-- it counts where it was committed
pub counts_so : (commit : Bool) (W L : Type 0) (s : Option State) (f through : Fate) (e : Ending) (after : Bool)
    → Comes commit W L s f e
    → (is_unknown f ≡ true → after ≡ is_committed through)
    → commits_or after (history.InDoubt ∷ once f) ≡ is_committed (if is_unknown f then through else f)
counts_so commit W L s f through e after comes later = search (arith, commits_or)

-- ---- through the later openings

module _ (commit : Bool) where
  abbrev IsEnded : Fate → Type 0
  IsEnded f = f ≡ ended_as commit

  pub committed_so : is_committed (ended_as commit) ≡ commit
  committed_so = grind arith

  -- by the fates of one opening, where it was in doubt, and what is known of the later ones
  count_list : (fs : List Fate) (g : Fate) (after : Fate → Bool) (through : Fate → Fate) → All IsEnded fs
      → g ≡ history.InDoubt
      → (last_or g fs ≡ history.InDoubt → after (last_or g fs) ≡ is_committed (through (last_or g fs)))
      → (IsEnded (last_or g fs) → IsEnded (through (last_or g fs)))
      → commits_or (after (last_or g fs)) fs ≡ is_committed (through (last_or g fs))
  count_list [] g after through all e unknown known = unknown e
  count_list (f ∷ fs) g after through all e unknown known =
      let here : IsEnded f = All-head IsEnded f fs all in
      let there : IsEnded (last_or f fs) = last_ended commit fs f here (All-tail IsEnded f fs all) in
      search (arith, commits_or, committed_so)

module _ (law : Tabled) (first : OpensWithFirst) (commit : Bool) (D L : Type 0)
    (m : ℕ) (up : IsUpTo MOST_MANAGERS m) (x : XidName) where
  abbrev CountsThrough : List Opening → Fate → Tables → Type 0
  CountsThrough os f T =
      (f ≡ history.InDoubt → commits_over x f (histories m os) T ≡ is_committed (fate_through m x f os))
      × (IsEnded commit f → IsEnded commit (fate_through m x f os))

  -- one more opening before them
  module _ (p : Opening) (ps : List Opening) (f g : Fate) (T T1 : Tables) (tables_are : T1 ≡ reopened T)
      (fate_is : g ≡ reopened_fate f)
      (all : All (IsEnded commit) (fates x (accepted (history_of p.settled m)) T1))
      (settled_is : settled_fate p.settled m x g ≡ fate x g (history_of p.settled m) T1)
      (rest : CountsThrough ps (settled_fate p.settled m x g) (tables_after (history_of p.settled m) T1)) where
    abbrev H1 : History
    H1 = history_of p.settled m

    abbrev fs : List Fate
    fs = fates x (accepted H1) T1

    abbrev over_them : Fate → Bool
    over_them h = commits_over x h (histories m ps) (tables_after H1 T1)

    abbrev over_all : Fate → Tables → Bool
    over_all h W =
        commits_later (commits_over x (fate x h H1 W) (histories m ps) (tables_after H1 W)) x (coded (accepted H1) W)

    rest_so : CountsThrough ps (last_or g fs) (tables_after H1 T1)
    rest_so = rw settled_is at rest

    waiting : f ≡ history.InDoubt
        → commits_over x f (histories m (p ∷ ps)) T ≡ is_committed (fate_through m x (settled_fate p.settled m x g) ps)
    waiting e =
        let unknown : g ≡ history.InDoubt = fate_is ∙ ap reopened_fate e in
        let same : f ≡ g = e ∙ sym unknown in
        ap (λ b. if b then false else over_all f (reopened T)) (ap is_live e)
        ∙ (λ i. over_all (same i) (sym tables_are i)) ∙ commits_by (over_them (last_or g fs)) x (accepted H1) T1
        ∙ count_list commit fs g over_them (λ h. fate_through m x h ps) all unknown rest_so.0 rest_so.1
        ∙ ap (λ h. is_committed (fate_through m x h ps)) (sym settled_is)

  -- all of them
  pub walk_counts : (os : List Opening) (T : Tables) (f : Fate) → Walk law first commit D L m up x os T f
      → CountsThrough os f T
  walk_counts [] T f w = (λ e. sym (ap is_committed e), λ e. e)
  walk_counts (p ∷ ps) T f w =
      let T1 : Tables = reopened T in
      let g : Fate = reopened_fate f in
      let H1 : History = history_of p.settled m in
      let with_T1 : IsOpenedWith p.settled m T1 = first p.settled m T1 w.0.kept.settled w.0.begins in
      let towards_accepted : All (λ (r : Request). IsTowards commit L x r.op) (accepted H1) =
      all_left (λ (r : Request). IsTowards commit L x r.op) (accepted H1) (first_shut H1 ++ late H1)
      (rw (parted H1) at w.0.towards) in
      let all : All (IsEnded commit) (fates x (accepted H1) T1) =
      (led_after commit true D L x (accepted H1) T1 g towards_accepted
      (stands_first law first commit D L m up x p T1 g w.0)).1 in
      let rest : CountsThrough ps (settled_fate p.settled m x g) (tables_after H1 T1) = walk_counts ps
      (tables_after H1 T1)
      (settled_fate p.settled m x g) w.1 in
      let done : IsEnded commit f → IsEnded commit (fate_through m x (settled_fate p.settled m x g) ps) = λ e.
      rest.1
      (with_T1.fates x g
      ∙ last_ended commit (fates x (accepted H1) T1) g (ap reopened_fate e ∙ as_decided commit) all) in
      (waiting p ps f g T T1 refl refl all (with_T1.fates x g) rest, done)

-- nothing but resolves names the branch later, and they find what was decided
pub record IsMarked (later : List Opening) (commit : Bool) (b : Branch) : Type 0 where
  pub only : All (OnlyResolves (tran_of b.xid)) later
  pub marks : All (FindsMark commit (tran_of b.xid) b.m) (uses_of later)

-- It ended as was decided, and so its additions count, of the Prepare with number n by thread t.
abbrev pub Follows : Bool → Opening → List Opening → ℕ → Branch → ℕ → Ending → Type 0
Follows commit o later t b n e =
    EndsAs commit o later b e × SharesOver o later t b n is_committed
    × (ends_heuristic e ≡ false → IsUnlisted b later → SharesOver o later t b n (λ f. commit))

module _ (law : Tabled) (first : OpensWithFirst) (o : Opening) (between : List Opening) (last : Opening)
    (q : ResolveCall)
    (kept : All IsKept (o ∷ (between ++ last ∷ []))) (row : AreInARow o (between ++ last ∷ []))
    (there : Contains last.uses (resolves q))
    (scan : (m : ℕ) (T : Tables) → first_of last.settled m ≡ Some T → AreLeft (left_at q.scan m) T) where
  abbrev later : List Opening
  later = between ++ last ∷ []

  open o use {settled as s}

  kept_o : IsKept o
  kept_o = All-head IsKept o later kept

  module _ (commit : Bool) (W : Type 0) (b : Branch) (t n : ℕ) (e : Ending) (up : IsUpTo MOST_MANAGERS b.m) (T : Tables)
      (begins : first_of s b.m ≡ Some T)
      (at_end : (K : Type 0)
      → AtEnd commit W K b.xid (fate b.xid (fate_of_state (state_of T b.xid)) (history_of s b.m) T)
      (history_of s b.m) T
      e)
      (marked : W → is_left_in (state_of (tables_after (history_of s b.m) T) b.xid) ≡ true
      → IsMarked (between ++ last ∷ []) commit b)
      (reached : (r : Outcome) → Contains q.outcomes r → r.m ≡ b.m → r.xid ≡ b.xid → r.code ≢ RmFail) where
    open b use {m}

    abbrev H : History
    H = history_of s m

    abbrev F : Fate
    F = fate b.xid (fate_of_state (state_of T b.xid)) H T

    -- what a later resolve was told of it
    abbrev L : Type 0
    L = (d : HeuristicDecision) × IsListed b d later

    lists : (j : ResolveCall) → Contains (uses_of later) (resolves j) → (w : Outcome) → Contains j.outcomes w → w.m ≡ m
        → w.xid ≡ b.xid
        → is_decided w.code ≡ true → L
    lists j made w among manager xid code =
        let d = decision_so w.code code in (
          d.0,
          record { resolve = j; made = made; outcome = w; listed = among; manager = manager; xid = xid; code = d.1 },
        )

    with_T : IsOpenedWith s m T
    with_T = first s m T kept_o.settled begins

    -- its fate, whatever it was before
    same_fate : (before : Fate) → WasAtFirst s b before → settled_fate s m b.xid before ≡ F
    same_fate before was =
        let codes_are : coded H was.first ≡ coded H T = sym was.opened.codes ∙ with_T.codes in
        was.opened.fates b.xid before ∙ law.leaves H b.xid before was.first
        ∙ ap (history.fate_in b.xid before) codes_are
        ∙ (at_end L).any before (fate_of_state (state_of T b.xid))
        ∙ sym (law.leaves H b.xid (fate_of_state (state_of T b.xid)) T)

    abbrev later_fate : Fate
    later_fate = fate_through m b.xid F later

    abbrev Walks : Type 0
    Walks = Walk law first commit (F ≡ history.InDoubt) L m up b.xid later (tables_after H T) F

    walks : W → is_left_in (state_of (tables_after H T) b.xid) ≡ true
        → Stands commit true (F ≡ history.InDoubt) L (state_of (tables_after H T) b.xid) F → Walks
    walks why left st =
        let w = marked why left in
        walk law first commit (F ≡ history.InDoubt) L m up b.xid later o T F kept_o begins
        (All-tail IsKept o later kept) row w.only w.marks lists st

    -- a decision that a resolve was told is its fate in the end, where it is a decision
    which : Walks → (d : HeuristicDecision) → later_fate ≡ decided_fate d → L → IsListed b d later
    which w d is l =
        rw (decided_one l.0 d
        (sym (walk_decides law first commit (F ≡ history.InDoubt) L m up b.xid l.0 later (tables_after H T) F w
        (inr (l.1.resolve, l.1.outcome, l.1.made, l.1.listed, l.1.manager, l.1.xid, l.1.code))) ∙ is)) at l.1

    last_walk : Walks
        → IsOver commit (F ≡ history.InDoubt) L later_fate
        × (is_prepared (tables_left (last_of o later) m) b.xid ≡ false)
    last_walk =
        walk_ends law first commit (F ≡ history.InDoubt) L m up b.xid o between last q (tables_after H T) F there scan
        reached

    -- how it ends: as was decided, or heuristically, and then its ending or a resolve tells how
    abbrev Ended : Fate → Type 0
    Ended f =
        (f ≡ ended_as commit) ⊎
        ((d : HeuristicDecision)
        × ((f ≡ decided_fate d) × ((told_fate e ≡ Some (decided_fate d)) ⊎ IsListed b d later)))

    abbrev at_last : Fate
    at_last = if is_unknown F then later_fate else F

    known_ends : is_unknown F ≡ false → Ended F → Ended at_last
    known_ends known end = rw (at_false (is_unknown F) later_fate F known) end

    -- where it was left it is over in the end, and a decision that it had then stays
    left_ends : Walks → Stands commit true (F ≡ history.InDoubt) L (state_of (tables_after H T) b.xid) F
        → is_left_in (state_of (tables_after H T) b.xid) ≡ true → Ended at_last
    left_ends w (waits y open_ state g) left =
        subst Ended (sym (at_true (is_unknown F) later_fate F (ap is_unknown g))) (by_over (last_walk w).0)
      where
        by_over : IsOver commit (F ≡ history.InDoubt) L later_fate → Ended later_fate
        by_over (inl z) = inl z.1
        by_over (inr z) = inr (z.0, (z.1.0, inr (which w z.0 z.1.0 z.1.1)))
    left_ends w (unforgotten d state g l) left =
        known_ends (is_decided_so F d g) (inr (d, (g, inr (by_over (last_walk w).0))))
      where
        stays : later_fate ≡ decided_fate d
        stays = walk_decides law first commit (F ≡ history.InDoubt) L m up b.xid d later (tables_after H T) F w (inl g)

        by_over : IsOver commit (F ≡ history.InDoubt) L later_fate → IsListed b d later
        by_over (inl z) = absurd (both_ways (is_unknown F) (is_decided_so F d g) (ap is_unknown z.0))
        by_over (inr z) = which w d stays z.1.1
    left_ends w (over state g) left = let none : true ≡ false = sym left ∙ ap is_left_in state in cc

    ended_last : Ended at_last
    ended_last = by_comes (at_end L).comes
      where
        by_comes : Comes commit W L (state_of (tables_after H T) b.xid) F e → Ended at_last
        by_comes (ends g) = known_ends (is_known_so F commit g) (inl g)
        by_comes (tells d g h) = known_ends (is_decided_so F d g) (inr (d, (g, inl h)))
        by_comes (leaves why left st) = left_ends (walks why left st) st left

    ended_so : (before : Fate) → WasAtFirst s b before → Ended (became b before o later)
    ended_so before was = rw (same_fate before was) ended_last

    known_so : (f : Fate) → Ended f → is_unknown f ≡ false
    known_so f end = search (arith, is_known_so, is_decided_so)

    -- where it was prepared as the first opening ended, it isn't in the end
    rests_so : is_prepared (tables_left o m) b.xid ≡ true → is_prepared (tables_left (last_of o later) m) b.xid ≡ false
    rests_so prepared =
        let unknown : is_unknown F ≡ true = search (arith, with_T, ends_with, kept_o) in
        let z = left_in_doubt commit W L F e (at_end L).comes unknown in (last_walk (walks z.0 z.1 z.2)).1

    -- ---- what its additions count for

    -- where it is in doubt it is committed later where it was decided to commit
    commits_so : is_unknown F ≡ true
        → commits_over b.xid F (histories m later) (tables_after H T) ≡ is_committed later_fate
    commits_so unknown =
        let z = left_in_doubt commit W L F e (at_end L).comes unknown in
        (walk_counts law first commit (F ≡ history.InDoubt) L m up b.xid later (tables_after H T) F
        (walks z.0 z.1 z.2)).0 (unknown_so F unknown)

    -- the same, whatever it was before
    abbrev Counts : Fate → Type 0
    Counts f =
        commits_or (commits_over b.xid f (histories m later) (tables_after H T))
        (history.InDoubt ∷ once f) ≡ is_committed (if is_unknown f then fate_through m b.xid f later else f)

    fate_counts : (f0 : Fate) → Counts (fate b.xid f0 H T)
    fate_counts f0 =
        subst Counts
        (sym (law.leaves H b.xid f0 T ∙ (at_end L).any f0 (fate_of_state (state_of T b.xid))
        ∙ sym (law.leaves H b.xid (fate_of_state (state_of T b.xid)) T)))
        (counts_so commit W L (state_of (tables_after H T) b.xid) F (fate_through m b.xid F later) e
        (commits_over b.xid F (histories m later) (tables_after H T)) (at_end L).comes commits_so)

    module _
        (made : (f : Fate) → IsFateOf b.xid f T → (before after : History)
        → H ≡ before ++ request_of t n (Prepare b.xid) ∷ after
        → fates b.xid (request_of t n (Prepare b.xid) ∷ after) (tables_after before T) ≡ history.InDoubt ∷ once
        (fate b.xid f H T)) where
      abbrev SharesFrom : Tables → Type 0
      SharesFrom U =
          (G : XidName → Fate) → IsFateOf b.xid (G b.xid) U → (k : List ℕ) (d : ℤ) (add : IsAddition b.xid k d t n U H)
          → share k (commits_after o later m G U) add.adding (add.between ++ prepare_of t n b.xid ∷ add.after)
          (tables_after add.before U) ≡ (if is_committed (became b (G b.xid) o later) then d else pos 0)

      shares_from : SharesFrom T
      shares_from G fits k d add =
          share_is b.xid k d t n T H (commits_after o later m G T) add
          (history.InDoubt ∷ once (fate b.xid (G b.xid) H T))
          (made (G b.xid) fits (add.before ++ add.adding ∷ add.between) add.after
          (add_place b.xid k d t n T H add))
          ∙ ap (λ z. if z then d else pos 0)
          (fate_counts (G b.xid)
          ∙ ap (λ f. is_committed (if is_unknown f then fate_through m b.xid f later else f))
          (sym (with_T.fates b.xid (G b.xid))))

      branch_counts : SharesOver o later t b n is_committed
      branch_counts U G at_first = subst SharesFrom (some_same T U (sym begins ∙ at_first)) shares_from G

      -- all or nothing
      branch_whole : ends_heuristic e ≡ false → IsUnlisted b later → SharesOver o later t b n (λ f. commit)
      branch_whole plain unlisted U G at_first fits k d add =
          let was : WasAtFirst s b (G b.xid) =
          record { first = U; opened = first s m U kept_o.settled at_first; fits = fits } in
          branch_counts U G at_first fits k d add ∙ ap (λ z. if z then d else pos 0) (by_end (ended_so (G b.xid) was))
        where
          by_end : {f : Fate} → Ended f → is_committed f ≡ commit
          by_end (inl same) = ap is_committed same ∙ committed_so commit
          by_end (inr w) =
              ⊎_elim (λ (told : told_fate e ≡ Some (decided_fate w.0)). absurd (untold e w.0 plain told))
              (λ (listed : IsListed b w.0 later). absurd (unlisted w.0 listed)) w.1.1

      pub branch_follows : Follows commit o later t b n e
      branch_follows = search (arith, ended_so, known_so, rests_so, branch_counts, branch_whole)
