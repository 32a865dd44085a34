-- The courses that a branch of a commit may take, by the places of its requests in its manager's settled history.
use Rattle.xa_base.proofs.{cases_lt, cases_Bool, ◌≤◌, get_or, ◌≡◌, ℕ, ◌∷◌, ◌++◌, suc, ◌+◌, ◌<◌, Bool, true, false, ◌||◌}
use Rattle.xa_base.proofs.{if◌then◌else◌, sym, refl, ap, ◌∙◌, subst, arith, Option, Some, None, inl, inr, ◌⊎◌, All}
use Rattle.xa_base.proofs.{or-true, all_after, by_if, by_bool, at_false, at_true, ◌≢◌}
use Rattle.xa_driver.specs.{VotesAndObeys, outcome_op, Branch, Ending, ReadOnly, RolledBack, Left, AsksFor, AtBranch}
use Rattle.xa_driver.specs.{is_yes, is_read, second_op, third_op, ending_by, ending_of, yes_ending, no_ending}
use Rattle.xa_driver.specs.{is_out_of_reach, is_decided}
use Rattle.xa_words.specs.{XidName, Done, RdOnly, RmFail, Op, Prepare, Rollback, Forget, Request, Code, is_rolled_back}
use Rattle.xa_tables.specs.{Tables, History, is_forget, is_heur}
use Rattle.xa_desk.specs.{is_rm_fail}
use Rattle.laws_commit.proofs.Sites.{asks, withholds, Site, StandsIn, Sent, AsksIn, only_op, Second, request_of}

pub yes_is : (c : Code) → is_yes c ≡ true → c ≡ Done
yes_is c e = grind arith

read_is : (c : Code) → is_read c ≡ true → c ≡ RdOnly
read_is c e = grind arith

-- ---- where the requests of a branch stand

-- A branch that the thread asked to prepare there. Its Prepare has this number and was answered by the vote, unless
-- nothing was
-- sent of it; what the thread sends of it has numbers below `last`.
pub record Asked (t : ℕ) (T : Tables) (H : History) : Type 0 where
  pub site : Site t T H
  pub xid : XidName
  pub number : ℕ
  pub last : ℕ
  pub vote : Code

abbrev pub asked_at : {t : ℕ} {T : Tables} {H : History} → Site t T H → XidName → ℕ → ℕ → Code → Asked t T H
asked_at s x n last vote = record { site = s; xid = x; number = n; last = last; vote = vote }

module _ {t : ℕ} {T : Tables} {H : History} (a : Asked t T H) where
  open a use {site as s, xid as x, number as n, last, vote}

  -- what holds of each that the thread sends of it
  abbrev pub Each : (Op → Type 0) → Type 0
  Each Q = All (λ r. r.thread ≡ t → n ≤ r.number → r.number < last → Q r.op) H

  abbrev pub Voted : Type 0
  Voted = StandsIn t n (Prepare x) vote T H

  -- the Prepare alone was sent
  pub record SendsOne : Type 0 where
    pub first : Voted
    pub limit : last ≡ n + 1

  -- after it a second request was sent, and at most a Forget after that
  pub record Sends (op : Op) (c : Code) : Type 0 where
    pub first : Voted
    pub second : StandsIn t (suc n) op c T H
    pub more : n + 1 < last
    pub forgets : All (λ r. r.thread ≡ t → suc n < r.number → r.number < last → is_forget r.op ≡ true) H

  -- what a branch goes through up to its ending
  pub data Course (commit : Bool) : Ending → Type 0 where
    -- it is left, where at most its Prepare was sent: by its vote, or its manager was heard to be shut
    Stays : (c : Code) → is_yes vote ≡ false → Each (λ op. op ≡ Prepare x) → Course commit (Left c)
    -- it voted, and that was all: it only read, or it was rolled back
    Reads : vote ≡ RdOnly → SendsOne → Course commit ReadOnly
    Breaks : is_yes vote ≡ false → is_rolled_back vote ≡ true → SendsOne → Course commit RolledBack
    -- it voted to commit, and got the decision
    Agrees : (c : Code) → vote ≡ Done → Sends (outcome_op commit x) c → Course commit (yes_ending commit (Some c))
    -- it voted against, and was to be rolled back
    Refuses : (c : Code) → is_yes vote ≡ false → Sends (Rollback x) c → Course commit (no_ending vote (Some c))

  -- nothing but the Prepare has its number
  one_sent : SendsOne → Each (λ op. op ≡ Prepare x)
  one_sent z k d lt own up down =
      only_op s n (Prepare x) vote z.first k d lt own (let limit = z.limit in omega (arith, limit, up, down))

  -- what the thread sends of it after the second request is a Forget
  pub rest_forgets : (op : Op) (c : Code) (z : Sends op c) (f : Voted) (r : Second s n (Prepare x) vote f op c)
      → All (λ q. q.thread ≡ t → q.number < last → is_forget q.op ≡ true) r.rest
  rest_forgets op c z f r k d lt own less =
      all_after (λ (q : Request). q.thread ≡ t → suc n < q.number → q.number < last → is_forget q.op ≡ true)
      (f.before ++ request_of t n (Prepare x) ∷ r.mid) (request_of t (suc n) op) r.rest
      (rw r.place at z.forgets) k d lt own
      (omega (arith, r.later k d lt own)) less

-- What holds of its Prepare, of a Rollback of it and of each Forget, and of the outcome where it voted to commit, holds
-- of each
-- that the thread sends of it.
module _ {t : ℕ} {T : Tables} {H : History} (a : Asked t T H) (commit : Bool) (Q : Op → Type 0)
    (prepares : Q (Prepare a.xid)) (rolls_back : Q (Rollback a.xid))
    (forgets : (op : Op) → is_forget op ≡ true → Q op)
    (agrees : is_yes a.vote ≡ true → Q (outcome_op commit a.xid)) where
  one_so : Each a (λ op. op ≡ Prepare a.xid) → Each a Q
  one_so own k d lt its up down = rw (own k d lt its up down) prepares

  two_so : (op : Op) (c : Code) → Q op → Sends a op c → Each a Q
  two_so op c second z k d lt own up down = elim (cases_lt (suc a.number) (get_or H k d).number) [
    | inl more ↦ forgets (get_or H k d).op (z.forgets k d lt own more down)
    | inr le ↦ elim (cases_lt a.number (get_or H k d).number) [
      | inl more ↦ rw (only_op a.site (suc a.number) op c z.second k d lt own (omega (arith, le, more))) second
      | inr same ↦ rw (only_op a.site a.number (Prepare a.xid) a.vote z.first k d lt own (omega (arith, up, same)))
          prepares
    ]
  ]

  pub each_sent : {e : Ending} → Course a commit e → Each a Q
  each_sent (Stays c y own) = one_so own
  each_sent (Reads r z) = one_so (one_sent a z)
  each_sent (Breaks y k z) = one_so (one_sent a z)
  each_sent (Agrees c y z) = two_so (outcome_op commit a.xid) c (agrees (ap is_yes y)) z
  each_sent (Refuses c y z) = two_so (Rollback a.xid) c rolls_back z

-- after its Prepare it is no decision by itself
pub own_plain : {t : ℕ} {T : Tables} {H : History} {a : Asked t T H} {commit : Bool} {e : Ending} → Course a commit e
    → All (λ r. r.thread ≡ t → a.number < r.number → r.number < a.last → is_heur r.op ≡ false) H
own_plain {a = a} {commit = commit} course k d lt own up down =
    each_sent a commit (λ op. is_heur op ≡ false) refl refl (λ op e. grind arith) (λ _. grind arith) course k d lt own
    (omega (arith, up)) down

-- ---- the course, by what the branch was asked

-- the second request of a yes branch, and of one that is out of reach
pub yes_wanted : (commit : Bool) (x : XidName) → second_op commit x Done ≡ Some (outcome_op commit x)
yes_wanted commit x = grind arith

none_wanted : (x : XidName) (vote : Code) (commit : Bool) → is_yes vote ≡ false
    → (is_read vote || (is_rolled_back vote || is_out_of_reach vote)) ≡ true
    → second_op commit x vote ≡ None
none_wanted x vote commit y e = search (arith, at_false, at_true)

-- after the second request nothing was asked, or a Forget as it is wanted
abbrev MayForget : (t : ℕ) → Tables → History → XidName → Option Code → Sent → Sent → Type 0
MayForget t T H x second d new =
    (new ≡ d) ⊎ ((third : Option Code) × AsksFor (AsksIn t T H) (third_op x second) third d new)

-- what is wanted of a branch that didn't vote yes
not_committed : (x : XidName) (v : Code) → is_yes v ≡ false → second_op true x v ≡ None
not_committed x v not_yes = grind (arith, at_false)

rolled_back : (x : XidName) (v : Code) → is_yes v ≡ false → is_read v ≡ false → is_rolled_back v ≡ false
    → is_out_of_reach v ≡ false
    → second_op false x v ≡ Some (Rollback x)
rolled_back x v not_yes not_read not_rolled near = rw (not_yes, not_read, not_rolled, near) refl

-- none was sent, or one
abbrev MayHaveSent : (t : ℕ) → Tables → History → XidName → Option Code → Sent → Sent → Type 0
MayHaveSent t T H x second d new =
    (new ≡ d) ⊎ ((c : Code) × (second ≢ None) × StandsIn t d.number (Forget x) c T H × (new.number ≡ suc d.number))

may_forget : (t : ℕ) (T : Tables) (H : History) (x : XidName) (second : Option Code) (d new : Sent)
    → MayForget t T H x second d new
    → MayHaveSent t T H x second d new
may_forget t T H x second d new (inl same) = inl same
may_forget t T H x None d new (inr f) = inl f.1.1
may_forget t T H x (Some c) d new (inr f) = by_decided (is_decided c) f.0 f.1
  where
    by_decided : (b : Bool) (third : Option Code)
        → AsksFor (AsksIn t T H) (if b then Some (Forget x) else None) third d new
        → MayHaveSent t T H x (Some c) d new
    by_decided false third f = inl f.1
    by_decided true None f = absurd f
    by_decided true (Some e) (asks stands hears is) = inr (e, (λ no. cc), stands, ap (λ (z : Sent). z.number) is)
    by_decided true (Some e) (withholds shut fails is) = inl is

module _ {t : ℕ} {T : Tables} {H : History} (s : Site t T H) (x : XidName) (commit : Bool) (vote : Code)
    (second : Option Code)
    (old prepared decided new : Sent)
    (obeys : AsksFor (AsksIn t T H) (second_op commit x vote) second prepared decided)
    (forgets : MayForget t T H x second decided new) where
  open old use {number as n}
  open new use {number as last}

  abbrev a : Asked t T H
  a = asked_at s x n last vote

  abbrev Ends : Ending → Type 0
  Ends = Course a commit

  -- no second request was wanted
  unwanted : second_op commit x vote ≡ None → (second ≡ None) × (new ≡ prepared)
  unwanted e = search (arith, may_forget)

  module _ (first : Voted a) (hears : old.shut ≡ true → vote ≡ RmFail)
      (is : prepared ≡ record { number = suc n; shut = old.shut || is_rm_fail vote }) where
    number_is : prepared.number ≡ suc n
    number_is = ap (λ (z : Sent). z.number) is

    one : second_op commit x vote ≡ None → SendsOne a
    one e =
        record {
          first = first;
          limit = let z = ap (λ (z : Sent). z.number) (unwanted e).1 in omega (arith, z, number_is);
        }

    -- one was: its manager wasn't heard to be shut, so it was sent, and then a Forget or nothing
    two : (op : Op) → second_op commit x vote ≡ Some op → is_out_of_reach vote ≡ false
        → (c : Code) × (second ≡ Some c) × Sends a op c
    two op e reach = by_second second (rw e at obeys)
        (may_forget t T H x second decided new forgets)
      where
        open_still : prepared.shut ≡ true → ⊥
        open_still shut = search (arith, cases_Bool)

        by_second : (z : Option Code) → AsksFor (AsksIn t T H) (Some op) z prepared decided
            → MayHaveSent t T H x z decided new
            → (c : Code) × (z ≡ Some c) × Sends a op c
        by_second None o f = absurd o
        by_second (Some c) (withholds shut fails same) f = absurd (open_still shut)
        by_second (Some c) (asks stands h to) f =
            let e = ap (λ (z : Sent). z.number) to ∙ ap suc number_is in
            let sends : Sends a op c = record {
              first = first;
              second = rw number_is at stands;
              more = elim f as (λ _. n + 1 < last) [
                | inl same ↦ let z = ap (λ (z : Sent). z.number) same in omega (arith, z, e)
                | inr g ↦ omega
                    (arith, g.3, e)
              ];
              forgets = λ k d lt own up less. elim f as (λ _. is_forget (get_or H k d).op ≡ true) [
                | inl same ↦ let z = ap (λ (z : Sent). z.number) same in absurd (omega (arith, up, less, z, e))
                | inr g ↦ ap is_forget
                    (only_op s decided.number (Forget x) g.0 g.2 k d lt own (omega (arith, up, less, g.3, e)))
              ];
            } in
            (c, refl, sends)

    sent_course : Ends (ending_of commit vote second)
    sent_course =
        by_if (λ v. Ends (ending_by commit vote second v)) (is_yes vote) _ _ (λ y.
        let z =
        two (outcome_op commit x) (ap (second_op commit x) (yes_is vote y) ∙ yes_wanted commit x)
        (ap is_out_of_reach (yes_is vote y)) in
        rw z.1 (Agrees z.0 (yes_is vote y) z.2)) (λ y.
        by_if (λ v. Ends (ending_by commit vote second v)) (is_read vote) _ _
        (λ r. Reads (read_is vote r) (one (none_wanted x vote commit y (search (arith, or-true))))) (λ r.
        by_if (λ v. Ends (ending_by commit vote second v)) (is_rolled_back vote) _ _
        (λ k. Breaks y k (one (none_wanted x vote commit y (search (arith, or-true))))) (λ k.
        by_if (λ v. Ends (ending_by commit vote second v)) (is_out_of_reach vote) _ _
        (λ o. Stays vote y (one_sent a (one (none_wanted x vote commit y (search (arith, or-true)))))) (λ o.
        by_bool (λ _. Ends (no_ending vote second)) commit (λ on.
        let none : second_op commit x vote ≡ None = ap (λ b. second_op b x vote) on ∙ not_committed x vote y in
        rw (unwanted none).0 (Stays vote y (one_sent a (one none)))) (λ off.
        let z = two (Rollback x) (ap (λ b. second_op b x vote) off ∙ rolled_back x vote y r k o) o in
        rw z.1 (Refuses z.0 y z.2))))))

  course_by : AsksIn t T H old (Prepare x) prepared vote → Ends (ending_of commit vote second)
  course_by (asks stands hears to) = sent_course stands hears to
  course_by (withholds shut fails same) =
      let silent = unwanted (ap (second_op commit x) fails ∙ none_wanted x RmFail commit refl refl) in
      let unsent : last ≡ n = ap (λ (z : Sent). z.number) (silent.1 ∙ same) in
      subst Ends (sym (λ i. ending_of commit (fails i) (silent.0 i)))
      (Stays RmFail (ap is_yes fails) (λ k d lt own up down. absurd (omega (arith, unsent, up, down))))

-- in a whole commit, or where nobody told it to forget
pub course_of : {t : ℕ} {T : Tables} {H : History} (s : Site t T H) (b : Branch) (commit : Bool) (vote : Code)
    (second : Option Code) (ending : Ending) (old new : Sent)
    → AtBranch (AsksIn t T H) commit b vote second ending old new
    → Course (asked_at s b.xid old.number new.number vote) commit ending
course_of s b commit vote second ending old new is =
    search (arith, course_by, b.xid, old.number, new.number, is.prepared, is.decided, is.obeys)

pub course_obeyed : {t : ℕ} {T : Tables} {H : History} (s : Site t T H) (b : Branch) (commit : Bool) (vote : Code)
    (second : Option Code) (ending : Ending) (old new : Sent)
    → VotesAndObeys (AsksIn t T H) commit b vote second ending old new
    → Course (asked_at s b.xid old.number new.number vote) commit ending
course_obeyed s b commit vote second ending old new is =
    search (arith, course_by, b.xid, old.number, new.number, is.prepared, is.obeys)
