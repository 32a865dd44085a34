-- What coordinators asked, how the records of a group are settled, and what is sent on the lanes of answers.
use Rattle.xa_base.proofs.{arith, ◌≡◌, ℕ, ◌==◌, Bool, true, false, cond, List, [], ◌∷◌, ◌++◌, map, Some, None, Option}
use Rattle.xa_base.proofs.{refl, sym, ap, ◌∙◌, append_assoc, ◌||◌, or-false, or-true, get_or-set_at, get_or-set_other}
use Rattle.xa_base.proofs.{eq-eqb, eqb-true, false≢true, append-nil, ◌+◌, ◌<◌, length, get_or, drop, map-append}
use Rattle.xa_base.proofs.{length-map, ◌≢◌, zero, suc, set, or_parts, eqb_tells, drop-cons, add-one}
use Rattle.xa_base.specs.declared.limits.TheConstants.{MOST_SENDERS}
use Rattle.std.proofs.Math.ListN.{get_or-map}
use Rattle.xa_words.specs.{TranName, tran_eq}
use Rattle.xa_lane.specs.{Parcel, has_ended, has_mark, of_sender, parcel, received, somes, Sending, sent_at, with_item}
use Rattle.xa_lane.specs.{but_full}
use Rattle.xa_lane.proofs.Parcels.{of_sender-append, sent_at-but_full}
use Rattle.xa_log_shared.specs.{LogRequest, Append, AppendAnswer, Deed, Waiting, answer_each, asked_if, asked_by}
use Rattle.xa_log_shared.specs.{asked_in, asks_of_coordinator, waits_of, is_clash, Taken, Unknown, Answered, IsRefused}
use Rattle.xa_log_shared.specs.{after, AreRight, AreUnknown, Does, Settles, answers_in, as_waiting, deeds_in}
use Rattle.xa_log_shared.specs.{records_waiting, Works, Steps, HasNoted, SentBy, told_to}
use Rattle.xa_log_shared.specs.declared.ask.Deed.TheVariants.{Answers}
use Rattle.xa_log.specs.{LogState, with_record, with_records, with_failure, AreNew, CommitRecord}
use Rattle.xa_log_shared.proofs.Deeds.{answers-append, does-chain, new_below, does_nothing, does_forget, new_without}
use Rattle.xa_log_shared.specs.Moves.{Moves}

pub asked_in-append : (k : ℕ) (ds es : List Deed) → asked_in k (ds ++ es) ≡ asked_in k ds ++ asked_in k es
asked_in-append k [] es = refl
asked_in-append k (d ∷ ds) es =
    ap (λ xs. asked_by k d ++ xs) (asked_in-append k ds es)
    ∙ sym (append_assoc (asked_by k d) (asked_in k ds) (asked_in k es))

pub waits_of-append : (k : ℕ) (vs ws : List Waiting) → waits_of k (vs ++ ws) ≡ waits_of k vs ++ waits_of k ws
waits_of-append k [] ws = refl
waits_of-append k (v ∷ vs) ws = search (arith, waits_of-append k vs ws, append_assoc, v.from)

pub asked_of-append : (k : ℕ) (qs rs : List (ℕ × LogRequest))
    → asks_of_coordinator k (qs ++ rs) ≡ asks_of_coordinator k qs ++ asks_of_coordinator k rs
asked_of-append k [] rs = refl
asked_of-append k (q ∷ qs) rs = search (arith, asked_of-append k qs rs, append_assoc, q.0)

-- a group's answers are to what waited
pub asked_each : (answer : AppendAnswer) (ws : List Waiting) (k : ℕ)
    → asked_in k (map Answers (answer_each answer ws)) ≡ waits_of k ws
asked_each answer [] k = refl
asked_each answer (w ∷ ws) k = ap (λ xs. asked_if k w.from (Append w.decision) ++ xs) (asked_each answer ws k)

-- one that clashes with none that waits has none that waits
none_waits : (from : ℕ) (tran : TranName) (ws : List Waiting) → is_clash from tran ws ≡ false → waits_of from ws ≡ []
none_waits from tran [] apart = refl
none_waits from tran (w ∷ ws) apart =
    let parts = or_parts ((w.from == from) || tran_eq w.decision.tran tran) (is_clash from tran ws) apart in
    let first = or_parts (w.from == from) (tran_eq w.decision.tran tran) parts.0 in
    (λ i. cond (first.0 i) (Append w.decision ∷ []) [] ++ none_waits from tran ws parts.1 i)

-- so what is asked now comes behind what waits
pub asked_last : (from : ℕ) (tran : TranName) (ask : LogRequest) (ws : List Waiting) → is_clash from tran ws ≡ false
    → (k : ℕ)
    → asked_if k from ask ++ waits_of k ws ≡ waits_of k ws ++ asked_if k from ask
asked_last from tran ask ws apart k = search (arith, none_waits, append-nil, eqb_tells)

-- ---- what is taken of the lane

somes-append : (xs ys : List (Option LogRequest)) → somes (xs ++ ys) ≡ somes xs ++ somes ys
somes-append [] ys = refl
somes-append (Some x ∷ xs) ys = ap (λ zs. x ∷ zs) (somes-append xs ys)
somes-append (None ∷ xs) ys = somes-append xs ys

received-append : (k : ℕ) (ps qs : List (Parcel LogRequest)) → received k (ps ++ qs) ≡ received k ps ++ received k qs
received-append k ps qs = ap somes (of_sender-append k ps qs) ∙ somes-append (of_sender k ps) (of_sender k qs)

pub received_item : (taken : List (Parcel LogRequest)) (from : ℕ) (ask : LogRequest) (k : ℕ)
    → received k (taken ++ parcel from (Some ask) ∷ []) ≡ received k taken ++ asks_of_coordinator k ((from, ask) ∷ [])
received_item taken from ask k = search (arith, received-append)

pub received_end : (taken : List (Parcel LogRequest)) (from k : ℕ)
    → received k (taken ++ parcel from None ∷ []) ≡ received k taken
received_end taken from k = search (arith, received-append, append-nil)

has_mark-append : (xs ys : List (Option LogRequest)) → has_mark (xs ++ ys) ≡ (has_mark xs || has_mark ys)
has_mark-append [] ys = refl
has_mark-append (Some x ∷ xs) ys = has_mark-append xs ys
has_mark-append (None ∷ xs) ys = refl

-- a parcel more
ended_more : (taken : List (Parcel LogRequest)) (p : Parcel LogRequest) (k : ℕ)
    → has_ended k (taken ++ p ∷ []) ≡ (has_ended k taken || has_ended k (p ∷ []))
ended_more taken p k =
    ap has_mark (of_sender-append k taken (p ∷ [])) ∙ has_mark-append (of_sender k taken) (of_sender k (p ∷ []))

no_mark : (from : ℕ) (ask : LogRequest) (k : ℕ) → has_ended k (parcel from (Some ask) ∷ []) ≡ false
no_mark from ask k =
    elim (from == k) as (λ b. has_mark {T = LogRequest} (cond b (Some ask ∷ []) []) ≡ false)
    [ true ↦ refl | false ↦ refl ]

-- an item is no end mark
pub noted_item : (ended : List Bool) (taken taken' : List (Parcel LogRequest)) (from : ℕ) (ask : LogRequest)
    → taken' ≡ taken ++ parcel from (Some ask) ∷ []
    → HasNoted ended taken → HasNoted ended taken'
noted_item ended taken taken' from ask is noted k below =
    noted k below
    ∙ sym
    (ap (has_ended k) is ∙ ended_more taken (parcel from (Some ask)) k
    ∙ ap (λ b. has_ended k taken || b) (no_mark from ask k)
    ∙ or-false (has_ended k taken))

-- the end mark of a coordinator is noted for it, and for no other
pub noted_end : (ended : List Bool) (taken taken' : List (Parcel LogRequest)) (from : ℕ)
    → taken' ≡ taken ++ parcel from None ∷ [] → length ended ≡ MOST_SENDERS
    → HasNoted ended taken → HasNoted (set ended from true) taken'
noted_end ended taken taken' from is size noted k below =
    elim (from == k) as
    (λ b. (from == k) ≡ b
    → get_or (set ended from true) k
    false ≡ (has_ended k taken || has_mark {T = LogRequest} (cond b (None ∷ []) []))) [
      | true ↦ λ e.
          let same : k ≡ from = sym (eqb-true from k e) in
          get_or-set_at ended from k true false same (omega (arith, same, size, below))
          ∙ sym (or-true (has_ended k taken))
      | false ↦ λ e.
          get_or-set_other ended from k true false (λ same. false≢true (sym e ∙ eq-eqb from k (sym same)))
          ∙ noted k below ∙ sym (or-false (has_ended k taken))
    ] refl
    ∙ sym (ap (has_ended k) is ∙ ended_more taken (parcel from None) k)

abbrev Items : Type 0
Items = List (Deed × Unit {0})

answers_alone : (cs : List Answered) → answers_in (map Answers cs) ≡ cs
answers_alone [] = refl
answers_alone (a ∷ cs) = ap (λ xs. a ∷ xs) (answers_alone cs)

each_answered : (answer : AppendAnswer) (ws : List Waiting) → map as_waiting (answer_each answer ws) ≡ ws
each_answered answer [] = refl
each_answered answer (w ∷ ws) = ap (λ xs. w ∷ xs) (each_answered answer ws)

right_taken : (s : LogState) (ws : List Waiting) → AreNew s (records_waiting ws)
    → AreRight s (map Answers (answer_each Taken ws))
right_taken s [] new = tt
right_taken s (w ∷ ws) new = (new.0, right_taken (with_record s w.decision.tran w.decision.yes) ws new.1)

after_taken : (s : LogState) (ws : List Waiting)
    → after s (map Answers (answer_each Taken ws)) ≡ with_records s (records_waiting ws)
after_taken s [] = refl
after_taken s (w ∷ ws) = after_taken (with_record s w.decision.tran w.decision.yes) ws

all_unknown : (ws : List Waiting) → AreUnknown (map Answers (answer_each Unknown ws))
all_unknown [] = tt
all_unknown (w ∷ ws) = (refl, all_unknown ws)

-- all of them were taken together
pub settles_taken : (ws : List Waiting) (old new : Items) (k : Bool) (s u : LogState) → k ≡ true
    → AreNew s (records_waiting ws)
    → u ≡ with_records s (records_waiting ws) → deeds_in new ≡ deeds_in old ++ map Answers (answer_each Taken ws)
    → Settles ws (answer_each Taken ws) old new k s k u
settles_taken ws old new true s u known news is noted =
    search (arith, answers_alone, each_answered, asked_each, right_taken, after_taken)
settles_taken ws old new false s u known news is noted = cc

-- the log was lost with all of them
pub settles_lost : (ws : List Waiting) (old new : Items) (k : Bool) (s u : LogState) → k ≡ true
    → deeds_in new ≡ deeds_in old ++ map Answers (answer_each Unknown ws)
    → Settles ws (answer_each Unknown ws) old new k s false u
settles_lost ws old new true s u known noted = search (arith, answers_alone, each_answered, asked_each, all_unknown)
settles_lost ws old new false s u known noted = cc

-- ---- in the forms in which loops and calls have them

pub settles_next : (ws ws' : List Waiting) (cs cs' : List Answered) (old mid new : Items) (j k l : Bool)
    (s t u : LogState) (w : Waiting) (a b : Answered)
    → ws' ≡ ws ++ w ∷ [] → cs' ≡ cs ++ b ∷ [] → b ≡ a
    → Settles ws cs old mid j s k t → deeds_in new ≡ deeds_in mid ++ Answers a ∷ [] → Does k t (Answers a ∷ []) l u
    → as_waiting a ≡ w
    → Settles ws' cs' old new j s l u
settles_next ws ws' cs cs' old mid new j k l s t u w a b more_ws more_cs same settled noted does is =
    rw (more_ws, more_cs, same)
    (search (
      arith,
      append_assoc,
      answers-append,
      map-append,
      asked_in-append,
      waits_of-append,
      does-chain,
      settled.deeds,
      settled.asked,
      settled.does,
    ))

-- the log has refused them together, and then each was tried
pub settles_after_refusal : (ws : List Waiting) (cs : List Answered) (old mid new : Items) (k l : Bool)
    (s t u : LogState)
    → k ≡ true → t ≡ with_failure s
    → deeds_in mid ≡ deeds_in old ++ IsRefused ∷ [] → Settles ws cs mid new k t l u → Settles ws cs old new k s l u
settles_after_refusal ws cs old mid new true l s t u known failed noted settled =
    search (
      arith,
      append_assoc,
      does-chain true true l s t u (IsRefused ∷ []) settled.deeds,
      settled.deeds,
      settled.asked,
      settled.does,
      settled.each,
      settled.answers,
    )
settles_after_refusal ws cs old mid new false l s t u known failed noted settled = cc

pub drop_more : (ws : List Waiting) (i : ℕ) (w : Waiting) → i < length ws → w ≡ get_or ws i w
    → drop i ws ≡ w ∷ drop (i + 1) ws
drop_more ws i w within is = drop-cons ws i w within ∙ (λ j. sym is j ∷ drop (sym (add-one i) j) ws)

pub new_failed : (log now : LogState) (rs : List CommitRecord) → now ≡ with_failure log → AreNew log rs → AreNew now rs
new_failed log now rs failed new = new_below now log rs (λ r none. rw failed none) new

-- each that is answered waited
pub answered_places : (n : ℕ) (ws : List Waiting) (cs : List Answered) → map as_waiting cs ≡ ws
    → ((k : ℕ) (d : Waiting) → k < length ws → (get_or ws k d).from < n) → (k : ℕ) (d : Answered) → k < length cs
    → (get_or cs k d).from < n
answered_places n ws cs each places k d within =
    let count : length ws ≡ length cs = ap length (sym each) ∙ length-map cs as_waiting in
    let same : get_or ws k (as_waiting d) ≡ as_waiting (get_or cs k d) =
    ap (λ xs. get_or xs k (as_waiting d)) (sym each) ∙ get_or-map as_waiting cs k d in
    rw same at (places k (as_waiting d) (omega arith))

abbrev Lanes : Type 0
Lanes = List (Sending AppendAnswer)

-- one lane has sent one answer more
same_lane : (i : ℕ) (ss : Lanes) (x y : Sending AppendAnswer) (a : AppendAnswer) → i < length ss → x ≡ get_or ss i x
    → y.sent ≡ x.sent ++ a ∷ []
    → sent_at i (set ss i y) ≡ sent_at i ss ++ a ∷ []
same_lane i [] x y a within read more = absurd (omega arith)
same_lane zero (s ∷ ss) x y a within read more = more ∙ ap (λ (z : Sending AppendAnswer). z.sent ++ a ∷ []) read
same_lane (suc i) (s ∷ ss) x y a within read more = same_lane i ss x y a (omega arith) read more

other_lane : (k i : ℕ) (ss : Lanes) (y : Sending AppendAnswer) → k ≢ i → sent_at k (set ss i y) ≡ sent_at k ss
other_lane k i [] y differs = refl
other_lane zero zero (s ∷ ss) y differs = absurd (differs refl)
other_lane (suc k) zero (s ∷ ss) y differs = refl
other_lane zero (suc i) (s ∷ ss) y differs = refl
other_lane (suc k) (suc i) (s ∷ ss) y differs = other_lane k i ss y (λ e. differs (ap suc e))

pub lane_sent : (ss : Lanes) (x y : Sending AppendAnswer) (a : Answered) → a.from < length ss → x ≡ get_or ss a.from x
    → but_full y ≡ but_full (with_item a.answer x)
    → SentBy (a ∷ []) ss (set ss a.from y)
lane_sent ss x y a within read sent k = search (arith, same_lane, other_lane, append-nil, eqb_tells, a.from, a.answer)

told-append : (k : ℕ) (cs bs : List Answered) → told_to k (cs ++ bs) ≡ told_to k cs ++ told_to k bs
told-append k [] bs = refl
told-append k (a ∷ cs) bs = search (arith, told-append k cs bs)

pub sent_none : (ss : Lanes) → SentBy [] ss ss
sent_none ss k = sym (append-nil (sent_at k ss))

pub sent_chain : (cs bs : List Answered) (ss ts us : Lanes) → SentBy cs ss ts → SentBy bs ts us
    → SentBy (cs ++ bs) ss us
sent_chain cs bs ss ts us a b k = search (arith, append_assoc, told-append)

pub moves_none : (items : Items) (k : Bool) (s : LogState) (ss : Lanes) (ws : List Waiting)
    → Moves items items k s k s ss ss ws ws []
moves_none items k s ss ws = search (arith, append-nil, does_nothing, sent_none)

asked-chain : (ds es w1 w2 w3 q r : List LogRequest) → ds ++ w2 ≡ w1 ++ q → es ++ w3 ≡ w2 ++ r
    → (ds ++ es) ++ w3 ≡ w1 ++ (q ++ r)
asked-chain ds es w1 w2 w3 q r a b = search (arith, append_assoc)

-- ONE AFTER THE OTHER
module _ {x y z : Items} {j k l : Bool} {s t u : LogState} {ss ts us : Lanes} where
  pub moves_chain : {v1 v2 v3 : List Waiting} {qs rs : List (ℕ × LogRequest)} → Moves x y j s k t ss ts v1 v2 qs
      → Moves y z k t l u ts us v2 v3 rs
      → Moves x z j s l u ss us v1 v3 (qs ++ rs)
  moves_chain {v1} {v2} {v3} {qs} {rs} a b = record {
    deeds = a.deeds ++ b.deeds;
    grown = b.grown ∙ ap (λ xs. xs ++ b.deeds) a.grown ∙ append_assoc (deeds_in x) a.deeds b.deeds;
    does = does-chain j k l s t u a.deeds b.deeds a.does b.does;
    sent = rw (answers-append a.deeds b.deeds)
        (sent_chain (answers_in a.deeds) (answers_in b.deeds) ss ts us a.sent b.sent);
    asked = search (arith, asked_in-append, asked-chain, asked_of-append, a.deeds, a.asked, b.asked);
  }

  -- a request, after what made way for it
  pub moves_then : {v1 v2 v3 : List Waiting} (from : ℕ) (ask same : LogRequest) → ask ≡ same
      → Moves x y j s k t ss ts v1 v2 []
      → Moves y z k t l u ts us v2 v3 ((from, same) ∷ []) → Moves x z j s l u ss us v1 v3 ((from, ask) ∷ [])
  moves_then from ask same is a b = rw is (moves_chain a b)

  -- with what was taken
  pub works_chain : {v1 v2 v3 : List Waiting} {t1 t2 t3 : List (Parcel LogRequest)}
      → Works x y j s k t ss ts v1 v2 t1 t2
      → Works y z k t l u ts us v2 v3 t2 t3
      → Works x z j s l u ss us v1 v3 t1 t3
  works_chain {v1} {v2} {v3} {t1} {t2} {t3} a b =
      search (arith, append_assoc, asked_of-append, moves_chain, b.took, a.took, a.requests, b.requests, a.moves)

  -- with nothing that waits before and after it
  pub steps_closed : {v1 v2 v3 : List Waiting} {t1 t2 : List (Parcel LogRequest)} → v1 ≡ [] → v3 ≡ []
      → Works x y j s k t ss ts v1 v2 t1 t2
      → Moves y z k t l u ts us v2 v3 [] → Steps x z j s l u ss us t1 t2
  steps_closed {v1} {v2} {v3} {t1} {t2} first last a b =
      let m = moves_chain a.moves b in search (arith, append-nil, a.took, m.asked)

  pub steps_chain : {t1 t2 t3 : List (Parcel LogRequest)} → Steps x y j s k t ss ts t1 t2
      → Steps y z k t l u ts us t2 t3
      → Steps x z j s l u ss us t1 t3
  steps_chain {t1} a b = record {
    deeds = a.deeds ++ b.deeds;
    grown = b.grown ∙ ap (λ xs. xs ++ b.deeds) a.grown ∙ append_assoc (deeds_in x) a.deeds b.deeds;
    asked = λ p. search (arith, append_assoc, asked_in-append, a.asked p, b.asked p);
    does = does-chain j k l s t u a.deeds b.deeds a.does b.does;
    sent = rw (answers-append a.deeds b.deeds)
        (sent_chain (answers_in a.deeds) (answers_in b.deeds) ss ts us a.sent b.sent);
  }

  -- the end marks answer nothing
  pub steps_ended : {t1 t2 t3 : List (Parcel LogRequest)} → Steps x y j s k t ss ts t1 t2 → z ≡ y → l ≡ k → u ≡ t
      → map but_full us ≡ map but_full ts → t3 ≡ t2
      → Steps x z j s l u ss us t1 t3
  steps_ended {t1} {t2} {t3} a deeds known log lanes taken = search (arith, sent_at-but_full, a.asked, a.deeds, a.sent)

-- a group was settled, and then its answers were sent
pub moves_settled : (us ws vs : List Waiting) (cs ds : List Answered) (x y : Items) (j k : Bool) (s t : LogState)
    (ss ts : Lanes)
    → us ≡ ws → cs ≡ ds → vs ≡ []
    → Settles us ds x y j s k t → SentBy cs ss ts → Moves x y j s k t ss ts ws vs []
moves_settled us ws vs cs ds x y j k s t ss ts those same none settled sent = search (arith, settled.asked)

-- one deed, of a request, and what it answers
pub moves_one : (d : Deed) (from : ℕ) (tran : TranName) (ask : LogRequest) (x y : Items) (j k : Bool) (s t : LogState)
    (ss ts : Lanes) (ws : List Waiting)
    → deeds_in y ≡ deeds_in x ++ d ∷ [] → Does j s (d ∷ []) k t → SentBy (answers_in (d ∷ [])) ss ts
    → is_clash from tran ws ≡ false → ((p : ℕ) → asked_by p d ≡ asked_if p from ask)
    → Moves x y j s k t ss ts ws ws ((from, ask) ∷ [])
moves_one d from tran ask x y j k s t ss ts ws noted does sent apart of = search (arith, append-nil, asked_last)

-- a record waits now
pub moves_push : (items : Items) (k : Bool) (s : LogState) (ss : Lanes) (ws vs : List Waiting) (w : Waiting)
    → vs ≡ ws ++ w ∷ []
    → Moves items items k s k s ss ss ws vs ((w.from, Append w.decision) ∷ [])
moves_push items k s ss ws vs w is = search (arith, append-nil, does_nothing, sent_none, waits_of-append)

-- ---- with what was taken

pub works_none : (items : Items) (k : Bool) (s : LogState) (ss : Lanes) (ws : List Waiting)
    (taken taken' : List (Parcel LogRequest))
    → ((p : ℕ) → received p taken' ≡ received p taken) → Works items items k s k s ss ss ws ws taken taken'
works_none items k s ss ws taken taken' same = search (arith, append-nil, moves_none)

pub works_one : (x y : Items) (j k : Bool) (s t : LogState) (ss ts : Lanes) (vs ws : List Waiting)
    (taken taken' : List (Parcel LogRequest)) (from : ℕ) (ask : LogRequest)
    → taken' ≡ taken ++ parcel from (Some ask) ∷ [] → Moves x y j s k t ss ts vs ws ((from, ask) ∷ [])
    → Works x y j s k t ss ts vs ws taken taken'
works_one x y j k s t ss ts vs ws taken taken' from ask is moves = search (arith, received_item)

pub steps_none : (items : Items) (k : Bool) (s : LogState) (ss : Lanes) (taken : List (Parcel LogRequest))
    → Steps items items k s k s ss ss taken taken
steps_none items k s ss taken = search (arith, append-nil, does_nothing, sent_none)

-- what the calls of a worker go by
pub ruleset settling = (settles_taken, settles_lost, settles_after_refusal, new_failed)

pub ruleset forgetting = (does_forget, new_without, moves_one, sent_none)

pub ruleset taking = (works_none, works_one, received_end)

pub ruleset stepping = (steps_chain, steps_none, steps_ended)
