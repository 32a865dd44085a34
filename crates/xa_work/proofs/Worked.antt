-- The work for branches that was all done: what it sent to each manager, and what was collected.
use Rattle.xa_base.proofs.{chain_kept, rules, ◌≡◌, ◌≢◌, ℕ, zero, suc, ◌<◌, ◌≤◌, Bool, true, false, ◌||◌, ◌==◌, ℤ, pos}
use Rattle.xa_base.proofs.{List, [], ◌∷◌, ◌++◌, length, map, length-append, append_assoc, sym, refl, ap, ◌∙◌, arith}
use Rattle.xa_base.proofs.{eq-eqb, Some, None, get_or, All, range_with_len, nat_cmp, ne_eqb, or_parts, append-nil}
use Rattle.xa_base.proofs.{length-set, map-append, All-nil, All-cons, All-head, All-push, All-tail, All-weaker}
use Rattle.xa_base.proofs.{inserted_there, inserted_other, removed_other, not_both, negsuc, AllPass-from_list_all}
use Rattle.std.specs.FinMap as finmap
use Rattle.xa_base.specs.{Chain}
use Rattle.xa_words.specs.{Code, Done, Op}
use Rattle.xa_desk.specs.{Operation, with_sent, with_collected, IsKnown, ledger, put_ledger, after_sent}
use Rattle.xa_desk.specs.{after_collected, LedgerView, DeskView}
use Rattle.xa_desk.proofs.Ledgers.{ledger-put_same, ledger-put_other}
use Rattle.xa_driver.specs.{Branch, AreBranchesRising, has_branch_at}
use Rattle.xa_work.specs.{Change, IsPut, PutsOp, IsCollected, CallsOp, CollectsOp, after_called, done, nothing}
use Rattle.xa_work.specs.{CalledOp, CallsBranch, Got, HasDoneWork, HaveWorked, ops_of}
use Rattle.xa_work.specs.Requests.{undone}
use Rattle.xa_work.proofs.Sent.{is_called}

-- ---- one manager's ledger

-- the ledger with manager m came to b, and the others stayed
pub record Block (m : ℕ) (b : LedgerView) (at at' : List LedgerView) : Type 0 where
  pub here : ledger at' m ≡ b
  pub others : (n : ℕ) → 1 ≤ n → n ≢ m → ledger at' n ≡ ledger at n
  pub many : length at' ≡ length at

pub known_on : (m : ℕ) (at at' : List LedgerView) → length at' ≡ length at → IsKnown at m → IsKnown at' m
known_on m at at' many known =
    record { positive = known.positive; within = let h = known.within in omega (arith, h, many) }

block_start : (m : ℕ) (at : List LedgerView) → Block m (ledger at m) at at
block_start m at = record { here = refl; others = λ n p q. refl; many = refl }

-- and then to what a change makes of it
block_on : (m : ℕ) (b : LedgerView) (change : LedgerView → LedgerView) (at at' at'' : List LedgerView) → IsKnown at m
    → Block m b at at'
    → at'' ≡ put_ledger at' m (change (ledger at' m)) → Block m (change b) at at''
block_on m b change at at' at'' known z is =
    search (arith, known_on, ledger-put_same, ledger-put_other, length-set, z.many, known.positive, z.others)

pub block_one : (m : ℕ) (change : LedgerView → LedgerView) (at at' : List LedgerView) → IsKnown at m
    → at' ≡ put_ledger at m (change (ledger at m))
    → Block m (change (ledger at m)) at at'
block_one m change at at' known is = block_on m (ledger at m) change at at at' known (block_start m at) is

-- ---- a branch's work in turn

-- one more request was sent, and collected with XA_OK
abbrev with_called : LedgerView → Op → LedgerView
with_called a op = with_collected (with_sent a op) (length a.sent) Done

-- so these were, one after the other
abbrev called_all : LedgerView → List Op → LedgerView
called_all a [] = a
called_all a (o ∷ os) = called_all (with_called a o) os

called_push : (a : LedgerView) (os : List Op) (o : Op) → called_all a (os ++ o ∷ []) ≡ with_called (called_all a os) o
called_push a [] o = refl
called_push a (p ∷ os) o = called_push (with_called a p) os o

-- the numbers of so many requests from this one on, each with XA_OK
abbrev done_from : ℕ → ℕ → List (ℕ × Code)
done_from n many = map (λ k. (k, Done)) (range_with_len n many)

called_sent : (a : LedgerView) (os : List Op) → (called_all a os).sent ≡ a.sent ++ os
called_sent a [] = sym (append-nil a.sent)
called_sent a (o ∷ os) = called_sent (with_called a o) os ∙ append_assoc a.sent (o ∷ []) os

called_collected : (a : LedgerView) (os : List Op)
    → (called_all a os).collected ≡ a.collected ++ done_from (length a.sent) (length os)
called_collected a [] = sym (append-nil a.collected)
called_collected a (o ∷ os) = grind (arith, called_collected (with_called a o) os, length-append, append_assoc)

block_called : (m : ℕ) (b : LedgerView) (op : Op) (at at' at'' : List LedgerView) → IsKnown at m → Block m b at at'
    → at'' ≡ after_called at' m op Done
    → Block m (with_called b op) at at''
block_called m b op at at' at'' known z is =
    let n : ℕ = length (ledger at' m).sent in
    let sent : Block m (with_sent b op) at (after_sent at' m op) =
    block_on m b (λ l. with_sent l op) at at' (after_sent at' m op) known z refl in
    let got : Block m (with_collected (with_sent b op) n Done) at at'' =
    block_on m (with_sent b op) (λ l. with_collected l n Done) at (after_sent at' m op) at'' known sent is in
    rw (ap (λ (l : LedgerView). length l.sent) z.here) at got

one_called : (m : ℕ) (old : DeskView) → IsKnown old.ledgers m → (cs : List CalledOp) (c : CalledOp) (d e : DeskView)
    → Block m (called_all (ledger old.ledgers m) (map (λ (c : CalledOp). c.op) cs)) old.ledgers d.ledgers → c.ok ≡ true
    → CallsOp m c.op c.ok d e
    → Block m (called_all (ledger old.ledgers m) (map (λ (c : CalledOp). c.op) (cs ++ c ∷ []))) old.ledgers e.ledgers
one_called m old known cs c d e z ok is = search (arith, map-append, called_push, block_called, is_called)

calls_block : (m : ℕ) (old : DeskView) (calls : List CalledOp) (new : DeskView) → IsKnown old.ledgers m
    → Chain (λ c d e. CallsOp m c.op c.ok d e) old calls new
    → All (λ c. c.ok ≡ true) calls
    → Block m (called_all (ledger old.ledgers m) (map (λ (c : CalledOp). c.op) calls)) old.ledgers new.ledgers
calls_block m old calls new known =
    chain_kept (λ c d e. CallsOp m c.op c.ok d e) (λ c. c.ok ≡ true)
    (λ cs (e : DeskView). Block m (called_all (ledger old.ledgers m) (map (λ (c : CalledOp). c.op) cs)) old.ledgers
    e.ledgers)
    old (block_start m old.ledgers) (one_called m old known) calls new

branch_block : (cs : List Change) (b : Branch) (old new : DeskView) → IsKnown old.ledgers b.m
    → CallsBranch cs b true old new
    → Block b.m (called_all (ledger old.ledgers b.m) (ops_of cs b)) old.ledgers new.ledgers
branch_block cs b old new known c =
    rw c.ops_are at
    (calls_block b.m old c.calls new known c.each
    (AllPass-from_list_all (λ (x : CalledOp). x.ok) c.calls (sym c.all)))

-- ---- branches by rising manager

-- each of them is at a manager between these two
abbrev Between : ℕ → ℕ → Branch → Type 0
Between low high b = (low < b.m) × (b.m < high)

pub rising_parts : (low : ℕ) (bs : List Branch) (b : Branch) → AreBranchesRising low (bs ++ b ∷ [])
    → AreBranchesRising low bs × (low < b.m) × All (Between low b.m) bs
rising_parts low [] b h = (tt, h.0, All-nil (Between low b.m))
rising_parts low (c ∷ bs) b h = grind (arith, rising_parts c.m bs b h.1, All-cons, All-weaker)

pub not_there : (bs : List Branch) (m : ℕ) → All (λ (c : Branch). c.m ≢ m) bs → has_branch_at bs m ≡ false
not_there [] m apart = refl
not_there (c ∷ bs) m apart =
    grind (arith, not_there bs m (All-tail (λ (d : Branch). d.m ≢ m) c bs apart), ne_eqb, All-head, All-tail)

pub nowhere : (bs : List Branch) (b : Branch) (m : ℕ) → has_branch_at (bs ++ b ∷ []) m ≡ false
    → (has_branch_at bs m ≡ false) × (m ≢ b.m)
nowhere [] b m h = search (arith, or_parts, eq-eqb, b.m)
nowhere (c ∷ bs) b m h =
    let z = or_parts (c.m == m) (has_branch_at (bs ++ b ∷ []) m) h in
    let w = nowhere bs b m z.1 in
    ((λ i. z.0 i || w.0 i), w.1)

-- ---- the work of all branches

pub block_works : (cs : List Change) (b : Branch) (at at' : List LedgerView)
    → Block b.m (called_all (ledger at b.m) (ops_of cs b)) at at'
    → HasDoneWork cs b (ledger at b.m) (ledger at' b.m)
block_works cs b at at' z = record {
  sent = ap (λ (a : LedgerView). a.sent) z.here ∙ called_sent (ledger at b.m) (ops_of cs b);
  collected = ap (λ (a : LedgerView). a.collected) z.here ∙ called_collected (ledger at b.m) (ops_of cs b);
}

-- one branch more, at a manager past those of the others
one_works : (cs : List Change) (bs : List Branch) (b : Branch) (x : LedgerView) (at now at' : List LedgerView) → 1 ≤ b.m
    → All (Between 0 b.m) bs
    → HaveWorked cs bs at now → HasDoneWork cs b (ledger now b.m) (ledger at' b.m) → Block b.m x now at'
    → HaveWorked cs (bs ++ b ∷ []) at at'
one_works cs bs b x at now at' positive below w its z =
    let none_there : has_branch_at bs b.m ≡ false =
    not_there bs b.m
    (All-weaker (Between 0 b.m) (λ (c : Branch). c.m ≢ b.m)
    (λ c p same. let under = p.1 in omega (arith, under, same)) bs below) in
    record {
      each =
          All-push (λ (c : Branch). HasDoneWork cs c (ledger at c.m) (ledger at' c.m)) bs b
          (λ k c within.
          let y : Branch = get_or bs k c in
          let low = (below k c within).0 in
          let under = (below k c within).1 in
          rw (z.others y.m (omega (arith, low)) (λ same. omega (arith, under, same))) (w.each k c within))
          (rw (w.others b.m positive none_there) at its);
      others = λ m up elsewhere. let parts = nowhere bs b m elsewhere in z.others m up parts.1 ∙ w.others m up parts.0;
    }

pub branches_called : (cs : List Change) (old : DeskView) (bs : List Branch) (new : DeskView)
    → Chain (λ b d e. CallsBranch cs b true d e) old bs new
    → All (λ (b : Branch). IsKnown old.ledgers b.m) bs → AreBranchesRising 0 bs
    → HaveWorked cs bs old.ledgers new.ledgers × (length new.ledgers ≡ length old.ledgers)
branches_called cs old =
    chain_kept (λ b d e. CallsBranch cs b true d e) (λ (b : Branch). IsKnown old.ledgers b.m)
    (λ bs (e : DeskView). AreBranchesRising 0 bs
    → HaveWorked cs bs old.ledgers e.ledgers × (length e.ledgers ≡ length old.ledgers)) old
    (λ up. (record { each = All-nil _; others = λ m p _. refl }, refl))
    (λ bs b d e before there is up.
    let parts = rising_parts 0 bs b up in
    let z = before parts.0 in
    let block = branch_block cs b d e (known_on b.m old.ledgers d.ledgers z.1 there) is in (
      one_works cs bs b _ old.ledgers d.ledgers e.ledgers there.positive parts.2 z.0
          (block_works cs b d.ledgers e.ledgers block) block,
      block.many ∙ z.1,
    ))

-- ---- in flight: what is kept under which number

abbrev pub Handles : Type 0
Handles = finmap.FinMap nat_cmp Operation

-- operations, each with the number that it is kept under
abbrev pub Flights : Type 0
Flights = List (ℕ × Operation)

-- they were kept one after the other, each under a number that was free
abbrev pub AreKept : Flights → DeskView → DeskView → Type 0
AreKept [] old new = new.kept ≡ old.kept
AreKept (f ∷ fs) old new =
    (mid : DeskView) × (finmap.get old.kept f.0 ≡ None) × (mid.kept ≡ finmap.insert old.kept f.0 f.1) × AreKept fs mid
    new

pub kept_push : (fs : Flights) (k : ℕ) (o : Operation) (old mid new : DeskView) → AreKept fs old mid
    → finmap.get mid.kept k ≡ None
    → new.kept ≡ finmap.insert mid.kept k o
    → AreKept (fs ++ (k, o) ∷ []) old new
kept_push [] k o old mid new same free is = (
  new,
  ap (λ (m : Handles). finmap.get m k) (sym same) ∙ free,
  is
      ∙ ap (λ (m : Handles). finmap.insert m k o) same,
  refl,
)
kept_push (f ∷ fs) k o old mid new (first, none_, keeps, rest) free is =
    (first, none_, keeps, kept_push fs k o first mid new rest free is)

-- each is kept under its number
abbrev pub KeepsAll : Flights → Handles → Type 0
KeepsAll [] m = Unit {0}
KeepsAll (f ∷ fs) m = (finmap.get m f.0 ≡ Some f.1) × KeepsAll fs m

-- none has this number, and no two have one
abbrev pub IsNone : ℕ → Flights → Type 0
IsNone k [] = Unit {0}
IsNone k (f ∷ fs) = (f.0 ≢ k) × IsNone k fs

abbrev pub AreDistinct : Flights → Type 0
AreDistinct [] = Unit {0}
AreDistinct (f ∷ fs) = IsNone f.0 fs × AreDistinct fs

-- what is kept stays, and its number isn't used again
kept_on : (fs : Flights) (old new : DeskView) → AreKept fs old new → (k : ℕ) (o : Operation)
    → finmap.get old.kept k ≡ Some o
    → (finmap.get new.kept k ≡ Some o) × IsNone k fs
kept_on [] old new same k o has = (ap (λ (m : Handles). finmap.get m k) same ∙ has, tt)
kept_on (f ∷ fs) old new (mid, free, keeps, rest) k o has =
    let apart : k ≢ f.0 = λ same. not_both (finmap.get old.kept f.0) o free (rw same at has) in
    let there : finmap.get mid.kept k ≡ Some o =
    ap (λ (m : Handles). finmap.get m k) keeps ∙ inserted_other old.kept f.0 f.1 k apart ∙ has in
    let z = kept_on fs mid new rest k o there in
    (z.0, ((λ same. apart (sym same)), z.1))

pub all_kept : (fs : Flights) (old new : DeskView) → AreKept fs old new → KeepsAll fs new.kept × AreDistinct fs
all_kept [] old new same = (tt, tt)
all_kept (f ∷ fs) old new (mid, free, keeps, rest) =
    let there : finmap.get mid.kept f.0 ≡ Some f.1 =
    ap (λ (m : Handles). finmap.get m f.0) keeps ∙ inserted_there old.kept f.0 f.1 in
    let here = kept_on fs mid new rest f.0 f.1 there in
    let z = all_kept fs mid new rest in
    ((here.0, z.0), (here.1, z.1))

-- what is kept under these numbers was collected, one after the other, each with XA_OK
abbrev pub AreTaken : List ℕ → DeskView → DeskView → Type 0
AreTaken [] old new = new ≡ old
AreTaken (k ∷ ks) old new = (mid : DeskView) × IsCollected k Done old mid × AreTaken ks mid new

taken_push : (ks : List ℕ) (k : ℕ) (old mid new : DeskView) → AreTaken ks old mid → IsCollected k Done mid new
    → AreTaken (ks ++ k ∷ []) old new
taken_push [] k old mid new same got = (new, rw same at got, refl)
taken_push (j ∷ ks) k old mid new (first, its, rest) got = (first, its, taken_push ks k first mid new rest got)

-- so these operations were
abbrev pub AreCollected : Flights → List LedgerView → List LedgerView → Type 0
AreCollected [] at at' = at' ≡ at
AreCollected (f ∷ fs) at at' = (mid : List LedgerView) × (mid ≡ after_collected at f.1 Done) × AreCollected fs mid at'

still_kept : (fs : Flights) (k : ℕ) (m : Handles) → IsNone k fs → KeepsAll fs m → KeepsAll fs (finmap.remove m k)
still_kept [] k m apart keeps = tt
still_kept (f ∷ fs) k m apart keeps = (removed_other m k f.0 apart.0 ∙ keeps.0, still_kept fs k m apart.1 keeps.1)

pub all_collected : (fs : Flights) (old new : DeskView) → KeepsAll fs old.kept → AreDistinct fs
    → AreTaken (map (λ f. f.0) fs) old new
    → AreCollected fs old.ledgers new.ledgers
all_collected [] old new keeps apart same = ap (λ (d : DeskView). d.ledgers) same
all_collected (f ∷ fs) old new keeps apart (mid, got, rest) =
    let was = got.was in
    let own = keeps.0 in
    let same : got.operation ≡ f.1 = cc in
    let left : KeepsAll fs mid.kept = rw got.kept (still_kept fs f.0 old.kept apart.0 keeps.1) in (
      mid.ledgers,
      got.ledgers
          ∙ ap (λ (o : Operation). after_collected old.ledgers o Done) same,
      all_collected fs mid new left apart.1 rest,
    )

-- ---- handles

-- a handle that is a positive number
pub is_put : (m : ℕ) (op : Op) (z : ℤ) (k : ℕ) (old new : DeskView) → z ≡ pos k → 0 < k → PutsOp m op z old new
    → IsPut m op k old new
is_put m op z zero old new is positive p = absurd (omega (arith, positive))
is_put m op z (suc k) old new is positive p = rw is at p

-- the number that a handle is
abbrev pub key_of : ℤ → ℕ
key_of (pos k) = k
key_of (negsuc k) = 0

-- it is a number
pub record IsKey (handle : ℤ) : Type 0 where
  pub is : handle ≡ pos (key_of handle)
  pub positive : 0 < key_of handle

-- a handle by which XA_OK was collected
gets : (m : ℕ) (handle : ℤ) (ok : Bool) (old new : DeskView) → CollectsOp m handle ok old new → ok ≡ true
    → IsKey handle × IsCollected (key_of handle) Done old new
gets m handle ok old new (done k is positive said got) e = search (arith, rules)
gets m handle ok old new (undone k c other is unsaid got) e = cc
gets m handle ok old new (nothing unsaid none_ same) e = cc

-- the keys by which these were collected
abbrev keys : List Got → List ℕ
keys gots = map (λ (g : Got). key_of g.flight.handle) gots

pub gots_taken : (old : DeskView) (gots : List Got) (new : DeskView)
    → Chain (λ g d e. CollectsOp g.flight.manager g.flight.handle g.ok d e) old gots new
    → All (λ g. g.ok ≡ true) gots → AreTaken (keys gots) old new × All (λ g. IsKey g.flight.handle) gots
gots_taken old gots new =
    chain_kept (λ g d e. CollectsOp g.flight.manager g.flight.handle g.ok d e) (λ g. g.ok ≡ true)
    (λ gs e. AreTaken (keys gs) old e × All (λ g. IsKey g.flight.handle) gs) old
    (refl, All-nil _)
    (λ gs g d e z ok is.
    let w = gets g.flight.manager g.flight.handle g.ok d e is ok in (
      rw (map-append (λ (x : Got). key_of x.flight.handle) gs (g ∷ []))
          (taken_push (keys gs) (key_of g.flight.handle) old d e z.0 w.1),
      All-push (λ (x : Got). IsKey x.flight.handle) gs g z.1 w.0,
    )) gots new
