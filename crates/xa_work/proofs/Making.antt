-- How the requests of a unit of work are made, one more after those before.
use Rattle.xa_base.proofs.{at_drop, chain_append, ◌≡◌, ◌≢◌, ℕ, suc, ◌+◌, ◌<◌, ◌≤◌, Bool, true, ◌&&◌, ◌==◌, cond, List}
use Rattle.xa_base.proofs.{[], ◌∷◌, ◌++◌, length, map, take, drop, append_assoc, length-append, arith, eq-eqb, sym}
use Rattle.xa_base.proofs.{refl, ap, ◌∙◌, slice_index_or, list_all, range_with_len, ne_eqb, append-nil, length-map}
use Rattle.xa_base.proofs.{map-append, take_all, flat_push, one_more, range_more, list_all-append}
use Rattle.std.proofs.lemmas.List.Elements.{filter_more}
use Rattle.xa_base.specs.{Chain}
use Rattle.xa_base.specs.Lists.Chain.{none, more}
use Rattle.xa_words.specs.{Op, Add, End, OpenRm, Start, Fresh, Success}
use Rattle.xa_desk.specs.{DeskView, GoesOn, AllKept}
use Rattle.xa_desk.proofs.GoingOn.{goes_same, goes_further}
use Rattle.xa_driver.specs.{Branch}
use Rattle.xa_work.specs.{Flight, Change, CallsOp, CollectsOp, PutsAtLast, CalledOp, CallsOps, OpensAt, CollectsAll}
use Rattle.xa_work.specs.{Got, Put, PutsRequests, changes_at, ops_of, requests_at, requests_of_branches, steps_in}

and_true : (a : Bool) → a ≡ (a && true)
and_true a = grind arith

-- where all so far and one more are
all_more : {X : Type 0} (p : X → Bool) (xs : List X) (x : X) (ok : Bool) → ok ≡ list_all p xs
    → (ok && p x) ≡ list_all p (xs ++ x ∷ [])
all_more p xs x ok is = (λ i. is i && and_true (p x) i) ∙ sym (list_all-append p xs (x ∷ []))

-- ---- the first of a list

-- ---- what the work so far leaves

-- The desk has gone on, what was outstanding is kept, and what was lent has idled on.
pub record Leaves {I : Type 0} (leads : I → I → Type 0) (old new : DeskView) (before after : I) : Type 0 where
  pub goes_on : GoesOn old new
  pub kept : AllKept old → AllKept new
  pub idled : leads before after

pub leaves_none : {I : Type 0} {leads : I → I → Type 0} → ((x : I) → leads x x) → (d : DeskView) (x : I)
    → Leaves leads d d x x
leaves_none stays d x = record { goes_on = goes_same d; kept = λ h. h; idled = stays x }

-- one step more
pub leaves_on : {I : Type 0} {leads : I → I → Type 0} {old mid new : DeskView} {x y z : I}
    → ((x y z : I) → leads x y → leads y z → leads x z)
    → Leaves leads old mid x y → GoesOn mid new → (AllKept mid → AllKept new) → leads y z → Leaves leads old new x z
leaves_on {old = old} {mid = mid} {new = new} {x = x} {y = y} {z = z} chain before on keeps idle =
    record {
      goes_on = goes_further old mid new before.goes_on on;
      kept = λ h. keeps (before.kept h);
      idled = chain x y z before.idled idle;
    }

-- ---- in turn

pub calls_none : (m : ℕ) (d : DeskView) → CallsOps m [] true d d
calls_none m d = record { calls = []; ops_are = refl; each = none [] d refl refl; all = refl }

pub calls_more : (m : ℕ) (ops : List Op) (o : Op) (ok one : Bool) (old mid new : DeskView) → CallsOps m ops ok old mid
    → CallsOp m o one mid new
    → CallsOps m (ops ++ o ∷ []) (ok && one) old new
calls_more m ops o ok one old mid new x is =
    let c : CalledOp = record { op = o; ok = one } in
    record {
      calls = x.calls ++ c ∷ [];
      ops_are = map-append (λ (y : CalledOp). y.op) x.calls (c ∷ []) ∙ ap (λ l. l ++ o ∷ []) x.ops_are;
      each = more x.calls c mid new x.each is;
      all = all_more (λ (y : CalledOp). y.ok) x.calls c ok x.all;
    }

-- ---- in flight

pub puts_none : (d : DeskView) → PutsRequests [] [] d d
puts_none d = record { puts = []; wanted_are = refl; flights_are = refl; each = none [] d refl refl }

pub puts_more : (wanted : List (ℕ × Op)) (flights : List Flight) (o : Op) (f : Flight) (old mid new : DeskView)
    → PutsRequests wanted flights old mid
    → PutsAtLast f.manager o f.handle mid new → PutsRequests (wanted ++ (f.manager, o) ∷ []) (flights ++ f ∷ []) old new
puts_more wanted flights o f old mid new x is =
    let p : Put = record { op = o; flight = f } in
    record {
      puts = x.puts ++ p ∷ [];
      wanted_are = map-append (λ (y : Put). (y.flight.manager, y.op)) x.puts (p ∷ [])
          ∙ ap (λ l. l ++ (f.manager, o) ∷ []) x.wanted_are;
      flights_are = map-append (λ (y : Put). y.flight) x.puts (p ∷ []) ∙ ap (λ l. l ++ f ∷ []) x.flights_are;
      each = more x.puts p mid new x.each is;
    }

pub collects_none : (d : DeskView) → CollectsAll [] true d d
collects_none d = record { gots = []; flights_are = refl; each = none [] d refl refl; all = refl }

pub collects_more : (flights : List Flight) (f : Flight) (ok one : Bool) (old mid new : DeskView)
    → CollectsAll flights ok old mid
    → CollectsOp f.manager f.handle one mid new → CollectsAll (flights ++ f ∷ []) (ok && one) old new
collects_more flights f ok one old mid new x is =
    let g : Got = record { flight = f; ok = one } in
    record {
      gots = x.gots ++ g ∷ [];
      flights_are = map-append (λ (y : Got). y.flight) x.gots (g ∷ []) ∙ ap (λ l. l ++ f ∷ []) x.flights_are;
      each = more x.gots g mid new x.each is;
      all = all_more (λ (y : Got). y.ok) x.gots g ok x.all;
    }

-- ---- the changes at a manager, one more

-- among the first and one more
first_changes : (cs : List Change) (i : ℕ) (c : Change) (m : ℕ) → i < length cs → c ≡ slice_index_or cs i c
    → changes_at (take (i + 1) cs) m ≡ changes_at (take i cs) m ++ cond (c.m == m) (c ∷ []) []
first_changes cs i c m below is =
    filter_more (λ (x : Change). x.m == m) cs i c below
    ∙ (λ j. changes_at (take i cs) m ++ cond ((sym is j).m == m) (sym is j ∷ []) [])

-- a branch's start, and these changes at its manager
abbrev pub begun_of : List Change → Branch → List Op
begun_of cs b = Start b.xid Fresh ∷ map (λ c. Add c.key c.delta) (changes_at cs b.m)

pub begun_here : (cs : List Change) (i : ℕ) (c : Change) (b : Branch) → i < length cs → c ≡ slice_index_or cs i c
    → c.m ≡ b.m
    → begun_of (take (i + 1) cs) b ≡ begun_of (take i cs) b ++ Add c.key c.delta ∷ []
begun_here cs i c b below is e =
    ap (λ (l : List Change). Start b.xid Fresh ∷ map (λ (x : Change). Add x.key x.delta) l)
    (first_changes cs i c b.m below is
    ∙ ap (λ t. changes_at (take i cs) b.m ++ cond t (c ∷ []) []) (eq-eqb c.m b.m e))
    ∙ ap (λ (l : List Op). Start b.xid Fresh ∷ l)
    (map-append (λ (x : Change). Add x.key x.delta) (changes_at (take i cs) b.m) (c ∷ []))

pub begun_elsewhere : (cs : List Change) (i : ℕ) (c : Change) (b : Branch) → i < length cs → c ≡ slice_index_or cs i c
    → c.m ≢ b.m
    → begun_of (take (i + 1) cs) b ≡ begun_of (take i cs) b
begun_elsewhere cs i c b below is e =
    ap (λ (l : List Change). Start b.xid Fresh ∷ map (λ (x : Change). Add x.key x.delta) l)
    (first_changes cs i c b.m below is ∙ ap (λ t. changes_at (take i cs) b.m ++ cond t (c ∷ []) []) (ne_eqb c.m b.m e)
    ∙ append-nil (changes_at (take i cs) b.m))

-- after the last change the end is left
pub begun_all : (cs : List Change) (i : ℕ) (b : Branch) → length cs ≤ i
    → begun_of (take i cs) b ++ End b.xid Success ∷ [] ≡ ops_of cs b
begun_all cs i b past = ap (λ (l : List Change). begun_of l b ++ End b.xid Success ∷ []) (take_all i cs past)

-- the requests of one branch more
pub requests_push : (cs : List Change) (bs : List Branch) (b : Branch)
    → requests_of_branches cs (bs ++ b ∷ []) ≡ requests_of_branches cs bs ++ requests_at cs b
requests_push cs bs b = flat_push (requests_at cs) bs b

-- among the first branches and one more
pub first_requests : (cs : List Change) (bs : List Branch) (i : ℕ) (b : Branch) → i < length bs
    → b ≡ slice_index_or bs i b
    → requests_of_branches cs (take (i + 1) bs) ≡ requests_of_branches cs (take i bs) ++ requests_at cs b
first_requests cs bs i b below is =
    ap (requests_of_branches cs) (one_more bs i b below is) ∙ requests_push cs (take i bs) b

-- how many a branch's are
pub steps_are : (cs : List Change) (b : Branch) → length (ops_of cs b) ≡ steps_in cs b.m
steps_are cs b = grind (arith, length-map, length-append)

-- ---- requests put after others

-- these requests, each with manager m
abbrev pub at_of : ℕ → List Op → List (ℕ × Op)
at_of m ops = map (λ o. (m, o)) ops

-- the flights grew by those of these requests
pub record Adds (wanted : List (ℕ × Op)) (before now : List Flight) (old new : DeskView) : Type 0 where
  pub more : List Flight
  pub grown : now ≡ before ++ more
  pub puts : PutsRequests wanted more old new

pub adds_none : (fs : List Flight) (d : DeskView) → Adds [] fs fs d d
adds_none fs d = record { more = []; grown = sym (append-nil fs); puts = puts_none d }

-- by a request more to manager m
pub adds_one : (m : ℕ) (ops : List Op) (o : Op) (f : Flight) (before now later : List Flight) (old mid new : DeskView)
    → Adds (at_of m ops) before now old mid
    → f.manager ≡ m → PutsAtLast m o f.handle mid new → later ≡ now ++ f ∷ []
    → Adds (at_of m (ops ++ o ∷ [])) before later old new
adds_one m ops o f before now later old mid new x same put is =
    search (arith, append_assoc, map-append, puts_more, x.more, x.puts, f.handle)

-- how many changes are left, with this one
pub left_here : (cs : List Change) (i : ℕ) (c : Change) (m : ℕ) → i < length cs → c ≡ slice_index_or cs i c → c.m ≡ m
    → length (changes_at (drop i cs) m) ≡ suc (length (changes_at (drop (i + 1) cs) m))
left_here cs i c m below is e = grind (arith, at_drop, eq-eqb)

pub left_elsewhere : (cs : List Change) (i : ℕ) (c : Change) (m : ℕ) → i < length cs → c ≡ slice_index_or cs i c
    → c.m ≢ m
    → length (changes_at (drop i cs) m) ≡ length (changes_at (drop (i + 1) cs) m)
left_elsewhere cs i c m below is e = grind (arith, at_drop, ne_eqb)

-- the requests of all branches, after those of the first
pub puts_append : (one two : List (ℕ × Op)) (fs gs : List Flight) (old mid new : DeskView) → PutsRequests one fs old mid
    → PutsRequests two gs mid new
    → PutsRequests (one ++ two) (fs ++ gs) old new
puts_append one two fs gs old mid new x y = search (arith, map-append, chain_append)

-- each request has an answer
pub puts_length : (wanted : List (ℕ × Op)) (fs : List Flight) (old new : DeskView) → PutsRequests wanted fs old new
    → length fs ≡ length wanted
puts_length wanted fs old new x = grind (arith, length-map)

-- how many are left, with those of this branch
pub requests_left : (cs : List Change) (bs : List Branch) (i : ℕ) (b : Branch) → i < length bs
    → b ≡ slice_index_or bs i b
    → length (requests_of_branches cs (drop i bs)) ≡ length (requests_at cs b) + length
    (requests_of_branches cs (drop (i + 1) bs))
requests_left cs bs i b below is = grind (arith, at_drop, length-append)

-- ---- opening

-- the first managers were opened, and whether each answered XA_OK
pub record OpensFirst (n : ℕ) (ok : Bool) (old new : DeskView) : Type 0 where
  pub opens : List OpensAt
  pub managers_are : map (λ o. o.manager) opens ≡ range_with_len 1 n
  pub each : Chain (λ o d e. CallsOp o.manager OpenRm o.ok d e) old opens new
  pub all : ok ≡ list_all (λ o. o.ok) opens

pub opens_none : (d : DeskView) → OpensFirst 0 true d d
opens_none d = record { opens = []; managers_are = refl; each = none [] d refl refl; all = refl }

pub opens_more : (n : ℕ) (ok one : Bool) (old mid new : DeskView) → OpensFirst n ok old mid
    → CallsOp (n + 1) OpenRm one mid new
    → OpensFirst (n + 1) (ok && one) old new
opens_more n ok one old mid new x is =
    let o : OpensAt = record { manager = n + 1; ok = one } in
    record {
      opens = x.opens ++ o ∷ [];
      managers_are = map-append (λ (y : OpensAt). y.manager) x.opens (o ∷ [])
          ∙ ap (λ l. l ++ (n + 1) ∷ []) x.managers_are ∙ sym (range_more n);
      each = more x.opens o mid new x.each is;
      all = all_more (λ (y : OpensAt). y.ok) x.opens o ok x.all;
    }
