-- Where the requests of one thread stand in its manager's settled history, by their numbers, and what they were
-- answered.
use Rattle.xa_base.proofs.{length-map, map-append, ◌≡◌, ◌≢◌, ℕ, suc, ◌+◌, ◌<◌, true, false, ◌==◌, cond, List, [], ◌∷◌}
use Rattle.xa_base.proofs.{◌++◌, length, slice_get, get_or, sym, refl, ap, ◌∙◌, arith, Option, Some, None, filter}
use Rattle.xa_base.proofs.{cons_option, eq-eqb, filter-append, rules, Bool, ◌≤◌, length-append, subst, eqb-false, All}
use Rattle.xa_base.proofs.{All-nil, All-cons, slice_get_within, All-contains, Contains, ◌-◌, ◌||◌, some_same, all_left}
use Rattle.xa_base.proofs.{all_after, all_at, next_there, take-append-drop, take, drop, some_pair_parts}
use Rattle.xa_base.proofs.{get_or_from_slice_get, filter_map-append, get_or_append_left, drop-cons, append_assoc}
use Rattle.xa_base.specs.{Begins}
use Rattle.xa_words.specs.{XidName, Op, Request, Code, RmFail}
use Rattle.laws_tables.proofs.UnnamedLaw.{tables_after-append}
use Rattle.xa_tables.specs.{Tables, next, Fate, of_thread, tables_after, coded, fate_of, fate_in, fates_in, last_or}
use Rattle.xa_tables.specs.{History, IsOpening}
use Rattle.xa_desk.specs.{numbered, is_rm_fail}
use Rattle.xa_switch.specs.{answers, IsOpenedWith, IsSettled, Settling, first_of}
use Rattle.laws_commit.specs.{Tabled}
use Rattle.xa_driver.proofs.Requests.{numbered_length}
use Rattle.std.proofs.lemmas.List.{get_or-append_right, length-take-le}

-- each manager of a settled opening was opened with some tables, and with those that it has for its first
abbrev pub OpensWithSome : Type 0
OpensWithSome = (s : Settling) (m : ℕ) → IsSettled s → (T : Tables) × IsOpenedWith s m T

abbrev pub OpensWithFirst : Type 0
OpensWithFirst = (s : Settling) (m : ℕ) (T : Tables) → IsSettled s → first_of s m ≡ Some T → IsOpenedWith s m T

-- thread t's request of number n
abbrev pub request_of : ℕ → ℕ → Op → Request
request_of t n op = record { thread = t; number = n; op = op }

pub at_seam : {A : Type 0} (xs : List A) (y : A) (ys : List A) → slice_get (xs ++ y ∷ ys) (length xs) ≡ Some y
at_seam xs y ys = next_there (xs ++ y ∷ ys) xs ys y refl

-- ---- a history, parted at a request of the thread

pub record Parted (t : ℕ) (xs ys : History) (r : Request) (h : History) : Type 0 where
  pub before : History
  pub after : History
  pub place : h ≡ before ++ r ∷ after
  pub earlier : of_thread t before ≡ xs
  pub later : of_thread t after ≡ ys

module _ (t : ℕ) where
  put : (q : Request) (h xs zs ys : History) (r : Request) (p : Parted t zs ys r h) → of_thread t (q ∷ p.before) ≡ xs
      → Parted t xs ys r (q ∷ h)
  put q h xs zs ys r p e =
      record { before = q ∷ p.before; after = p.after; place = ap (λ l. q ∷ l) p.place; earlier = e; later = p.later }

  part_first : (q : Request) (h : History) (xs ys : History) (r : Request) → (q.thread == t) ≡ true
      → q ∷ of_thread t h ≡ xs ++ r ∷ ys
      → ((zs : History) → of_thread t h ≡ zs ++ r ∷ ys → Parted t zs ys r h) → Parted t xs ys r (q ∷ h)
  part_first q h [] ys r own e on =
      let head : q ≡ r = cc in
      let tail : of_thread t h ≡ ys = cc in
      record { before = []; after = h; place = ap (λ (p : Request). p ∷ h) head; earlier = refl; later = tail }
  part_first q h (z ∷ zs) ys r own e on =
      let head : q ≡ z = cc in
      let tail : of_thread t h ≡ zs ++ r ∷ ys = cc in
      let p = on zs tail in
      put q h (z ∷ zs) zs ys r p
      (ap (λ b. cond b (q ∷ of_thread t p.before) (of_thread t p.before)) own ∙ (λ i. head i ∷ p.earlier i))

  pub part : (h : History) (xs ys : History) (r : Request) → of_thread t h ≡ xs ++ r ∷ ys → Parted t xs ys r h
  part [] [] ys r e = cc
  part [] (x ∷ xs) ys r e = cc
  part (q ∷ h) xs ys r e =
      elim (q.thread == t) as
      (λ b. (q.thread == t) ≡ b → cond b (q ∷ of_thread t h) (of_thread t h) ≡ xs ++ r ∷ ys
      → Parted t xs ys r (q ∷ h)) [
        | true ↦ λ own e. part_first q h xs ys r own e (λ zs tail. part h zs ys r tail)
        | false ↦ λ other e.
            let p = part h xs ys r e in
            put q h xs xs ys r p (ap (λ b. cond b (q ∷ of_thread t p.before) (of_thread t p.before)) other ∙ p.earlier)
      ] refl e

  -- ---- the answers

  answers_length : (h : History) (T : Tables) → length (answers t (coded h T)) ≡ length (of_thread t h)
  answers_length [] T = refl
  answers_length (r ∷ h) T = search (arith, answers_length h (next r.thread r.op T).0, length-map, filter)

  pub coded_both : (h g : History) (T : Tables) → coded (h ++ g) T ≡ coded h T ++ coded g (tables_after h T)
  coded_both [] g T = refl
  coded_both (r ∷ h) g T = ap (λ l. (r, (next r.thread r.op T).1) ∷ l) (coded_both h g (next r.thread r.op T).0)

  -- what a request of the thread is answered, after n others of it
  pub answer_at : (before after : History) (r : Request) (T : Tables) (n : ℕ) → r.thread ≡ t
      → length (of_thread t before) ≡ n
      → slice_get (answers t (coded (before ++ r ∷ after) T)) n ≡ Some
      (r.number, (next r.thread r.op (tables_after before T)).1)
  answer_at before after r T n own count =
      search (arith, eq-eqb, slice_get, coded_both, filter-append, map-append, answers_length, at_seam, r.thread, r.op)

-- numbers
pub numbered_both : (t n : ℕ) (xs ys : List Op)
    → numbered t n (xs ++ ys) ≡ numbered t n xs ++ numbered t (n + length xs) ys
numbered_both t n [] ys = ap (λ k. numbered t k ys) (let e : n ≡ n + 0 = omega arith in e)
numbered_both t n (x ∷ xs) ys = search (arith, numbered_both t (suc n) xs ys)

-- the code of an answer
pub same_code : (o : Option (ℕ × Code)) (n m : ℕ) (c d : Code) → o ≡ Some (n, c) → o ≡ Some (m, d) → c ≡ d
same_code o n m c d e f = (some_pair_parts n m c d (sym e ∙ f)).1

-- ---- fates

-- the fates that a history gives x, one by one
abbrev pub fates : XidName → History → Tables → List Fate
fates x h T = fates_in x (coded h T)

pub fates_both : (x : XidName) (h g : History) (T : Tables)
    → fates x (h ++ g) T ≡ fates x h T ++ fates x g (tables_after h T)
fates_both x h g T = search (arith, coded_both, filter_map-append)

pub last_both : (f : Fate) (xs ys : List Fate) → last_or f (xs ++ ys) ≡ last_or (last_or f xs) ys
last_both f [] ys = refl
last_both f (x ∷ xs) ys = last_both x xs ys

-- the fate is what a request makes of the branch, where nothing after it makes anything of it
pub fate_is : (x : XidName) (before after : History) (r : Request) (T : Tables) (f0 f : Fate)
    → fate_of x r.op (next r.thread r.op (tables_after before T)).1 ≡ Some f
    → fates x after (next r.thread r.op (tables_after before T)).0 ≡ []
    → fate_in x f0 (coded (before ++ r ∷ after) T) ≡ f
fate_is x before after r T f0 f e none = search (arith, fates_both, cons_option, last_both)

pub none_first : (x : XidName) (r : Request) (h : History) (T : Tables) → fate_of x r.op (next r.thread r.op T).1 ≡ None
    → fates x h (next r.thread r.op T).0 ≡ [] → fates x (r ∷ h) T ≡ []
none_first x r h T e f = λ i. cons_option (e i) (f i)

-- what is known of each that was sent, and its number, is known of each of the thread's requests
pub of_ops : (t : ℕ) (Q : ℕ → Op → Type 0) (h : History) (n : ℕ) (ops : List Op) → of_thread t h ≡ numbered t n ops
    → ((k : ℕ) (op : Op) → slice_get ops k ≡ Some op → Q (n + k) op) → All (λ r. r.thread ≡ t → Q r.number r.op) h
of_ops t Q [] n ops e known = All-nil (λ (r : Request). r.thread ≡ t → Q r.number r.op)
of_ops t Q (q ∷ h) n ops e known =
    let P : Request → Type 0 = λ r. r.thread ≡ t → Q r.number r.op in
    elim (q.thread == t) as
    (λ b. (q.thread == t) ≡ b → cond b (q ∷ of_thread t h) (of_thread t h) ≡ numbered t n ops → All P (q ∷ h)) [
      | false ↦ λ other e. All-cons P q h (λ own. absurd (eqb-false q.thread t other own)) (of_ops t Q h n ops e known)
      | true ↦ λ mine.
          elim ops as
          (λ o. ((k : ℕ) (op : Op) → slice_get o k ≡ Some op → Q (n + k) op) → q ∷ of_thread t h ≡ numbered t n o
          → All P (q ∷ h)) [
            | [] ↦ λ known e. cc
            | op ∷ rest ↦ λ known e.
                let head : q ≡ request_of t n op = cc in
                let tail : of_thread t h ≡ numbered t (suc n) rest = cc in
                let number : n + 0 ≡ q.number = let z = ap (λ (p : Request). p.number) head in omega (arith, z) in
                let here : Q q.number q.op = search (arith, rules) in
                All-cons P q h (λ _. here)
                (of_ops t Q h (suc n) rest tail
                (λ k o at. subst (λ j. Q j o) (let z : n + suc k ≡ suc n + k = omega arith in z)
                (known (suc k) o at)))
          ] known
    ] refl e

-- nothing of the thread
pub all_others : (t : ℕ) (h : History) → of_thread t h ≡ [] → (k : ℕ) (d : Request) → k < length h
    → (get_or h k d).thread ≢ t
all_others t h e = of_ops t (λ _ _. ⊥) h 0 [] e (λ k op at. cc)

-- so the numbers of the thread's requests rise, and are below how many there are
pub all_later : (t : ℕ) (h : History) (n : ℕ) (ops : List Op) → of_thread t h ≡ numbered t n ops
    → All (λ r. r.thread ≡ t → n ≤ r.number) h
all_later t h n ops e = of_ops t (λ j op. n ≤ j) h n ops e (λ k op at. omega arith)

pub all_earlier : (t : ℕ) (h : History) (n : ℕ) (ops : List Op) → of_thread t h ≡ numbered t n ops
    → All (λ r. r.thread ≡ t → r.number < n + length ops) h
all_earlier t h n ops e =
    of_ops t (λ j op. j < n + length ops) h n ops e
    (λ k op at. let within = slice_get_within ops k op at in omega (arith, within))

-- what is known of each that was sent
pub own_all : (t : ℕ) (P : Op → Type 0) (h : History) (n : ℕ) (ops : List Op) → of_thread t h ≡ numbered t n ops
    → All P ops
    → All (λ r. r.thread ≡ t → P r.op) h
own_all t P h n ops e all = of_ops t (λ k op. P op) h n ops e (λ k op at. all_at P ops k op all at)

-- what is known of each that was sent from one number to another
abbrev pub IsFromTo : (Op → Type 0) → ℕ → ℕ → ℕ → Op → Type 0
IsFromTo P from to n op = from ≤ n → n < to → P op

pub own_sent : (t : ℕ) (P : Op → Type 0) (h : History) (ops old new more : List Op) → of_thread t h ≡ numbered t 0 ops
    → Begins new ops → new ≡ old ++ more
    → All P more → All (λ r. r.thread ≡ t → IsFromTo P (length old) (length new) r.number r.op) h
own_sent t P h ops old new more e begins is all =
    of_ops t (IsFromTo P (length old) (length new)) h 0 ops e (λ k op at from to.
    let past : length old ≤ k = omega (arith, from) in
    let within : k - length old < length more = let size = ap length is in
    omega (arith, from, to, size, length-append old more) in
    let there : slice_get (old ++ (more ++ begins.0)) k ≡ Some op =
    ap (λ l. slice_get l k) (sym (begins.1 ∙ ap (λ l. l ++ begins.0) is ∙ append_assoc old more begins.0)) ∙ at in
    let is : get_or more (k - length old) op ≡ op =
    sym (get_or-append_right old (more ++ begins.0) (length old) k op refl past
    ∙ get_or_append_left more begins.0 op (k - length old) within)
    ∙ get_or_from_slice_get (old ++ (more ++ begins.0)) k op op there in
    rw is at (all (k - length old) op within))

pub own_between : (t : ℕ) (P : Op → Type 0) (h : History) (pre mid post : List Op)
    → of_thread t h ≡ numbered t 0 (pre ++ (mid ++ post)) → All P mid
    → All (λ r. r.thread ≡ t → IsFromTo P (length pre) (length pre + length mid) r.number r.op) h
own_between t P h pre mid post e all =
    rw (length-append pre mid) at
    (own_sent t P h (pre ++ (mid ++ post)) pre (pre ++ mid) mid e (post, sym (append_assoc pre mid post)) refl all)

-- it is the one that was collected
pub code_there : (t : ℕ) (H : History) (T : Tables) (pairs : List (ℕ × Code)) (n : ℕ) (code : Code)
    → All (λ p. slice_get (answers t (coded H T)) p.0 ≡ Some p) pairs → Contains pairs (n, code)
    → (before after : History) (op : Op) → H ≡ before ++ request_of t n op ∷ after → length (of_thread t before) ≡ n
    → code ≡ (next t op (tables_after before T)).1
code_there t H T pairs n code answered collected before after op place count =
    search (arith, slice_get, answer_at, same_code, All-contains)

-- how many of the thread's stand before the second of two of its requests
pub count_two : (t n : ℕ) (op : Op) (before mid : History) (xs ys : List Op) → of_thread t before ≡ numbered t 0 xs
    → of_thread t mid ≡ numbered t (suc n) ys
    → length (of_thread t (before ++ request_of t n op ∷ mid)) ≡ suc (length xs) + length ys
count_two t n op before mid xs ys first second =
    search (arith, request_of, eq-eqb, numbered_length, filter-append, length-append)

-- ---- a thread and a manager of a settled opening

-- The manager began with the tables T and has the history H, in which the thread's requests have their numbers.
pub record Site (t : ℕ) (T : Tables) (H : History) : Type 0 where
  pub law : Tabled
  pub opening : IsOpening T
  pub ops : List Op
  pub carried : of_thread t H ≡ numbered t 0 ops

-- The thread's request of number n has this op and this code in the history.
pub record StandsIn (t n : ℕ) (op : Op) (c : Code) (T : Tables) (H : History) : Type 0 where
  pub before : History
  pub after : History
  pub place : H ≡ before ++ request_of t n op ∷ after
  pub code : c ≡ (next t op (tables_after before T)).1

-- How many requests the thread has sent, and whether it has heard that the manager is shut.
pub record Sent : Type 0 where
  pub number : ℕ
  pub shut : Bool

-- It asks the manager of an op: its next request has that op, and this code; or it asks nothing, since it has heard
-- that
-- the manager is shut.
pub data AsksIn (t : ℕ) (T : Tables) (H : History) (old : Sent) (op : Op) (new : Sent) (code : Code) : Type 0 where
  asks : StandsIn t old.number op code T H → (old.shut ≡ true → code ≡ RmFail)
      → new ≡ record { number = suc old.number; shut = old.shut || is_rm_fail code } → AsksIn t T H old op new code
  withholds : old.shut ≡ true → code ≡ RmFail → new ≡ old → AsksIn t T H old op new code

-- ---- a request in its place

-- a request among those with rising numbers: what was sent before it and after it
pub record Sides (t n : ℕ) (op : Op) (xs ys : History) (k : ℕ) (ops : List Op) : Type 0 where
  pub pre : List Op
  pub post : List Op
  pub earlier : xs ≡ numbered t k pre
  pub many : k + length pre ≡ n
  pub later : ys ≡ numbered t (suc n) post
  pub sent : ops ≡ pre ++ op ∷ post

pub sides : (t n : ℕ) (op : Op) (xs ys : History) (k : ℕ) (ops : List Op)
    → xs ++ request_of t n op ∷ ys ≡ numbered t k ops → Sides t n op xs ys k ops
sides t n op [] ys k (o ∷ ops) e =
    let head : request_of t n op ≡ request_of t k o = cc in
    let tail : ys ≡ numbered t (suc k) ops = cc in
    let number : n ≡ k = ap (λ (r : Request). r.number) head in
    record {
      pre = [];
      post = ops;
      earlier = refl;
      many = omega (arith, number);
      later = tail ∙ ap (λ j. numbered t (suc j) ops) (sym number);
      sent = ap (λ (r : Request). r.op ∷ ops) (sym head);
    }
sides t n op (x ∷ xs) ys k (o ∷ ops) e =
    let head : x ≡ request_of t k o = cc in
    let tail : xs ++ request_of t n op ∷ ys ≡ numbered t (suc k) ops = cc in
    let z = sides t n op xs ys (suc k) ops tail in
    record {
      pre = o ∷ z.pre;
      post = z.post;
      earlier = λ i. head i ∷ z.earlier i;
      many = omega (arith, z.many);
      later = z.later;
      sent = ap (λ l. o ∷ l) z.sent;
    }
sides t n op xs ys k ops e = cc

module _ {t : ℕ} {T : Tables} {H : History} (s : Site t T H) where
  sides_at : (n : ℕ) (op : Op) (before after : History) → H ≡ before ++ request_of t n op ∷ after
      → Sides t n op (of_thread t before) (of_thread t after) 0 s.ops
  sides_at n op before after place = search (arith, sides, filter-append, request_of, eq-eqb)

  -- it is answered so wherever it stands
  pub answered_here : (n : ℕ) (op : Op) (before after : History) → H ≡ before ++ request_of t n op ∷ after
      → slice_get (answers t (coded H T)) n ≡ Some (n, (next t op (tables_after before T)).1)
  answered_here n op before after place =
      search (arith, slice_get, answer_at, request_of, numbered_length, (sides_at n op before after place).many)

  abbrev pub at_place : (n : ℕ) (op : Op) (c : Code) → StandsIn t n op c T H → (before after : History)
      → H ≡ before ++ request_of t n op ∷ after
      → StandsIn t n op c T H
  at_place n op c z before after place = record {
    before = before;
    after = after;
    place = place;
    code = z.code
        ∙ same_code _ n n _ _ (answered_here n op z.before z.after z.place) (answered_here n op before after place);
  }

-- what was sent with a number, and answered by a code, stands in the history
pub stands_by : {t : ℕ} {T : Tables} {H : History} (s : Site t T H) (n : ℕ) (op : Op) (c : Code)
    → slice_get s.ops n ≡ Some op
    → slice_get (answers t (coded H T)) n ≡ Some (n, c) → StandsIn t n op c T H
stands_by {t} {T} {H} s n op c sent answered =
    let below : n < length s.ops = slice_get_within s.ops n op sent in
    let size : length (take n s.ops) ≡ n = length-take-le n s.ops (omega (arith, below)) in
    let whole : s.ops ≡ take n s.ops ++ op ∷ drop (suc n) s.ops = sym (take-append-drop n s.ops)
    ∙ ap (λ l. take n s.ops ++ l)
    (drop-cons s.ops n op below ∙ ap (λ o. o ∷ drop (suc n) s.ops) (get_or_from_slice_get s.ops n op op sent)) in
    let number : 0 + length (take n s.ops) ≡ n = omega (arith, size) in
    let p =
    part t H (numbered t 0 (take n s.ops)) (numbered t (suc n) (drop (suc n) s.ops)) (request_of t n op)
    (s.carried ∙ ap (numbered t 0) whole ∙ numbered_both t 0 (take n s.ops) (op ∷ drop (suc n) s.ops) ∙ ap
    (λ k. numbered t 0 (take n s.ops) ++ numbered t k (op ∷ drop (suc n) s.ops)) number) in
    record {
      before = p.before;
      after = p.after;
      place = p.place;
      code = same_code _ n n c _ answered (answered_here s n op p.before p.after p.place);
    }

-- ---- two of the thread's requests

-- the thread's own there have lower numbers
abbrev Below : ℕ → ℕ → History → Type 0
Below t n h = All (λ r. r.thread ≡ t → r.number < n) h

module _ {t : ℕ} {T : Tables} {H : History} (s : Site t T H) (n : ℕ) (op : Op) (before after : History)
    (place : H ≡ before ++ request_of t n op ∷ after) where
  pub below : Below t n before
  below k d lt own =
      let z = sides_at s n op before after place in
      let up = all_earlier t before 0 z.pre z.earlier k d lt own in let many = z.many in omega (arith, up, many)

  pub above : All (λ r. r.thread ≡ t → n < r.number) after
  above k d lt own =
      let z = sides_at s n op before after place in
      let up = all_later t after (suc n) z.post z.later k d lt own in omega (arith, up)

-- one has a higher number, and stands later
pub record Later (b : History) (r : Request) (a : History) (c : History) (q : Request) (d : History) : Type 0 where
  pub mid : History
  pub before : c ≡ b ++ r ∷ mid
  pub after : a ≡ mid ++ q ∷ d

pub later_place : (t : ℕ) (b c : History) (r q : Request) (a d : History) → b ++ r ∷ a ≡ c ++ q ∷ d → q.thread ≡ t
    → r.number < q.number → Below t r.number b
    → Later b r a c q d
later_place t [] [] r q a d e its more low = search (arith, rules)
later_place t [] (p ∷ c) r q a d e its more low = search (arith, rules)
later_place t (p ∷ b) [] r q a d e its more low =
    let head : p ≡ q = cc in
    let less = low 0 p (omega arith) (ap (λ (z : Request). z.thread) head ∙ its) in
    let number : p.number ≡ q.number = ap (λ (z : Request). z.number) head in
    absurd (omega (arith, less, number, more))
later_place t (p ∷ b) (o ∷ c) r q a d e its more low =
    let head : p ≡ o = cc in
    let tail : b ++ r ∷ a ≡ c ++ q ∷ d = cc in
    let z = later_place t b c r q a d tail its more (λ k d lt. low (suc k) d (omega (arith, lt))) in
    record { mid = z.mid; before = λ i. sym head i ∷ z.before i; after = z.after }

module _ {t : ℕ} {T : Tables} {H : History} (s : Site t T H) where
  -- the op that was sent with a number is that of the thread's request, so there is no other of that number
  pub only_op : (n : ℕ) (op : Op) (c : Code) → StandsIn t n op c T H
      → All (λ r. r.thread ≡ t → r.number ≡ n → r.op ≡ op) H
  only_op n op c f k d lt own number =
      let z = sides_at s n op f.before f.after f.place in
      let many : n ≡ length z.pre = let e = z.many in omega (arith, e) in
      let sent =
      of_ops t (λ j o. slice_get s.ops j ≡ Some o) H 0 s.ops s.carried
      (λ j o e. ap (slice_get s.ops) (let z : 0 + j ≡ j = omega arith in z) ∙ e) k d lt own in
      some_same (get_or H k d).op op
      (sym sent ∙ ap (slice_get s.ops) number ∙ (λ i. slice_get (z.sent i) (many i)) ∙ at_seam z.pre op z.post)

  -- the thread's next request after one: what is between the two is of other threads
  pub record Second (n : ℕ) (op : Op) (c : Code) (f : StandsIn t n op c T H) (then_ : Op) (d : Code) : Type 0 where
    pub mid : History
    pub rest : History
    pub split : f.after ≡ mid ++ request_of t (suc n) then_ ∷ rest
    pub others : (k : ℕ) (d : Request) → k < length mid → (get_or mid k d).thread ≢ t
    pub later : (k : ℕ) (d : Request) → k < length rest → (get_or rest k d).thread ≡ t
        → suc (suc n) ≤ (get_or rest k d).number
    pub there_is : tables_after (f.before ++ request_of t n op ∷ mid) T ≡ tables_after mid
        (next t op (tables_after f.before T)).0
    pub place : H ≡ (f.before ++ request_of t n op ∷ mid) ++ request_of t (suc n) then_ ∷ rest
    pub code : d ≡ (next t then_ (tables_after mid (next t op (tables_after f.before T)).0)).1

  pub second_of : (n : ℕ) (op : Op) (c : Code) (f : StandsIn t n op c T H) (then_ : Op) (d : Code)
      → StandsIn t (suc n) then_ d T H → Second n op c f then_ d
  second_of n op c f then_ d g =
      let z =
      later_place t f.before g.before (request_of t n op) (request_of t (suc n) then_) f.after g.after
      (sym f.place ∙ g.place) refl (omega arith) (below s n op f.before f.after f.place) in
      let there_is : tables_after (f.before ++ request_of t n op ∷ z.mid) T ≡ tables_after z.mid
      (next t op (tables_after f.before T)).0 =
      tables_after-append f.before (request_of t n op ∷ z.mid) T in
      let low : All (λ r. r.thread ≡ t → r.number < suc n) z.mid =
      all_after (λ (r : Request). r.thread ≡ t → r.number < suc n) f.before (request_of t n op) z.mid
      (rw z.before at (below s (suc n) then_ g.before g.after g.place)) in
      let high : All (λ r. r.thread ≡ t → n < r.number) z.mid =
      all_left (λ (r : Request). r.thread ≡ t → n < r.number) z.mid (request_of t (suc n) then_ ∷ g.after)
      (rw z.after at (above s n op f.before f.after f.place)) in
      record {
        mid = z.mid;
        rest = g.after;
        split = z.after;
        others = λ k e lt own. let down = low k e lt own in let up = high k e lt own in omega (arith, down, up);
        later = λ k e lt own. let up = above s (suc n) then_ g.before g.after g.place k e lt own in omega (arith, up);
        there_is = there_is;
        place = g.place ∙ ap (λ (h : History). h ++ request_of t (suc n) then_ ∷ g.after) z.before;
        code = g.code ∙ ap (λ (h : History). (next t then_ (tables_after h T)).1) z.before
            ∙ ap (λ (U : Tables). (next t then_ U).1) there_is;
      }
