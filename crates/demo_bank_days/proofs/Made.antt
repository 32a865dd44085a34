-- What a transfer is to an account at a store, by its legs; what many are together; and that they leave what all
-- accounts are worth.
use Rattle.xa_base.proofs.{subst, false_from_ne_true, one_counted, total_append, ℤ, pos, ◌+ℤ◌, if◌then◌else◌, ◌≡◌, ◌≢◌}
use Rattle.xa_base.proofs.{ℕ, Bool, true, false, List, [], ◌∷◌, ◌++◌, sym, refl, ap, ◌∙◌, arith, eq-eqb}
use Rattle.xa_base.proofs.{+ℤ_idl as none_plus, +ℤ_idr as plus_none, ints, ne_eqb, map, get_or, All, All-nil, All-cons}
use Rattle.xa_base.proofs.{All-head, All-tail, All-append, All-weaker, by_bool, none_twice, ◌+◌, ◌^◌, ◌<◌, ◌≤◌, ◌⊎◌}
use Rattle.xa_base.proofs.{◌||◌, None, Some, inl, inr, list_any, cases_eq, Contains, neg_ℤ, AllByRecursion, unwrap_or}
use Rattle.xa_base.proofs.{◌&&◌, ◌-◌, not, ◌==◌, Option, length, get-from_entries, and_parts, eqb-true, not-true}
use Rattle.xa_base.proofs.{all_at, got, range_all, total_across, total_alike, total_both, total_nothing, total_same}
use Rattle.std.specs.List.{IsDistinct}
use Rattle.xa_base.specs.{total, IsUpTo}
use Rattle.xa_words.specs.{key_eq, XidName, xid_eq, Decides-xid_eq, TranName, tran_of, Op, Decides-key_eq}
use Rattle.xa_words.specs.{key_cmp_total, are_accounts, are_apart}
use Rattle.laws_balances.specs.{DayLeg, counted_for, ComesOutByTheLog, leg_of}
use Rattle.demo_bank.specs.{Transfer, AreLegs, Habits, death_in, shut_before, Makes, MakesNext, branches_of_legs}
use Rattle.demo_bank.specs.{changes_of, tran_of_transfer, with_legs, without_legs}
use Rattle.demo_bank.proofs.Legs.{AnyLeg, leg_work}
use Rattle.demo_bank_days.specs.{Balances, all_applied, applied, transfer_share, IsGtridOfTransfer, is_applied}
use Rattle.demo_bank_days.specs.{balances_at, IsWithin}
use Rattle.xa_words.proofs.Xids.{xid_self}
use Rattle.laws_tables.proofs.WorthLaw.{worth_law}
use Rattle.xa_tables.specs.{Tables, state_of, names, DeclareEach, opening, is_declared, value_of, worth, worth_declared}
use Rattle.xa_desk.specs.{LedgerView, DeskView, ledger}
use Rattle.xa_switch.specs.{Again, Settling, first_of, ledgers_of, ManagerPlan, Plan, last_in, IsSound, IsSoundManager}
use Rattle.xa_switch.specs.{ManagerPart, find_manager, value, value_in, accounts_in, accounts_of, managers_of_plan}
use Rattle.xa_switch.specs.{plan_worth, settled_worth}
use Rattle.xa_log.specs.{LogState, Records, record_in, record_of}
use Rattle.xa_driver.specs.{is_commit, MayCommit, has_branch_at}
use Rattle.laws_commit.specs.{is_recorded, ResolveCall}
use Rattle.xa_work.specs.declared.unit.Refusal.{Refusal}
use Rattle.xa_work.specs.{Change, GivenUp, WorkOutcome, Refused, HasSent, HaveSent, IsFor, IfLost, IsRefused}
use Rattle.xa_work.specs.Units.IsRefused.{unbegun, undone, barred}
use Rattle.xa_work.specs.Units.Transacts.{commits, refused}
use Rattle.xa_work.proofs.Sent.{none_sent, sent_on, sent_as, have_on}
use Rattle.demo_bank.proofs.Named.{IsOf, IsFrom, IsShut, LegsOf, Names, comes_names, either_named, legs_are, shut_names}
use Rattle.demo_bank.proofs.Named.{shut_sent, work_names, Earlier, IsBelow, earlier_on, if_both}
use Rattle.demo_bank_days.proofs.Come.{HasCome, IsReadSo, has_come}
use Rattle.demo_bank_days.proofs.Went.{left_is}
use Rattle.demo_bank_days.proofs.Out.{Committed, IsScene, ItsLeg, call, day, first_leg, night, out_of, second_leg}
use Rattle.laws_balances.proofs.InARow.{opens_with}

-- one
module _ (tr : Transfer) (m : ℕ) (k : List ℕ) where
  abbrev pub Part : ℤ → ℤ
  Part v = if key_eq k tr.account then v else pos 0

  share_pays : tr.from ≡ m → tr.to ≢ m → transfer_share tr m k ≡ Part (neg_ℤ (pos tr.amount))
  share_pays is isnt = search (arith, eq-eqb, ne_eqb, none_plus)

  share_paid : tr.to ≡ m → tr.from ≢ m → transfer_share tr m k ≡ Part (pos tr.amount)
  share_paid is isnt = search (arith, eq-eqb, ne_eqb, plus_none)

  share_none : tr.to ≢ m → tr.from ≢ m → transfer_share tr m k ≡ pos 0
  share_none p q = search (arith, ne_eqb, none_plus)

  module _ (t n : ℕ) (one two : AnyLeg) where
    pub first_share : AreLegs t n tr one two → one.branch.m ≡ m → transfer_share tr m k ≡ Part one.delta
    first_share h at = search (arith, share_pays, share_paid)

    pub second_share : AreLegs t n tr one two → two.branch.m ≡ m → transfer_share tr m k ≡ Part two.delta
    second_share h at = search (arith, share_paid, share_pays)

    pub no_share : AreLegs t n tr one two → one.branch.m ≢ m → two.branch.m ≢ m → transfer_share tr m k ≡ pos 0
    no_share h p q = search (arith, share_none)

-- ---- many

-- what a transfer counts for, by whether it was applied
abbrev pub counts_for : ℕ → List ℕ → Transfer × Bool → ℤ
counts_for m k e = if e.1 then transfer_share e.0 m k else pos 0

-- all of them together are added
pub all_applied_is : (es : List (Transfer × Bool)) (B : Balances) (m : ℕ) (k : List ℕ)
    → all_applied es B m k ≡ B m k +ℤ total (counts_for m k) es
all_applied_is [] B m k = sym (plus_none (B m k))
all_applied_is ((tr, true) ∷ es) B m k = omega (arith, ints, all_applied_is es (applied tr true B) m k)
all_applied_is ((tr, false) ∷ es) B m k = omega (arith, ints, all_applied_is es (applied tr false B) m k)

-- ---- legs that count for them

apart_from : (x : XidName) (xs ys : List DayLeg) → AllByRecursion (λ y. xid_eq x y ≡ false) (map (λ g. g.xid) xs)
    → All (λ g. xid_eq x g.xid ≡ false) ys
    → AllByRecursion (λ y. xid_eq x y ≡ false) (map (λ (g : DayLeg). g.xid) (xs ++ ys))
apart_from x [] [] h all = tt
apart_from x [] (y ∷ ys) h all = (
  All-head (λ (g : DayLeg). xid_eq x g.xid ≡ false) y ys all,
  apart_from x [] ys tt
      (All-tail (λ (g : DayLeg). xid_eq x g.xid ≡ false) y ys all),
)
apart_from x (z ∷ xs) ys h all = (h.0, apart_from x xs ys h.1 all)

-- those of two lists are of different branches, where none of the one is of one of the other's
both_once : (xs ys : List DayLeg) → IsDistinct xid_eq (map (λ g. g.xid) xs) → IsDistinct xid_eq (map (λ g. g.xid) ys)
    → All (λ f. All (λ g. xid_eq f.xid g.xid ≡ false) ys) xs
    → IsDistinct xid_eq (map (λ (g : DayLeg). g.xid) (xs ++ ys))
unfolding IsDistinct
both_once [] ys h k apart = k
both_once (x ∷ xs) ys h k apart =
    let P : DayLeg → Type 0 = λ f. All (λ g. xid_eq f.xid g.xid ≡ false) ys in
    (apart_from x.xid xs ys h.0 (All-head P x xs apart), both_once xs ys h.1 k (All-tail P x xs apart))

once_alone : (x : XidName) → IsDistinct xid_eq (x ∷ [])
unfolding IsDistinct
once_alone x = (tt, tt)

-- Legs that came out so, each of one of its owner's branches and no two of the same: what they count for together, and
-- what is noted of them.
pub record LegsSo (Out : DayLeg → Type 0) (Own : XidName → Type 0) (v : ℤ) (Notes : List DayLeg → Type 0) : Type 0 where
  pub legs : List DayLeg
  pub outs : All Out legs
  pub own : All (λ g. Own g.xid) legs
  pub once : IsDistinct xid_eq (map (λ g. g.xid) legs)
  pub sum : total counted_for legs ≡ v
  pub notes : Notes legs

pub no_legs : {Out : DayLeg → Type 0} {Own : XidName → Type 0} {v : ℤ} {Notes : List DayLeg → Type 0} → pos 0 ≡ v
    → Notes []
    → LegsSo Out Own v Notes
no_legs {Out} {Own} sum notes = search (arith, All-nil, none_twice)

pub one_leg : {Out : DayLeg → Type 0} {Own : XidName → Type 0} {v : ℤ} {Notes : List DayLeg → Type 0} (g : DayLeg)
    → Out g
    → Own g.xid → counted_for g ≡ v → Notes (g ∷ [])
    → LegsSo Out Own v Notes
one_leg {Out} {Own} g out own sum notes = search (arith, All-cons, All-nil, once_alone, plus_none)

-- those of another owner too
pub legs_as : {Out : DayLeg → Type 0} {P Q : XidName → Type 0} {v : ℤ} {M N : List DayLeg → Type 0}
    (a : LegsSo Out P v M)
    → ((x : XidName) → P x → Q x)
    → (M a.legs → N a.legs) → LegsSo Out Q v N
legs_as {P = P} {Q = Q} a also notes = search (arith, All-weaker, a.legs)

-- those of two owners, together
pub both_legs : {Out : DayLeg → Type 0} {O P Q : XidName → Type 0} {u v : ℤ} {M N S : List DayLeg → Type 0}
    (a : LegsSo Out O u M) (b : LegsSo Out P v N)
    → ((x : XidName) → O x → Q x) → ((x : XidName) → P x → Q x) → ((x : XidName) → O x → P x → ⊥)
    → (M a.legs → N b.legs → S (a.legs ++ b.legs))
    → LegsSo Out Q (u +ℤ v) S
both_legs {Out = Out} {O = O} {P = P} {Q = Q} a b here there never notes = record {
  legs = a.legs ++ b.legs;
  outs = All-append Out a.legs b.legs a.outs b.outs;
  own =
      All-append (λ (g : DayLeg). Q g.xid) a.legs b.legs
      (All-weaker (λ (g : DayLeg). O g.xid) (λ g. Q g.xid) (λ g. here g.xid) a.legs a.own)
      (All-weaker (λ (g : DayLeg). P g.xid) (λ g. Q g.xid) (λ g. there g.xid) b.legs b.own);
  once = both_once a.legs b.legs a.once b.once (λ i f lt k g below. false_from_ne_true _ (λ same.
      never _ (subst O ((Decides-xid_eq _ _).0 same) (a.own i f lt)) (b.own k g below)));
  sum = total_append counted_for a.legs b.legs ∙ (λ i. a.sum i +ℤ b.sum i);
  notes = notes a.notes b.notes;
}

-- The log was read so after thread t's transfer of number n, of which nobody knew whether its record was made, and this
-- was
-- found.
pub record IsFoundSo (R : LogState → Type 0) (t n : ℕ) (found : Bool) (later : LogState) : Type 0 where
  pub may : R later
  pub found_ : n < 2 ^ 32 → found ≡ is_recorded later (tran_of_transfer t n)

-- ---- which branch a request names

both_named : (z y x : XidName) → xid_eq z y ≡ true → xid_eq z x ≡ true → xid_eq y x ≡ true
both_named z y x e f = (Decides-xid_eq y x).1 (sym ((Decides-xid_eq z y).0 e) ∙ (Decides-xid_eq z x).0 f)

-- it names one alone
pub one_name : (y x : XidName) (op : Op) → names y op ≡ true → names x op ≡ true → xid_eq y x ≡ true
one_name y x op e f = search (arith, both_named)

abbrev pub is_leg : XidName → List DayLeg → Bool
is_leg x legs = list_any (λ g. xid_eq g.xid x) legs

abbrev pub HasNoCommit : Records → XidName → Op → Type 0
HasNoCommit records x op = (is_commit op ≡ false) × (record_in records (tran_of x) ≡ None)

-- each branch that it names is that of one of these legs, or it is no Commit, and these records have nothing of its
-- transaction
abbrev pub Noted : Records → List DayLeg → Op → Type 0
Noted records legs op = (x : XidName) → names x op ≡ true → (is_leg x legs ≡ true) ⊎ HasNoCommit records x op

noted_leg : (records : Records) (g : DayLeg) (op : Op) → names g.xid op ≡ true → Noted records (g ∷ []) op
noted_leg records g op e x f = inl (ap (λ b. b || false) (one_name g.xid x op e f))

pub noted_none : (records : Records) (legs : List DayLeg) (op : Op) → ((x : XidName) → names x op ≡ false)
    → Noted records legs op
noted_none records legs op none x e = let z : true ≡ false = sym e ∙ none x in cc

-- ---- at one store

-- the store is there, and this opening began with these tables
pub record IsStore (s : Settling) (m : ℕ) (T : Tables) : Type 0 where
  pub positive : 1 ≤ m
  pub first : first_of s m ≡ Some T

-- how a leg there came out, for one account
abbrev pub CameOut : Settling → ResolveCall → Settling → ℕ → Tables → List ℕ → DayLeg → Type 0
CameOut s q next m T j = ComesOutByTheLog ((j, 0) ∷ []) m T (day s) (night next q ∷ [])

-- what is noted of what was sent there
abbrev pub NotedSent : ResolveCall → LedgerView → LedgerView → List DayLeg → Type 0
NotedSent q a a' legs = HasSent (Noted q.records legs) a a'

module _ {s : Settling} {again : Again} {q : ResolveCall} {next : Settling} (scene : IsScene s again q next) {m : ℕ}
    {T : Tables} (store : IsStore s m T)
    (j : List ℕ) (t : ℕ) (low : t < 2 ^ 32) where
  -- what a transfer of number n came to, which was to be applied or not: its legs there, and what was sent between
  abbrev pub TransferAt : ℕ → Transfer → Bool → LedgerView → LedgerView → Type 0
  TransferAt n tr was a a' =
      LegsSo (CameOut s q next m T j) (IsOf t n) (if was then transfer_share tr m j else pos 0) (NotedSent q a a')

  -- nothing was sent there
  nothing_at : (n : ℕ) (tr : Transfer) (was : Bool) (old new : List LedgerView)
      → pos 0 ≡ (if was then transfer_share tr m j else pos 0)
      → ledger new m ≡ ledger old m → TransferAt n tr was (ledger old m) (ledger new m)
  nothing_at n tr was old new sum same = search (arith, no_legs, none_sent)

  -- a transfer that came to a commit
  module _ (n : ℕ) (tr : Transfer) (was : Bool) (one two : AnyLeg) (legs : AreLegs t n tr one two)
      (fresh : (x : XidName) → IsOf t n x → state_of T x ≡ None) (old new : List LedgerView)
      (c : Committed s q t n tr.account one two was old new) where
    -- one of its legs is there
    at_leg : (leg : AnyLeg) → ItsLeg scene c leg → Contains (branches_of_legs one two) leg.branch
        → transfer_share tr m j ≡ Part tr m j leg.delta → leg.branch.m ≡ m
        → TransferAt n tr was (ledger old m) (ledger new m)
    at_leg leg its among shares at =
        let z = out_of scene c leg its among T (ap (first_of s) at ∙ store.first) (fresh leg.branch.xid its.of_it) j in
        let g : DayLeg = leg_of ((j, 0) ∷ []) (call scene c) (tran_of one.branch.xid) s T leg.branch in
        let x : XidName = leg.branch.xid in
        let itself : xid_eq x x ≡ true = xid_self x in
        subst
        (λ k. LegsSo (CameOut s q next k T j) (IsOf t n) (if was then transfer_share tr m j else pos 0)
        (NotedSent q (ledger old k) (ledger new k))) at
        (one_leg g z.out its.of_it
        (ap (λ b. if b then g.sum else pos 0) z.recorded ∙ ap (λ v. if was then v else pos 0) (z.sum ∙ sym shares))
        (sent_on (record {
          more = leg_work leg tr.account;
          sent = its.its.sent;
          each = search (arith, All-cons, noted_leg, noted_none, All-nil);
          collected = (_, its.its.collected);
        }) (sent_as (λ op h. noted_leg q.records g op h.0) its.obeyed)))

    committed_at : TransferAt n tr was (ledger old m) (ledger new m)
    committed_at = elim (cases_eq one.branch.m m) [
      | inl at ↦ at_leg one (first_leg scene c) (0, omega arith, refl) (first_share tr m j t n one two legs at) at
      | inr p ↦ elim (cases_eq two.branch.m m) [
        | inl at ↦ at_leg two (second_leg scene c) (1, omega arith, refl) (second_share tr m j t n one two legs at) at
        | inr r ↦
            let off : has_branch_at (branches_of_legs one two) m ≡ false = search (arith, ne_eqb) in
            let none : pos 0 ≡ (if was then transfer_share tr m j else pos 0) =
            grind (arith, no_share tr m j t n one two legs p r) in
            nothing_at n tr was old new none
            (c.come.elsewhere m store.positive off ∙ c.work.others m store.positive off)
      ]
    ]

  -- one that was refused
  module _ (n : ℕ) (tr : Transfer) (found_so : Bool) (o : WorkOutcome) (one two : AnyLeg)
      (legs : AreLegs t n tr one two) (old new : DeskView) (log : LogState)
      (found : (tran : TranName) → IsGtridOfTransfer t n tran.gtrid
      → record_in q.records tran ≡ record_of log tran) where
    -- its legs' transaction has no record
    noted_for : MayCommit old log (branches_of_legs one two) → (op : Op) → IsFor (branches_of_legs one two) op
        → Noted q.records [] op
    noted_for may op for_it x e =
        let its_legs : LegsOf t n one two = legs_are t n tr one two legs in
        let of_x : IsOf t n x =
        either_named (IsOf t n) one.branch.xid two.branch.xid x its_legs.first its_legs.second (for_it.named x e) in
        inr (
          for_it.uncommitting,
          found (tran_of x) (record { small = of_x.small; gtrid_ = of_x.gtrid })
              ∙ ap (record_of log)
              (either_named (λ y. tran_of y ≡ may.tran) one.branch.xid two.branch.xid x may.one.0 may.one.1.0
              (for_it.named x e))
              ∙ may.absent,
        )

    -- what isn't applied counts for nothing
    unapplied : (why : Refusal) → o ≡ Refused why
        → pos 0 ≡ (if is_applied found_so o then transfer_share tr m j else pos 0)
    unapplied why is = ap (λ (p : WorkOutcome). if is_applied found_so p then transfer_share tr m j else pos 0) (sym is)

    refused_at : (cs : List Change) (Known : Type 0) → IsRefused (branches_of_legs one two) cs o old new log Known
        → HaveSent (IsFor (branches_of_legs one two)) old.ledgers new.ledgers
        → TransferAt n tr (is_applied found_so o) (ledger old.ledgers m) (ledger new.ledgers m)
    refused_at cs Known (unbegun is why same) sent = search (arith, nothing_at, unapplied)
    refused_at cs Known (undone tried is begins known tries gives_up) sent =
        no_legs (unapplied GivenUp is) (sent_as (noted_for begins.commit) (sent m store.positive))
    refused_at cs Known (barred tried is begins known tries may gives_up) sent =
        no_legs (unapplied GivenUp is) (sent_as (noted_for begins.commit) (sent m store.positive))

  -- whichever it was
  module _ (n : ℕ) (tr : Transfer) (habits : Habits) (o : WorkOutcome) (keeps : habits.forgets ≡ false)
      (R : LogState → Type 0) (is_found : Bool)
      (fresh : (x : XidName) → IsOf t n x → state_of T x ≡ None)
      (new : DeskView) (later : LogState) (so : IfLost (λ votes. IsFoundSo R t n is_found later) o)
      (after : HaveSent (Names t (IsFrom (n + 1))) new.ledgers (ledgers_of s t))
      (found : (tran : TranName) → IsGtridOfTransfer t n tran.gtrid
      → record_in q.records tran ≡ record_of later tran) where
    makes_at : (old : DeskView) (log : LogState) → Makes t n tr habits o old new log later R → Earlier t n old.ledgers
        → TransferAt n tr (is_applied is_found o) (ledger old.ledgers m) (ledger new.ledgers m)
    makes_at old log (with_legs one two left legs (commits worked outcome is begins known_ work comes) kept read)
        earlier =
        let of_legs = legs_are t n tr one two legs in
        let tran : TranName = tran_of one.branch.xid in
        let same : later ≡ left = left_is habits o keeps tran left later kept in
        let is_so : IfLost (IsReadSo (branches_of_legs one two) tran log left is_found) o =
        if_both _ (λ votes. IsFoundSo R t n is_found later) (IsReadSo (branches_of_legs one two) tran log left is_found)
        o
        (λ votes either z. record {
          either = λ u is. either u left is (rw same at z.may);
          found_ = ap (λ (l : LogState). is_recorded l tran) (sym same) ∙ ap (is_recorded later) of_legs.tran
              ∙ sym (z.found_ of_legs.first.small);
        }) read so in
        committed_at n tr (is_applied is_found o) one two legs fresh old.ledgers new.ledgers (record {
          low = low;
          of_it = of_legs;
          desk = worked;
          log = log;
          later = left;
          work = work;
          come =
              subst
              (λ (w : WorkOutcome). HasCome one.branch two.branch (is_applied is_found w) worked new.ledgers log
              left) (sym is)
              (has_come one.branch two.branch (death_in habits n) is_found worked new.ledgers log left outcome comes
              (rw is at is_so));
          segment =
              have_on old.ledgers worked.ledgers new.ledgers
              (work_names t n one two tr.account old.ledgers worked.ledgers of_legs work)
              (comes_names t n one two (death_in habits n) outcome worked new.ledgers log left of_legs comes);
          after = after;
          earlier = earlier;
          found = λ u is.
              found u
              (record {
                small = of_legs.first.small;
                gtrid_ = ap (λ (v : TranName). v.gtrid) (sym is)
                    ∙ of_legs.first.gtrid;
              })
              ∙ ap (λ (l : LogState). record_of l u) same;
        })
    makes_at old log (with_legs one two left legs (refused same why sent) kept read) earlier =
        refused_at n tr is_found o one two legs old new log
        (λ tran is. found tran is
        ∙ ap (λ (l : LogState). record_of l tran)
        (left_is habits o keeps (tran_of one.branch.xid) left later kept ∙ same))
        (changes_of one two tr.account) (Unit {0}) why sent
    makes_at old log (without_legs is none same unlogged) earlier =
        nothing_at n tr (is_applied is_found o) old.ledgers new.ledgers
        (ap (λ (p : WorkOutcome). if is_applied is_found p then transfer_share tr m j else pos 0) (sym is))
        (ap (λ (d : DeskView). ledger d.ledgers m) same)

    pub next_at : (old : DeskView) (log : LogState) → MakesNext t n tr habits o old new log later R
        → Earlier t n old.ledgers
        → TransferAt n tr (is_applied is_found o) (ledger old.ledgers m) (ledger new.ledgers m)
    next_at old log makes earlier =
        let shuts : HaveSent IsShut old.ledgers makes.shut.ledgers =
        shut_sent (shut_before habits n) old makes.shut makes.shuts in
        let z =
        makes_at makes.shut log makes.makes
        (earlier_on t n n IsShut old.ledgers makes.shut.ledgers (omega arith) (shut_names t (IsBelow n)) earlier
        shuts) in
        legs_as z (λ x its. its) (λ noted.
        sent_on (sent_as (λ op is. noted_none q.records z.legs op (λ x. ap (names x) is)) (shuts m store.positive))
        noted)

-- ---- sums that have one part

abbrev Accounts : Type 0
Accounts = List (List ℕ × ℕ)

-- of accounts that are apart, one counts where it is among them
once_among : (ds : Accounts) (k : List ℕ) (v : ℤ) → are_apart ds ≡ true
    → total (λ d. if key_eq d.0 k then v else pos 0) ds ≡ (if list_any (λ d. key_eq d.0 k) ds then v else pos 0)
once_among [] k v apart = refl
once_among (d ∷ ds) k v apart =
    let has : List ℕ → Bool = λ q. list_any (λ (e : List ℕ × ℕ). key_eq e.0 q) ds in
    let parts = and_parts (not (has d.0)) (are_apart ds) apart in
    by_bool
    (λ b. (if b then v else pos 0) +ℤ total (λ (e : List ℕ × ℕ). if key_eq e.0 k then v else pos 0)
    ds ≡ (if b || has k then v else pos 0)) (key_eq d.0 k)
    (λ here. ap (λ w. v +ℤ w)
    (once_among ds k v parts.1
    ∙ ap (λ b. if b then v else pos 0) (ap has (sym ((Decides-key_eq d.0 k).0 here)) ∙ not-true _ parts.0))
    ∙ plus_none v)
    (λ _. none_plus _ ∙ once_among ds k v parts.1)

-- the plan
module _ (p : Plan) (sound : IsSound p) where
  sound_at : (m : ℕ) → IsUpTo (length p.managers.items) m → are_accounts (accounts_of p m) ≡ true
  sound_at m (low, high) =
      let x = got p.managers.items (m - 1) (omega (arith, low, high)) in
      ap (λ (o : Option ManagerPlan). are_accounts (accounts_in o)) x.1
      ∙ all_at IsSoundManager p.managers.items (m - 1) x.0 sound.accounts x.1

  apart_at : (m : ℕ) → IsUpTo (length p.managers.items) m → are_apart (accounts_of p m) ≡ true
  apart_at m up = (and_parts _ _ (and_parts _ _ (sound_at m up)).1).1

  -- what is added to one account at one store, over all accounts of all stores
  once_at : (t : ℕ) (k : List ℕ) (v : ℤ) → IsUpTo (length p.managers.items) t
      → list_any (λ d. key_eq d.0 k) (accounts_of p t) ≡ true
      → total (λ m. total (λ d. if (t == m) && key_eq d.0 k then v else pos 0) (accounts_of p m))
      (managers_of_plan p) ≡ v
  once_at t k v up there =
      total_same (λ m. total (λ d. if (t == m) && key_eq d.0 k then v else pos 0) (accounts_of p m))
      (λ m. if t == m then v else pos 0) (managers_of_plan p) at_store
      ∙ one_counted t v 1 (length p.managers.items) up.0 (let high = up.1 in omega (arith, high))
    where
      at_store : (m : ℕ)
          → total (λ d. if (t == m) && key_eq d.0 k then v else pos 0) (accounts_of p m) ≡ (if t == m then v else pos 0)
      at_store m =
          by_bool
          (λ b. total (λ d. if b && key_eq d.0 k then v else pos 0) (accounts_of p m) ≡ (if b then v else pos 0))
          (t == m)
          (λ same.
          let is : t ≡ m = eqb-true t m same in
          once_among (accounts_of p m) k v (rw is at (apart_at t up))
          ∙ ap (λ b. if b then v else pos 0) (rw is at there))
          (λ _. total_nothing (accounts_of p m))

  -- a transfer adds nothing to all of them together
  one_even : (e : Transfer × Bool) → IsWithin p e.0
      → total (λ m. total (λ d. counts_for m d.0 e) (accounts_of p m)) (managers_of_plan p) ≡ pos 0
  one_even (tr, false) z =
      total_same _ (λ m. pos 0) (managers_of_plan p) (λ m. total_nothing (accounts_of p m))
      ∙ total_nothing (managers_of_plan p)
  one_even (tr, true) z =
      let v : ℤ = pos tr.amount in
      let paid : ℕ → List ℕ × ℕ → ℤ = λ m d. if (tr.to == m) && key_eq d.0 tr.account then pos tr.amount else pos 0 in
      let pays : ℕ → List ℕ × ℕ → ℤ =
      λ m d. if (tr.from == m) && key_eq d.0 tr.account then neg_ℤ (pos tr.amount) else pos 0 in
      total_same (λ m. total (λ d. paid m d +ℤ pays m d) (accounts_of p m))
      (λ m. total (paid m) (accounts_of p m) +ℤ total (pays m) (accounts_of p m)) (managers_of_plan p)
      (λ m. total_both (paid m) (pays m) (accounts_of p m))
      ∙ total_both (λ m. total (paid m) (accounts_of p m)) (λ m. total (pays m) (accounts_of p m)) (managers_of_plan p)
      ∙ (λ i. once_at tr.to tr.account (pos tr.amount) z.to z.is_paid i +ℤ once_at tr.from tr.account
      (neg_ℤ (pos tr.amount)) z.from z.pays i)
      ∙ omega (arith, ints)

  pub all_even : (es : List (Transfer × Bool)) → All (λ e. IsWithin p e.0) es
      → total (λ m. total (λ d. total (counts_for m d.0) es) (accounts_of p m)) (managers_of_plan p) ≡ pos 0
  all_even es within =
      total_same _ (λ m. total (λ e. total (λ d. counts_for m d.0 e) (accounts_of p m)) es) (managers_of_plan p)
      (λ m. total_across (λ (d : List ℕ × ℕ) (e : Transfer × Bool). counts_for m d.0 e) (accounts_of p m) es)
      ∙ total_across (λ m (e : Transfer × Bool). total (λ d. counts_for m d.0 e) (accounts_of p m)) (managers_of_plan p)
      es
      ∙ total_alike _ (λ (e : Transfer × Bool). pos 0) es (λ k d lt. one_even (get_or es k d) (within k d lt))
      ∙ total_nothing es

-- ---- the stores

-- what a store has of a key at the end
value_at : (o : Option ManagerPart) (k : List ℕ) → unwrap_or (value_in k o) (pos 0) ≡ value_of (last_in o).values k
value_at None k = sym (ap (λ (v : Option ℤ). unwrap_or v (pos 0)) (get-from_entries key_cmp_total [] k))
value_at (Some part) k = refl

module _ (p : Plan) (sound : IsSound p) (es : List (Transfer × Bool)) (within : All (λ e. IsWithin p e.0) es)
    (s s' : Settling)
    (opens : (m : ℕ) → IsUpTo (length p.managers.items) m
    → last_in (find_manager m s.managers) ≡ opening (accounts_of p m))
    (moves : (m : ℕ) (k : List ℕ) → IsUpTo (length p.managers.items) m
    → is_declared (last_in (find_manager m s.managers)) k ≡ true
    → balances_at s' m k ≡ all_applied es (balances_at s) m k) where
  declared : (m : ℕ) → IsUpTo (length p.managers.items) m
      → DeclareEach (accounts_of p m) (last_in (find_manager m s.managers))
  declared m up = rw (opens m up) (opens_with (accounts_of p m))

  -- at one store
  at_store : (m : ℕ) → IsUpTo (length p.managers.items) m
      → total (λ d. unwrap_or (value s' m d.0) (pos 0)) (accounts_of p m) ≡ worth_declared (accounts_of p m) +ℤ total
      (λ d. total (counts_for m d.0) es) (accounts_of p m)
  at_store m up =
      total_alike (λ d. unwrap_or (value s' m d.0) (pos 0)) (λ d. balances_at s m d.0 +ℤ total (counts_for m d.0) es)
      (accounts_of p m)
      (λ k d lt.
      let q : List ℕ = (get_or (accounts_of p m) k d).0 in
      value_at (find_manager m s'.managers) q ∙ moves m q up (declared m up k d lt)
      ∙ all_applied_is es (balances_at s) m q)
      ∙ total_both (λ d. balances_at s m d.0) (λ d. total (counts_for m d.0) es) (accounts_of p m)
      ∙ ap (λ v. v +ℤ total (λ d. total (counts_for m d.0) es) (accounts_of p m))
      (ap (λ (T : Tables). worth (accounts_of p m) T) (opens m up)
      ∙ worth_law (accounts_of p m) [] (sound_at p sound m up) ∙ plus_none _)

  pub conserved : settled_worth p s' ≡ plan_worth p
  conserved =
      total_alike (λ m. total (λ d. unwrap_or (value s' m d.0) (pos 0)) (accounts_of p m))
      (λ m. worth_declared (accounts_of p m) +ℤ total (λ d. total (counts_for m d.0) es) (accounts_of p m))
      (managers_of_plan p)
      (range_all
      (λ m. total (λ d. unwrap_or (value s' m d.0) (pos 0)) (accounts_of p m) ≡ worth_declared (accounts_of p m) +ℤ
      total (λ d. total (counts_for m d.0) es) (accounts_of p m)) 1
      (length p.managers.items) (λ m low below. at_store m (low, omega (arith, below))))
      ∙ total_both (λ m. worth_declared (accounts_of p m))
      (λ m. total (λ d. total (counts_for m d.0) es) (accounts_of p m)) (managers_of_plan p)
      ∙ ap (λ v. plan_worth p +ℤ v) (all_even p sound es within) ∙ plus_none (plan_worth p)
