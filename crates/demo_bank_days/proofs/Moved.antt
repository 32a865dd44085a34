-- What tellers come to over stores that are opened again.
-- What days do to the balances, by the law of a day and its night.
use Rattle.xa_base.proofs.{ints, map_alike, total_append, none_all, option_map, ◌≡◌, ℕ, ◌+◌, ◌^◌, ◌<◌, ◌≤◌, ⊎_elim}
use Rattle.xa_base.proofs.{Bool, true, List, [], ◌∷◌, length, map, slice_get, Some, inl, inr, sym, refl, ap, ◌∙◌, subst}
use Rattle.xa_base.proofs.{arith, All, length-map, same_Some as some_same, slice_get_within, got_map, Vec, ◌++◌, IfOk}
use Rattle.xa_base.proofs.{Result, Ok, Err, Global, all_mid, is_some, false, Option, all_at, all_from, was_mapped}
use Rattle.xa_base.proofs.{All-map, all_unmapped}
use Rattle.xa_base.specs.{IsUpTo}
use Rattle.xa_words.specs.{TranName, is_done}
use Rattle.laws_fates.proofs.ValueLaw.{declared_on}
use Rattle.xa_tables.specs.{Tables, is_declared}
use Rattle.xa_switch.specs.{Again, IsWhole, managers_in, reopened_at, reopening, first_of, IsOf, ManagerPart, Settling}
use Rattle.xa_switch.specs.{last_in, history, IsSettled, value_in}
use Rattle.xa_switch.proofs.SettledOpenings.{begun, follows_first}
use Rattle.xa_log.specs.{LogState}
use Rattle.laws_commit.proofs.NextOpening.{was_there}
use Rattle.xa_crew.specs.{Attended}
use Rattle.xa_crew_again.specs.{WithScan, AgainWorks, IsRunAgain, WorksWithScan}
use Rattle.demo_bank.specs.{Teller, TellerWorks, WorksOn, Habits, Transfer}
use Rattle.demo_bank.proofs.Days.{MemberAt, member_at, nobody_else}
use Rattle.demo_bank_days.specs.{DayAndNight, Bank, BeginsWith, IsDayOf, WorkedIn, Closed, Errands, Unresolved}
use Rattle.demo_bank_days.specs.{AreClosed, AreOver, HasEnded, early as one_not, whole as all_over, IsClosedByNight}
use Rattle.demo_bank_days.specs.{IsClosedDay, IsOver, AreToldAll, IsDawn, all_told, balances_at, balances_of, told}
use Rattle.demo_bank_days.specs.{IsMovedBy, IsReadyForDay, habits_on, has_account, told_on, told_over, Balances}
use Rattle.demo_bank_days.specs.{all_applied}
use Rattle.demo_bank_days.proofs.Made.{all_applied_is, counts_for}
use Rattle.std.specs.Prelude.{MatchResult}
use Rattle.xa_driver.specs.{Resolved, Outcome}
use Rattle.demo_bank_days.proofs.Went.{are_read_back}

-- lists that are mapped to one list are as long
pub same_length : {A B C : Type 0} (f : A → C) (g : B → C) (xs : List A) (ys : List B) → map f xs ≡ map g ys
    → length xs ≡ length ys
same_length f g xs ys e = sym (length-map xs f) ∙ ap (λ l. length l) e ∙ length-map ys g

-- as many have worked as there are threads
pub many_attended : {C : Type 0} (works : AgainWorks C) (s : Settling) (again : Again) (clients : List C)
    (attended : List (Attended (WithScan C))) (next : Settling)
    → IsRunAgain works s again clients attended next → length attended ≡ again.threads
many_attended {C} works s again clients attended next z = search (arith, length-map, z.run.members)

-- the stores
module _
    (goes_on : (s next : Settling) (again : Again) (m : ℕ) (T : Tables) → IsWhole s → IsOf (reopening s again) next
    → first_of s m ≡ Some T → first_of next m ≡ Some (reopened_at s.managers m))
    (s next : Settling) (again : Again) (whole : IsWhole s) (of : IsOf (reopening s again) next) where
  there : (m : ℕ) → IsUpTo (managers_in s) m → first_of next m ≡ Some (reopened_at s.managers m)
  there m up =
      let p = whole.there m up.0 up.1 in
      goes_on s next again m p.0.first whole of (ap (option_map (λ (q : ManagerPart). q.first)) p.1)

  pub begins_with : BeginsWith next (managers_in s) (reopened_at s.managers)
  begins_with = record { few = whole.few.1; there = there; only = λ m T first. was_there s next again m T of first }

  -- there are as many
  pub same_stores : IsWhole next → managers_in next ≡ managers_in s
  same_stores whole' =
      let last = whole'.there (managers_in next) whole'.few.0 (omega arith) in
      let low =
      (begins_with.only (managers_in next) last.0.first
      (ap (option_map (λ (q : ManagerPart). q.first)) last.1)).1 in
      let found =
      begun next (managers_in s) (reopened_at s.managers (managers_in s))
      (there (managers_in s) (whole.few.0, omega arith)) in
      let high = (whole'.only (managers_in s) found.0 found.1).1 in
      omega (arith, low, high)

-- the tellers
module _ {L : Type 0} (state : L → LogState) (knows : L → Type 0) (loses : TranName → List Bool → L → L → Type 0)
    (s : Settling) (again : Again)
    (olds : List (Teller L))
    (attended : List (Attended (WithScan (Teller L)))) (day : Settling)
    (z : IsRunAgain (WorksOn state knows loses) s again olds attended day)
    (many : length olds ≡ again.threads) where
  abbrev news : List (Teller L)
  news = map (λ (a : Attended (WithScan (Teller L))). a.client.client) attended

  worked_at : (k : ℕ) (old new : Teller L) → slice_get olds k ≡ Some old → slice_get news k ≡ Some new
      → WorkedIn state knows loses day (k + 1) old new
  worked_at k old new old_at new_at =
      let within = slice_get_within olds k old old_at in
      let at : MemberAt (WorksWithScan (WorksOn state knows loses)) (reopening s again) z.given attended day k =
      member_at (WorksWithScan (WorksOn state knows loses)) (reopening s again) z.given attended day z.run k
      (omega (arith, within, many)) in
      let first : at.member.client.client ≡ old =
      search (arith, some_same, got_map, slice_get, at.member.client.client, at.member.client) in
      let last : at.member.attended.client.client ≡ new =
      search (arith, some_same, got_map, at.member.attended.client.client, at.member.attended) in
      record {
        desk = at.member.desk;
        left = at.left;
        thread = at.thread;
        nothing = at.nothing;
        worked = subst (λ (p : Teller L × Teller L). TellerWorks state knows loses p.0 at.member.desk p.1 at.left)
            (λ i. (first i, last i)) at.worked.works;
        ended = at.end;
      }

  pub is_day : IsDayOf state knows loses day olds news
  is_day = record {
    settled = z.run.agrees;
    many = search (arith, length-map, many_attended);
    each = worked_at;
    others = λ t outside m.
        nobody_else (WorksWithScan (WorksOn state knows loses)) (reopening s again) z.given attended day z.run t
        (⊎_elim (λ (low : t < 1). inl low) (λ (high : length olds < t). inr (omega (arith, high, many))) outside) m;
  }

-- ---- days one after the other

module _ {L : Type 0} (state : L → LogState) (knows : L → Type 0) (loses : TranName → List Bool → L → L → Type 0)
    (reopens : L → L → Type 0) where
  -- a day that is over was closed
  pub closed_day : (b : Bank L) (errands : List Errands) (c : Closed) (b' : Bank L)
      → IfOk c.resolved (λ z. IsClosedByNight state knows loses reopens b errands c z.outcomes.items b')
      → IsOver c → IsClosedDay state knows loses reopens b errands c b'
  closed_day b errands c b' = by c.resolved
    where
      by : (o : Result Resolved Unresolved)
          → IfOk o (λ z. IsClosedByNight state knows loses reopens b errands c z.outcomes.items b')
          → MatchResult o (λ z. All (λ q. is_done q.code ≡ true) z.outcomes.items) (λ why. ⊥)
          → IsClosedDay state knows loses reopens b errands c b'
      by (Err why) closed over = absurd over
      by (Ok z) closed over = record { outcomes = z.outcomes.items; ended = over; closed = closed }

  -- a day more
  pub one_day_more : (b : Bank L) (ds : List (Vec Errands Global)) (cs : List Closed) (mid : Bank L)
      (d : Vec Errands Global) (c : Closed) (last : Bank L)
      → AreClosed state knows loses reopens b ds cs mid → IsClosedDay state knows loses reopens mid d.items c last
      → AreClosed state knows loses reopens b (ds ++ d ∷ []) (cs ++ c ∷ []) last
  one_day_more b [] [] mid d c last same one = (last, rw same at one, refl)
  one_day_more b (x ∷ ds) (y ∷ cs) mid d c last all one =
      (all.0, all.1, one_day_more all.0 ds cs mid d c last all.2 one)
  one_day_more b ds cs mid d c last wrong one = absurd wrong

  -- days that are all over were closed
  pub ended_closed : (b : Bank L) (ds : List (Vec Errands Global)) (cs : List Closed) (b' : Bank L)
      → HasEnded state knows loses reopens b ds cs b'
      → AreOver ds cs → AreClosed state knows loses reopens b ds cs b'
  ended_closed b ds cs b' (all_over all) over = all
  ended_closed b ds cs b' (one_not before d rest earlier c mid parts closed up_to worked open_) over =
      search (arith, all_mid)

-- ---- the abstract machine

-- more is applied to what an account has after others
applied_more : (es more : List (Transfer × Bool)) (B C : Balances) (m : ℕ) (k : List ℕ) → C m k ≡ all_applied es B m k
    → all_applied more C m k ≡ all_applied (es ++ more) B m k
applied_more es more B C m k e =
    omega (
      arith,
      ints,
      all_applied_is more C m k,
      all_applied_is es B m k,
      all_applied_is (es ++ more) B m k,
      total_append (counts_for m k) es more,
    )

-- ---- the stores

-- what is declared stays so to the end of an opening
last_declares : (s : Settling) (m : ℕ) (T : Tables) (k : List ℕ) → IsSettled s → first_of s m ≡ Some T
    → has_account s m k ≡ is_declared T k
last_declares s m T k settled first =
    let p = begun s m T first in
    ap (λ (o : Option ManagerPart). is_declared (last_in o) k) p.1
    ∙ ap is_some (sym (ap (value_in k) p.1) ∙ (follows_first s m T settled first).values k)
    ∙ declared_on (history s m) k T

-- ---- lists of tellers

told_is : {L : Type 0} (founds : List Bool) (news : List (Teller L)) (errands : List Errands)
    → map (λ (t : Teller L). t.transfers) news ≡ map (λ (e : Errands). e.transfers) errands
    → all_told founds news ≡ told_on errands (map (λ (t : Teller L). t.outcomes) news) founds
told_is [] [] [] e = refl
told_is [] (t ∷ news) (x ∷ errands) e = refl
told_is (f ∷ founds) [] [] e = refl
told_is founds [] (x ∷ errands) e = cc
told_is founds (t ∷ news) [] e = cc
told_is {L} (f ∷ founds) (t ∷ news) (x ∷ errands) e =
    let head : t.transfers ≡ x.transfers = cc in
    let tail : map (λ (u : Teller L). u.transfers) news ≡ map (λ (y : Errands). y.transfers) errands = cc in
    (λ i. told f (head i).items t.outcomes.items ++ told_is founds news errands tail i)

-- a day
module _ {L : Type 0} (state : L → LogState) (knows : L → Type 0) (loses : TranName → List Bool → L → L → Type 0)
    (reopens : L → L → Type 0)
    (applies : (d : DayAndNight state knows loses) (m : ℕ) (account : List ℕ) → length d.olds < 2 ^ 32
    → IsUpTo d.stores m → is_declared (d.tables m) account ≡ true
    → balances_at d.next m account ≡ all_applied (all_told d.founds d.news) (balances_of d.tables) m account)
    (dawns : (d : DayAndNight state knows loses) (later : ℕ) → All (λ r. is_done r.code ≡ true) d.resolve.outcomes
    → d.first ≤ later
    → All (λ t. t.habits.first + length t.transfers.items ≤ later) d.olds
    → IsDawn state d.stores later (reopened_at d.next.managers) d.logs) where
  module _ (b : Bank L) (errands : List Errands) (c : Closed) (outcomes : List Outcome) (b' : Bank L)
      (z : IsClosedByNight state knows loses reopens b errands c outcomes b') where
    -- its habits are those of its errands
    turned_at : (k : ℕ) (t : Teller L) → slice_get z.turned k ≡ Some t
        → (t.habits.first ≡ b.next) × (t.habits.forgets ≡ false)
    turned_at k t at =
        let e =
        was_mapped (habits_on b.next) errands k t.habits
        (ap (λ l. slice_get l k) (sym z.are_turned.habits)
        ∙ got_map (λ (u : Teller L). u.habits) z.turned k t at) in
        (sym (ap (λ (h : Habits). h.first) e.2), sym (ap (λ (h : Habits). h.forgets) e.2))

    told_all : AreToldAll b.next z.turned z.works.worked
    told_all k old new old_at new_at =
        let turned = turned_at k old old_at in
        record {
          begins = all_at (λ (t : Teller L). t.outcomes.items ≡ []) z.turned k old z.are_turned.none old_at;
          counts = omega (arith, turned.0);
          keeps = turned.1;
          memory = all_at (λ (t : Teller L). t.wants_memory ≡ false) z.works.worked k new
              (none_all (λ (t : Teller L). t.wants_memory) z.works.worked (sym z.works.wants ∙ z.wants)) new_at;
        }

    transfers_are : map (λ (t : Teller L). t.transfers) z.works.worked ≡ map (λ (e : Errands). e.transfers) errands
    transfers_are =
        map_alike (λ (old new : Teller L). new.transfers ≡ old.transfers) (λ t. t.transfers) (λ t. t.transfers)
        (λ old new same. same) z.turned z.works.worked
        (record {
          as_many = z.works.is_day.many;
          each = λ k old new old_at new_at. (z.works.is_day.each k old new old_at new_at).worked.transfers;
        })
        ∙ z.are_turned.transfers

    told_so : all_told z.day.evening.found.items z.works.worked ≡ told_on errands c.outcomes.items c.found.items
    told_so = search (arith, told_is, transfers_are)

    ends_at : All (λ (t : Teller L). t.habits.first + length t.transfers.items ≤ b'.next) z.turned
    ends_at =
        let P : Vec Transfer Global → Type 0 = λ trs. b.next + length trs.items ≤ b'.next in
        let each =
        all_unmapped (λ (t : Teller L). t.transfers) P z.turned
        (rw z.are_turned.transfers (All-map P (λ (e : Errands). e.transfers) errands z.next)) in
        all_from (λ (t : Teller L). t.habits.first + length t.transfers.items ≤ b'.next) z.turned (λ k t at.
        let bound = all_at (λ (u : Teller L). b.next + length u.transfers.items ≤ b'.next) z.turned k t each at in
        omega (arith, (turned_at k t at).0, bound))

    abbrev both : IsReadyForDay state b → DayAndNight state knows loses
    both ready = record {
      day = z.day.settled;
      again = b'.again;
      resolve = z.night.call;
      next = b'.settled;
      olds = z.turned;
      news = z.works.worked;
      logs = map (λ (t : Teller L). t.log) z.day.evening.tellers.items;
      founds = z.day.evening.found.items;
      stores = managers_in b.settled;
      first = b.next;
      tables = reopened_at b.settled.managers;
      is_day = z.works.is_day;
      begins = z.works.begins;
      told_all = told_all;
      back = are_read_back state knows loses reopens 1 z.works.worked
          (map (λ (t : Teller L). t.log) z.day.evening.tellers.items) z.day.evening.found.items z.works.logs;
      known = All-map knows (λ (t : Teller L). t.log) z.day.evening.tellers.items z.night.known;
      dawn = rw z.are_turned.logs ready;
      resolved = z.night.resolves;
    }

    pub day_moves : IsReadyForDay state b → All (λ (o : Outcome). is_done o.code ≡ true) outcomes
        → IsMovedBy state (told_on errands c.outcomes.items c.found.items) b b'
    day_moves ready ended =
        let stores : managers_in b'.settled ≡ managers_in b.settled = z.stores ∙ z.works.stores in
        let next_dawn : IsDawn state (managers_in b.settled) b'.next (reopened_at b'.settled.managers)
        (map (λ (t : Teller L). t.log) z.day.evening.tellers.items) =
        dawns (both ready) b'.next (rw z.night.listed ended) z.later ends_at in
        let few : length z.turned < 2 ^ 32 = search (arith, same_length) in
        record {
          stores = stores;
          accounts = λ m k up.
              let first = z.works.begins.there m up in
              last_declares b'.settled m (reopened_at z.day.settled.managers m) k z.night.resolves.settled
              (z.night.resolves.continues m (reopened_at b.settled.managers m) first)
              ∙ last_declares z.day.settled m (reopened_at b.settled.managers m) k z.works.is_day.settled first;
          balances = λ m k up there. applies (both ready) m k few up there
              ∙ ap (λ (es : List (Transfer × Bool)). all_applied es (balances_at b.settled) m k) told_so;
          ready = search (arith, stores, next_dawn);
        }

  -- many days
  pub days_move : (b : Bank L) (ds : List (Vec Errands Global)) (cs : List Closed) (b' : Bank L)
      → AreClosed state knows loses reopens b ds cs b'
      → IsReadyForDay state b → IsMovedBy state (told_over ds cs) b b'
  days_move b [] [] b' same ready = search arith
  days_move b (d ∷ ds) (c ∷ cs) b' all ready =
      let one = day_moves b d.items c all.1.outcomes all.0 all.1.closed ready all.1.ended in
      let rest = days_move all.0 ds cs b' all.2 one.ready in
      let es : List (Transfer × Bool) = told_on d.items c.outcomes.items c.found.items in
      let up_there =
      λ (m : ℕ) (up : IsUpTo (managers_in b.settled) m). subst (λ (j : ℕ). IsUpTo j m) (sym one.stores) up in
      search (arith, rest.stores, one.stores, applied_more, rest.accounts, one.accounts, rest.balances, one.balances)
  days_move b ds cs b' wrong ready = absurd wrong
