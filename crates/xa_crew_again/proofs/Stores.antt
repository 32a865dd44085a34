-- Stores that are reopened, one by one and all.
use Rattle.xa_base.proofs.{◌≡◌, ℕ, ◌+◌, ◌<◌, List, Some, inl, inr, length, map, sym, ap, ◌∙◌, arith, slice_get}
use Rattle.xa_base.proofs.{range_with_len, some_same, partner, get_or, get_or-range_with_len, got_map, length-map}
use Rattle.xa_base.proofs.{length-range_with_len, slice_get-get_or, slice_get_within}
use Rattle.xa_base.specs.{Pairwise}
use Rattle.xa_store.specs.{AreDurable}
use Rattle.xa_tables.specs.{Tables, reopened}
use Rattle.xa_switch.specs.{Settling, find_manager, last_in, managers_in, reopened_at}
use Rattle.xa_crew.specs.{StoresKeep}
use Rattle.xa_crew_again.specs.{KeepOne, Reopens, KeepsAsMuch}

-- what each manager begins with at the next opening
abbrev pub begun : Settling → List Tables
begun s = map (reopened_at s.managers) (range_with_len 1 (managers_in s))

-- it is there at its place
begun_at : (s : Settling) (k : ℕ) → k < managers_in s → slice_get (begun s) k ≡ Some (reopened_at s.managers (k + 1))
begun_at s k below =
    let n = managers_in s in
    let within : k < length (range_with_len 1 n) =
    (let size = length-range_with_len 1 n in omega (arith, below, size)) in
    let number : get_or (range_with_len 1 n) k (k + 1) ≡ k + 1 =
    (let e = get_or-range_with_len 1 n k (k + 1) below in omega (arith, e)) in
    got_map (reopened_at s.managers) (range_with_len 1 n) k (k + 1)
    (slice_get-get_or (range_with_len 1 n) k (k + 1) within ∙ ap (λ m. Some m) number)

many_begun : (s : Settling) → length (begun s) ≡ managers_in s
many_begun s =
    length-map (range_with_len 1 (managers_in s)) (reopened_at s.managers) ∙ length-range_with_len 1 (managers_in s)

module _ {S : Type 0} (knows may_leave : S → Tables → Type 0) where
  -- by what a store promises of its reopening, and since a second reopening changes nothing
  pub reopens : (s s' : S) → ((T : Tables) → reopened (reopened T) ≡ reopened T)
      → ((T : Tables) → knows s T → AreDurable (may_leave s) T → knows s' (reopened T))
      → ((K : Tables) → may_leave s' K → may_leave s K)
      → Reopens knows may_leave s s'
  reopens s s' twice known less T (inl keeps) = record {
    known = known T keeps.known keeps.durable;
    durable = λ K may. keeps.durable K (less K may) ∙ sym (twice T);
  }
  reopens s s' twice known less T (inr keeps) = record {
    known = rw (twice T) at (known (reopened T) keeps.known keeps.durable);
    durable = λ K may. keeps.durable K (less K may);
  }

  pub reopened_stays : (s s' : S) → Reopens knows may_leave s s' → KeepsAsMuch knows may_leave s s'
  reopened_stays s s' r T keeps = inr (r T keeps)

  -- all that were reopened keep what their managers begin with
  pub all_reopened : (s : Settling) (stores next : List S) → KeepOne knows may_leave s stores
      → Pairwise (Reopens knows may_leave) stores next
      → StoresKeep knows may_leave (begun s) next
  all_reopened s stores next keep all = record {
    as_many = all.as_many ∙ keep.as_many ∙ sym (many_begun s);
    each = λ k T y at at'.
        let (x, there, r) = partner (Reopens knows may_leave) stores next all k y at' in
        let below : k < managers_in s =
        (let within = slice_get_within (begun s) k T at in let many = many_begun s in omega
        (arith, within, many)) in
        rw (some_same T (reopened_at s.managers (k + 1)) (sym at ∙ begun_at s k below))
        (r (last_in (find_manager (k + 1) s.managers)) (keep.each k x there));
  }

  -- they may be reopened once more
  pub kept_one : (s : Settling) (stores : List S) → StoresKeep knows may_leave (begun s) stores
      → KeepOne knows may_leave s stores
  kept_one s stores keep = record {
    as_many = keep.as_many ∙ many_begun s;
    each = λ k x at.
        let below : k < managers_in s =
        (let within = slice_get_within stores k x at in let many = many_begun s in let as_many = keep.as_many in omega
        (arith, within, many, as_many)) in
        inr (keep.each k (reopened_at s.managers (k + 1)) x (begun_at s k below) at);
  }

  -- and so may those that stayed
  pub all_stay_one : (s : Settling) (stores next : List S) → KeepOne knows may_leave s stores
      → Pairwise (KeepsAsMuch knows may_leave) stores next
      → KeepOne knows may_leave s next
  all_stay_one s stores next keep all = record {
    as_many = all.as_many ∙ keep.as_many;
    each = λ k y at.
        let (x, there, stays) = partner (KeepsAsMuch knows may_leave) stores next all k y at in
        stays (last_in (find_manager (k + 1) s.managers)) (keep.each k x there);
  }
