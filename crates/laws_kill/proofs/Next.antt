-- An opening over what the stores have is one that was opened again from the settled opening.
use Rattle.xa_base.proofs.{◌≡◌, ℕ, ◌+◌, ◌-◌, Bool, List, Some, map, length, slice_get, range_with_len, sym, ap, ◌∙◌}
use Rattle.xa_base.proofs.{arith, got, mapped_some, got_map, length-range_with_len, slice_get_within, was_mapped}
use Rattle.std.proofs.lemmas.List.{map-id}
use Rattle.xa_tables.specs.{Tables}
use Rattle.xa_switch.specs.{Again, IsOf, ManagerPart, Setup, Settling, find_manager, first_of, reopened_at, reopening}
use Rattle.laws_kill.specs.{Crash, CrashedManager, IsCrash, as_settled, find_crashed, over_stores, shut_off}
use Rattle.laws_kill.specs.{shutting_thread}
use Rattle.laws_kill.proofs.Numbered.{find_from, from_range, number_at}
use Rattle.laws_kill.proofs.Settling.{at_place, count, find_shut, found_all, is_within, managers_from, many_managers}

module _ (p : Setup) (c : Crash) (is : IsCrash p c) where
  -- the tables that a reopening of the settled opening begins with at a place are found in the store there
  found_there : (m : ℕ) (T : Tables)
      → slice_get (map (reopened_at (as_settled c).managers) (range_with_len 1 p.managers)) m ≡ Some T
      → slice_get (map (λ (q : CrashedManager). q.found) c.managers) m ≡ Some T
  found_there m T at =
      let f : ℕ → Tables = reopened_at (as_settled c).managers in
      let range : List ℕ = range_with_len 1 p.managers in
      let (j, there, own) = was_mapped f range m T at in
      let number : j ≡ 1 + m =
      number_at (λ n. n) 1 m range j (from_range (λ n. n) 1 p.managers range (map-id range)) there in
      let below = slice_get_within range m j there in
      let (q, stands) =
      got c.managers m (omega (arith, below, length-range_with_len 1 p.managers, many_managers p c is)) in
      got_map (λ (r : CrashedManager). r.found) c.managers m q stands
      ∙ ap (λ (U : Tables). Some U)
      (sym (found_all p c is j q
      (find_from (λ (r : CrashedManager). r.number) j 1 m c.managers (managers_from p c is) number ∙ stands))
      ∙ own)

  pub as_reopening : (next : Settling) (again : Again) (flags : List Bool) → length flags ≡ p.managers
      → IsOf (over_stores c again flags) next → IsOf (reopening (as_settled c) again) next
  as_reopening next again flags many of = record {
    opening = of.opening;
    threads = of.threads;
    managers = rw (count p c is, sym many) of.managers;
    opened = λ m T at.
        of.opened m T
        (found_there m T
        (ap (λ n. slice_get (map (reopened_at (as_settled c).managers) (range_with_len 1 n)) m) (sym (count p c is))
        ∙ at));
  }

  -- and each of its managers begins with what a reopening makes of that manager's tables
  pub continues : (next : Settling) (again : Again) (flags : List Bool) → IsOf (over_stores c again flags) next
      → (m : ℕ) (T : Tables) → first_of (as_settled c) m ≡ Some T
      → first_of next m ≡ Some (reopened_at (as_settled c).managers m)
  continues next again flags of m T first =
      let f : CrashedManager → ManagerPart = shut_off (shutting_thread c) c.threads in
      let (r, there, _) =
      mapped_some (λ (q : ManagerPart). q.first) (find_manager m (as_settled c).managers) T first in
      let (q, at, _) = mapped_some f (find_crashed m c.managers) r (sym (find_shut p c is m) ∙ there) in
      let low = is_within p c is m q at in
      let same : m - 1 + 1 ≡ m = omega (arith, low) in
      ap (first_of next) (sym same)
      ∙ of.opened (m - 1) q.found
      (got_map (λ (x : CrashedManager). x.found) c.managers (m - 1) q (sym (at_place p c is m low) ∙ at))
      ∙ ap (λ (U : Tables). Some U) (sym (found_all p c is m q at))
