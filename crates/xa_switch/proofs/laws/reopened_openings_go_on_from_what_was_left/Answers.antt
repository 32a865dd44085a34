use Rattle.xa_base.proofs.{◌≡◌, ℕ, ◌+◌, ◌-◌, ◌<◌, Some, length, map, sym, ap, ◌∙◌, arith, slice_get, range_with_len}
use Rattle.xa_base.proofs.{length-range_with_len, get_or-range_with_len, slice_get-get_or, got_map}
use Rattle.xa_switch.specs.{first_of, managers_in, reopened_at}
use Rattle.xa_switch.proofs.SettledOpenings.{begun}
use Rattle.xa_switch.proofs.laws.reopened_openings_go_on_from_what_was_left.Goals as goal

pub returns : goal.returns
returns c s next again m T whole of first =
    let there = begun s m T first in
    let within = whole.only m there.0 there.1 in
    let low = within.0 in
    let n : ℕ = managers_in s in
    let below : m - 1 < length (range_with_len 1 n) = let size = length-range_with_len 1 n in
    omega (arith, low, within.1, size) in
    let number : slice_get (range_with_len 1 n) (m - 1) ≡ Some m =
    slice_get-get_or (range_with_len 1 n) (m - 1) m below
    ∙ ap (λ k. Some k)
    (let e = get_or-range_with_len 1 n (m - 1) m (omega (arith, low, within.1)) in omega (arith, e, low)) in
    let given : slice_get (map (reopened_at s.managers) (range_with_len 1 n)) (m - 1) ≡ Some
    (reopened_at s.managers m) =
    got_map (reopened_at s.managers) (range_with_len 1 n) (m - 1) m number in
    let same : m - 1 + 1 ≡ m = omega (arith, low) in
    ap (first_of next) (sym same) ∙ of.opened (m - 1) (reopened_at s.managers m) given
