use Rattle.xa_base.proofs.{pairs_mid, get_or-map as get_or-map', ◌≡◌, ◌≢◌, ◌<◌, ℕ, suc, List, get_or, ◌∷◌, ◌++◌, length}
use Rattle.xa_base.proofs.{map, arith, sym, ap, ◌∙◌, All, into_iter_items, length-set, All-push, all_mid, taken_next}
use Rattle.xa_switch.specs.{column, IsClosable, IsClosed}
use Rattle.xa_switch.proofs.Dealing.{column_kept}
use Rattle.xa_switch.proofs.settling.closing.close_lanes.Goals as goal

-- the next receiver's column is there, and as it was
module _ {V X R : Type 0} (items : V → List X) (old now : List V) (all Y rest : List (ℕ × R)) (x : ℕ × R)
    (whole : all ≡ Y ++ x ∷ rest)
    (many : length now ≡ length old) (places : All (λ r. r.0 < length old) all) where
  below : x.0 < length now
  below = let lt = all_mid (λ (r : ℕ × R). r.0 < length old) Y rest x (rw whole at places) in omega (arith, lt, many)

  same_column : (d : V) (left : List (ℕ × R)) → left ≡ x ∷ rest
      → All (λ r. column (map items now) r.0 ≡ column (map items old) r.0) left
      → items (get_or now x.0 d) ≡ column (map items old) x.0
  same_column d left next same = grind (arith, get_or-map', below)

pub index_mut-column-requires : goal.index_mut-column-requires
index_mut-column-requires g c =
    let i = c.loop-place.invariant in
    let whole =
    sym c.into_iter-place-iterator.ensures.into_iter_gives.0 ∙ sym i.so_far
    ∙ ap (λ l. c.loop-place.yielded ++ l) c.in-Some.ensures.steps.0 in
    let low =
    below (λ v. v.items) c.args.columns.items _ _ _ _ (c.in-Some.place, c.in-Some.receiver) whole i.many
    c.requires.places in
    omega (arith, low, c.loop-place.columns.ok)

pub close-requires : goal.close-requires
close-requires g c =
    let i = c.loop-place.invariant in
    let C = map (λ c. c.items) c.args.columns.items in
    let whole =
    sym c.into_iter-place-iterator.ensures.into_iter_gives.0 ∙ sym i.so_far
    ∙ ap (λ l. c.loop-place.yielded ++ l) c.in-Some.ensures.steps.0 in
    let same = ap (λ v. v.items) (c.replace-ends.ensures.value ∙ c.index_mut-column.ensures.value)
    ∙ same_column (λ v. v.items) c.args.columns.items _ _ _ _
    (c.in-Some.place, c.in-Some.receiver) whole i.many c.requires.places _ _ c.in-Some.ensures.steps.0 i.left in
    rw same
    (all_mid (λ r. IsClosable r.1 (column C r.0)) c.loop-place.yielded (into_iter_items c.next.new.self)
    (c.in-Some.place, c.in-Some.receiver) (rw whole at c.requires.closable))

pub loop-place-preserved : goal.loop-place-preserved
loop-place-preserved g c =
    let i = c.loop-place.invariant in
    let C = map (λ c. c.items) c.args.columns.items in
    let whole =
    sym c.into_iter-place-iterator.ensures.into_iter_gives.0 ∙ sym i.so_far
    ∙ ap (λ l. c.loop-place.yielded ++ l) c.in-Some.ensures.steps.0 in
    let same = ap (λ v. v.items) (c.replace-ends.ensures.value ∙ c.index_mut-column.ensures.value)
    ∙ same_column (λ v. v.items) c.args.columns.items _ _ _ _
    (c.in-Some.place, c.in-Some.receiver) whole i.many c.requires.places _ _ c.in-Some.ensures.steps.0 i.left in
    let left = rw c.in-Some.ensures.steps.0 at i.left in
    let apart = pairs_mid (λ a b. a.0 ≢ b.0) c.loop-place.yielded (c.in-Some.place, c.in-Some.receiver)
    (into_iter_items c.next.new.self)
    (rw whole at c.requires.apart) in
    let more = ap length c.in-Some.ensures.steps.0 in
    record {
      so_far = taken_next c.loop-place.yielded _ (into_iter_items c.next.new.self) _
          (c.in-Some.place, c.in-Some.receiver) c.in-Some.ensures.steps.0 i.so_far;
      counted = let n = i.counted in let s = c.in-Some.ensures.steps.1 in omega (arith, n, s, more);
      many = length-set _ _ _ ∙ i.many;
      closed = All-push (λ r. IsClosed r.1 (column C r.0)) c.loop-place.yielded (c.in-Some.place, c.in-Some.receiver)
          i.closed (rw same at c.close.ensures);
      left = λ k d lt.
          column_kept (λ v. v.items) c.loop-place.columns.items (get_or (into_iter_items c.next.new.self) k d).0
          c.in-Some.place c.replace-ends.new.dest
          (λ e. apart k d lt (sym e))
          ∙ left (suc k) d (omega arith);
    }
