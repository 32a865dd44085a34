use Rattle.xa_base.proofs.{◌≡◌, get_or, get_or-set_other, set, map, ◌∷◌, [], ◌++◌, length, length-append, vec_capacity}
use Rattle.xa_base.proofs.{rules, arith, refl, sym, ap, ◌∙◌, into_iter_items, taken_next, next_place, map-set_same}
use Rattle.xa_switch.proofs.Dealing.{put_none, dealt_more}
use Rattle.xa_switch.proofs.columns.deal.Goals as goal

pub loop-x-init : goal.loop-x-init
loop-x-init g c =
    record {
      so_far = search rules;
      counted = search rules;
      place = refl;
      dealt = sym (put_none _);
      capacity = refl;
      others = λ k d le. refl;
    }

pub push_reserved-requires : goal.push_reserved-requires
push_reserved-requires g c =
    let i = c.loop-x.invariant in
    let v = c.index_mut-column.result.now in
    let next =
    next_place c.loop-x.yielded _ (into_iter_items c.next.new.self) _ c.in-Some.x c.in-Some.ensures.steps.0
    (i.so_far ∙ c.into_iter-x-iterator.ensures.into_iter_gives.0) in
    let own = c.index_mut-column.ensures.value ∙ i.others c.loop-x.place v (omega arith) in
    let room = rw (← own) at (c.requires.room c.loop-x.place v (omega (arith, next.0, c.requires.row, i.place))) in
    omega (arith, room, v.ok)

pub loop-x-preserved : goal.loop-x-preserved
loop-x-preserved g c =
    let i = c.loop-x.invariant in
    let Y = c.loop-x.yielded in
    let x = c.in-Some.x in
    let columns = c.loop-x.columns.items in
    let v = c.index_mut-column.result.now in
    let is = c.index_mut-column.ensures.value in
    let new = c.push_reserved.new.self in
    let next =
    next_place Y _ (into_iter_items c.next.new.self) _ x c.in-Some.ensures.steps.0
    (i.so_far ∙ c.into_iter-x-iterator.ensures.into_iter_gives.0) in
    let own : new.items ≡ (get_or c.args.columns.items (length Y) v).items ++ x ∷ [] =
    search (arith, i.others, c.loop-x.place, c.args.columns.items) in
    record {
      so_far = taken_next Y _ (into_iter_items c.next.new.self) _ x c.in-Some.ensures.steps.0 i.so_far;
      counted = let n = i.counted in let s = c.in-Some.ensures.steps.1 in let more = ap length
          c.in-Some.ensures.steps.0 in omega (arith, n, s, more);
      place = omega (arith, i.place, length-append Y (x ∷ []));
      dealt = ap (λ k. map (λ u. u.items) (set columns k new)) i.place
          ∙ dealt_more (λ u. u.items) c.args.columns.items columns Y v i.dealt x new
          (omega (arith, next.0, c.requires.row)) own;
      capacity =
          map-set_same (λ u. vec_capacity u) columns c.loop-x.place new v
          (c.push_reserved.ensures.capacity ∙ ap (λ u. vec_capacity u) is)
          ∙ i.capacity;
      others = λ k d le. get_or-set_other columns c.loop-x.place k new d (λ e. omega (arith, le, e))
          ∙ i.others k d (omega (arith, le));
    }
