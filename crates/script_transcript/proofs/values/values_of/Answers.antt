use Rattle.xa_base.proofs.{◌≡◌, ◌<◌, sym, ap, ◌∙◌, ◌++◌, ◌∷◌, ◌+◌, [], length, map, take, option_map, pos}
use Rattle.xa_base.proofs.{slice_index_or, arith, map-append, take_all, All-push, one_more, IsPermutation-map}
use Rattle.xa_base.proofs.{All-permutation}
use Rattle.xa_tables.proofs.Reopening.{accounts_new}
use Rattle.xa_switch.specs.{history, Settling}
use Rattle.script_grammar.specs.{Declared, IsOfManager, declared_accounts}
use Rattle.xa_tables.specs.{value_over}
use Rattle.script_transcript.specs.{name_of, opened, opened_after, histories_at}
use Rattle.script_transcript.proofs.Worth.{WorthAfter, told, first_is}
use Rattle.script_transcript.proofs.values.values_of.Goals as goal

pub unwrap-value-requires : goal.unwrap-value-requires
unwrap-value-requires c =
    let s = c.args.script.now in
    let i = c.loop-declared.declared-index in
    let d = c.declared-item.result in
    let there = c.declared-item.is ∙ ap (λ l. slice_index_or l i d) c.keys-keys.ensures.keys in
    let below : i < length s.keys = rw c.keys-keys.ensures.keys at c.loop-declared-test.true in
    let of : IsOfManager s d = rw c.declared-item.is (c.keys-keys.ensures.managers i d c.loop-declared-test.true) in
    let (before, are) = c.requires in
    let sum =
    c.value.ensures.sum (histories_at before d.manager) (opened s d.manager)
    (accounts_new (declared_accounts d.manager s.keys))
    (first_is s (opened_after s before) c.args.settled.now are d.manager of.0 of.1) in
    told s (histories_at before d.manager ++ history c.args.settled.now d.manager ∷ []) i d c.value.result below there
    sum

pub loop-declared-preserved : goal.loop-declared-preserved
loop-declared-preserved c =
    let s = c.args.script.now in
    let settled = c.args.settled.now in
    let i = c.loop-declared.declared-index in
    let d = c.declared-item.result in
    let keys = c.keys-keys.result.now in
    let values = c.loop-declared.values.items in
    let e : Declared = record { manager = d.manager; key = d.key; value = c.unwrap-value.result } in
    let of : IsOfManager s d = rw c.declared-item.is (c.keys-keys.ensures.managers i d c.loop-declared-test.true) in
    let worth : WorthAfter s settled e = λ before are.
    ap (λ l. value_over d.key l (opened s d.manager))
    (map-append (λ (o : Settling). history o d.manager) before (settled ∷ []))
    ∙ sym
    (c.value.ensures.sum (histories_at before d.manager) (opened s d.manager)
    (accounts_new (declared_accounts d.manager s.keys))
    (first_is s (opened_after s before) settled are d.manager of.0 of.1))
    ∙ ap (option_map (λ n. pos n)) c.unwrap-value.ensures in
    let more : map name_of (values ++ e ∷ []) ≡ map name_of (take (i + 1) keys) =
    map-append name_of values (e ∷ []) ∙ ap (λ l. l ++ name_of d ∷ []) c.loop-declared.invariant.named
    ∙ sym (map-append name_of (take i keys) (d ∷ []))
    ∙ ap (map name_of) (sym (one_more keys i d c.loop-declared-test.true c.declared-item.is)) in
    record {
      named = ap (map name_of) c.in_ok-push.ensures.items ∙ more;
      worth = rw c.in_ok-push.ensures.items
          (All-push (WorthAfter s settled) values e c.loop-declared.invariant.worth worth);
    }

pub returns : goal.returns
returns c =
    let keys = c.keys-keys.result.now in
    let values = c.loop-declared.values.items in
    let named =
    c.loop-declared.invariant.named
    ∙ ap (map name_of) (take_all c.loop-declared.declared-index keys (omega arith) ∙ c.keys-keys.ensures.keys) in
    λ before are. record {
      all = rw named at (IsPermutation-map name_of values c.sort.new.self.items c.in_ok-sort.ensures.permutation);
      worth = λ k d below. All-permutation (WorthAfter c.args.script.now c.args.settled.now) values
          c.sort.new.self.items c.in_ok-sort.ensures.permutation c.loop-declared.invariant.worth k d below before are;
      rising = c.in_ok-sort.ensures.sorted;
    }
