use Rattle.xa_base.proofs.{rules, ◌≡◌, ℕ, ◌+◌, ◌<◌, ◌==◌, ◌||◌, Bool, true, false, cond, List, [], ◌∷◌, ◌++◌, length}
use Rattle.xa_base.proofs.{get_or, slice_set, sym, ◌∙◌, arith, at_ok, list_any, eqb-true, get_or-set_same}
use Rattle.xa_base.proofs.{get_or-set_other, list_any-append, sum_by-cons}
use Rattle.std.proofs.lemmas.List.Sums.{sum_by-append}
use Rattle.script_grammar.specs.{Declared, key_count, is_same, Finds}
use Rattle.script_grammar.proofs.keys.DeclaredKeys.add.Goals as goal

-- The set may be laid out anew.
still_found : (keys : List Declared) (found again : List (ℕ × List ℕ)) (counts : List ℕ) → Finds keys found counts
    → ((q : ℕ × List ℕ) → list_any (is_same q) again ≡ list_any (is_same q) found) → Finds keys again counts
still_found keys found again counts old same = record { has = λ m k. same (m, k) ∙ old.has m k; count = old.count }

or_last : (b c : Bool) → cond b true c ≡ (c || (b || false))
or_last b c = search (arith, rules)

-- A manager has one key more where the last is its own.
count_last : (m : ℕ) (keys : List Declared) (d : Declared)
    → key_count m (keys ++ d ∷ []) ≡ key_count m keys + cond (d.manager == m) 1 0
count_last m keys d = search (arith, sum_by-append, sum_by-cons)

one_counted : (m : ℕ) (keys : List Declared) (d : Declared) (counts : List ℕ) → d.manager < length counts
    → get_or counts m 0 ≡ key_count m keys
    → get_or (slice_set counts d.manager (get_or counts d.manager 0 + 1)) m 0 ≡ key_count m keys + cond (d.manager == m)
    1 0
one_counted m keys d counts lt old = search (arith, slice_set, eqb-true, get_or-set_same, get_or-set_other, d.manager)

-- A key that is put into the set and counted is found.
one_found : (keys : List Declared) (d : Declared) (found now : List (ℕ × List ℕ)) (counts : List ℕ)
    → Finds keys found counts → d.manager < length counts
    → ((q : ℕ × List ℕ)
    → list_any (is_same q) now ≡ cond (is_same (d.manager, d.key) q) true (list_any (is_same q) found))
    → Finds (keys ++ d ∷ []) now (slice_set counts d.manager (get_or counts d.manager 0 + 1))
one_found keys d found now counts old lt put =
    record {
      has = search (arith, or_last, list_any-append, old.has);
      count = λ m. one_counted m keys d counts lt (old.count m) ∙ sym (count_last m keys d);
    }

pub invariant_of-self-in_err-push : goal.invariant_of-self-in_err-push
invariant_of-self-in_err-push c = search (arith, still_found, c.in_err-push.ensures.items, c.self.invariant)

pub invariant_of-self-2 : goal.invariant_of-self-2
invariant_of-self-2 c =
    let put =
    at_ok c.insert-inserted.result _ (c.insert-inserted.ensures.succeeds (omega (arith, c.in_ok-reserve.ensures.ok)))
    c.insert-inserted.ensures.updates in
    rw c.in_ok-push.ensures.items
    (one_found c.self.inside.list.items c.args.declared c.reserve.new.self.keys c.insert-inserted.new.self.keys
    c.self.inside.counts
    (still_found _ _ _ _ c.self.invariant c.reserve.ensures.keys.2) (omega (arith, c.requires)) put.0)
