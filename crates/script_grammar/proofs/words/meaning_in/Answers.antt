use Rattle.xa_base.proofs.{◌≡◌, ℕ, ◌-◌, ◌≤◌, List, [], ◌∷◌, Bor, length, get_or, take, drop, false, lookup, bytes_eq}
use Rattle.xa_base.proofs.{sym, ap, ◌∙◌, refl, arith, take_all, none_of}
use Rattle.script_grammar.proofs.words.meaning_in.Goals as goal

-- a word that isn't the first of a table is looked for in the rest
in_rest : {T : Type 0} (word : List ℕ) (table : List (Bor (List ℕ) × T)) (d : Bor (List ℕ) × T) → 1 ≤ length table
    → bytes_eq word (get_or table 0 d).0.now ≡ false
    → lookup (λ name. bytes_eq word name.now) (take (length table - 1) (drop 1 table)) ≡ lookup
    (λ name. bytes_eq word name.now) table
in_rest word [] d some other = absurd (omega arith)
in_rest word (x ∷ xs) d some other =
    ap (lookup (λ name. bytes_eq word name.now)) (take_all (length (x ∷ xs) - 1) xs (omega arith)) ∙ rw other refl

pub loop-table-preserved : goal.loop-table-preserved
loop-table-preserved g c =
    in_rest c.args.word.now c.loop-table.table.now _ c.in-len1-up.len_at_least (sym c.eq.ensures ∙ c.if-eq.false)
    ∙ c.loop-table.invariant

pub returns : goal.returns
returns g c =
    let none : c.loop-table.table.now ≡ [] =
    none_of c.loop-table.table.now (let below = c.in_default.len_below in omega (arith, below)) in
    ap (lookup (λ name. bytes_eq c.args.word.now name.now)) (sym none) ∙ c.loop-table.invariant
