use Rattle.xa_base.proofs.{◌≡◌, ◌≢◌, ◌≤◌, pos, true, Err, List, ℕ, length, sym, ap, ◌∙◌, arith, le-leb, decimal}
use Rattle.std.specs.Cmp.Derive.{both_true}
use Rattle.std.proofs.lemmas.Fmt.{decimal_nonempty}
use Rattle.xa_words.specs.{XidFault, is_part, xid_of}
use Rattle.script_session.proofs.commits.branch_at.Goals as goal

-- 1 to 64 bytes are a part of a name
part : (bytes : List ℕ) → 1 ≤ length bytes → length bytes ≤ 64 → is_part bytes ≡ true
part bytes some few = both_true (le-leb 1 (length bytes) some) (le-leb (length bytes) 64 few)

-- two parts make a name
named : (gtrid bqual : List ℕ) (why : XidFault) → is_part gtrid ≡ true → is_part bqual ≡ true
    → xid_of (pos 1) gtrid bqual ≢ Err why
named gtrid bqual why e f = rw (e, f) (λ wrong. cc)

pub unreachable-requires : goal.unreachable-requires
unreachable-requires c =
    let text : c.as_bytes.result.now ≡ decimal c.args.m = c.as_bytes.ensures.value ∙ c.format.ensures.text in
    let short = c.format.ensures.short in
    let value = ap (λ (l : List ℕ). length l) c.as_bytes.ensures.value in
    let size = ap (λ (l : List ℕ). length l) text in
    let some = decimal_nonempty c.args.m (omega arith) in
    named c.bytes.result.now c.as_bytes.result.now c.in-Err.field-0 c.bytes.ensures.valid
    (part c.as_bytes.result.now (omega (arith, some, size)) (omega (arith, short, value)))
    (sym c.new-2.ensures ∙ c.in-Err.is)
