-- What is written of a copy, over what a file has.
use Rattle.std.proofs.Common.{◌≡◌, ℕ, ◌+◌, ◌-◌, ◌<◌, ◌≤◌, min, max, List, ◌++◌, length, take, drop, sym, ap, ◌∙◌}
use Rattle.std.proofs.Common.{append_assoc, arith}
use Rattle.std.proofs.lemmas.List.{drop-drop, ext_get_or, get_or-drop, get_or-take, length-drop, length-take-le}
use Rattle.std.proofs.lemmas.List.{take-append-drop}
use Rattle.sqlite_disk.specs.Disk.{Holds, Torn}
use Rattle.xa_disk.specs.{overwritten, part}

-- A part of the new bytes, written over the old ones, makes these the new ones, if they are the same outside it.
pub part_over : (old new : List ℕ) (from n : ℕ) → take from new ≡ take from old
    → drop (from + n) new ≡ drop (from + n) old
    → from + n ≤ length new → overwritten old from (part from n new) ≡ new
part_over old new from n before after within =
    let len : length (part from n new) ≡ n = length-take-le n (drop from new) (omega (arith, length-drop from new)) in
    ap (λ (m : ℕ). take from old ++ part from n new ++ drop (from + m) old) len
    ∙ ap (λ (front : List ℕ). front ++ part from n new ++ drop (from + n) old) (sym before)
    ∙ ap (λ (back : List ℕ). take from new ++ part from n new ++ back) (sym after ∙ sym (drop-drop n from new))
    ∙ append_assoc (take from new) (part from n new) (drop n (drop from new))
    ∙ ap (λ (back : List ℕ). take from new ++ back) (take-append-drop n (drop from new))
    ∙ take-append-drop from new

-- before a write all is the same
same_before : (old new : List ℕ) (from at n : ℕ) → from ≤ at → from ≤ length old → Torn at n old new
    → take from new ≡ take from old
same_before old new from at n low within torn =
    let longer : length old ≤ length new = torn.no_shorter in
    let len_new : length (take from new) ≡ from = length-take-le from new (omega (arith, longer, within)) in
    let len_old : length (take from old) ≡ from = length-take-le from old within in
    ext_get_or 0 (take from new) (take from old) (len_new ∙ sym len_old)
    (λ i below.
    let inside : i < from = omega (arith, below, len_new) in
    get_or-take from new i 0 inside
    ∙ torn.below i (omega (arith, inside, within)) (omega (arith, inside, low))
    ∙ sym (get_or-take from old i 0 inside))

-- after it too
same_after : (old new : List ℕ) (at n : ℕ) → Torn at n old new → at + n ≤ length new
    → drop (at + n) new ≡ drop (at + n) old
same_after old new at n torn within =
    let shorter : length old ≤ length new = torn.no_shorter in
    let longer : length new ≤ max (length old) (at + n) = torn.no_longer in
    let len_new = length-drop (at + n) new in
    let len_old = length-drop (at + n) old in
    ext_get_or 0 (drop (at + n) new) (drop (at + n) old) (omega (arith, shorter, longer, within, len_new, len_old))
    (λ i below.
    get_or-drop (at + n) new i 0
    ∙ torn.above (at + n + i) (omega (arith, below, len_new, shorter, longer, within)) (omega arith)
    ∙ sym (get_or-drop (at + n) old i 0))

-- What a write changed of a copy, from the end of the old bytes if it lies past them, makes the old bytes the new ones.
pub written_over : (old new bytes given : List ℕ) (at from n : ℕ) → given ≡ old → from ≡ min at (length old)
    → n ≡ at + length bytes - from
    → Torn at (length bytes) old new → Holds new at bytes → overwritten given from (part from n new) ≡ new
written_over old new bytes given at from n same least count torn holds =
    let within : at + length bytes ≤ length new = holds.within in
    let low : from ≤ at = omega (arith, least) in
    let end : from + n ≡ at + length bytes = omega (arith, count, low) in
    ap (λ (file : List ℕ). overwritten file from (part from n new)) same
    ∙ part_over old new from n (same_before old new from at (length bytes) low (omega (arith, least)) torn)
    (ap (λ (m : ℕ). drop m new) end ∙ same_after old new at (length bytes) torn within
    ∙ ap (λ (m : ℕ). drop m old) (sym end))
    (omega (arith, end, within))
