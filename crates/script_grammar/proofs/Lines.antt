-- Bytes that are judged a block at a time, words that are cut off the front of a line, and lines that are taken off the
-- bytes.
use Rattle.script_grammar.specs.declared.fault.ScriptFault.TheVariants as faults
use Rattle.xa_base.proofs.{◌≡◌, ◌≤◌, ◌+◌, ℕ, Bool, true, false, ◌&&◌, List, take, drop, list_all, refl, sym, ap, ◌∙◌}
use Rattle.xa_base.proofs.{arith, take-append-drop, and_parts, ◌<◌, and-false, not-true, false_from_ne_true, none_of}
use Rattle.xa_base.proofs.{not, length, get_or, [], ◌∷◌, ◌++◌, filter, nat_eq, ◌==◌, ◌-◌, zero, suc, append_assoc}
use Rattle.xa_base.proofs.{length-append, append-nil, take_all, nat_lt, Ok, Err, eqb-true, take-take, drop-take}
use Rattle.xa_base.proofs.{drop_more, list_all-append, nat_tests, AllPass-from_list_all, onto_first, slice_index}
use Rattle.xa_base.proofs.{add-one, length-take, drop-cons}
use Rattle.std.proofs.lemmas.List.Folds.{list_all_more}
use Rattle.script_grammar.specs.{is_script_byte, is_space, starts_blank, IsPlain, has_bytes, words_of, IsWord}
use Rattle.script_grammar.specs.{are_comment, TooManyLines, LineTooLong, ScriptFault, lines_of, without_return}
use Rattle.script_grammar.specs.{HasNoEnd, line_of, after_line, script_from, Fails, FailsAt, Content}
use Rattle.std.specs.List.{slice_split, starts_with}
use Rattle.std.proofs.Common.{le_refl}

-- What holds of all bytes holds of those before a place and of those after it.
pub apart : (p : ℕ → Bool) (n : ℕ) (xs : List ℕ) → list_all p xs ≡ (list_all p (take n xs) && list_all p (drop n xs))
apart p n xs = ap (list_all p) (sym (take-append-drop n xs)) ∙ list_all-append p (take n xs) (drop n xs)

-- A block goes on from those before it.
pub block_more : (p : ℕ → Bool) (xs : List ℕ) (a b : ℕ) → list_all p (take a xs) ≡ true
    → list_all p (take b (drop a xs)) ≡ true
    → list_all p (take (a + b) xs) ≡ true
block_more p xs a b front block =
    apart p a (take (a + b) xs)
    ∙ (λ i. list_all p (take-take a (a + b) xs (omega arith) i) && list_all p (drop-take a b xs i))
    ∙ (λ i. front i && block i)

-- One in which it doesn't hold decides.
pub block_bad : (p : ℕ → Bool) (xs : List ℕ) (a b : ℕ) → list_all p (take b (drop a xs)) ≡ false → list_all p xs ≡ false
block_bad p xs a b bad =
    let rest : list_all p (drop a xs) ≡ false =
    apart p b (drop a xs) ∙ (λ i. bad i && list_all p (drop b (drop a xs))) in
    apart p a xs ∙ (λ i. list_all p (take a xs) && rest i) ∙ and-false (list_all p (take a xs))

-- The last block decides, where it holds of those before it.
pub block_last : (p : ℕ → Bool) (xs : List ℕ) (n k : ℕ) → n ≤ k → list_all p (take k xs) ≡ true
    → list_all p xs ≡ list_all p (drop n xs)
block_last p xs n k le front =
    let parts = and_parts _ _ (sym (apart p n (take k xs)) ∙ front) in
    let before : list_all p (take n xs) ≡ true = sym (ap (list_all p) (take-take n k xs le)) ∙ parts.0 in
    apart p n xs ∙ (λ i. before i && list_all p (drop n xs))

-- ---- Of the bytes that a script may have, spaces are the least

space_of : (b : ℕ) → is_script_byte b ≡ true → b ≤ 32 → is_space b ≡ true
space_of b good le = grind (arith, nat_tests)

pub no_space : (b : ℕ) → 32 < b → not (is_space b) ≡ true
no_space b lt = grind (arith, nat_tests)

pub plain_blank : (xs : List ℕ) (i : ℕ) → IsPlain xs → i < length xs → get_or xs i 0 ≤ 32
    → starts_blank (drop i xs) ≡ true
plain_blank xs i plain lt le =
    ap starts_blank (drop_more xs i 0 lt)
    ∙ space_of (get_or xs i 0) (AllPass-from_list_all is_script_byte xs plain i 0 lt) le

-- So are those after a place.
pub plain_rest : (n : ℕ) (xs : List ℕ) → IsPlain xs → IsPlain (drop n xs)
plain_rest n xs plain = (and_parts _ _ (sym (apart is_script_byte n xs) ∙ plain)).1

-- ---- Words are cut off the front of a line one by one

-- Where none passes, the first doesn't, nor does one of the rest.
none_parts : (p : ℕ → Bool) (b : ℕ) (bs : List ℕ) → list_all (λ b. not (p b)) (b ∷ bs) ≡ true
    → (p b ≡ false) × (list_all (λ b. not (p b)) bs ≡ true)
none_parts p b bs h = let parts = and_parts _ _ h in (not-true (p b) parts.0, parts.1)

-- A space at the front parts no words.
pub words_of_space : (b : ℕ) (line : List ℕ) → is_space b ≡ true → words_of (b ∷ line) ≡ words_of line
words_of_space b line h = rw h refl

-- The first part of a line that starts blank is empty.
blank_parts : (line : List ℕ) → starts_blank line ≡ true
    → (parts : List (List ℕ)) × (slice_split is_space line ≡ [] ∷ parts) × (words_of line ≡ filter has_bytes parts)
blank_parts [] h = ([], refl, refl)
blank_parts (b ∷ line) h = (slice_split is_space line, rw h refl, words_of_space b line h)

-- A word ahead of an empty part is that part.
word_parts : (w line : List ℕ) (parts : List (List ℕ)) → IsWord w → slice_split is_space line ≡ [] ∷ parts
    → slice_split is_space (w ++ line) ≡ w ∷ parts
word_parts [] line parts h e = e
word_parts (b ∷ w) line parts h e =
    let none = none_parts is_space b w h in rw none.0 (ap (onto_first b) (word_parts w line parts none.1 e))

-- A word that a space or the end follows is the first word.
pub first_word : (w line : List ℕ) → IsWord w → 0 < length w → starts_blank line ≡ true
    → words_of (w ++ line) ≡ w ∷ words_of line
first_word w line h lt blank = search (arith, blank_parts, word_parts)

-- A byte ahead of parts stands in the first of them.
pub onto_parts : (b : ℕ) (xss : List (List ℕ))
    → (more : List ℕ) × (yss : List (List ℕ)) × (onto_first b xss ≡ (b ∷ more) ∷ yss)
onto_parts b [] = ([], [], refl)
onto_parts b (xs ∷ xss) = (xs, xss, refl)

-- A line that doesn't start blank is a comment where its first byte is `#`.
pub are_comment_words : (line : List ℕ) → (starts_blank line ≡ true → line ≡ [])
    → starts_with nat_eq line (35 ∷ []) ≡ are_comment (words_of line)
are_comment_words [] h = refl
are_comment_words (b ∷ line) h =
    let p = onto_parts b (slice_split is_space line) in
    rw (false_from_ne_true (is_space b) (λ e. let no : b ∷ line ≡ [] = h e in cc), p.2) (same_hash b)
  where
    same_hash : (b : ℕ) → (nat_eq 35 b && true) ≡ (b == 35)
    same_hash b = grind (arith, nat_tests)

-- ---- Lines are taken off the front of the bytes one by one

-- What stands in front of a line feed is the first line.
pub whole_line : (line bytes : List ℕ) → HasNoEnd line → lines_of (line ++ 10 ∷ bytes) ≡ line ∷ lines_of bytes
whole_line [] bytes h = refl
whole_line (b ∷ line) bytes h =
    let none = none_parts (λ b. b == 10) b line h in rw none.0 (ap (onto_first b) (whole_line line bytes none.1))

-- The last line may lack its line feed.
pub last_line : (line : List ℕ) → HasNoEnd line → 0 < length line → lines_of line ≡ line ∷ []
last_line [] h lt = absurd (omega arith)
last_line (b ∷ []) h lt = rw (none_parts (λ b. b == 10) b [] h).0 refl
last_line (b ∷ c ∷ line) h lt =
    let none = none_parts (λ b. b == 10) b (c ∷ line) h in
    rw none.0 (ap (onto_first b) (last_line (c ∷ line) none.1 (omega arith)))

-- Bytes without a line feed begin the first line, whatever comes after them.
first_line : (line bytes : List ℕ) → HasNoEnd line → 0 < length line
    → (more : List ℕ) × (lines : List (List ℕ)) × (lines_of (line ++ bytes) ≡ (line ++ more) ∷ lines)
first_line [] bytes h lt = absurd (omega arith)
first_line (b ∷ []) bytes h lt =
    let p = onto_parts b (lines_of bytes) in (p.0, p.1, rw (none_parts (λ b. b == 10) b [] h).0 p.2)
first_line (b ∷ c ∷ line) bytes h lt =
    let none = none_parts (λ b. b == 10) b (c ∷ line) h in
    let p = first_line (c ∷ line) bytes none.1 (omega arith) in (p.0, p.1, rw none.0 (ap (onto_first b) p.2))

-- A line has one carriage return at most that is dropped.
strip_len : (xs : List ℕ) → length xs ≤ length (without_return xs) + 1
strip_len xs = grind (arith, length-take)

-- A line past the last is refused whatever it holds.
refuses_many : (mode : Bool) (s : Content) (n : ℕ) (line : List ℕ) (lines : List (List ℕ)) → 100000 < n
    → script_from mode n s (line ∷ lines) ≡ Err (n, TooManyLines)
unfolding script_from after_line line_of
refuses_many mode s n line lines lt = let e : nat_lt 100000 n ≡ true = grind arith in rw e refl

-- A line of more than 513 bytes is refused, as only one of them may be a carriage return.
refuses_long : (mode : Bool) (s : Content) (n : ℕ) (line : List ℕ) (lines : List (List ℕ)) → n ≤ 100000
    → 513 < length line
    → script_from mode n s (line ∷ lines) ≡ Err (n, LineTooLong)
unfolding script_from after_line line_of
refuses_long mode s n line lines le lt = search (arith, nat_lt, strip_len)

-- Two parts without a line feed have none together.
both_no_end : (line part : List ℕ) → HasNoEnd line → HasNoEnd part → HasNoEnd (line ++ part)
both_no_end line part h e = rw (list_all-append (λ b. not (b == 10)) line part, h, e) refl

-- A part too much of a line past the last: there are too many lines.
pub too_many : (mode : Bool) (s : Content) (n : ℕ) (line part bytes : List ℕ) → HasNoEnd line → HasNoEnd part
    → 100000 < n → 513 < length line + length part
    → script_from mode n s (lines_of (line ++ (part ++ bytes))) ≡ Err (n, TooManyLines)
too_many mode s n line part bytes h e lt len =
    let w : List ℕ = line ++ part in
    let p = first_line w bytes (both_no_end line part h e) (omega (arith, len, length-append line part)) in
    ap (λ x. script_from mode n s (lines_of x)) (sym (append_assoc line part bytes)) ∙ ap (script_from mode n s) p.2
    ∙ refuses_many mode s n (w ++ p.0) p.1 lt

-- A part too much of a line: it is too long.
pub too_long : (mode : Bool) (s : Content) (n : ℕ) (line part bytes : List ℕ) → HasNoEnd line → HasNoEnd part
    → n ≤ 100000 → 513 < length line + length part
    → script_from mode n s (lines_of (line ++ (part ++ bytes))) ≡ Err (n, LineTooLong)
too_long mode s n line part bytes h e le len =
    let w : List ℕ = line ++ part in
    let p = first_line w bytes (both_no_end line part h e) (omega (arith, len, length-append line part)) in
    search (arith, append_assoc, refuses_long, length-append, p.1)

-- A line that is taken: the next line goes on from there.
pub goes_further : (mode : Bool) (s t : Content) (n : ℕ) (line bytes : List ℕ) → HasNoEnd line
    → after_line mode s n line ≡ Ok t
    → script_from mode n s (lines_of (line ++ 10 ∷ bytes)) ≡ script_from mode (n + 1) t (lines_of bytes)
unfolding script_from
goes_further mode s t n line bytes h e = ap (script_from mode n s) (whole_line line bytes h) ∙ rw e refl

-- A line that is faulty: its fault is that of the script.
pub stops_there : (mode : Bool) (e : ScriptFault) (s : Content) (n : ℕ) (line bytes : List ℕ) → HasNoEnd line
    → FailsAt n e (after_line mode s n line)
    → Fails e (script_from mode n s (lines_of (line ++ 10 ∷ bytes)))
unfolding script_from
stops_there mode (faults.Line k why) s n line bytes h f =
    ap (script_from mode n s) (whole_line line bytes h) ∙ rw (f.1, f.0) refl
stops_there mode faults.Read s n line bytes h f = tt
stops_there mode faults.NoMemory s n line bytes h f = tt

-- The bytes end after a line feed.
pub ends_empty : (mode : Bool) (s : Content) (n : ℕ) (line : List ℕ) → length line ≡ 0
    → script_from mode n s (lines_of (line ++ [])) ≡ Ok s
unfolding script_from
ends_empty mode s n line h = ap (λ (xs : List ℕ). script_from mode n s (lines_of (xs ++ []))) (none_of line h)

-- The bytes end in a line without a line feed, which is taken.
pub ends : (mode : Bool) (s t : Content) (n : ℕ) (line : List ℕ) → HasNoEnd line → 0 < length line
    → after_line mode s n line ≡ Ok t
    → script_from mode n s (lines_of (line ++ [])) ≡ Ok t
unfolding script_from
ends mode s t n line h lt e = search (arith, append-nil, last_line)

-- The bytes end in a line without a line feed, which is faulty.
pub ends_in_fault : (mode : Bool) (e : ScriptFault) (s : Content) (n : ℕ) (line : List ℕ) → HasNoEnd line
    → 0 < length line
    → FailsAt n e (after_line mode s n line) → Fails e (script_from mode n s (lines_of (line ++ [])))
unfolding script_from
ends_in_fault mode (faults.Line k why) s n line h lt f = search (arith, append-nil, last_line)
ends_in_fault mode faults.Read s n line h lt f = tt
ends_in_fault mode faults.NoMemory s n line h lt f = tt

-- Bytes up to a place before which no line feed stands have none.
pub no_end_before : (bytes : List ℕ) (end : ℕ) → end ≤ length bytes
    → ((k : ℕ) → k < end → ¬ ((slice_index bytes k == 10) ≡ true)) → HasNoEnd (take end bytes)
no_end_before bytes zero le none = refl
no_end_before bytes (suc k) le none =
    let before : HasNoEnd (take k bytes) = no_end_before bytes k (omega arith) (λ j lt. none j (omega arith)) in
    let last = false_from_ne_true (slice_index bytes k == 10) (none k (omega arith)) in
    rw (← add-one k) (list_all_more (λ b. not (b == 10)) bytes k 0 (omega arith) ∙ rw (before, last) refl)

-- Bytes with a line feed at a place are the line in front of it, the line feed, and what is after it.
pub cut_at : (bytes : List ℕ) (end : ℕ) → end < length bytes → (slice_index bytes end == 10) ≡ true
    → (take end bytes ++ 10 ∷ []) ++ drop (end + 1) bytes ≡ bytes
cut_at bytes end lt is = search (arith, append_assoc, eqb-true, slice_index, add-one, drop-cons, take-append-drop)

-- Bytes where no line feed stands have none.
pub no_end : (bytes : List ℕ) → ((k : ℕ) → k < length bytes → ¬ ((slice_index bytes k == 10) ≡ true)) → HasNoEnd bytes
no_end bytes none =
    rw (take_all _ _ (le_refl (length bytes))) at (no_end_before bytes (length bytes) (le_refl (length bytes)) none)
