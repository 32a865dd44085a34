-- What a word stands for, and which fault it is where it stands for nothing.
use Rattle.std.specs.Prelude.{◌≡◌, ℕ, ◌+◌, ◌-◌, ◌*◌, ℤ, pos, neg_ℤ, Bool, ◌&&◌, ◌||◌, ◌==◌, nat_le, if◌then◌else◌, List}
use Rattle.std.specs.Prelude.{[], ◌∷◌, length, fold, Option, Some, None, Result, Ok, Err, bit_or, codes}
use Rattle.std.specs.List.{list_all, before_first, after_first}
use Rattle.std.specs.Option.{ok_or, option_map}
use Rattle.std.specs.Char.{is_ascii_digit, is_ascii_lowercase}
use Rattle.std.specs.Map.{lookup}
use Rattle.std.specs.Str.{bytes_eq}
use Rattle.xa_words.specs.Xid.{XidName}
use Rattle.xa_words.specs.Tran.{TranName}
use Rattle.xa_words.specs.Key.{key_of}
use Rattle.xa_words.specs.Delta.{delta_of}
use Rattle.xa_words.specs.Flags.{TMASYNC, TMONEPHASE, TMFAIL, TMNOWAIT, TMRESUME, TMSUCCESS, TMSUSPEND, TMSTARTRSCAN}
use Rattle.xa_words.specs.Flags.{TMENDRSCAN, TMMULTIPLE, TMJOIN}
use Rattle.script_grammar.specs.Text.{dot, minus}
use Rattle.script_grammar.specs.declared.fault.Reason.{Reason}
use Rattle.script_grammar.specs.declared.fault.Reason.TheVariants.{UnknownWord, MissingWord, ExtraWord, BadNumber}
use Rattle.script_grammar.specs.declared.fault.Reason.TheVariants.{OutOfRange, BadKey, BadXid}

-- The first fault decides.
infixl 10 ◌>>=◌
abbrev pub ◌>>=◌ : {A B E : Type 0} → Result A E → (A → Result B E) → Result B E
(Ok x) >>= f = f x
(Err why) >>= f = Err why

-- What a function took off the words, and the words that it left, are what reading gives.
abbrev pub TakesWords : {X : Type 0} → Result X Reason → List (List ℕ) → Result (X × List (List ℕ)) Reason → Type 0
TakesWords (Ok x) left read = read ≡ Ok (x, left)
TakesWords (Err why) left read = read ≡ Err why

-- A word is bytes without a space.
abbrev pub Word : Type 0
Word = List ℕ

-- The next word, and the words after it.
abbrev pub word_at : List Word → Result (Word × List Word) Reason
word_at [] = Err MissingWord
word_at (w ∷ ws) = Ok (w, ws)

-- What the next word stands for, and the words after it.
abbrev pub field : {X : Type 0} → (Word → Result X Reason) → List Word → Result (X × List Word) Reason
field read ws = do
  w ← word_at ws
  x ← read w.0
  Ok (x, w.1)

-- No word is left.
abbrev pub end_of : List Word → Result (Unit {0}) Reason
end_of [] = Ok tt
end_of (w ∷ ws) = Err ExtraWord

-- ---- numbers

-- Each byte is one of 0 to 9.
abbrev pub all_digits : Word → Bool
all_digits w = list_all is_ascii_digit w

-- The number that digits write.
abbrev pub decimal_value : Word → ℕ
decimal_value w = fold (λ n b. 10 * n + (b - 48)) 0 w

-- A number is 1 to 18 digits; leading zeros are allowed.
abbrev pub number_of_word : Word → Option ℕ
number_of_word w = if nat_le 1 (length w) && nat_le (length w) 18 && all_digits w then Some (decimal_value w) else None

-- The number that a word is, from low to high.
abbrev pub number_within : ℕ → ℕ → Word → Result ℕ Reason
number_within low high w = do
  n ← ok_or (number_of_word w) BadNumber
  if nat_le low n && nat_le n high then Ok n else Err OutOfRange

-- The next word, as a number from low to high.
unfoldable pub number_at : ℕ → ℕ → List Word → Result (ℕ × List Word) Reason
number_at low high ws = field (number_within low high) ws

-- ---- names

-- The bytes of names are a to z and 0 to 9.
abbrev pub is_name_byte : ℕ → Bool
is_name_byte b = is_ascii_lowercase b || is_ascii_digit b

-- A name has 1 to 64 of them.
abbrev pub is_name : List ℕ → Bool
is_name bytes = nat_le 1 (length bytes) && nat_le (length bytes) 64 && list_all is_name_byte bytes

-- The next word, as a key.
unfoldable pub key_at : List Word → Result (List ℕ × List Word) Reason
key_at ws = field (λ w. ok_or (key_of w) BadKey) ws

-- An xid is G.B, two names; it stands for format 1, gtrid G, bqual B.
abbrev pub xid_of_word : Word → Option XidName
xid_of_word w =
    let g = before_first (λ b. b == dot) w in
    let b = after_first (λ b. b == dot) w in
    if is_name g && is_name b then Some (record { format = pos 1; gtrid = g; bqual = b }) else None

-- The next word, as an xid.
unfoldable pub xid_at : List Word → Result (XidName × List Word) Reason
xid_at ws = field (λ w. ok_or (xid_of_word w) BadXid) ws

-- A name stands for the global transaction of format 1 that has it as gtrid.
abbrev pub tran_named : Word → Option TranName
tran_named w = if is_name w then Some (record { format = pos 1; gtrid = w }) else None

-- The next word, as a global transaction.
unfoldable pub tran_at : List Word → Result (TranName × List Word) Reason
tran_at ws = field (λ w. ok_or (tran_named w) BadXid) ws

-- ---- deltas

-- A number may have a minus before it.
abbrev pub signed_number_of : Word → Option ℤ
signed_number_of [] = None
signed_number_of (b ∷ bs) =
    if b == minus then option_map (λ n. neg_ℤ (pos n)) (number_of_word bs)
    else option_map pos (number_of_word (b ∷ bs))

-- The delta that a word stands for.
abbrev pub delta_in : Word → Result ℤ Reason
delta_in w = do
  z ← ok_or (signed_number_of w) BadNumber
  ok_or (delta_of z) OutOfRange

-- The next word, as a delta.
unfoldable pub delta_at : List Word → Result (ℤ × List Word) Reason
delta_at ws = field delta_in ws

-- ---- flags

-- Each flag word, and the flag of xa.h that it stands for.
abbrev pub flag_words : List (Word × ℕ)
flag_words =
    (codes "async", TMASYNC)
    ∷ (codes "onephase", TMONEPHASE)
    ∷ (codes "fail", TMFAIL)
    ∷ (codes "nowait", TMNOWAIT)
    ∷ (codes "resume", TMRESUME)
    ∷ (codes "success", TMSUCCESS)
    ∷ (codes "suspend", TMSUSPEND)
    ∷ (codes "startrscan", TMSTARTRSCAN)
    ∷ (codes "endrscan", TMENDRSCAN)
    ∷ (codes "multiple", TMMULTIPLE)
    ∷ (codes "join", TMJOIN)
    ∷ []

-- Each flag word stands for a flag of xa.h.
abbrev pub flag_of : Word → Option ℕ
flag_of w = lookup (bytes_eq w) flag_words

-- Flag words up to the end of the line are joined bit by bit to the flags before them.
unfoldable pub flags_onto : ℕ → List Word → Result ℕ Reason
flags_onto flags [] = Ok flags
flags_onto flags (w ∷ ws) = do
  flag ← ok_or (flag_of w) UnknownWord
  flags_onto (bit_or flags flag) ws
