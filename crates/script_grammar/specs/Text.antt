-- How bytes are lines, and how a line is words.
use Rattle.std.specs.Prelude.{ℕ, Bool, true, false, ◌&&◌, ◌||◌, not, ◌≡◌, ◌==◌, nat_le, if◌then◌else◌, List, [], ◌∷◌}
use Rattle.std.specs.Prelude.{filter}
use Rattle.std.specs.List.{list_all, onto_first, slice_split}
use Rattle.std.specs.Io.BufRead.{strip_last}

-- The bytes that have a meaning of their own.
abbrev pub tab : ℕ
tab = 9

abbrev pub line_feed : ℕ
line_feed = 10

abbrev pub carriage_return : ℕ
carriage_return = 13

abbrev pub space : ℕ
space = 32

abbrev pub hash : ℕ
hash = 35

abbrev pub minus : ℕ
minus = 45

abbrev pub dot : ℕ
dot = 46

-- Each line ends with a line feed; the last one may lack it.
abbrev pub lines_of : List ℕ → List (List ℕ)
lines_of [] = []
lines_of (b ∷ bs) = if b == line_feed then [] ∷ lines_of bs else onto_first b (lines_of bs)

-- No line feed is among the bytes.
abbrev pub HasNoEnd : List ℕ → Type 0
HasNoEnd bytes = list_all (λ b. not (b == line_feed)) bytes ≡ true

-- A carriage return at the end of a line is dropped.
abbrev pub without_return : List ℕ → List ℕ
without_return line = strip_last carriage_return line

-- The bytes of a line are 32 to 126 and the tab.
abbrev pub is_script_byte : ℕ → Bool
is_script_byte b = (nat_le 32 b && nat_le b 126) || (b == tab)

-- They are such bytes.
abbrev pub IsPlain : List ℕ → Type 0
IsPlain bytes = list_all is_script_byte bytes ≡ true

-- A tab counts as a space.
abbrev pub is_space : ℕ → Bool
is_space b = (b == space) || (b == tab)

-- It isn't empty.
abbrev pub has_bytes : List ℕ → Bool
has_bytes [] = false
has_bytes (b ∷ bs) = true

-- Words stand between runs of spaces.
abbrev pub words_of : List ℕ → List (List ℕ)
words_of line = filter has_bytes (slice_split is_space line)

-- No space is among the bytes.
abbrev pub IsWord : List ℕ → Type 0
IsWord w = list_all (λ b. not (is_space b)) w ≡ true

-- A space or the end comes.
abbrev pub starts_blank : List ℕ → Bool
starts_blank [] = true
starts_blank (b ∷ bs) = is_space b
