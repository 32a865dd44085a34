-- What writes and changes of the length do to the bytes of a file.
use Rattle.std.specs.Prelude.{ℕ, ◌+◌, ◌-◌, List, ◌++◌, length, take, drop, replicate}

-- the file with these bytes at this offset, in place of as many
abbrev pub overwritten : List ℕ → ℕ → List ℕ → List ℕ
overwritten old at bytes = take at old ++ bytes ++ drop (at + length bytes) old

-- so many bytes of the copy at this offset
abbrev pub part : ℕ → ℕ → List ℕ → List ℕ
part at n copy = take n (drop at copy)

-- the file with so many bytes: its first ones, and zeros after them
abbrev pub resized : List ℕ → ℕ → List ℕ
resized old len = take len old ++ replicate (len - length old) 0
