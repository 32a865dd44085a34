-- The laws of what a crash may have left, which the trait of devices asks for.
use Rattle.std.specs.Prelude.{◌≡◌, ℕ, ◌≤◌, List, length, take}
use Rattle.std.proofs.Common.{sym, subst, arith}
use Rattle.std.proofs.lemmas.List.{take_all}
use Rattle.xa_log_file.specs.DeviceHistories.{Past, leaves, LeftSince}

whole : (past : Past) (at : ℕ) → length past ≤ at → take at past ≡ past
whole past at le = take_all at past le

pub now_is_since : (past : Past) (t : ℕ) (c : List ℕ) → t ≤ length past → leaves past c → LeftSince past t c
now_is_since past t c le now = record {
  at = length past;
  from = le;
  to = omega arith;
  left = subst (λ (p : Past). leaves p c) (sym (whole past (length past) (omega arith))) now;
}

pub only_the_last : (past : Past) (c : List ℕ) → LeftSince past (length past) c → leaves past c
only_the_last past c since = subst (λ (p : Past). leaves p c) (whole past since.at since.from) since.left
