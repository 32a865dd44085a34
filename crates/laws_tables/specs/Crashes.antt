-- What a crash makes of a history.
use Rattle.std.specs.Prelude.{ℕ, ◌∷◌, ◌++◌}
use Rattle.xa_words.specs.declared.request.Request.{Request}
use Rattle.xa_words.specs.declared.request.Op.TheVariants.{Shut}
use Rattle.xa_tables.specs.Histories.{History}

-- a Shut by a thread, as its first request
abbrev pub shut_by : ℕ → Request
shut_by v = record { thread = v; number = 0; op = Shut }

-- what the store has of a history, then a Shut by a thread, then what the store lacks
abbrev pub shut_at : History → ℕ → History → History
shut_at kept v lost = kept ++ shut_by v ∷ lost
