-- What a teller does at a transfer of a number, by its habits.
use Rattle.std.specs.Prelude.{ℕ, ◌-◌, ◌==◌, if◌then◌else◌, Option, None, Some}
use Rattle.xa_words.specs.declared.death.Death.{Death}
use Rattle.demo_bank.specs.declared.habits.DiesAt.{DiesAt}
use Rattle.demo_bank.specs.declared.habits.Habits.{Habits}
use Rattle.demo_bank.specs.declared.habits.ShutsAt.{ShutsAt}

-- the death, if it is at this place
abbrev pub death_if_at : Option DiesAt → ℕ → Option Death
death_if_at None place = None
death_if_at (Some dies) place = if dies.place == place then Some dies.death else None

-- the death that a teller of these habits dies in its transfer of number n, if it dies there
abbrev pub death_in : Habits → ℕ → Option Death
death_in habits n = death_if_at habits.death (n - habits.first)

-- the store that is shut, if it is before this place
abbrev pub store_if_at : Option ShutsAt → ℕ → Option ℕ
store_if_at None place = None
store_if_at (Some shuts) place = if shuts.place == place then Some shuts.store else None

-- the store that such a teller shuts before its transfer of number n, if it shuts one there
abbrev pub shut_before : Habits → ℕ → Option ℕ
shut_before habits n = store_if_at habits.shuts (n - habits.first)
