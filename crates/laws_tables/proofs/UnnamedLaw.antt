-- A branch with which nobody is associated stays as it is under every request that doesn't name it.
use Rattle.xa_base.proofs.{◌≡◌, ℕ, false, None, [], ◌∷◌, refl, ◌∙◌, arith, ◌++◌, All-head, All-tail, at_false}
use Rattle.xa_words.specs.{XidName, Op, Code, Request}
use Rattle.xa_tables.proofs.SoundLemmas.{swap_xid, apart_from, changes}
use Rattle.laws_fates.proofs.ValueLaw.{get_add, get_without}
use Rattle.xa_tables.specs.{TablesAndCode, next, fate_of, tables_after, Tables, History, is_somebody_associated, names}
use Rattle.xa_tables.specs.{NamesNowhere, StaysAsItWas}
use Rattle.xa_tables.proofs.Effects.{Effect, Adds, effect_of, Drops, Dooms}
use Rattle.std.specs.FinMap as map

-- a request that doesn't name x makes nothing of it
pub unnamed_fate : (x : XidName) (op : Op) (c : Code) → names x op ≡ false → fate_of x op c ≡ None
unnamed_fate x op c n = grind (arith, at_false)

module _ (t : ℕ) (x : XidName) (T : Tables) (nobody : is_somebody_associated T.associations x ≡ false) where
  by_effect : {op : Op} {a : TablesAndCode} → Effect t T op a → names x op ≡ false → StaysAsItWas x T a.0
  by_effect (Dooms k d l own) n = grind (arith, changes, apart_from)
  by_effect (Adds k d l own known alone) n = grind (arith, get_add, apart_from)
  by_effect (Drops op y c free left tells) n = grind (arith, changes, get_without, swap_xid)
  by_effect effect n = grind (arith, changes, get_without, swap_xid)

pub unnamed_stays : (t : ℕ) (op : Op) (x : XidName) (T : Tables) → is_somebody_associated T.associations x ≡ false
    → names x op ≡ false
    → StaysAsItWas x T (next t op T).0
unnamed_stays t op x T nobody = by_effect t x T nobody (effect_of t op T)

-- the same for the requests of a history
pub unnamed_on : (g : History) (x : XidName) (T : Tables) → is_somebody_associated T.associations x ≡ false
    → NamesNowhere x g
    → StaysAsItWas x T (tables_after g T)
unnamed_on [] x T nobody n = record { state = refl; sums = λ k. refl; apart = nobody }
unnamed_on (r ∷ g) x T nobody n =
    let P : Request → Type 0 = λ q. names x q.op ≡ false in
    let one = unnamed_stays r.thread r.op x T nobody (All-head P r g n) in
    let rest = unnamed_on g x (next r.thread r.op T).0 one.apart (All-tail P r g n) in
    record { state = rest.state ∙ one.state; sums = λ k. rest.sums k ∙ one.sums k; apart = rest.apart }

-- what a history is followed by begins with the tables after it
pub tables_after-append : (h g : History) (T : Tables) → tables_after (h ++ g) T ≡ tables_after g (tables_after h T)
tables_after-append [] g T = refl
tables_after-append (r ∷ h) g T = tables_after-append h g (next r.thread r.op T).0

pub unnamed_law : (h g : History) (x : XidName) (T : Tables)
    → is_somebody_associated (tables_after h T).associations x ≡ false → NamesNowhere x g
    → StaysAsItWas x (tables_after h T) (tables_after (h ++ g) T)
unnamed_law h g x T nobody n = rw (tables_after-append h g T) (unnamed_on g x (tables_after h T) nobody n)
