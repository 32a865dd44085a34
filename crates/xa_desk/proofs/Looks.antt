-- What takes of the lane of completions leave as it was, and how waiting calls idle.
use Rattle.xa_base.proofs.{◌≤◌, ◌-◌, ◌^◌, same_begins, begins_on, append-nil, map-append, rules, ◌≡◌, ℕ, zero, suc, ◌+◌}
use Rattle.xa_base.proofs.{List, [], ◌∷◌, ◌++◌, length, refl, arith, ◌≢◌, Option, Some, None, IfSome, is_some, true}
use Rattle.xa_base.proofs.{false, sym, ◌∙◌, ap, subst, cases_eq, removed_there, removed_other, OnSome, IsSome}
use Rattle.std.proofs.Math.Nat.{min-le_left, min-le_right, le-min}
use Rattle.xa_lane.specs.{Parcel, parcel, at_most_counted, Sending, but_full, Taken, Item, EndOf, Empty, Receiving}
use Rattle.xa_lane.specs.{Took}
use Rattle.xa_lane.proofs.Parcels.{somes-append}
use Rattle.xa_base.specs.{Begins}
use Rattle.xa_desk.specs.{arrived, IsPartOf, with_last, without_last, MarksEnd, MarkEnds, found_full, Its, Operation}
use Rattle.xa_desk.specs.{IsOut, IsLoose, ready_at, ready_with, completed, outstanding, drained_code, operation_of}
use Rattle.xa_desk.specs.{LeavesTickets, Drains, first, other, Draws, Pops, start, drawn, EndsQuiet, Collects}
use Rattle.xa_desk.specs.{CollectsLeast, DrawsFor, DeskView}
use Rattle.xa_words.specs.{Request, Code, Completion}
use Rattle.xa_desk.specs.Looks.{Looks}
use Rattle.xa_desk.proofs.Books.{drained_code-push_other}
use Rattle.std.specs.FinMap as finmap

-- ---- how waiting calls idle

module _ {I : Type 0} (by : ℕ → I → I → Type 0) where
  -- one more end mark was put
  pub marks_push : (m : ℕ) (ss es : List (Sending Request)) (s e : Sending Request) (a b c : I) (k : ℕ)
      → k ≡ m + length ss + 1 → MarkEnds by m ss es a b
      → MarksEnd (by k) s e b c → MarkEnds by m (ss ++ s ∷ []) (es ++ e ∷ []) a c
  marks_push m [] [] s e a b c k is h mark = search (arith, rules)
  marks_push m (x ∷ xs) (y ∷ ys) s e a b c k is h mark =
      (h.0, h.1, marks_push (suc m) xs ys s e h.0 b c k (omega (arith, is)) h.2 mark)
  marks_push m [] (y ∷ ys) s e a b c k is h mark = absurd h
  marks_push m (x ∷ xs) [] s e a b c k is h mark = absurd h

pub bare_full : (n : ℕ) (s : Sending Request) → but_full (found_full n s) ≡ but_full s
bare_full zero s = refl
bare_full (suc n) s = bare_full n s

-- ---- what takes of the lane of completions leave as it was

-- another operation's completion was taken
pub still_missing : (old new : DeskView) (c : Completion) (o : Operation) → Drains old c new → o ≢ operation_of c
    → drained_code o old.drained ≡ None
    → drained_code o new.drained ≡ None
still_missing old new c o h differs missing = grind (arith, drained_code-push_other)

-- the lane of completions has moved on, and what was drained; only what was drained and taken, and the quiet moments,
-- differ
abbrev moved : DeskView → List Completion → ℕ → Receiving Completion → DeskView
moved d drained then r = record d { drained = drained; drained_then = then; completions = r }

abbrev IsSameBut : DeskView → DeskView → Type 0
IsSameBut old new =
    new ≡ moved old new.drained new.drained_then
    (record old.completions
    { taken = new.completions.taken; quiet = new.completions.quiet; taken_then = new.completions.taken_then })

-- what takes do: what was taken and drained goes on, what was drained is part of what was taken, and no quiet moment is
-- lost
pub record MovesOn (old new : DeskView) : Type 0 where
  pub taken : Begins old.completions.taken new.completions.taken
  pub drained : Begins old.drained new.drained
  pub quiet : at_most_counted old.completions.quiet ≤ new.completions.quiet
  pub part : IsPartOf old.drained (arrived old.completions.taken) → IsPartOf new.drained (arrived new.completions.taken)
  pub rest : IsSameBut old new

pub same_count : (n : ℕ) → at_most_counted n ≤ n
same_count n = min-le_left n (2 ^ 64 - 1)

pub counts_on : (a b c : ℕ) → at_most_counted a ≤ b → at_most_counted b ≤ c → at_most_counted a ≤ c
counts_on a b c p q =
    let l : at_most_counted a ≤ at_most_counted b = le-min p (min-le_right a (2 ^ 64 - 1)) in omega (arith, l, q)

moves_none : (old new : DeskView) → new ≡ old → MovesOn old new
moves_none old new e =
    rw e (record {
      taken = same_begins old.completions.taken;
      drained = same_begins old.drained;
      quiet = same_count old.completions.quiet;
      part = λ p. p;
      rest = refl;
    })

same_chain : (a b c : DeskView) → IsSameBut a b → IsSameBut b c → IsSameBut a c
same_chain a b c p q = search (arith, rules)

moves_chain : (a b c : DeskView) → MovesOn a b → MovesOn b c → MovesOn a c
moves_chain a b c p q = record {
  taken = begins_on a.completions.taken b.completions.taken c.completions.taken p.taken q.taken;
  drained = begins_on a.drained b.drained c.drained p.drained q.drained;
  quiet = counts_on a.completions.quiet b.completions.quiet c.completions.quiet p.quiet q.quiet;
  part = λ x. q.part (p.part x);
  rest = same_chain a b c p.rest q.rest;
}

arrived-more : (taken : List (Parcel Completion)) (s : ℕ) (x : Option Completion)
    → arrived (taken ++ parcel s x ∷ []) ≡ arrived taken ++ arrived (parcel s x ∷ [])
arrived-more taken s x = grind (arith, map-append, somes-append)

-- a desk that a take of this receiver left
module _ (old : DeskView) (r : Receiving Completion) where
  moves_to : (drained : List Completion) (then : ℕ) (r' : Receiving Completion) → r ≡ r'
      → MovesOn old (moved old drained then r')
      → MovesOn old (moved old drained then r)
  moves_to drained then r' e = subst (λ (x : Receiving Completion). MovesOn old (moved old drained then x)) (sym e)

  -- and where it took a parcel
  took : (x : Parcel Completion) (drained : List Completion) → Begins old.drained drained
      → (IsPartOf old.drained (arrived old.completions.taken)
      → IsPartOf drained (arrived (old.completions.taken ++ x ∷ [])))
      → r ≡ record old.completions { taken = old.completions.taken ++ x ∷ [] }
      → MovesOn old (moved old drained old.drained_then r)
  took x drained more part e =
      moves_to drained old.drained_then _ e
      (record {
        taken = (x ∷ [], refl);
        drained = more;
        quiet = same_count old.completions.quiet;
        part = part;
        rest = refl;
      })

  drains_move : (new : DeskView) (s : ℕ) (c : Completion)
      → r ≡ record old.completions { taken = old.completions.taken ++ parcel s (Some c) ∷ [] }
      → Drains (record old { completions = r }) c new → MovesOn old new
  drains_move new s c e (first out none is) =
      rw is
      (took (parcel s (Some c)) (old.drained ++ c ∷ []) (c ∷ [], refl)
      (λ p. with_last _ _ _ c p (arrived-more old.completions.taken s (Some c))) e)
  drains_move new s c e (other never is) =
      rw is
      (took (parcel s (Some c)) old.drained (same_begins old.drained)
      (λ p. without_last _ _ _ c p (arrived-more old.completions.taken s (Some c))) e)

draws_move : (old new : DeskView) (a : Taken Completion) → Draws old a new → MovesOn old new
draws_move old new (Item s c) d = drains_move old new.completions new s c d.0.1 d.1
draws_move old new (EndOf s) d =
    let end = arrived-more old.completions.taken s None ∙ append-nil (arrived old.completions.taken) in
    rw d.1 (took old new.completions (parcel s None) old.drained (same_begins old.drained) (λ p. rw end p) d.0.1)
draws_move old new Empty d = rw d.1 (moves_to old new.completions old.drained (length old.drained) _ d.0 (record {
  taken = same_begins old.completions.taken;
  drained = same_begins old.drained;
  quiet = le-min (omega (arith, same_count old.completions.quiet)) (min-le_right old.completions.quiet (2 ^ 64 - 1));
  part = λ p. p;
  rest = refl;
}))

pops_move : (old new : DeskView) → Pops old new → MovesOn old new
pops_move old new (start _ e) = moves_none old new e
pops_move old new (drawn now _ before a d) = moves_chain old now new (pops_move old now before) (draws_move now new a d)

pub looks_move : (old new : DeskView) → Looks old new → MovesOn old new
looks_move old new l = pops_move old new l.pops

-- the completion that a take found was drained
pub item_drawn : (old new : DeskView) (r : Receiving Completion) (s : ℕ) (c : Completion)
    → Took old.completions (Item s c) r
    → Drains (record old { completions = r }) c new
    → Draws old (Item s c) new × (new.completions.quiet ≡ old.completions.quiet)
item_drawn old new r s c took drains = grind arith

pub looks_start : (old new : DeskView) → new ≡ old → Looks old new
looks_start old new e = record { pops = start new e; rest = (moves_none old new e).rest }

pub looks_drawn : (old now new : DeskView) (a : Taken Completion) → Looks old now → Draws now a new → Looks old new
looks_drawn old now new a l d =
    record { pops = drawn now new l.pops a d; rest = same_chain old now new l.rest (draws_move now new a d).rest }

-- it has changed by looks alone, and met no quiet moment
pub record LooksOn (old new : DeskView) : Type 0 where
  pub looks : Looks old new
  pub quiet : new.completions.quiet ≡ old.completions.quiet

pub looks_on : (d : DeskView) → LooksOn d d
looks_on d = record { looks = looks_start d d refl; quiet = refl }

-- and another take found something
pub looks_further : (old now new : DeskView) (a : Taken Completion) → LooksOn old now → Draws now a new
    → new.completions.quiet ≡ now.completions.quiet
    → LooksOn old new
looks_further old now new a l d came = record { looks = looks_drawn old now new a l.looks d; quiet = came ∙ l.quiet }

pops_chain : (a b c : DeskView) → Pops a b → Pops b c → Pops a c
pops_chain a b c l (start _ e) = rw e l
pops_chain a b c l (drawn now _ before taken d) = drawn now c (pops_chain a b now l before) taken d

pub looks_chain : (a b c : DeskView) → Looks a b → Looks b c → Looks a c
looks_chain a b c l m = record { pops = pops_chain a b c l.pops m.pops; rest = same_chain a b c l.rest m.rest }

pub quiet_looks : (a b : DeskView) → EndsQuiet a b → Looks a b
quiet_looks a b q = looks_drawn a q.before b Empty q.looks q.quiet

pub looks_out : (a b : DeskView) (o : Operation) → Looks a b → IsOut a.ledgers o → IsOut b.ledgers o
looks_out a b o l out = rw (ap (λ (x : DeskView). x.ledgers) l.rest) out

pub looks_loose : (a b : DeskView) (o : Operation) → Looks a b → IsLoose a o → IsLoose b o
looks_loose a b o l loose k e = loose k (ap (λ m. finmap.get m k) (sym (ap (λ (x : DeskView). x.kept) l.rest)) ∙ e)

pub looking_leaves : (a b : DeskView) → Looks a b → LeavesTickets a b
looking_leaves a b l t o = search (arith, looks_out, looks_loose, t.operation)

-- what isn't kept isn't kept once a number is free
pub freed_loose : (d : DeskView) (number : ℕ) (o : Operation) → IsLoose d o → (k : ℕ)
    → finmap.get (finmap.remove d.kept number) k ≢ Some o
freed_loose d number o loose k kept = grind (arith, cases_eq, removed_there, removed_other)

pub looks_outstanding : (a b : DeskView) → Looks a b → outstanding b.ledgers ≡ outstanding a.ledgers
looks_outstanding a b l = ap (λ (x : DeskView). outstanding x.ledgers) l.rest

pub collects_chain : (a b c : DeskView) (o : Operation) (code : Code) → Looks a b → Collects b c o code
    → Collects a c o code
collects_chain a b c o code l x =
    record {
      before = x.before;
      looks = looks_chain a b x.before l x.looks;
      out = x.out;
      drained = x.drained;
      collected = x.collected;
      fewer = x.fewer ∙ looks_outstanding a b l;
    }

pub collects_from : (old now new : DeskView) (o : Operation) (r : Option Code) → Looks old now → IsOut now.ledgers o
    → r ≡ drained_code o now.drained
    → IfSome r (λ code. new ≡ completed now o code) → OnSome r (outstanding new.ledgers + 1 ≡ outstanding now.ledgers)
    → IfSome r (Collects old new o)
collects_from old now new o None l out e h f = tt
collects_from old now new o (Some code) l out e h f =
    record {
      before = now;
      looks = l;
      out = out;
      drained = sym e;
      collected = h;
      fewer = f
          ∙ looks_outstanding old now l;
    }

-- a take found the operation's completion, after looks that found others
pub collects_found : (old now new : DeskView) (o : Operation) (code : Code) → Looks old now → IsOut old.ledgers o
    → DrawsFor now o (Its code) new
    → Collects old new o code
collects_found old now new o code l out d =
    let looked = looks_drawn old now d.0 d.1 l d.2 in
    record {
      before = d.0;
      looks = looked;
      out = looks_out old d.0 o looked out;
      drained = d.4;
      collected = d.5;
      fewer = d.6 ∙ looks_outstanding old d.0 looked;
    }

pub least_chain : (a b c : DeskView) (m number : ℕ) (code : Code) → Looks a b → CollectsLeast b c m number code
    → CollectsLeast a c m number code
least_chain a b c m number code l x =
    let q : EndsQuiet a x.before =
    record {
      before = x.quiet.before;
      looks = looks_chain a b x.quiet.before l x.quiet.looks;
      quiet = x.quiet.quiet;
    } in
    record { before = x.before; quiet = q; least = x.least; takes = x.takes }

-- what is kept stays kept through takes
pub looks_kept : (a b : DeskView) (number : ℕ) (o : Operation) → Looks a b → Some o ≡ finmap.get a.kept number
    → finmap.get b.kept number ≡ Some o
looks_kept a b number o l e = ap (λ (x : DeskView). finmap.get x.kept number) l.rest ∙ sym e

pub ready_from : (d : DeskView) (number : ℕ) (o : Operation) → finmap.get d.kept number ≡ Some o
    → IsSome (drained_code o d.drained)
    → ready_at d 0 number ≡ true
ready_from d number o kept drained = ap (ready_with d.drained 0) kept ∙ drained

pub not_ready_from : (d : DeskView) (number : ℕ) (o : Operation) → finmap.get d.kept number ≡ Some o
    → drained_code o d.drained ≡ None
    → ready_at d 0 number ≡ false
not_ready_from d number o kept none = ap (ready_with d.drained 0) kept ∙ ap is_some none

-- what calls that look go by, and those that look for what is kept
pub ruleset look_rules = (looks_on, looks_further, looks_out, looks_loose)

pub ruleset kept_rules = (looks_kept, ready_from, not_ready_from)
