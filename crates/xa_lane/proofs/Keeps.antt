-- Each step of a lane's queue keeps its rule.
use Rattle.xa_base.proofs.{rules, ◌≡◌, ◌≢◌, ℕ, zero, suc, ◌+◌, ◌<◌, ◌≤◌, true, false, cond, ◌==◌, List, [], ◌∷◌, ◌++◌}
use Rattle.xa_base.proofs.{length, set, sym, refl, ap, ◌∙◌, ◌⊎◌, ⊎_elim, inl, inr, append_assoc, append-nil, eq-eqb}
use Rattle.xa_base.proofs.{ne_eqb, arith, length-append, Option, map-append, lt_of_not-le}
use mathlib.Core.Option.{some, none, some-ne-none, some-injective}
use mathlib.Core.Option as maybe
use lib.ListN.{get_elem?}
use Rattle.crossbeam_queue.specs.Fifo.{Pushes, Pops, Forks, Merges, Learns}
use Rattle.crossbeam_queue.proofs.Lists.{at_set, at_snoc}
use Rattle.xa_lane.specs.{Parcel, Log, View, Sends, Receives, Spent, of_sender, log, put_of, wrote, after_put, Popped}
use Rattle.xa_lane.specs.{after_deal, dealt_view, after_join, sender_learns, receiver_learns, FitsOrder, Delivers}
use Rattle.xa_lane.proofs.Parcels.{of_sender-append}
use Rattle.xa_base.specs.{MOST_QUEUED}

abbrev Seats : Type 0
Seats = ℕ → maybe.Option ℕ

abbrev moved : Seats → ℕ → maybe.Option ℕ → Seats
moved seat p to q = cond (q == p) to (seat q)

moved_here : (seat : Seats) (p q : ℕ) (to : maybe.Option ℕ) → q ≡ p → moved seat p to q ≡ to
moved_here seat p q to e = ap (λ b. cond b to (seat q)) (eq-eqb q p e)

moved_else : (seat : Seats) (p q : ℕ) (to : maybe.Option ℕ) → q ≢ p → moved seat p to q ≡ seat q
moved_else seat p q to n = ap (λ b. cond b to (seat q)) (ne_eqb q p n)

still_none : (seat : Seats) (p q : ℕ) → seat q ≡ none → moved seat p none q ≡ none
still_none seat p q e = elim (q == p) as (λ b. cond b none (seat q) ≡ none) [ true ↦ refl | false ↦ e ]

module _ {T : Type 0} where
  -- a parcel at the back, of this sender or of another
  pub of_more : (p : ℕ) (got items : List (Parcel T)) (x : Parcel T) → x.from ≡ p
      → of_sender p (got ++ (items ++ x ∷ [])) ≡ of_sender p (got ++ items) ++ x.item ∷ []
  of_more p got items x e = search (arith, append_assoc, of_sender-append, eq-eqb)

  pub of_same : (p : ℕ) (got items : List (Parcel T)) (x : Parcel T) → x.from ≢ p
      → of_sender p (got ++ (items ++ x ∷ [])) ≡ of_sender p (got ++ items)
  of_same p got items x n = search (arith, of_sender-append, ne_eqb, append-nil)

  pub put_of_wrote : (l : Log T) (i : Option T) → l.ended ≡ false → put_of (wrote l i) ≡ put_of l ++ i ∷ []
  put_of_wrote l i e = search (arith, append-nil, map-append)

  wrote_from : (l : Log T) (i : Option T) → (wrote l i).from ≡ l.from
  wrote_from l i = search (arith, rules)

  abbrev All : (ℕ → View T → Type 0) → List (View T) → Type 0
  All F views = (port : ℕ) (v : View T) → get_elem? views port ≡ some v → F port v

  all_set : (F : ℕ → View T → Type 0) (views : List (View T)) (port : ℕ) (w : View T) → F port w
      → ((j : ℕ) (u : View T) → j ≢ port → get_elem? views j ≡ some u → F j u) → All F (set views port w)
  all_set F views port w mine others j u e = search (arith, at_set)

  at_end : (l : List (View T)) (a b : View T) (j : ℕ) → ¬ (get_elem? l j ≡ some b) → get_elem? (l ++ a ∷ []) j ≡ some b
      → (j ≡ length l) × (a ≡ b)
  at_end [] a b zero n e = (refl, some-injective a b e)
  at_end [] a b (suc j) n e = absurd (some-ne-none b (sym e))
  at_end (x ∷ xs) a b zero n e = absurd (n e)
  at_end (x ∷ xs) a b (suc j) n e = let r = at_end xs a b j n e in (ap suc r.0, r.1)

  -- the rule goes on for a pass whose sender, where it has one, is not p, as a parcel of p joins at the back
  fits_more : (receiver made : ℕ) (seat : Seats) (got items : List (Parcel T)) (x : Parcel T) (writer j : ℕ)
      → seat x.from ≡ some writer → j ≢ writer
      → (u : View T) → FitsOrder receiver made seat got (got ++ items) j u
      → FitsOrder receiver made seat got (got ++ (items ++ x ∷ [])) j u
  fits_more receiver made seat got items x writer j s n (Sends l) f = search (arith, of_same, l.from)
  fits_more receiver made seat got items x writer j s n (Receives m g told) f = (
    f.0,
    f.1,
    f.2,
    λ k l e. let r = f.3 k l e in
        (r.0, r.1, of_same l.from got items x (λ e'. some-ne-none writer (sym s ∙ ap seat e' ∙ r.1)) ∙ r.2),
  )
  fits_more receiver made seat got items x writer j s n Spent f = tt

  pub puts_at : (n port : ℕ) (l : Log T) (x : Parcel T) → l.ended ≡ false → x.from ≡ l.from → n ≤ MOST_QUEUED
      → Pushes Delivers n port (Sends l) x (λ w. w ≡ Sends (wrote l x.item))
  puts_at n port l x live mine fit items views room h at =
      let f = h.fits port (Sends l) at in
      let s : h.seat x.from ≡ some port = ap h.seat mine ∙ f.0 in
      let w : View T = Sends (wrote l x.item) in (
        w,
        record {
          receiver = h.receiver;
          made = h.made;
          seat = h.seat;
          got = h.got;
          short = omega (arith, length-append items (x ∷ []));
          unmade = λ p e. let r = h.unmade p e in
              (r.0, of_same p h.got items x (λ e'. some-ne-none port (sym s ∙ ap h.seat e' ∙ r.0)) ∙ r.1);
          fits = all_set (FitsOrder h.receiver h.made h.seat h.got (h.got ++ (items ++ x ∷ []))) views port w (
            ap h.seat (wrote_from l x.item) ∙ f.0,
            ap (λ p. of_sender p (h.got ++ (items ++ x ∷ []))) (wrote_from l x.item) ∙ of_more l.from h.got items x mine
                ∙ ap (λ k. k ++ x.item ∷ []) f.1
                ∙ sym (put_of_wrote l x.item live),
          )
              (λ j u other e. fits_more h.receiver h.made h.seat h.got items x port j s other u (h.fits j u e));
        },
        refl,
      )

  pub puts : (n port : ℕ) (v : View T) (l : Log T) (x : Parcel T) → v ≡ Sends l → l.ended ≡ false → x.from ≡ l.from
      → n ≤ MOST_QUEUED
      → Pushes Delivers n port v x (λ w. w ≡ after_put v x)
  puts n port v l x is live mine fit = rw is (puts_at n port l x live mine fit)

  fits_taken : (receiver made : ℕ) (seat : Seats) (got items : List (Parcel T)) (x : Parcel T) (j : ℕ) → j ≢ receiver
      → (u : View T) → FitsOrder receiver made seat got (got ++ x ∷ items) j u
      → FitsOrder receiver made seat (got ++ x ∷ []) ((got ++ x ∷ []) ++ items) j u
  fits_taken receiver made seat got items x j n (Sends l) f =
      (f.0, ap (of_sender l.from) (append_assoc got (x ∷ []) items) ∙ f.1)
  fits_taken receiver made seat got items x j n (Receives m g told) f = absurd (n f.0)
  fits_taken receiver made seat got items x j n Spent f = tt

  pub sender_learning : (port : ℕ) (v : View T) → Learns Delivers port v (sender_learns v)
  sender_learning port (Sends l) items views h at = (h.got, (h.fits port (Sends l) at).1)
  sender_learning port (Receives made got told) items views h at = tt
  sender_learning port Spent items views h at = tt

  pub receiver_learning : (port : ℕ) (v : View T) → Learns Delivers port v (receiver_learns v)
  receiver_learning port (Sends l) items views h at = tt
  receiver_learning port (Receives made got told) items views h at =
      let f = h.fits port (Receives made got told) at in
      let all : got ++ items ≡ h.got ++ items = ap (λ g. g ++ items) f.2 in (
        (λ k l e. ap (of_sender l.from) all ∙ (f.3 k l e).2),
        (λ p e. ap (of_sender p) all ∙ (h.unmade p (rw f.1 at e)).1),
        h.short,
      )
  receiver_learning port Spent items views h at = tt

  not_nil : (xs ys : List (Option T)) (y : Option T) → xs ++ y ∷ ys ≡ [] → ⊥
  not_nil [] ys y e = cc
  not_nil (x ∷ xs) ys y e = cc

  of_here : (p : ℕ) (got items : List (Parcel T)) (x : Parcel T) → x.from ≡ p
      → of_sender p (got ++ x ∷ items) ≡ of_sender p got ++ x.item ∷ of_sender p items
  of_here p got items x e = search (arith, of_sender-append, eq-eqb)

  pub gets_at : (port made : ℕ) (got : List (Parcel T)) (told : List (Log T))
      → Pops Delivers port (Receives made got told) (Popped (Receives made got told))
  gets_at port made got told x items views h at =
      let f = h.fits port (Receives made got told) at in
      let w : View T = Receives made (got ++ x ∷ []) told in
      let here : (p : ℕ) → of_sender p ((h.got ++ x ∷ []) ++ items) ≡ of_sender p (h.got ++ x ∷ items) =
      λ p. ap (of_sender p) (append_assoc h.got (x ∷ []) items) in (
        w,
        record {
          receiver = h.receiver;
          made = h.made;
          seat = h.seat;
          got = h.got ++ x ∷ [];
          short = let s = h.short in omega arith;
          unmade = λ p e. let r = h.unmade p e in (r.0, here p ∙ r.1);
          fits =
              all_set (FitsOrder h.receiver h.made h.seat (h.got ++ x ∷ []) ((h.got ++ x ∷ []) ++ items)) views port w
              (f.0, f.1, ap (λ g. g ++ x ∷ []) f.2, λ k l e. let r = f.3 k l e in (r.0, r.1, here l.from ∙ r.2))
              (λ j u other e. fits_taken h.receiver h.made h.seat h.got items x j (λ e'. other (e' ∙ sym f.0)) u
              (h.fits j u e));
        },
        (
          refl,
          lt_of_not-le
              (λ e. not_nil (of_sender x.from h.got) (of_sender x.from items) x.item
              (sym (of_here x.from h.got items x refl) ∙ (h.unmade x.from (rw f.1 at e)).1)),
          (items, receiver_learning port (Receives made got told) (x ∷ items) views h at),
        ),
      )

  pub gets : (port : ℕ) (v : View T) (made : ℕ) (got : List (Parcel T)) (told : List (Log T))
      → v ≡ Receives made got told → Pops Delivers port v (Popped v)
  gets port v made got told is = rw is (gets_at port made got told)

  pub begins : Delivers {T = T} [] (Receives 0 [] [] ∷ [])
  begins = record {
    receiver = 0;
    made = 0;
    seat = λ p. none;
    got = [];
    short = omega arith;
    unmade = λ p e. (refl, refl);
    fits = search (arith, all_set, at_end);
  }

  -- the number of the new sender was nobody's
  fits_dealt : (receiver made : ℕ) (seat : Seats) (got all : List (Parcel T)) (j to : ℕ)
      → ((p : ℕ) → made ≤ p → (seat p ≡ none) × (of_sender p all ≡ []))
      → j ≢ receiver
      → (u : View T) → FitsOrder receiver made seat got all j u
      → FitsOrder receiver (made + 1) (moved seat made (some to)) got all j u
  fits_dealt receiver made seat got all j to unmade n (Sends l) f = search (arith, moved_else, l.from)
  fits_dealt receiver made seat got all j to unmade n (Receives m g told) f = absurd (n f.0)
  fits_dealt receiver made seat got all j to unmade n Spent f = tt

  at_push : (l : List (View T)) (a b : View T) (j : ℕ) → get_elem? (l ++ a ∷ []) j ≡ some b
      → (get_elem? l j ≡ some b) ⊎ ((j ≡ length l) × (a ≡ b))
  at_push [] a b zero e = inr (refl, some-injective a b e)
  at_push [] a b (suc j) e = absurd (some-ne-none b (sym e))
  at_push (x ∷ xs) a b zero e = inl e
  at_push (x ∷ xs) a b (suc j) e = ⊎_elim (λ t. inl t) (λ t. inr (ap suc t.0, t.1)) (at_push xs a b j e)

  forks_at : (port made : ℕ) (got : List (Parcel T)) (told : List (Log T))
      → Forks Delivers port (Receives made got told) (Receives (made + 1) got told) (Sends (log made [] false))
  forks_at port made got told items views h at =
      let f = h.fits port (Receives made got told) at in
      let left : View T = Receives (made + 1) got told in
      let right : View T = Sends (log made [] false) in
      let vs : List (View T) = set views port left in
      let all : List (Parcel T) = h.got ++ items in
      let seat : Seats = moved h.seat h.made (some (length vs)) in
      let F : ℕ → View T → Type 0 = FitsOrder h.receiver (h.made + 1) seat h.got all in
      let kept : All F vs = all_set F views port left (
        f.0,
        ap (λ m. m + 1) f.1,
        f.2,
        λ k l e. let r = f.3 k l e in
            (omega arith, moved_else h.seat h.made l.from (some (length vs)) (λ e'. omega arith) ∙ r.1, r.2),
      )
      (λ j u other e. fits_dealt h.receiver h.made h.seat h.got all j (length vs) h.unmade (λ e'. other (e' ∙ sym f.0))
      u (h.fits j u e)) in
      record {
        receiver = h.receiver;
        made = h.made + 1;
        seat = seat;
        got = h.got;
        short = h.short;
        unmade = λ p e. let r = h.unmade p (omega arith) in
            (moved_else h.seat h.made p (some (length vs)) (λ e'. omega arith) ∙ r.0, r.1);
        fits = λ j u e. ⊎_elim (λ (x : get_elem? vs j ≡ some u). kept j u x)
            (λ (x : (j ≡ length vs) × (right ≡ u)). rw (← x.1) (
              moved_here h.seat h.made made (some (length vs)) f.1 ∙ ap some (sym x.0),
              ap (λ m. of_sender m all) f.1
                  ∙ (h.unmade h.made (omega arith)).1,
            ))
            (at_push vs right u j e);
      }

  pub forks : (port : ℕ) (v : View T) (made : ℕ) (got : List (Parcel T)) (told : List (Log T))
      → v ≡ Receives made got told
      → Forks Delivers port v (after_deal v) (dealt_view v)
  forks port v made got told is = rw is (forks_at port made got told)

  fits_joined : (receiver made : ℕ) (seat : Seats) (got all : List (Parcel T)) (j p other : ℕ) → seat p ≡ some other
      → j ≢ other → j ≢ receiver
      → (u : View T) → FitsOrder receiver made seat got all j u
      → FitsOrder receiver made (moved seat p none) got all j u
  fits_joined receiver made seat got all j p other s n n' (Sends l) f = search (arith, moved_else, l.from)
  fits_joined receiver made seat got all j p other s n n' (Receives m g told) f = absurd (n' f.0)
  fits_joined receiver made seat got all j p other s n n' Spent f = tt

  merges_at : (port made : ℕ) (got : List (Parcel T)) (told : List (Log T)) (other : ℕ) (l : Log T)
      → Merges Delivers port (Receives made got told) other (Sends l) (Receives made got (told ++ l ∷ [])) Spent
  merges_at port made got told other l items views h at two at' =
      let f = h.fits port (Receives made got told) at in
      let both : View T = Receives made got (told ++ l ∷ []) in
      let vs : List (View T) = set views port both in
      let all : List (Parcel T) = h.got ++ items in
      let was : get_elem? views other ≡ some (Sends l) =
      ⊎_elim (λ x. absurd (two x.0)) (λ x. x.1) (at_set views port other both (Sends l) at') in
      let theirs = h.fits other (Sends l) was in
      let seat : Seats = moved h.seat l.from none in
      let F : ℕ → View T → Type 0 = FitsOrder h.receiver h.made seat h.got all in
      let Now : ℕ → View T → Type 0 = λ j y. j ≢ other → F j y in
      let below : l.from < h.made = lt_of_not-le (λ e. some-ne-none other (sym theirs.0 ∙ (h.unmade l.from e).0)) in
      let now : All Now vs = all_set Now views port both
      (λ _. (
        f.0,
        f.1,
        f.2,
        λ k m e. ⊎_elim
            (λ (old : get_elem? told k ≡ some m). let r = f.3 k m old in
            (r.0, still_none h.seat l.from m.from r.1, r.2))
            (λ (new : l ≡ m). rw (← new) (below, moved_here h.seat l.from l.from none refl, theirs.1))
            (at_snoc told l m k e),
      ))
      (λ j u apart e. λ n. fits_joined h.receiver h.made h.seat h.got all j l.from other theirs.0 n
      (λ e'. apart (e' ∙ sym f.0)) u (h.fits j u e)) in
      record {
        receiver = h.receiver;
        made = h.made;
        seat = seat;
        got = h.got;
        short = h.short;
        unmade = λ p e. let r = h.unmade p e in (still_none h.seat l.from p r.0, r.1);
        fits = all_set F vs other Spent tt (λ j y apart e. now j y e apart);
      }

  pub merges : (port : ℕ) (v : View T) (other : ℕ) (u : View T) (made : ℕ) (got : List (Parcel T)) (told : List (Log T))
      (l : Log T)
      → v ≡ Receives made got told → u ≡ Sends l
      → Merges Delivers port v other u (after_join v u) Spent
  merges port v other u made got told l is is' = search (arith, merges_at)
