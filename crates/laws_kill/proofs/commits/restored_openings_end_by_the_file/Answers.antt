use Rattle.xa_base.proofs.{◌≡◌, [], ◌∷◌, List, refl, sym, ap, ◌∙◌, subst, All, All-cons, All-nil, Contains}
use Rattle.xa_words.specs.{Request}
use Rattle.xa_log.specs.{Records, record_in}
use Rattle.laws_commit.specs.{IsByItsThread, IsKept, IsResolved, IsUseIn, NamesTran, OnlyResolves, Opening, Use}
use Rattle.laws_commit.specs.{ResolveHasSent, commits, resolves, with_resolves, with_use}
use Rattle.laws_commit.proofs.NextOpening.{kept_with, scan_of}
use Rattle.laws_disk.proofs.Found.{unforgotten}
use Rattle.laws_kill.specs.{as_settled}
use Rattle.laws_kill.proofs.commits.restored_openings_end_by_the_file.Goals as goal

pub returns : goal.returns
returns c =
    λ p crash restored next first again flags k q records forgotten file is cut grown few asked settled whole untouched
    over next_settled resolving of scan was read has only reached.
    let made = c.commits_are_cut_where_they_were.ensures p crash k is cut grown in
    let o : Opening = with_use (as_settled crash) (commits k) in
    let middle : Opening = with_resolves restored [] in
    let last : Opening = with_use next (resolves q) in
    let same : q.records ≡ was.found = c.files_have_one_log.ensures q.records was.found file read was.has in
    let resolved : IsResolved o (middle ∷ []) last k q =
    record {
      kept =
          All-cons IsKept o (middle ∷ last ∷ [])
          (kept_with (as_settled crash) (commits k) (c.crashes_are_settled.ensures p crash is).settled made)
          (All-cons IsKept middle (last ∷ []) (record { settled = settled; uses = All-nil (IsUseIn restored) })
          (All-cons IsKept last [] (kept_with next (resolves q) next_settled resolving) (All-nil IsKept)));
      in_a_row = (
        c.openings_over_stores_continue.ensures.settled p crash restored first flags is over,
        (λ m T begun. c.reopened_openings_go_on_from_what_was_left.ensures restored next again m T whole of begun, tt),
      );
      us = [];
      vs = [];
      use_at = refl;
      ps = [];
      qs = [];
      resolve_at = refl;
      few = few;
      log = λ some t of_tran. (
        ap (λ (r : Records). record_in r t) same
            ∙ unforgotten records forgotten file t was (has some t of_tran).1
            ∙ (has some t of_tran).0,
        tt,
      );
      its_thread = All-nil (IsByItsThread k);
      own = asked;
      later = λ t of_tran _.
          All-cons (OnlyResolves t) middle (last ∷ [])
          (λ m.
          subst
          (λ (h : List Request). All (λ r. NamesTran t r.op → (u : Use) × (Contains [] u × ResolveHasSent m r u)) h)
          (sym (untouched m)) (All-nil (λ r. NamesTran t r.op → (u : Use) × (Contains [] u × ResolveHasSent m r u))))
          (All-cons (OnlyResolves t) last [] (only t of_tran) (All-nil (OnlyResolves t)));
      scan = scan_of restored next again q.scan of scan;
      reached = reached;
    } in (
      c.presumed_transactions_have_one_outcome.ensures o (middle ∷ []) last k q resolved,
      c.presumed_transactions_count_by_the_log.ensures o (middle ∷ []) last k q resolved,
    )
