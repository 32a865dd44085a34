use Rattle.xa_base.proofs.{◌≡◌, ◌<◌, ℕ, zero, suc, false, List, [], ◌∷◌, get_or, sym, ap, refl, arith, Bool, ◌∙◌}
use Rattle.xa_lane.specs.{has_ended}
use Rattle.xa_worker.specs.{Reserved}
use Rattle.xa_worker.proofs.Ties.{tied_new}
use Rattle.xa_worker.proofs.worker.Worker.assemble.Goals as goal

abbrev none_set : List Bool
none_set = false ∷ false ∷ false ∷ false ∷ false ∷ false ∷ false ∷ false ∷ []

unset : (k : ℕ) → k < 8 → get_or none_set k false ≡ false
unset zero h = refl
unset (suc zero) h = refl
unset (suc (suc zero)) h = refl
unset (suc (suc (suc zero))) h = refl
unset (suc (suc (suc (suc zero)))) h = refl
unset (suc (suc (suc (suc (suc zero))))) h = refl
unset (suc (suc (suc (suc (suc (suc zero)))))) h = refl
unset (suc (suc (suc (suc (suc (suc (suc zero))))))) h = refl
unset (suc (suc (suc (suc (suc (suc (suc (suc k)))))))) h = absurd (omega arith)

pub invariant_of-result : goal.invariant_of-result
invariant_of-result c =
    let i = c.parts.invariant in
    let room : c.args.manager.room ≡ c.parts.inside.room =
    c.requires.room ∙ ap (λ (p : Reserved). p.room) (sym c.parts.view_is) in
    record {
      tied = rw (c.new-2.ensures, c.and.ensures, c.new.ensures, i.0)
          (tied_new _ _ _ _ c.requires.requests c.requires.lanes c.requires.taken c.requires.sent);
      room = rw i.0 (omega arith);
      marks = refl;
      ended = λ k h. unset k h ∙ ap (has_ended k) (sym c.requires.taken);
      few = c.requires.threads;
      none = i.2;
      enough = i.3;
    }
