use Rattle.xa_base.proofs.{◌≡◌, ◌∙◌, refl, sym, ap, Some, true}
use Rattle.std.specs.FinMap as map
use Rattle.xa_words.specs.{Done}
use Rattle.xa_tables.specs.{HeuristicallyCompleted, Tables, is_S3, heur, tables_of}
use Rattle.xa_tables.proofs.SoundLemmas.{sound_settled}
use Rattle.xa_tables.proofs.StepLemmas.{heur_done}
use Rattle.xa_tables.proofs.branch_tables.BranchTables.heur.Goals as goal

pub settle-requires : goal.settle-requires
settle-requires c _ =
    c.self.invariant c.args.xid.now
    (ap is_S3 (sym c.in-Some.ensures.value) ∙ sym c.is_prepared.ensures ∙ c.if-not-is_prepared.false)

pub invariant_of-self-2 : goal.invariant_of-self-2
invariant_of-self-2 c =
    sound_settled _ _ _ _ _ _ _ _
    (ap (λ b. b.states) (c.state_mut.follows.holds (HeuristicallyCompleted c.of.result) _ c.in-Some.is).0) refl
    c.settle.ensures.others c.self.invariant

pub returns-clause-step : goal.returns-clause-step
returns-clause-step c =
    let T : Tables =
    tables_of c.self.inside.threads c.self.inside.branches c.self.inside.accounts c.self.inside.is_shut in
    let x = c.args.xid.now in
    let held = ap (λ b. b.states) (c.state_mut.follows.holds (HeuristicallyCompleted c.of.result) _ c.in-Some.is).0 in
    let states = held ∙ ap (λ d. map.insert T.states x (HeuristicallyCompleted d)) c.of.ensures in
    let voted : is_S3 (Some c.in-Some.state.now) ≡ true = sym c.is_prepared.ensures ∙ c.if-not-is_prepared.false in
    (λ i. (record T { states = states i; sums = c.settle.ensures.sums i; values = c.settle.ensures.values i }, Done))
    ∙ heur_done x T c.in-Some.state.now c.args.commits (sym c.in-Some.ensures.value) voted
    ∙ ap (λ b. heur x c.args.commits b.tables) c.self.view_is
