use Rattle.xa_base.proofs.{rules, ◌≡◌, false, refl, ap, ◌∙◌, arith}
use Rattle.std.specs.FinMap as map
use Rattle.xa_words.specs.{Done}
use Rattle.xa_tables.specs.{Associated, Tables, association, exists, has_association, start_fresh, tables_of}
use Rattle.xa_tables.proofs.SoundLemmas.{sound_put}
use Rattle.xa_tables.proofs.StepLemmas.{start_done}
use Rattle.xa_tables.proofs.ThreadLemmas.{takes_one}
use Rattle.xa_tables.proofs.branch_tables.BranchTables.start_fresh.Goals as goal

pub invariant_of-self : goal.invariant_of-self
invariant_of-self c = sound_put _ _ _ _ _ _ c.insert.ensures.state refl c.self.invariant

pub returns-clause-step : goal.returns-clause-step
returns-clause-step c =
    let T : Tables =
    tables_of c.self.inside.threads c.self.inside.branches c.self.inside.accounts c.self.inside.is_shut in
    let free : has_association T c.args.t ≡ false = search rules in
    let new : exists T c.args.xid.now ≡ false = search rules in
    (λ i. (
      record T {
        opened = c.associate.ensures.opened i;
        associations = c.associate.ensures.associations i;
        states = c.insert.ensures.state i;
      },
      Done,
    ))
    ∙ start_done c.args.t c.args.xid.now T free new
    ∙ ap (λ b. start_fresh c.args.t c.args.xid.now b.tables) c.self.view_is

pub returns-clause-kept : goal.returns-clause-kept
returns-clause-kept c =
    let free : has_association c.args.self.now.tables c.args.t ≡ false = search rules in
    let made = tables_of c.associate.new.self c.insert.new.self c.self.inside.accounts c.self.inside.is_shut in
    let taken = takes_one c.args.t c.args.self.now.tables made (association c.args.xid.now Associated) free
    (c.associate.ensures.associations
    ∙ ap (λ b. map.insert b.tables.associations c.args.t (association c.args.xid.now Associated)) c.self.view_is) in
    record {
      threads = c.associate.ensures.threads ∙ ap (λ b. b.threads) c.self.view_is;
      spare = omega (arith, taken, c.insert.ensures.room, ap (λ b. b.spare) c.self.view_is);
      adds = omega (arith, ap (λ b. b.adds) c.self.view_is);
    }
