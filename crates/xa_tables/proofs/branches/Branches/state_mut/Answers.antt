use Rattle.xa_base.proofs.{◌≡◌, is_some, true, ap, refl, sym, ◌∙◌, spare, get-lookup, one_put}
use Rattle.std.specs.Option.{option_copied_mut}
use Rattle.std.specs.FinMap as map
use Rattle.xa_words.specs.{xid_eq, xid_cmp_total, xid_cmp-IsAntisymmetric, xid_eq-by_cmp}
use Rattle.xa_tables.proofs.SoundLemmas.{put_same}
use Rattle.xa_tables.proofs.branches.Branches.state_mut.Goals as goal

pub returns : goal.returns
returns c =
    let old = c.self.inside.states.entries in
    let x = c.args.xid.now in
    let value = c.get_mut.ensures.value in (
      (
        refl,
        λ w m is.
            let there : is_some (option_copied_mut c.get_mut.result) ≡ true =
            ap (λ r. is_some (option_copied_mut r)) is in
            let wrote = c.get_mut.follows.holds w in
            let states = one_put xid_eq xid_cmp_total xid_cmp-IsAntisymmetric xid_eq-by_cmp old
            (c.get_mut.follows.lender w).entries x w (wrote.3 (sym (ap is_some value) ∙ there)).0
            ∙ ap (λ b. map.insert b.states x w) c.self.view_is in
            let room = wrote.6 ∙ ap (λ b. b.spare) c.self.view_is in (
              λ i. record { states = states i; spare = room i },
              λ was. let same = states
                  ∙ put_same c.args.self.now.states x w was in λ i. record { states = same i; spare = room i },
            ),
        ap (λ h. record { states = map.from_entries h.entries; spare = spare h }) c.get_mut.follows.holds-at-none
            ∙ c.self.view_is,
      ),
      record {
        writes_back = tt;
        value = value ∙ sym (get-lookup xid_eq xid_cmp_total xid_cmp-IsAntisymmetric xid_eq-by_cmp old x)
            ∙ ap (λ b. map.get b.states x) c.self.view_is;
      },
    )
