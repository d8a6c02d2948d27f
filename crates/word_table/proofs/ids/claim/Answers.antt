use Rattle.std.proofs.Common.{◌≡◌, ◌<◌, None, sym, ap, ◌∙◌, subst}
use Rattle.word_table.specs.declared.layout.Layout.{Layout}
use Rattle.word_table.specs.Seen.{Knowledge, Board}
use Rattle.word_table.proofs.Allowed.{claim_allowed}
use Rattle.word_table.proofs.Calls.{same_table, view_of_key, count_is_a_word}
use Rattle.word_table.proofs.ids.claim.Goals as goal

pub compare_exchange-found-requires : goal.compare_exchange-found-requires
compare_exchange-found-requires c =
    let i = c.words.invariant in
    let layout = i.4 ∙ ap (λ (b : Board). b.layout) c.words.view_is in
    let room = subst (λ (m : Layout). c.args.from < m.ids) (sym layout) c.requires.count.0 in (
      same_table _ _ _ _ _ _ _ _ c.words.view_is c.pass.view_is c.requires.here,
      count_is_a_word c.words.inside.layout _ i.1,
      claim_allowed _ _ _ _ _ _ (view_of_key _ _ _ _ _ _ _ _ c.words.view_is c.pass.view_is c.requires.here _ _ i.3 i.4) c.from-count.result
          (subst (λ (k : Knowledge). k.view.spare ≡ None) (sym c.pass.view_is) c.requires.free.0)
          (subst (λ (k : Knowledge). 0 < k.view.rights) (sym c.pass.view_is) c.requires.free.1)
          (subst (λ n. n < c.words.inside.table.shared.key.layout.ids) (sym c.from-count.ensures) room),
    )
