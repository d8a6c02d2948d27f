use Rattle.std.proofs.Common.{◌∙◌, sym, subst, ◌++◌, ◌∷◌, [], take, ◌+◌}
use Rattle.std.specs.List.{AllZip}
use Rattle.type_table.specs.Reading.{IsLinkOf}
use Rattle.type_table.proofs.Links.{names_more, links_more}
use Rattle.type_table.proofs.link.links.Goals as goal

pub loop-declared-preserved : goal.loop-declared-preserved
loop-declared-preserved c =
    let l = c.loop-declared in
    let t = c.declared-item.result in
    let is = c.declared-item.is in
    let names = c.in_ok-new.ensures.names in
    record {
      names = names ∙ names_more l.names l.links.items c.args.types.now l.declared-index t c.loop-declared-test.true is l.invariant.names;
      links = subst (λ v. AllZip (IsLinkOf c.new.new.names) v (take (l.declared-index + 1) c.args.types.now)) (sym c.in_ok-push.ensures.items)
          (subst (λ n. AllZip (IsLinkOf n) (l.links.items ++ c.in_ok-new.field-0 ∷ []) (take (l.declared-index + 1) c.args.types.now)) (sym names)
          (links_more l.names l.links.items c.args.types.now l.declared-index t c.loop-declared-test.true is l.invariant.links c.in_ok-new.field-0
          (subst (λ n. IsLinkOf n c.in_ok-new.field-0 t) names c.in_ok-new.ensures.link)));
    }
