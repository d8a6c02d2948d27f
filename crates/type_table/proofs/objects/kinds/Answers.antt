use Rattle.std.proofs.Common.{◌≡◌, ◌∙◌, ap, sym, subst, take, ◌+◌, Some, map, length, rules}
use Rattle.std.specs.List.{AllZip, position_or_len}
use Rattle.std.proofs.lemmas.Slice.Zip.{AllZip-long}
use Rattle.ppddl_model.specs.State.{same_name}
use Rattle.ppddl_model.specs.Objects.{once}
use Rattle.type_table.specs.Numbered.{number_of, with_name}
use Rattle.type_table.specs.Reading.{IsKindOf}
use Rattle.type_table.proofs.Once.{object_name}
use Rattle.type_table.proofs.Links.{object_names_more, kinds_more, kinds_same}
use Rattle.type_table.proofs.objects.kinds.Goals as goal
use Rattle.type_table.proofs.objects.kinds.Goals.{then-number-len+in_ok-push, else-number-len}

pub loop-object-preserved : goal.loop-object-preserved
loop-object-preserved c =
    let l = c.loop-object in
    let types = c.args.types.now in
    let objects = c.args.objects.now in
    let o = c.object-item.result in
    let is = c.object-item.is in
    let test = c.loop-object-test.true in
    let kind : number_of types o.kind ≡ Some c.in-Some.kind = ap (number_of types) (sym c.as_slice.ensures) ∙ sym c.number_of.ensures ∙ c.in-Some.is in
    let place : c.in_ok-number.number ≡ position_or_len (same_name o.name) (map object_name (once (take l.object-index objects))) =
    c.in_ok-number.ensures.place ∙ (λ i. position_or_len (same_name (c.as_slice-in-loop-object.ensures i)) (l.invariant.names i)) in
    let many : length (once (take l.object-index objects)) ≡ length l.kinds.items = AllZip-long (IsKindOf types) l.kinds.items (once (take l.object-index objects)) l.invariant.kinds in
    let len : c.len.result ≡ length l.kinds.items = search rules in
    record {
      names =
          c.in_ok-number.ensures.added
          ∙ ap (with_name l.names) c.as_slice-in-loop-object.ensures
          ∙ object_names_more types l.names l.kinds.items objects l.object-index o test is l.invariant.names;
      kinds = elim c.if-number-len.branch [
        | then-number-len+in_ok-push w ↦
            subst (λ v. AllZip (IsKindOf types) v (once (take (l.object-index + 1) objects))) (sym (ap (λ v. v.items) w.kinds-is ∙ w.in_ok-push.ensures.items))
            (kinds_more types l.names l.kinds.items objects l.object-index o test is l.invariant.kinds c.in-Some.kind kind
            (sym place ∙ w.if-number-len.true ∙ len ∙ sym many))
        | else-number-len w ↦
            subst (λ v. AllZip (IsKindOf types) v (once (take (l.object-index + 1) objects))) (sym (ap (λ v. v.items) w.kinds-is))
            (kinds_same types l.names l.kinds.items objects l.object-index o test is l.invariant.kinds
            (λ last. w.if-number-len.false (place ∙ last ∙ many ∙ sym len)))
      ];
    }
