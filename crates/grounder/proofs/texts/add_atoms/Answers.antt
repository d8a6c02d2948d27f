use Rattle.std.proofs.Common.{◌+◌, ◌∷◌, [], drop, sym, ap, subst, ◌∙◌}
use Rattle.grounder.specs.texts.Texts.{atom_text}
use Rattle.grounder.specs.texts.Wanted.{IsPut, with_more}
use Rattle.grounder.proofs.lemmas.texts.Wanting.{item_more, item_over, as_items}
use Rattle.ppddl_model.specs.declared.tree.Atom.{Atom}
use Rattle.grounder.proofs.texts.add_atoms.Goals as goal

pub loop-atom-preserved : goal.loop-atom-preserved
loop-atom-preserved c =
    let l = c.loop-atom in
    ap (with_more c.insert.new.self) (sym (as_items atom_text (drop (l.atom-index + 1) c.args.atoms.now)))
    ∙ item_more (λ (a : Atom). atom_text a ∷ []) c.args.atoms.now l.atom-index c.atom-item.result c.atom-item.result l.texts
    c.insert.new.self _ c.in_ok-insert.field-0 c.loop-atom-test.true c.atom-item.is
    (subst (λ t. IsPut l.texts (t ∷ []) c.in_ok-insert.field-0 c.insert.new.self) (c.from_vec.ensures ∙ c.in_ok-text.ensures) c.in_ok-insert.ensures)
    (ap (with_more l.texts) (as_items atom_text (drop l.atom-index c.args.atoms.now)) ∙ l.invariant) c.if-not-branch.false

pub returns-then-not-branch : goal.returns-then-not-branch
returns-then-not-branch c =
    let l = c.loop-atom in
    item_over (λ (a : Atom). atom_text a ∷ []) c.args.atoms.now l.atom-index c.atom-item.result c.atom-item.result l.texts
    c.insert.new.self _ c.in_ok-insert.field-0 c.loop-atom-test.true c.atom-item.is
    (subst (λ t. IsPut l.texts (t ∷ []) c.in_ok-insert.field-0 c.insert.new.self) (c.from_vec.ensures ∙ c.in_ok-text.ensures) c.in_ok-insert.ensures)
    (ap (with_more l.texts) (as_items atom_text (drop l.atom-index c.args.atoms.now)) ∙ l.invariant) c.if-not-branch.true
