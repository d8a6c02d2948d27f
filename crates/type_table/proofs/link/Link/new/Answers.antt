use Rattle.std.proofs.Common.{◌∙◌, ap, sym}
use Rattle.type_table.specs.Numbered.{number_of}
use Rattle.type_table.proofs.Numbered.{number-kept}
use Rattle.type_table.proofs.link.Link.new.Goals as goal

pub returns-clause-link : goal.returns-clause-link
returns-clause-link c = record {
  child =
      ap (λ names. number_of names c.args.declared.now.name) c.in_ok-parent.ensures.added
      ∙ number-kept c.add.new.self c.as_slice-2.result.now c.args.declared.now.name c.in_ok-child.child
      (ap (number_of c.add.new.self) (sym c.as_slice.ensures) ∙ c.in_ok-child.ensures.number);
  parent = ap (number_of c.add-2.new.self) (sym c.as_slice-2.ensures) ∙ c.in_ok-parent.ensures.number;
}
