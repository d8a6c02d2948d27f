use Rattle.std.proofs.Common.{◌≡◌, ◌∙◌, ◌++◌, ◌∷◌, [], ap, sym, arith}
use Rattle.ppddl_cursor.specs.Reading.{one_at, read_to}
use Rattle.ppddl_forms.specs.Chances.{next_chance}
use Rattle.ppddl_forms.specs.items.Items.{chances_of, with_branch}
use Rattle.ppddl_forms.proofs.lemmas.items.ItemSteps.{branches_next, chances_push}
use Rattle.ppddl_forms.proofs.items.branches.read_more_branches.Goals as goal

pub loop-alloc-preserved : goal.loop-alloc-preserved
loop-alloc-preserved c =
    let seen = c.loop-alloc.seen.items in
    let names = c.args.names.now in
    let pushed : c.push.new.self.items ≡ with_branch seen c.in_ok-chance.chance c.in_ok-atoms.atoms = c.in_ok-push.ensures.items in
    let chances : one_at (next_chance (chances_of seen)) c.loop-alloc.cursor ≡ read_to c.in_ok-chance.chance c.read_chance.new.cursor
    = rw (← c.loop-alloc.invariant.chances) c.in_ok-chance.ensures.gives in
    record {
      reads = rw pushed (branches_next names seen c.in_ok-chance.chance c.in_ok-atoms.atoms c.loop-alloc.cursor c.read_chance.new.cursor c.read_added.new.cursor
          (sym c.has_form.ensures ∙ c.loop-alloc-test.true) chances c.in_ok-atoms.ensures.gives ∙ c.loop-alloc.invariant.reads);
      chances = rw pushed (c.in_ok-chance.ensures.added ∙ ap (λ ps. ps ++ c.in_ok-chance.chance ∷ []) c.loop-alloc.invariant.chances ∙ sym (chances_push seen c.in_ok-chance.chance c.in_ok-atoms.atoms));
      fewer = omega (arith, c.in_ok-atoms.ensures.fewer, c.in_ok-chance.ensures.fewer, c.loop-alloc.invariant.fewer);
    }
