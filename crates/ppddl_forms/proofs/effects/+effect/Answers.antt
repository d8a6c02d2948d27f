use Rattle.std.proofs.Common.{◌≡◌, ◌∙◌, ◌++◌, ◌∷◌, [], ap, sym, arith}
use Rattle.ppddl_model.specs.declared.tree.Branch.{Branch}
use Rattle.ppddl_cursor.specs.Reading.{one_at, read_to}
use Rattle.ppddl_forms.specs.Chances.{next_chance}
use Rattle.ppddl_forms.specs.Effects.{chances_of, effect}
use Rattle.ppddl_forms.proofs.EffectSteps.{next_branch, chances_push}
use Rattle.ppddl_forms.proofs.effects.+effect.Goals as goal

pub read_more_branches-loop-alloc-preserved : goal.read_more_branches-loop-alloc-preserved
read_more_branches-loop-alloc-preserved t c =
    let seen = c.loop-alloc.seen.items in
    let names = c.args.names.now in
    let branch : Branch = record { chance = c.in_ok-chance.chance; effect = c.in_ok-effect.effect } in
    let pushed : c.push.new.self.items ≡ seen ++ branch ∷ [] = c.in_ok-push.ensures.items in
    let chances : one_at (next_chance (chances_of seen)) c.loop-alloc.cursor ≡ read_to c.in_ok-chance.chance c.read_chance.new.cursor
    = rw (← c.loop-alloc.invariant.chances) c.in_ok-chance.ensures.gives in
    let effects : one_at (effect names c.args.scope.now) c.read_chance.new.cursor ≡ read_to c.in_ok-effect.effect c.read_effect.new.cursor
    = rw (← c.loop-alloc.invariant.scope) c.in_ok-effect.ensures.gives in
    record {
      reads = rw pushed (next_branch names c.args.scope.now seen c.in_ok-chance.chance c.in_ok-effect.effect c.loop-alloc.cursor c.read_chance.new.cursor c.read_effect.new.cursor
          (sym c.has_form.ensures ∙ c.loop-alloc-test.true) chances effects ∙ c.loop-alloc.invariant.reads);
      chances = rw pushed (c.in_ok-chance.ensures.added ∙ ap (λ ps. ps ++ c.in_ok-chance.chance ∷ []) c.loop-alloc.invariant.chances ∙ sym (chances_push seen branch));
      fewer = omega (arith, c.in_ok-effect.ensures.fewer, c.in_ok-chance.ensures.fewer, c.loop-alloc.invariant.fewer);
      scope = c.in_ok-effect.ensures.scope ∙ c.loop-alloc.invariant.scope;
    }
