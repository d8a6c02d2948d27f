use Rattle.std.proofs.Common.{◌∙◌, List, ℕ, [], length, refl, sym, ap, subst}
use Rattle.atomic_table.specs.Table.{opening}
use Rattle.ground_model.specs.Packed.{State}
use Rattle.word_table.specs.view.Steps.{first_view}
use Rattle.word_table.specs.rule.Rule.{IsTable, Holds}
use Rattle.word_table.proofs.lemmas.rule.Made.{made_holds}
use Rattle.word_table.specs.declared.key.Key.{Key}
use Rattle.word_table.specs.Made.{states_in}
use Rattle.word_table.specs.Plays.{Mine}
use Rattle.word_table.specs.Seen.{knowledge, IsWithin}
use Rattle.word_table.proofs.Filling.{states_in_is, first_is_within}
use Rattle.word_table.proofs.making.make.Goals as goal

pub of_words-requires : goal.of_words-requires
of_words-requires c =
    let g = c.args.problem.now in
    let l = c.new-layout.result in
    let ws = c.in_ok-words.words.items in
    let made = c.in_ok-words.ensures in
    let table : IsTable g l = record {
      problem = c.width.ensures.valid;
      layout = c.new-layout.ensures.layout;
      width = c.new-layout.ensures.value.1 ∙ c.width.ensures.width;
    } in
    subst (λ (xs : List ℕ). Holds g l c.args.rights (opening xs [] (first_view g l c.args.rights (states_in l ws)))) (sym c.as_slice.ensures.value)
    (subst (λ (ss : List State). Holds g l c.args.rights (opening ws [] (first_view g l c.args.rights ss))) (sym (states_in_is g l c.args.states.now ws made))
    (made_holds g l c.args.rights c.args.states.now ws table made c.requires.states.differ c.requires.states.reached))

pub invariant_of-words : goal.invariant_of-words
invariant_of-words c =
    let e = c.in_ok-table.ensures in (
      record {
        problem = c.width.ensures.valid;
        layout = c.new-layout.ensures.layout;
        width = c.new-layout.ensures.value.1 ∙ c.width.ensures.width;
      },
      e.0 ∙ (ap length c.as_slice.ensures.value ∙ c.in_ok-words.ensures.wide),
      e.1,
      ap (λ (k : Key). k.problem.now) e.5,
      ap (λ (k : Key). k.layout) e.5,
      ap (λ (k : Key). k.rights) e.5,
      c.lower.ensures,
      c.upper.ensures,
    )

pub invariant_of-result : goal.invariant_of-result
invariant_of-result c =
    let g = c.args.problem.now in
    let l = c.new-layout.result in
    let e = c.in_ok-table.ensures in
    let made = c.in_ok-words.ensures in
    let is = states_in_is g l c.args.states.now c.in_ok-words.words.items made in (
      ap (λ (m : Mine). m.1) e.4,
      sym (ap (λ (m : Mine). m.0.spare) e.4),
      subst (λ (m : Mine). IsWithin m.0) (sym e.4)
          (subst (λ (ss : List State). IsWithin (first_view g l c.args.rights ss)) (sym is) (first_is_within g l c.args.rights c.args.states.now made.few)),
    )

pub returns : goal.returns
returns c =
    let g = c.args.problem.now in
    let l = c.new-layout.result in
    let e = c.in_ok-table.ensures in
    let is = states_in_is g l c.args.states.now c.in_ok-words.words.items c.in_ok-words.ensures in
    let view = ap (λ (m : Mine). m.0) e.4 ∙ ap (first_view g l c.args.rights) is in
    record {
      problem = refl;
      layout = record {
        problem = c.width.ensures.valid;
        layout = c.new-layout.ensures.layout;
        width = c.new-layout.ensures.value.1 ∙ c.width.ensures.width;
      };
      count = (c.new-layout.ensures.value.0, refl);
      pass = λ t. knowledge (e.2 t) (view t);
    }
