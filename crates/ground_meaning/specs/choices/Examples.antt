-- Worked examples: two draws, a merged draw, a guarded part, a `when` under a draw.
use Rattle.std.specs.Prelude.{◌≡◌, ℕ, List, [], ◌∷◌, codes}
use Rattle.std.proofs.Common.{refl}
use denote.Hole.Carrier.{hidden}
use Rattle.ppddl_model.specs.declared.tree.Atom.{Atom}
use Rattle.ppddl_model.specs.declared.tree.Effect.{Effect}
use Rattle.ppddl_model.specs.declared.tree.Effect.TheVariants as effect
use Rattle.ppddl_model.specs.declared.tree.Effect.TheBlock.{shape-the_row-Effect-0}
use Rattle.ppddl_model.specs.declared.tree.Effect.TheBlock.{hidden-the_row-Effect-0}
use Rattle.ppddl_model.specs.declared.tree.Effect.TheBlock.{hidden-the_row-Effect-1}
use Rattle.ppddl_model.specs.declared.tree.Effect.TheBlock.{shape-the_row-Branch-2}
use Rattle.ppddl_model.specs.declared.tree.Effect.TheBlock.{hidden-the_row-Branch-2}
use Rattle.ppddl_model.specs.declared.tree.Condition.TheVariants as condition
use Rattle.ppddl_model.specs.State.{Name}
use Rattle.ppddl_model.specs.Objects.{World}
use Rattle.ground_model.specs.declared.action.Choice.{Choice}
use Rattle.ground_model.specs.declared.action.Guarded.{Guarded}
use Rattle.ground_model.specs.declared.condition.GroundCondition.TheVariants.{Atom as Numbered}
use Rattle.ground_meaning.specs.choices.Numbering.{Numbering}
use Rattle.ground_meaning.specs.choices.Joint.{joint}
use Rattle.ground_meaning.specs.choices.Limits.{widest, effect_size}

abbrev nowhere : World
nowhere = record { types = []; objects = []; values = [] }

-- `(a)` has the number 0 and `(b)` the number 1
abbrev flags : Numbering
flags = record { atoms = codes "(a)" ∷ codes "(b)" ∷ []; facts = [] }

abbrev flag : Name → Atom
flag name = record { predicate = name; args = [] }

abbrev adds : Name → Effect
adds name = effect.Add (flag name)

abbrev half : Effect → Effect
half e = effect.Chance (record { chance = record { num = 1; den = 2 }; effect = e } ∷ [])

abbrev choice : ℕ → ℕ → List ℕ → List Guarded → Choice
choice weight cost added guarded =
    record { weight = weight; cost = cost; adds = added; deletes = []; guarded = guarded }

-- `(and (probabilistic 0.5 (a)) (probabilistic 0.5 (b)))`
abbrev two_draws : Effect
two_draws = effect.Both (half (adds (codes "a")) ∷ half (adds (codes "b")) ∷ [])

four_choices : joint nowhere flags two_draws [] 1000000 ≡ record {
  list = choice 1 1000000 (0 ∷ 1 ∷ []) [] ∷ choice 1 1000000 (0 ∷ []) []
      ∷ choice 1 1000000 (1 ∷ []) [] ∷ choice 1 1000000 [] [] ∷ [];
  den = 4;
}
unfolding shape-the_row-Effect-0 hidden-the_row-Effect-0 hidden-the_row-Effect-1 shape-the_row-Branch-2 hidden-the_row-Branch-2 hidden
four_choices = refl

four_at_most : widest nowhere flags two_draws [] ≡ 4
unfolding shape-the_row-Effect-0 hidden-the_row-Effect-0 hidden-the_row-Effect-1 shape-the_row-Branch-2 hidden-the_row-Branch-2 hidden
four_at_most = refl

-- `(probabilistic 0.5 (a) 0.5 (a))`
abbrev same_twice : Effect
same_twice = effect.Chance (
    record { chance = record { num = 1; den = 2 }; effect = adds (codes "a") }
    ∷ record { chance = record { num = 1; den = 2 }; effect = adds (codes "a") } ∷ [])

one_choice : joint nowhere flags same_twice [] 0
    ≡ record { list = choice 1 0 (0 ∷ []) [] ∷ []; den = 1 }
unfolding shape-the_row-Effect-0 hidden-the_row-Effect-0 hidden-the_row-Effect-1 shape-the_row-Branch-2 hidden-the_row-Branch-2 hidden
one_choice = refl

-- `(and (when (a) (not (a))) (a))`
abbrev deletes_where_true : Effect
deletes_where_true = effect.Both (
    effect.When (condition.Atom (flag (codes "a"))) (effect.Delete (flag (codes "a")))
    ∷ adds (codes "a") ∷ [])

guarded_delete : joint nowhere flags deletes_where_true [] 0 ≡ record {
  list = choice 1 0 (0 ∷ [])
      (record { condition = Numbered 0; adds = []; deletes = 0 ∷ []; cost = 0 } ∷ []) ∷ [];
  den = 1;
}
unfolding shape-the_row-Effect-0 hidden-the_row-Effect-0 hidden-the_row-Effect-1 shape-the_row-Branch-2 hidden-the_row-Branch-2 hidden
guarded_delete = refl

size_of_both : effect_size nowhere deletes_where_true ≡ 6
unfolding shape-the_row-Effect-0 hidden-the_row-Effect-0 hidden-the_row-Effect-1 shape-the_row-Branch-2 hidden-the_row-Branch-2 hidden
size_of_both = refl

-- `(probabilistic 0.5 (when (b) (decrease (reward) 3)))`
paid_where_true : joint nowhere flags
    (half (effect.When (condition.Atom (flag (codes "b"))) (effect.Cost 3))) [] 2
    ≡ record {
      list = choice 1 2 []
          (record { condition = Numbered 1; adds = []; deletes = []; cost = 3 } ∷ [])
          ∷ choice 1 2 [] [] ∷ [];
      den = 2;
    }
unfolding shape-the_row-Effect-0 hidden-the_row-Effect-0 hidden-the_row-Effect-1 shape-the_row-Branch-2 hidden-the_row-Branch-2 hidden
paid_where_true = refl
