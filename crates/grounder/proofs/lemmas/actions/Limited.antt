-- The choices of an instance, or the first limit on them.
use Rattle.std.proofs.Common.{◌≡◌, ℕ, Bool, true, false, not, List, [], refl, sym, ap, subst, ◌∙◌}
use Rattle.std.specs.Prelude.{nat_lt, if◌then◌else◌, Result, Ok, Err}
use Rattle.std.specs.List.{list_any}
use Rattle.std.proofs.lemmas.Bool.{le-ltb}
use Rattle.plain_list.specs.Results.{◌>>=◌}
use Rattle.ppddl_model.specs.declared.tree.Action.{Action}
use Rattle.ppddl_model.specs.declared.tree.Param.{Param}
use Rattle.ppddl_model.specs.declared.tree.Task.{Task}
use Rattle.ppddl_model.specs.declared.tree.ValueItem.{ValueItem}
use Rattle.ppddl_model.specs.Objects.{World, Binding}
use Rattle.ppddl_model.specs.Steps.{instance_name, world}
use Rattle.ground_model.specs.declared.action.GroundAction.{GroundAction}
use Rattle.ground_model.specs.declared.limits.TheConstants.{MOST_CHOICES, MOST_DENOMINATOR}
use Rattle.ground_meaning.specs.choices.Numbering.{Numbering}
use Rattle.ground_meaning.specs.choices.Joint.{Joint, den_of, charged_choices}
use Rattle.ground_meaning.specs.choices.Limits.{widest, is_dear}
use Rattle.outcome_dist.specs.declared.lists.refusal.JointRefusal.{JointRefusal}
use Rattle.outcome_dist.specs.declared.lists.refusal.JointRefusal.TheVariants as joint
use Rattle.ground_meaning.specs.declared.refusals.limits.LimitCode.{LimitCode}
use Rattle.ground_meaning.specs.declared.refusals.limits.LimitCode.TheVariants as limit
use Rattle.ground_meaning.specs.refusals.Atoms as atoms
use Rattle.ground_meaning.specs.refusals.Limits.{checked}
use Rattle.ground_terms.specs.sizes.Valued.{with_values}
use Rattle.outcome_dist.specs.conditions.Bindings.{world_of, numbering_of}
use Rattle.outcome_dist.specs.declared.conditions.binding.Binding as binding
use Rattle.task_instances.specs.facts.Facts.{table_of}
use Rattle.task_instances.specs.kept_rows.Kept.{bound_to, binding_of_row}
use Rattle.grounder.specs.instance_names.Names.{instance_of_row}
use Rattle.grounder.specs.declared.actions.forming.Formed.{Formed}
use Rattle.grounder.specs.actions.Answers.{IsBindingOf}
use Rattle.grounder.specs.actions.Forming.{IsFormedAs, IsFine, refusal_of}
use Rattle.grounder.specs.actions.Growing.{joint_with, action_with, action_or_limit, IsAnswerOf}
use Rattle.grounder.proofs.lemmas.actions.Tests.{not_above}

-- ---- three tests in a row

abbrev tested : Bool → Bool → Bool → Joint → Result Joint JointRefusal
tested fine wide dear j =
    if fine then Err joint.Denominator else if wide then Err joint.Choices else if dear then Err joint.OutcomeCost else Ok j

abbrev limited : Bool → Bool → GroundAction → Result GroundAction LimitCode
limited wide dear a = checked (not wide) limit.Choices >>= λ _. checked (not dear) limit.OutcomeCost >>= λ _. Ok a

found : (fine wide dear : Bool) (j x : Joint) (a : GroundAction) → tested fine wide dear j ≡ Ok x → (limited wide dear a ≡ Ok a) × (j ≡ x)
found true wide dear j x a is = absurd cc
found false true dear j x a is = absurd cc
found false false true j x a is = absurd cc
found false false false j x a is = (refl, cc)

choices_limited : (fine wide dear : Bool) (j : Joint) (a : GroundAction) → tested fine wide dear j ≡ Err joint.Choices
    → limited wide dear a ≡ Err limit.Choices
choices_limited true wide dear j a is = absurd cc
choices_limited false true dear j a is = refl
choices_limited false false true j a is = absurd cc
choices_limited false false false j a is = absurd cc

costs_limited : (fine wide dear : Bool) (j : Joint) (a : GroundAction) → tested fine wide dear j ≡ Err joint.OutcomeCost
    → limited wide dear a ≡ Err limit.OutcomeCost
costs_limited true wide dear j a is = absurd cc
costs_limited false true dear j a is = absurd cc
costs_limited false false true j a is = refl
costs_limited false false false j a is = absurd cc

not_fine : (fine wide dear : Bool) (j : Joint) → tested fine wide dear j ≡ Err joint.Denominator → fine ≡ true
not_fine true wide dear j is = refl
not_fine false true dear j is = absurd cc
not_fine false false true j is = absurd cc
not_fine false false false j is = absurd cc

-- ---- an instance

module _ (task : Task) (a : Action) (row : List ℕ) (base : ℕ) where
  abbrev bound : Binding
  bound = binding_of_row (table_of task) a.params row

  abbrev wide : Bool
  wide = nat_lt MOST_CHOICES (widest (world task) (atoms.numbering_of task) a.effect bound)

  abbrev dear : Bool
  dear = list_any is_dear (charged_choices (world task) (atoms.numbering_of task) a.effect bound base)

  abbrev fine : Bool
  fine = nat_lt MOST_DENOMINATOR (den_of (world task) a.effect)

  abbrev whole : Joint
  whole = joint_with task base (instance_of_row task a row)

  abbrev IsFormedHere : Result Formed JointRefusal → Type 0
  IsFormedHere = IsFormedAs (world task) (atoms.numbering_of task) a bound base

  abbrev act : GroundAction
  act = action_with task base (instance_of_row task a row)

  as_limited : action_or_limit task base (instance_of_row task a row) ≡ limited wide dear act
  as_limited =
      ap (λ b. checked b limit.Choices >>= λ _. checked (not dear) limit.OutcomeCost >>= λ _. Ok act)
      (not_above (widest (world task) (atoms.numbering_of task) a.effect bound) MOST_CHOICES)

  pub formed_is : (x : Formed) (name : List ℕ) → IsFormedHere (Ok x) → name ≡ instance_name (instance_of_row task a row)
      → action_or_limit task base (instance_of_row task a row)
      ≡ Ok (record { name = name; condition = x.condition; choices = x.choices.list; den = x.choices.den })
  formed_is x name is named =
      let seen = found fine wide dear whole (record { list = x.choices.list; den = x.choices.den }) act is.0 in
      as_limited ∙ seen.0
      ∙ (λ j. Ok (record { name = sym named j; condition = sym is.1 j; choices = (seen.1 j).list; den = (seen.1 j).den }))

  pub refused_is : (e : JointRefusal) → IsFine task a → IsFormedHere (Err e)
      → IsAnswerOf {X = GroundAction} (Err (refusal_of e)) (action_or_limit task base (instance_of_row task a row))
  refused_is joint.Memory few is = tt
  refused_is joint.Choices few is = as_limited ∙ choices_limited fine wide dear whole act is
  refused_is joint.OutcomeCost few is = as_limited ∙ costs_limited fine wide dear whole act is
  refused_is joint.Denominator few is =
      let above : fine ≡ true = not_fine fine wide dear whole is in
      let below : fine ≡ false = le-ltb MOST_DENOMINATOR (den_of (world task) a.effect) few.denominator in
      absurd cc

-- ---- by what names stand for

moved : (t t' : World) (v v' : List ValueItem) (n n' : Numbering) (ps ps' : List Param) (row : List ℕ) (a : Action) (base : ℕ)
    (r : Result Formed JointRefusal) → t ≡ t' → v ≡ v' → n ≡ n' → ps ≡ ps'
    → IsFormedAs (with_values t v) n a (bound_to t ps row []) base r → IsFormedAs (with_values t' v') n' a (bound_to t' ps' row []) base r
moved t t' v v' n n' ps ps' row a base r table values numbering params is =
    subst (λ x. IsFormedAs (with_values t' v') n' a (bound_to t' x row []) base r) params
    (subst (λ x. IsFormedAs (with_values t' v') x a (bound_to t' ps row []) base r) numbering
    (subst (λ x. IsFormedAs (with_values t' x) n a (bound_to t' ps row []) base r) values
    (subst (λ x. IsFormedAs (with_values x v) n a (bound_to x ps row []) base r) table is)))

pub formed_as : (task : Task) (b : binding.Binding) (a : Action) (params : List Param) (row : List ℕ) (base : ℕ) (r : Result Formed JointRefusal)
    → IsBindingOf task b → params ≡ a.params → IsFormedAs (world_of b) (numbering_of b) a (bound_to b.table.now params row []) base r
    → IsFormedAs (world task) (atoms.numbering_of task) a (binding_of_row (table_of task) a.params row) base r
formed_as task b a params row base r named same is =
    moved b.table.now (table_of task) b.values.now task.problem.values (numbering_of b) (atoms.numbering_of task) params a.params row a base r
    named.table named.values named.numbering same is
