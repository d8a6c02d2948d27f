-- Instances that are put in one after another are those of the ground problem, within its limits.
use Rattle.std.proofs.Common.{◌≡◌, ℕ, ◌+◌, ◌*◌, List, [], ◌∷◌, ◌++◌, map, length, append_assoc, refl, sym, ap, subst, ◌∙◌, length-append}
use Rattle.std.specs.Prelude.{Result, Ok, Err}
use Rattle.std.proofs.lemmas.List.{append-nil}
use Rattle.plain_list.specs.Results.{◌>>=◌}
use Rattle.plain_list.proofs.Results.{bind_assoc, bind_ok, ok_is}
use Rattle.ppddl_model.specs.declared.tree.Task.{Task}
use Rattle.ppddl_model.specs.Changing.{kept_instances}
use Rattle.ppddl_model.specs.Steps.{Instance, Charges, base_cost, world}
use Rattle.ground_model.specs.declared.action.GroundAction.{GroundAction}
use Rattle.ground_meaning.specs.choices.Limits.{widest, effect_size}
use Rattle.ground_meaning.specs.declared.refusals.limits.LimitCode.{LimitCode}
use Rattle.ground_meaning.specs.declared.refusals.limits.LimitCode.TheVariants.{Actions, Choices, GroundSize, OutcomeCost}
use Rattle.ground_meaning.specs.declared.refusals.refusal.GroundRefusal.{GroundRefusal}
use Rattle.ground_meaning.specs.declared.refusals.refusal.GroundRefusal.TheVariants as refusal
use Rattle.ground_meaning.specs.refusals.Atoms.{numbering_of}
use Rattle.ground_meaning.specs.refusals.Limits.{checked, within, is_cheap, size_of, instances_within}
use Rattle.ground_meaning.specs.refusals.Problem.{ground_action}
use Rattle.grounder.specs.declared.actions.GroundActions.{GroundActions}
use Rattle.grounder.specs.actions.Answers.{Answers}
use Rattle.grounder.specs.actions.Growing.{sized_actions, no_actions, with_instances, IsAnswerOf}

abbrev Test : Type 0
Test = Result (Unit {0}) LimitCode

one_by_one : {X : Type 0} (w1 w2 w3 w4 : Test) (a : GroundAction) (w5 : GroundAction → Test) (next : GroundAction → GroundActions)
    (rest : GroundActions → Result X LimitCode)
    → ((w1 >>= λ _. w2) >>= λ _. (w3 >>= λ _. w4 >>= λ _. Ok a) >>= λ x. (w5 x >>= λ _. Ok (next x)) >>= rest)
    ≡ (w1 >>= λ _. w2 >>= λ _. w3 >>= λ _. w4 >>= λ _. w5 a >>= λ _. rest (next a))
one_by_one (Ok p) (Ok q) (Ok r) (Ok s) a w5 next rest = bind_assoc (w5 a) (λ _. Ok (next a)) rest
one_by_one (Err e) w2 w3 w4 a w5 next rest = refl
one_by_one (Ok p) (Err e) w3 w4 a w5 next rest = refl
one_by_one (Ok p) (Ok q) (Err e) w4 a w5 next rest = refl
one_by_one (Ok p) (Ok q) (Ok r) (Err e) a w5 next rest = refl

then_all : {X Y : Type 0} (w1 w2 w3 w4 w5 : Test) (r : Result X LimitCode) (f : X → Result Y LimitCode)
    → ((w1 >>= λ _. w2 >>= λ _. w3 >>= λ _. w4 >>= λ _. w5 >>= λ _. r) >>= f)
    ≡ (w1 >>= λ _. w2 >>= λ _. w3 >>= λ _. w4 >>= λ _. w5 >>= λ _. r >>= f)
then_all (Ok p) (Ok q) (Ok s) (Ok t) (Ok u) r f = refl
then_all (Err e) w2 w3 w4 w5 r f = refl
then_all (Ok p) (Err e) w3 w4 w5 r f = refl
then_all (Ok p) (Ok q) (Err e) w4 w5 r f = refl
then_all (Ok p) (Ok q) (Ok s) (Err e) w5 r f = refl
then_all (Ok p) (Ok q) (Ok s) (Ok t) (Err e) r f = refl

module _ (task : Task) (charges : Charges) where
  abbrev listed : List GroundAction → List Instance → Result ℕ LimitCode → Result GroundActions LimitCode
  listed list is r = r >>= λ size. Ok (sized_actions (list ++ map (ground_action task charges) is) size)

  by_charges : (g : GroundActions) (is : List Instance)
      → with_instances task (base_cost task charges) g is ≡ listed g.list is (instances_within task charges (length g.list) g.size is)
  by_charges g [] = ap (λ l. Ok (sized_actions l g.size)) (sym (append-nil g.list))
  by_charges g (i ∷ more) =
      let a : GroundAction = ground_action task charges i in
      let each : ℕ = effect_size (world task) i.action.effect in
      let w1 : Test = within (length g.list + 1) Actions in
      let w2 : Test = within (g.size + each) GroundSize in
      let w3 : Test = within (widest (world task) (numbering_of task) i.action.effect i.binding) Choices in
      let w4 : Test = checked (is_cheap task charges i) OutcomeCost in
      let w5 : GroundAction → Test = λ x. within (g.size + length x.choices * each) GroundSize in
      let next : GroundAction → GroundActions = λ x. sized_actions (g.list ++ x ∷ []) (g.size + length x.choices * each) in
      let later : Result ℕ LimitCode = instances_within task charges (length g.list + 1) (g.size + size_of task charges i) more in
      one_by_one w1 w2 w3 w4 a w5 next (λ x. with_instances task (base_cost task charges) x more)
      ∙ ap (λ r. w1 >>= λ _. w2 >>= λ _. w3 >>= λ _. w4 >>= λ _. w5 a >>= λ _. r)
      (by_charges (next a) more
      ∙ ap (λ n. listed (g.list ++ a ∷ []) more (instances_within task charges n (g.size + size_of task charges i) more)) (length-append g.list (a ∷ []))
      ∙ ap (λ l. later >>= λ size. Ok (sized_actions l size)) (append_assoc g.list (a ∷ []) (map (ground_action task charges) more)))
      ∙ sym (then_all w1 w2 w3 w4 (w5 a) later (λ size. Ok (sized_actions (g.list ++ map (ground_action task charges) (i ∷ more)) size)))

  module _ (base tested : ℕ) (charged : base_cost task charges ≡ base) where
    abbrev sizes : Result ℕ LimitCode
    sizes = instances_within task charges 0 tested (kept_instances task)

    whole_is : with_instances task base (no_actions tested) (kept_instances task) ≡ listed [] (kept_instances task) sizes
    whole_is =
        subst (λ n. with_instances task n (no_actions tested) (kept_instances task) ≡ listed [] (kept_instances task) sizes) charged
        (by_charges (no_actions tested) (kept_instances task))

    pub answered : (x : GroundActions) → with_instances task base (no_actions tested) (kept_instances task) ≡ Ok x
        → Answers task charges (Ok x) sizes
    answered x is =
        let parts = bind_ok sizes (λ size. Ok (sized_actions (map (ground_action task charges) (kept_instances task)) size)) x (sym whole_is ∙ is) in
        let same : sized_actions (map (ground_action task charges) (kept_instances task)) parts.0 ≡ x
        = ok_is {E = LimitCode} (sized_actions (map (ground_action task charges) (kept_instances task)) parts.0) x parts.2 in
        (parts.1 ∙ (λ j. Ok ((same j).size)), sym (λ j. (same j).list))

    err_of : (r : Result ℕ LimitCode) (code : LimitCode) → listed [] (kept_instances task) r ≡ Err code → r ≡ Err code
    err_of (Ok size) code is = absurd cc
    err_of (Err e) code is = let same : e ≡ code = cc in ap Err same

    pub refused : (e : GroundRefusal) → IsAnswerOf {X = GroundActions} (Err e) (with_instances task base (no_actions tested) (kept_instances task))
        → Answers task charges (Err e) sizes
    refused (refusal.Limit code) is = err_of sizes code (sym whole_is ∙ is)
    refused refusal.Memory is = tt
    refused (refusal.CostNotPositive line) is = absurd is
    refused (refusal.NoPenalty line) is = absurd is
