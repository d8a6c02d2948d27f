-- Arguments, read step by step.
--     argument_steps    the laws by which their readers are proved
use Rattle.std.proofs.Common.{◌≡◌, ◌≢◌, List, [], ◌∷◌, ◌++◌, length, slice_get, Bool, true, false, ◌==◌, cond, Result, Ok, refl, ap, ◌∙◌}
use Rattle.std.proofs.lemmas.Bool.{eq-eqb, ne_eqb}
use Rattle.plain_list.specs.Results.{◌>>=◌}
use Rattle.plain_list.proofs.Results.{bind_assoc}
use Rattle.ppddl_model.specs.declared.refusal.TextCode.TheVariants.{Arity}
use Rattle.ppddl_model.specs.declared.tree.Param.{Param}
use Rattle.ppddl_model.specs.declared.tree.Term.{Term}
use Rattle.ppddl_forms.specs.names.Declarations.{Declared}
use Rattle.ppddl_cursor.specs.declared.place.Place.{Place}
use Rattle.ppddl_cursor.specs.Forms.{Forms}
use Rattle.ppddl_cursor.specs.Ahead.{Ahead, has_form, place_of}
use Rattle.ppddl_cursor.specs.Reading.{Fault, fails, read_to, one_at, rest_at, ends}
use Rattle.ppddl_cursor.proofs.Steps.{checking_step}
use Rattle.ppddl_forms.specs.Sequences.{each_to}
use Rattle.ppddl_forms.specs.Terms.{Scope, argument, next_argument, all_given, arguments}
use Rattle.ppddl_forms.proofs.Steps.{form_steps, each_to_step}

module _ (d : Declared) (s : Scope) (params : List Param) where
  -- behind the arguments seen
  abbrev pub Behind : List Term → Forms → Place → Result (List Term) Fault
  Behind seen = each_to (next_argument d s params) (all_given params) seen

  pub behind_step : (seen : List Term) (h : Ahead) → rest_at (Behind seen) h
      ≡ cond (has_form h)
      (one_at (argument d s (slice_get params (length seen))) h >>= λ y. rest_at (Behind (seen ++ y.0 ∷ [])) y.1)
      (cond (length seen == length params) (rest_at ends h >>= λ y. read_to seen y.1) (fails Arity (place_of h)))
  unfolding next_argument
  behind_step seen h =
      each_to_step (next_argument d s params) (all_given params) seen h
      ∙ ap (λ (r : Result (List Term × Ahead) Fault). cond (has_form h) r (all_given params seen (place_of h) >>= λ x. rest_at ends h >>= λ y. read_to x y.1)) step
      ∙ ap (λ (r : Result (List Term × Ahead) Fault). cond (has_form h) (one_at (argument d s (slice_get params (length seen))) h >>= λ y. rest_at (Behind (seen ++ y.0 ∷ [])) y.1) r) (by_count (length seen == length params))
    where
      step : (one_at (next_argument d s params seen) h >>= λ y. rest_at (Behind y.0) y.1) ≡ (one_at (argument d s (slice_get params (length seen))) h >>= λ y. rest_at (Behind (seen ++ y.0 ∷ [])) y.1)
      step =
          ap (λ (r : Result (List Term × Ahead) Fault). r >>= λ y. rest_at (Behind y.0) y.1) (checking_step (λ t. Ok (seen ++ t ∷ [])) (argument d s (slice_get params (length seen))) h)
          ∙ bind_assoc (one_at (argument d s (slice_get params (length seen))) h) (λ y. read_to (seen ++ y.0 ∷ []) y.1) (λ y. rest_at (Behind y.0) y.1)

      by_count : (t : Bool) → (cond t (Ok seen) (fails Arity (place_of h)) >>= λ x. rest_at ends h >>= λ y. read_to x y.1) ≡ cond t (rest_at ends h >>= λ y. read_to seen y.1) (fails Arity (place_of h))
      by_count true = refl
      by_count false = refl

  -- the end, behind as many arguments as parameters, and behind fewer or more
  pub end_step : (seen : List Term) (h : Ahead) → has_form h ≡ false → length seen ≡ length params → rest_at (Behind seen) h ≡ (rest_at ends h >>= λ y. read_to seen y.1)
  end_step seen h ended all =
      behind_step seen h
      ∙ ap (λ t. cond t (one_at (argument d s (slice_get params (length seen))) h >>= λ y. rest_at (Behind (seen ++ y.0 ∷ [])) y.1)
      (cond (length seen == length params) (rest_at ends h >>= λ y. read_to seen y.1) (fails Arity (place_of h)))) ended
      ∙ ap (λ t. cond t (rest_at ends h >>= λ y. read_to seen y.1) (fails Arity (place_of h))) (eq-eqb (length seen) (length params) all)

  pub few_step : (seen : List Term) (h : Ahead) → has_form h ≡ false → length seen ≢ length params → rest_at (Behind seen) h ≡ fails Arity (place_of h)
  few_step seen h ended few =
      behind_step seen h
      ∙ ap (λ t. cond t (one_at (argument d s (slice_get params (length seen))) h >>= λ y. rest_at (Behind (seen ++ y.0 ∷ [])) y.1)
      (cond (length seen == length params) (rest_at ends h >>= λ y. read_to seen y.1) (fails Arity (place_of h)))) ended
      ∙ ap (λ t. cond t (rest_at ends h >>= λ y. read_to seen y.1) (fails Arity (place_of h))) (ne_eqb (length seen) (length params) few)

  pub arguments_is : (h : Ahead) → rest_at (arguments d s params) h ≡ rest_at (Behind []) h
  unfolding arguments
  arguments_is h = refl

pub ruleset argument_steps = (form_steps, behind_step, end_step, few_step, arguments_is)
