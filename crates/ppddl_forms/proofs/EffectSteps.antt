-- Effects, read step by step.
--     effect_steps    the laws by which their readers are proved
use Rattle.std.proofs.Common.{◌≡◌, ℕ, List, [], ◌∷◌, ◌++◌, true, cond, Result, Ok, refl, sym, ap, ◌∙◌}
use Rattle.plain_list.specs.Results.{◌>>=◌}
use Rattle.plain_list.proofs.Results.{bind_cong}
use Rattle.ppddl_lex.specs.Words.{lowered}
use Rattle.exact_fraction.specs.declared.fraction.Fraction.{Fraction}
use Rattle.ppddl_model.specs.declared.refusal.TextCode.TheVariants.{Expected, Unsupported}
use Rattle.ppddl_model.specs.declared.tree.Branch.{Branch}
use Rattle.ppddl_model.specs.declared.tree.Effect.{Effect}
use Rattle.ppddl_model.specs.declared.tree.Effect.TheVariants as tree
use Rattle.ppddl_forms.specs.names.Declarations.{Declared}
use Rattle.ppddl_cursor.specs.declared.place.Place.{Place}
use Rattle.ppddl_cursor.specs.Forms.{Forms, lone, group, none, more, lowered_form, lowered_forms}
use Rattle.ppddl_cursor.specs.Ahead.{Ahead, top, inner, after, has_form, next_of, word_of, place_of}
use Rattle.ppddl_cursor.specs.Reading.{Fault, fails, read_to, one_at, rest_at, ends, opened, word_at}
use Rattle.ppddl_cursor.specs.Sequences.{one_then, last, giving, many}
use Rattle.ppddl_cursor.proofs.Results.{through}
use Rattle.ppddl_cursor.proofs.Steps.{giving_step, then_step}
use Rattle.ppddl_forms.specs.declared.effect_head.EffectHead.{EffectHead}
use Rattle.ppddl_forms.specs.declared.effect_head.EffectHead.TheVariants as head
use Rattle.ppddl_forms.specs.Sequences.{many_behind}
use Rattle.ppddl_forms.specs.Chances.{next_chance}
use Rattle.ppddl_forms.specs.Conditions.{condition}
use Rattle.ppddl_forms.specs.Costs.{cost}
use Rattle.ppddl_forms.specs.Terms.{Scope, atom_in}
use Rattle.ppddl_forms.specs.Variables.{variable_list}
use Rattle.ppddl_forms.specs.Effects.{effect_head, chances_of, deletion, effect, effect_in, effects, for_all, for_each, conditional, guarded, branches, branch}
use Rattle.ppddl_forms.proofs.Steps.{form_steps, rest_ext, many_is_behind}

module _ (d : Declared) where
  pub effect_step : (s : Scope) (h : Ahead) → one_at (effect d s) h ≡ (opened h >>= λ k. rest_at (effect_in d s) k)
  unfolding effect one_at opened next_of place_of after rest_at
  effect_step s (top none e) = refl
  effect_step s (top (more (lone w a) fs) e) = refl
  effect_step s (top (more (group a gs b) fs) e) = refl
  effect_step s (inner none b out) = refl
  effect_step s (inner (more (lone w a) fs) b out) = refl
  effect_step s (inner (more (group a gs c) fs) b out) = refl

  -- by what the first word says
  abbrev pub by_head : Scope → EffectHead → Ahead → Result (Effect × Ahead) Fault
  by_head s head.Not h = rest_at (deletion d s) (after h)
  by_head s head.And h = rest_at (effects d s) (after h) >>= λ y. read_to (tree.Both y.0) y.1
  by_head s head.Forall h = rest_at (for_all d s) (after h)
  by_head s head.When h = rest_at (conditional d s) (after h)
  by_head s head.Probabilistic h = rest_at (branches d s []) (after h) >>= λ y. read_to (tree.Chance y.0) y.1
  by_head s head.Decrease h = rest_at (cost d s) (after h)
  by_head s head.Unsupported h = fails Unsupported (place_of h)
  by_head s head.Predicate h = rest_at (atom_in d s) h >>= λ y. read_to (tree.Add y.0) y.1

  -- what stands behind a first word
  abbrev behind : EffectHead → List ℕ → Place → Forms → Place → Scope → Result Effect Fault
  behind k w a fs b s = elim k [
    | head.Not ↦ deletion d s fs b
    | head.And ↦ effects d s fs b >>= λ es. Ok (tree.Both es)
    | head.Forall ↦ for_all d s fs b
    | head.When ↦ conditional d s fs b
    | head.Probabilistic ↦ branches d s [] fs b >>= λ bs. Ok (tree.Chance bs)
    | head.Decrease ↦ cost d s fs b
    | head.Unsupported ↦ fails Unsupported a
    | head.Predicate ↦ atom_in d s (more (lone w a) fs) b >>= λ x. Ok (tree.Add x)
  ]

  at_top : (k : EffectHead) (w : List ℕ) (a : Place) (fs : Forms) (e : Place) (s : Scope)
      → (behind k (lowered w) a (lowered_forms fs) e s >>= λ x. fails Expected e) ≡ by_head s k (top (more (lone w a) fs) e)
  unfolding rest_at giving after place_of
  at_top head.Not w a fs e s = refl
  at_top head.And w a fs e s = giving_step (λ es. tree.Both es) (effects d s) (top fs e)
  at_top head.Forall w a fs e s = refl
  at_top head.When w a fs e s = refl
  at_top head.Probabilistic w a fs e s = giving_step (λ bs. tree.Chance bs) (branches d s []) (top fs e)
  at_top head.Decrease w a fs e s = refl
  at_top head.Unsupported w a fs e s = refl
  at_top head.Predicate w a fs e s = giving_step (λ x. tree.Add x) (atom_in d s) (top (more (lone w a) fs) e)

  at_inner : (k : EffectHead) (w : List ℕ) (a : Place) (fs : Forms) (b : Place) (out : Ahead) (s : Scope)
      → (behind k (lowered w) a (lowered_forms fs) b s >>= λ x. read_to x out) ≡ by_head s k (inner (more (lone w a) fs) b out)
  unfolding rest_at giving after place_of
  at_inner head.Not w a fs b out s = refl
  at_inner head.And w a fs b out s = giving_step (λ es. tree.Both es) (effects d s) (inner fs b out)
  at_inner head.Forall w a fs b out s = refl
  at_inner head.When w a fs b out s = refl
  at_inner head.Probabilistic w a fs b out s = giving_step (λ bs. tree.Chance bs) (branches d s []) (inner fs b out)
  at_inner head.Decrease w a fs b out s = refl
  at_inner head.Unsupported w a fs b out s = refl
  at_inner head.Predicate w a fs b out s = giving_step (λ x. tree.Add x) (atom_in d s) (inner (more (lone w a) fs) b out)

  pub inside_step : (s : Scope) (h : Ahead) → rest_at (effect_in d s) h
      ≡ cond (has_form h) (word_at h >>= λ w. by_head s (effect_head (lowered w)) h) (rest_at ends h >>= λ y. read_to (tree.Both []) y.1)
  unfolding effect_in rest_at has_form next_of word_of place_of
  inside_step s (top none e) = refl
  inside_step s (top (more (lone w a) fs) e) = at_top (effect_head (lowered w)) w a fs e s
  inside_step s (top (more (group a gs b) fs) e) = refl
  inside_step s (inner none b out) = refl
  inside_step s (inner (more (lone w a) fs) b out) = at_inner (effect_head (lowered w)) w a fs b out s
  inside_step s (inner (more (group a gs c) fs) b out) = refl

  -- ---- behind the first word

  for_all_is : (s : Scope) (fs : Forms) (b : Place)
      → for_all d s fs b ≡ one_then (variable_list d) (λ params. one_then (effect d (params ∷ s)) (λ e. last (tree.Forall params e))) fs b
  unfolding for_all for_each one_then last
  for_all_is s none b = refl
  for_all_is s (more f none) b = refl
  for_all_is s (more f (more g fs)) b = refl

  pub for_all_step : (s : Scope) (h : Ahead)
      → rest_at (for_all d s) h ≡ rest_at (one_then (variable_list d) (λ params. one_then (effect d (params ∷ s)) (λ e. last (tree.Forall params e)))) h
  for_all_step s h = rest_ext _ _ (for_all_is s) h

  conditional_is : (s : Scope) (fs : Forms) (b : Place)
      → conditional d s fs b ≡ one_then (condition d s) (λ c. one_then (effect d s) (λ e. last (tree.When c e))) fs b
  unfolding conditional guarded one_then last
  conditional_is s none b = refl
  conditional_is s (more f none) b = refl
  conditional_is s (more f (more g fs)) b = refl

  pub conditional_step : (s : Scope) (h : Ahead)
      → rest_at (conditional d s) h ≡ rest_at (one_then (condition d s) (λ c. one_then (effect d s) (λ e. last (tree.When c e)))) h
  conditional_step s h = rest_ext _ _ (conditional_is s) h

  effects_is : (s : Scope) (fs : Forms) (b : Place) → effects d s fs b ≡ many (effect d s) fs b
  unfolding effects many
  effects_is s none b = refl
  effects_is s (more f fs) b =
      bind_cong (effect d s f) (λ e. effects d s fs b >>= λ es. Ok (e ∷ es)) (λ e. many (effect d s) fs b >>= λ es. Ok (e ∷ es))
      (λ e. ap (λ (r : Result (List Effect) Fault). r >>= λ es. Ok (e ∷ es)) (effects_is s fs b))

  pub effects_step : (s : Scope) (h : Ahead) → rest_at (effects d s) h ≡ rest_at (many_behind (effect d s) []) h
  effects_step s h = rest_ext _ _ (effects_is s) h ∙ many_is_behind (effect d s) h

  -- an effect behind its probability
  branch_is : (s : Scope) (seen : List Branch) (p : Fraction) (fs : Forms) (b : Place)
      → branch d s seen p fs b ≡ one_then (effect d s) (λ e. branches d s (seen ++ record { chance = p; effect = e } ∷ [])) fs b
  unfolding branch one_then
  branch_is s seen p none b = refl
  branch_is s seen p (more f fs) b = refl

  -- a probability and its effect
  pub branches_step : (s : Scope) (seen : List Branch) (h : Ahead) → rest_at (branches d s seen) h
      ≡ cond (has_form h)
      (one_at (next_chance (chances_of seen)) h >>= λ y. rest_at (one_then (effect d s) (λ e. branches d s (seen ++ record { chance = y.0; effect = e } ∷ []))) y.1)
      (rest_at ends h >>= λ y. read_to seen y.1)
  unfolding branches one_at rest_at has_form
  branches_step s seen (top none e) = refl
  branches_step s seen (top (more f fs) e) =
      through (next_chance (chances_of seen) (lowered_form f)) (top fs e) (λ p. branch d s seen p (lowered_forms fs) e) (λ x. fails Expected e)
      (λ y. rest_at (one_then (effect d s) (λ e. branches d s (seen ++ record { chance = y.0; effect = e } ∷ []))) y.1)
      (λ p. ap (λ (r : Result (List Branch) Fault). r >>= λ x. fails Expected e) (branch_is s seen p (lowered_forms fs) e))
  branches_step s seen (inner none b out) = refl
  branches_step s seen (inner (more f fs) b out) =
      through (next_chance (chances_of seen) (lowered_form f)) (inner fs b out) (λ p. branch d s seen p (lowered_forms fs) b) (λ x. read_to x out)
      (λ y. rest_at (one_then (effect d s) (λ e. branches d s (seen ++ record { chance = y.0; effect = e } ∷ []))) y.1)
      (λ p. ap (λ (r : Result (List Branch) Fault). r >>= λ x. read_to x out) (branch_is s seen p (lowered_forms fs) b))

  -- one more branch
  pub next_branch : (s : Scope) (seen : List Branch) (p : Fraction) (e : Effect) (h k next : Ahead) → has_form h ≡ true
      → one_at (next_chance (chances_of seen)) h ≡ read_to p k → one_at (effect d s) k ≡ read_to e next
      → rest_at (branches d s (seen ++ record { chance = p; effect = e } ∷ [])) next ≡ rest_at (branches d s seen) h
  next_branch s seen p e h k next stands chances effects =
      sym (branches_step s seen h ∙ rw (stands, chances) (then_step (effect d s) (λ x. branches d s (seen ++ record { chance = p; effect = x } ∷ [])) k ∙ rw effects refl))

pub chances_push : (seen : List Branch) (b : Branch) → chances_of (seen ++ b ∷ []) ≡ chances_of seen ++ b.chance ∷ []
chances_push [] b = refl
chances_push (x ∷ seen) b = ap (λ ps. x.chance ∷ ps) (chances_push seen b)

pub ruleset effect_steps = (
  form_steps,
  effect_step,
  inside_step,
  for_all_step,
  conditional_step,
  effects_step,
  branches_step,
)
