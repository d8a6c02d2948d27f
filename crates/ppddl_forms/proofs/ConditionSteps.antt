-- Conditions, read step by step.
--     condition_steps    the laws by which their readers are proved
use Rattle.std.proofs.Common.{◌≡◌, ℕ, List, [], ◌∷◌, cond, Result, Ok, refl, ap, ◌∙◌}
use Rattle.plain_list.specs.Results.{◌>>=◌}
use Rattle.plain_list.proofs.Results.{bind_cong}
use Rattle.ppddl_lex.specs.Words.{lowered}
use Rattle.ppddl_model.specs.declared.refusal.TextCode.TheVariants.{Expected, Unsupported}
use Rattle.ppddl_model.specs.declared.tree.Condition.{Condition}
use Rattle.ppddl_model.specs.declared.tree.Condition.TheVariants as tree
use Rattle.ppddl_forms.specs.names.Declarations.{Declared}
use Rattle.ppddl_cursor.specs.declared.place.Place.{Place}
use Rattle.ppddl_cursor.specs.Forms.{Forms, lone, group, none, more, lowered_forms}
use Rattle.ppddl_cursor.specs.Ahead.{Ahead, top, inner, after, has_form, next_of, word_of, place_of}
use Rattle.ppddl_cursor.specs.Reading.{Fault, fails, read_to, one_at, rest_at, ends, opened, word_at}
use Rattle.ppddl_cursor.specs.Sequences.{one_then, last, giving, many}
use Rattle.ppddl_cursor.proofs.Steps.{giving_step}
use Rattle.ppddl_forms.specs.declared.condition_head.ConditionHead.{ConditionHead}
use Rattle.ppddl_forms.specs.declared.condition_head.ConditionHead.TheVariants as head
use Rattle.ppddl_forms.specs.Sequences.{many_behind}
use Rattle.ppddl_forms.specs.Terms.{Scope, atom_in}
use Rattle.ppddl_forms.specs.Variables.{variable_list}
use Rattle.ppddl_forms.specs.Conditions.{condition_head, condition, condition_in, negation, conditions, implication, implied, quantified, bound, equality}
use Rattle.ppddl_forms.proofs.Steps.{form_steps, rest_ext, many_is_behind}

module _ (d : Declared) where
  pub condition_step : (s : Scope) (h : Ahead) → one_at (condition d s) h ≡ (opened h >>= λ k. rest_at (condition_in d s) k)
  unfolding condition one_at opened next_of place_of after rest_at
  condition_step s (top none e) = refl
  condition_step s (top (more (lone w a) fs) e) = refl
  condition_step s (top (more (group a gs b) fs) e) = refl
  condition_step s (inner none b out) = refl
  condition_step s (inner (more (lone w a) fs) b out) = refl
  condition_step s (inner (more (group a gs c) fs) b out) = refl

  -- by what the first word says
  abbrev pub by_head : Scope → ConditionHead → Ahead → Result (Condition × Ahead) Fault
  by_head s head.Not h = rest_at (negation d s) (after h)
  by_head s head.And h = rest_at (conditions d s) (after h) >>= λ y. read_to (tree.All y.0) y.1
  by_head s head.Or h = rest_at (conditions d s) (after h) >>= λ y. read_to (tree.Any y.0) y.1
  by_head s head.Imply h = rest_at (implication d s) (after h)
  by_head s head.Exists h = rest_at (quantified d s) (after h) >>= λ y. read_to (tree.Exists y.0.0 y.0.1) y.1
  by_head s head.Forall h = rest_at (quantified d s) (after h) >>= λ y. read_to (tree.Forall y.0.0 y.0.1) y.1
  by_head s head.Equal h = rest_at (equality d s) (after h)
  by_head s head.Comparison h = fails Unsupported (place_of h)
  by_head s head.Predicate h = rest_at (atom_in d s) h >>= λ y. read_to (tree.Atom y.0) y.1

  -- what stands behind a first word
  abbrev behind : ConditionHead → List ℕ → Place → Forms → Place → Scope → Result Condition Fault
  behind k w a fs b s = elim k [
    | head.Not ↦ negation d s fs b
    | head.And ↦ conditions d s fs b >>= λ cs. Ok (tree.All cs)
    | head.Or ↦ conditions d s fs b >>= λ cs. Ok (tree.Any cs)
    | head.Imply ↦ implication d s fs b
    | head.Exists ↦ quantified d s fs b >>= λ q. Ok (tree.Exists q.0 q.1)
    | head.Forall ↦ quantified d s fs b >>= λ q. Ok (tree.Forall q.0 q.1)
    | head.Equal ↦ equality d s fs b
    | head.Comparison ↦ fails Unsupported a
    | head.Predicate ↦ atom_in d s (more (lone w a) fs) b >>= λ x. Ok (tree.Atom x)
  ]

  at_top : (k : ConditionHead) (w : List ℕ) (a : Place) (fs : Forms) (e : Place) (s : Scope)
      → (behind k (lowered w) a (lowered_forms fs) e s >>= λ x. fails Expected e) ≡ by_head s k (top (more (lone w a) fs) e)
  unfolding rest_at giving after place_of
  at_top head.Not w a fs e s = refl
  at_top head.And w a fs e s = giving_step (λ cs. tree.All cs) (conditions d s) (top fs e)
  at_top head.Or w a fs e s = giving_step (λ cs. tree.Any cs) (conditions d s) (top fs e)
  at_top head.Imply w a fs e s = refl
  at_top head.Exists w a fs e s = giving_step (λ q. tree.Exists q.0 q.1) (quantified d s) (top fs e)
  at_top head.Forall w a fs e s = giving_step (λ q. tree.Forall q.0 q.1) (quantified d s) (top fs e)
  at_top head.Equal w a fs e s = refl
  at_top head.Comparison w a fs e s = refl
  at_top head.Predicate w a fs e s = giving_step (λ x. tree.Atom x) (atom_in d s) (top (more (lone w a) fs) e)

  at_inner : (k : ConditionHead) (w : List ℕ) (a : Place) (fs : Forms) (b : Place) (out : Ahead) (s : Scope)
      → (behind k (lowered w) a (lowered_forms fs) b s >>= λ x. read_to x out) ≡ by_head s k (inner (more (lone w a) fs) b out)
  unfolding rest_at giving after place_of
  at_inner head.Not w a fs b out s = refl
  at_inner head.And w a fs b out s = giving_step (λ cs. tree.All cs) (conditions d s) (inner fs b out)
  at_inner head.Or w a fs b out s = giving_step (λ cs. tree.Any cs) (conditions d s) (inner fs b out)
  at_inner head.Imply w a fs b out s = refl
  at_inner head.Exists w a fs b out s = giving_step (λ q. tree.Exists q.0 q.1) (quantified d s) (inner fs b out)
  at_inner head.Forall w a fs b out s = giving_step (λ q. tree.Forall q.0 q.1) (quantified d s) (inner fs b out)
  at_inner head.Equal w a fs b out s = refl
  at_inner head.Comparison w a fs b out s = refl
  at_inner head.Predicate w a fs b out s = giving_step (λ x. tree.Atom x) (atom_in d s) (inner (more (lone w a) fs) b out)

  pub inside_step : (s : Scope) (h : Ahead) → rest_at (condition_in d s) h
      ≡ cond (has_form h) (word_at h >>= λ w. by_head s (condition_head (lowered w)) h) (rest_at ends h >>= λ y. read_to (tree.All []) y.1)
  unfolding condition_in rest_at has_form next_of word_of place_of
  inside_step s (top none e) = refl
  inside_step s (top (more (lone w a) fs) e) = at_top (condition_head (lowered w)) w a fs e s
  inside_step s (top (more (group a gs b) fs) e) = refl
  inside_step s (inner none b out) = refl
  inside_step s (inner (more (lone w a) fs) b out) = at_inner (condition_head (lowered w)) w a fs b out s
  inside_step s (inner (more (group a gs c) fs) b out) = refl

  -- ---- behind the first word

  negation_is : (s : Scope) (fs : Forms) (b : Place) → negation d s fs b ≡ one_then (condition d s) (λ c. last (tree.Not c)) fs b
  unfolding negation one_then last
  negation_is s none b = refl
  negation_is s (more f fs) b = refl

  pub negation_step : (s : Scope) (h : Ahead) → rest_at (negation d s) h ≡ rest_at (one_then (condition d s) (λ c. last (tree.Not c))) h
  negation_step s h = rest_ext _ _ (negation_is s) h

  implication_is : (s : Scope) (fs : Forms) (b : Place)
      → implication d s fs b ≡ one_then (condition d s) (λ c. one_then (condition d s) (λ e. last (tree.Imply c e))) fs b
  unfolding implication implied one_then last
  implication_is s none b = refl
  implication_is s (more f none) b = refl
  implication_is s (more f (more g fs)) b = refl

  pub implication_step : (s : Scope) (h : Ahead)
      → rest_at (implication d s) h ≡ rest_at (one_then (condition d s) (λ c. one_then (condition d s) (λ e. last (tree.Imply c e)))) h
  implication_step s h = rest_ext _ _ (implication_is s) h

  quantified_is : (s : Scope) (fs : Forms) (b : Place)
      → quantified d s fs b ≡ one_then (variable_list d) (λ params. one_then (condition d (params ∷ s)) (λ c. last (params, c))) fs b
  unfolding quantified bound one_then last
  quantified_is s none b = refl
  quantified_is s (more f none) b = refl
  quantified_is s (more f (more g fs)) b = refl

  pub quantified_step : (s : Scope) (h : Ahead)
      → rest_at (quantified d s) h ≡ rest_at (one_then (variable_list d) (λ params. one_then (condition d (params ∷ s)) (λ c. last (params, c)))) h
  quantified_step s h = rest_ext _ _ (quantified_is s) h

  conditions_is : (s : Scope) (fs : Forms) (b : Place) → conditions d s fs b ≡ many (condition d s) fs b
  unfolding conditions many
  conditions_is s none b = refl
  conditions_is s (more f fs) b =
      bind_cong (condition d s f) (λ c. conditions d s fs b >>= λ cs. Ok (c ∷ cs)) (λ c. many (condition d s) fs b >>= λ cs. Ok (c ∷ cs))
      (λ c. ap (λ (r : Result (List Condition) Fault). r >>= λ cs. Ok (c ∷ cs)) (conditions_is s fs b))

  pub conditions_step : (s : Scope) (h : Ahead) → rest_at (conditions d s) h ≡ rest_at (many_behind (condition d s) []) h
  conditions_step s h = rest_ext _ _ (conditions_is s) h ∙ many_is_behind (condition d s) h

pub ruleset condition_steps = (
  form_steps,
  condition_step,
  inside_step,
  negation_step,
  implication_step,
  quantified_step,
  conditions_step,
)
