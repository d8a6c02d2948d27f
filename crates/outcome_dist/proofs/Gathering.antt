-- The choices of branches that are gathered one after another.
use Rattle.std.proofs.Common.{◌≡◌, ℕ, ◌-◌, ◌*◌, ◌/◌, ◌≤◌, max, List, [], ◌∷◌, length, map, sym, ap, subst, ◌∙◌, arith}
use Rattle.std.specs.Prelude.{flat_map}
use Rattle.plain_list.specs.weighted.Mean.{total}
use Rattle.ppddl_model.specs.declared.tree.Branch.{Branch}
use Rattle.ppddl_model.specs.declared.tree.ValueItem.{ValueItem}
use Rattle.ppddl_model.specs.Denominator.{share}
use Rattle.ppddl_model.specs.Objects.{World, Binding}
use Rattle.ground_terms.specs.sizes.Valued.{with_values}
use Rattle.ground_model.specs.declared.action.Choice.{Choice}
use Rattle.ground_model.specs.declared.limits.TheConstants.{MOST_CHOICES}
use Rattle.ground_meaning.specs.choices.Numbering.{Numbering}
use Rattle.ground_meaning.specs.choices.Joint.{weight_of, idle, scaled, choices, merged, with_rest}
use Rattle.ground_meaning.specs.choices.Limits.{widest, greatest}
use Rattle.ground_meaning.proofs.lemmas.choices.Weights.{total-merged_choices}
use Rattle.outcome_dist.specs.declared.lists.refusal.JointRefusal.{JointRefusal}
use Rattle.outcome_dist.specs.lists.Piles.{merging}
use Rattle.outcome_dist.specs.lists.Refusals.{IsTooMany}
use Rattle.outcome_dist.proofs.lemmas.lists.MergeSteps.{merging-append, too_many}
use Rattle.outcome_dist.specs.Draws.{IsWide, own_of, inner_of, factor_of, branch_drawn, branches_drawn, branches_width}
use Rattle.outcome_dist.proofs.Walks.{wider, long_is_wide}
use Rattle.outcome_dist.proofs.EffectForms.{den_same, inner_forgets}

module _ (w : World) (n : Numbering) (own inner : ℕ) (b : Binding) where
  abbrev pub widths : List Branch → ℕ
  widths branches = greatest (map (λ (x : Branch). widest w n x.effect b) branches)

  pub record Gathered (list : List Choice) (rest all : List Branch) : Type 0 where
    pub same : merging list (flat_map (branch_drawn w n own inner b) rest) ≡ merging [] (flat_map (branch_drawn w n own inner b) all)
    pub within : widths rest ≤ widths all
    pub narrow : widths rest ≤ MOST_CHOICES → widths all ≤ MOST_CHOICES

  pub gathered_list : (list : List Choice) (xs ys all : List Branch) → xs ≡ ys → Gathered list xs all → Gathered list ys all
  gathered_list list xs ys all is kept = subst (λ l. Gathered list l all) is kept

  pub gathered_more : (list next : List Choice) (x : Branch) (rest all : List Branch) → Gathered list (x ∷ rest) all
      → next ≡ merging list (branch_drawn w n own inner b x) → widest w n x.effect b ≤ MOST_CHOICES → Gathered next rest all
  gathered_more list next x rest all kept is few =
      let before : widths (x ∷ rest) ≤ widths all = kept.within in
      record {
        same = ap (λ l. merging l (flat_map (branch_drawn w n own inner b) rest)) is
            ∙ sym (merging-append list (branch_drawn w n own inner b x) (flat_map (branch_drawn w n own inner b) rest)) ∙ kept.same;
        within = omega (arith, before);
        narrow = λ short. kept.narrow (omega (arith, few, short));
      }

  abbrev pub whole : List Branch → List Choice
  whole all = merged (with_rest (own * inner) (flat_map (branch_drawn w n own inner b) all))

  whole_is : (all : List Branch) → whole all
      ≡ merging (merging [] (flat_map (branch_drawn w n own inner b) all)) (idle (own * inner - total weight_of (flat_map (branch_drawn w n own inner b) all)) ∷ [])
  whole_is all =
      merging-append [] (flat_map (branch_drawn w n own inner b) all) (idle (own * inner - total weight_of (flat_map (branch_drawn w n own inner b) all)) ∷ [])

  pub gather_refused : (e : JointRefusal) (list : List Choice) (x : Branch) (rest all : List Branch) → Gathered list (x ∷ rest) all
      → IsTooMany e (merging list (branch_drawn w n own inner b x)) → IsWide e (max (widths all) (length (whole all)))
  gather_refused e list x rest all kept long =
      let F : Branch → List Choice = branch_drawn w n own inner b in
      let first : IsTooMany e (merging [] (flat_map F all)) =
      too_many e (merging list (F x)) (flat_map F rest) (merging [] (flat_map F all))
      (sym (merging-append list (F x) (flat_map F rest)) ∙ kept.same) long in
      let second : IsTooMany e (whole all) =
      too_many e (merging [] (flat_map F all)) (idle (own * inner - total weight_of (flat_map F all)) ∷ []) (whole all) (sym (whole_is all)) first in
      wider e (length (whole all)) (max (widths all) (length (whole all))) (omega arith) (long_is_wide e (whole all) second)

  -- and what is left
  pub with_the_rest : (list : List Choice) (all : List Branch) (den used : ℕ) → Gathered list [] all → den ≡ own * inner
      → used ≡ total weight_of list → merging list (idle (den - used) ∷ []) ≡ whole all
  with_the_rest list all den used kept is sum =
      let F : Branch → List Choice = branch_drawn w n own inner b in
      let total_is : used ≡ total weight_of (flat_map F all) = sum ∙ ap (total weight_of) kept.same ∙ total-merged_choices (flat_map F all) in
      (λ i. merging (kept.same i) (idle (is i - total_is i) ∷ [])) ∙ sym (whole_is all)

  pub rest_refused : (e : JointRefusal) (list : List Choice) (all : List Branch) (den used : ℕ) → Gathered list [] all → den ≡ own * inner
      → used ≡ total weight_of list → IsTooMany e (merging list (idle (den - used) ∷ [])) → IsWide e (max (widths all) (length (whole all)))
  rest_refused e list all den used kept is sum long =
      wider e (length (whole all)) (max (widths all) (length (whole all))) (omega arith)
      (long_is_wide e (whole all) (subst (IsTooMany e) (with_the_rest list all den used kept is sum) long))

  pub all_narrow : (list : List Choice) (all : List Branch) → Gathered list [] all → length (whole all) ≤ MOST_CHOICES
      → max (widths all) (length (whole all)) ≤ MOST_CHOICES
  all_narrow list all kept few = let short : widths all ≤ MOST_CHOICES = kept.narrow (omega arith) in omega (arith, few, short)

-- ---- factors and denominators as they are computed, over a table without values

module _ (n : Numbering) (own inner : ℕ) (b : Binding) (t : World) (values : List ValueItem) where
  pub branch_is : (x : Branch) (factor : ℕ) (drafts : List Choice) → factor ≡ factor_of own inner t x
      → drafts ≡ choices (with_values t values) n x.effect b → map (scaled factor) drafts ≡ branch_drawn (with_values t values) n own inner b x
  branch_is x factor drafts is are =
      λ i. map (scaled ((is ∙ ap (λ k. share own x.chance * (inner / k)) (den_same t values x.effect)) i)) (are i)

  pub whole_same : (all : List Branch) → own ≡ own_of all → inner ≡ inner_of t all
      → whole (with_values t values) n own inner b all ≡ branches_drawn (with_values t values) n all b
  whole_same all is are = λ i. whole (with_values t values) n (is i) ((are ∙ inner_forgets t values all) i) b all

  pub width_is : (all : List Branch) → own ≡ own_of all → inner ≡ inner_of t all
      → max (widths (with_values t values) n own inner b all) (length (whole (with_values t values) n own inner b all)) ≡ branches_width (with_values t values) n all b
  width_is all is are = ap (λ l. max (widths (with_values t values) n own inner b all) (length l)) (whole_same all is are)
