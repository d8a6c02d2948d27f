-- Initial states, and the answer to all items.
use Rattle.std.proofs.Common.{◌≡◌, ℕ, ◌/◌, ◌<◌, ◌≤◌, inl, inr, List, [], ◌∷◌, length, map, refl, sym, ap, subst, ◌∙◌, arith}
use Rattle.std.specs.Prelude.{Result, Ok, Err}
use Rattle.std.proofs.lemmas.Bool.{le-leb, lt-leb}
use Rattle.plain_list.specs.Results.{◌>>=◌}
use Rattle.ppddl_model.specs.declared.tree.InitItem.{InitItem}
use Rattle.ground_model.specs.declared.action.Choice.{Choice}
use Rattle.ground_model.specs.declared.start.Start.{Start}
use Rattle.ground_model.specs.declared.limits.TheConstants.{MOST_DENOMINATOR, MOST_STARTS}
use Rattle.ground_meaning.specs.choices.Numbering.{Numbering}
use Rattle.ground_meaning.specs.choices.Joint.{charged, reduced, common_divisor}
use Rattle.ground_terms.specs.sizes.Counted.{counted}
use Rattle.ground_meaning.specs.declared.refusals.limits.LimitCode.{LimitCode}
use Rattle.ground_meaning.specs.declared.refusals.limits.LimitCode.TheVariants as limit
use Rattle.ground_meaning.specs.declared.refusals.refusal.GroundRefusal.{GroundRefusal}
use Rattle.ground_meaning.specs.refusals.Codes.{most_of}
use Rattle.ground_meaning.specs.refusals.Limits.{checked, within}
use Rattle.ground_meaning.specs.refusals.Starts.{Starts, packed_start, start_choices, starts_den, widest_start, starts_of}
use Rattle.grounder.specs.starts.Growing.{start_of, IsTooMany}
use Rattle.grounder.specs.starts.Answers.{Answers, starts_or_refusal}

pub starts_are : (count divisor : ℕ) (cs : List Choice)
    → map (start_of count) (map (reduced divisor) (map (charged 0) cs)) ≡ map (packed_start count divisor) cs
starts_are count divisor [] = refl
starts_are count divisor (c ∷ cs) = ap (λ l. packed_start count divisor c ∷ l) (starts_are count divisor cs)

passes : (n : ℕ) (code : LimitCode) → n ≤ most_of code → within n code ≡ Ok tt
passes n code small = ap (λ b. checked b code) (le-leb n (most_of code) small)

fails : (n : ℕ) (code : LimitCode) → most_of code < n → within n code ≡ Err code
fails n code above = ap (λ b. checked b code) (lt-leb n (most_of code) above)

module _ (n : Numbering) (init : List InitItem) where
  abbrev states : Result (Unit {0}) LimitCode → Result Starts LimitCode
  states r = r >>= λ _. Ok (starts_of n init)

  abbrev then_states : Result (Unit {0}) LimitCode → Result Starts LimitCode
  then_states r = r >>= λ _. states (within (widest_start n init) limit.Starts)

  pub too_fine : (den : ℕ) → den ≡ counted (starts_den init) → MOST_DENOMINATOR < den → starts_or_refusal n init ≡ Err limit.Denominator
  too_fine den is above =
      let over : most_of limit.Denominator < starts_den init = omega (arith, is, above) in
      ap then_states (fails (starts_den init) limit.Denominator over)

  module _ (den : ℕ) (is : den ≡ counted (starts_den init)) (below : den ≤ MOST_DENOMINATOR) where
    exact : den ≡ starts_den init
    exact = omega (arith, is, below)

    fine : starts_or_refusal n init ≡ states (within (widest_start n init) limit.Starts)
    fine =
        let inside : starts_den init ≤ most_of limit.Denominator = omega (arith, is, below) in
        ap then_states (passes (starts_den init) limit.Denominator inside)

    pub refused_is : (e : GroundRefusal) → IsTooMany e (widest_start n init) → Answers (Err e) (starts_or_refusal n init)
    refused_is e (inl memory) = subst (λ (x : GroundRefusal). Answers (Err x) (starts_or_refusal n init)) (sym memory) tt
    refused_is e (inr long) =
        subst (λ (x : GroundRefusal). Answers (Err x) (starts_or_refusal n init)) (sym long.0)
        (fine ∙ ap states (fails (widest_start n init) limit.Starts long.1))

    pub found_is : (count divisor : ℕ) (drafts : List Choice) (list : List Start) → count ≡ length n.atoms → drafts ≡ start_choices n init
        → divisor ≡ common_divisor den drafts → list ≡ map (packed_start count divisor) drafts → widest_start n init ≤ MOST_STARTS
        → starts_or_refusal n init ≡ Ok (record { list = list; den = den / divisor })
    found_is count divisor drafts list long are by here few =
        let whole : divisor ≡ common_divisor (starts_den init) (start_choices n init) = by ∙ (λ i. common_divisor (exact i) (are i)) in
        fine ∙ ap states (passes (widest_start n init) limit.Starts few)
        ∙ sym (λ i. Ok (record {
          list = (here ∙ (λ j. map (packed_start (long j) (whole j)) (are j))) i;
          den = exact i / whole i;
        }))
