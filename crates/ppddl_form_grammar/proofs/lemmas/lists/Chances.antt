-- The chances of the branches of an item of `:init`, one behind the others.
use Rattle.std.proofs.Common.{◌≡◌, ◌≤◌, List, [], ◌∷◌, ◌++◌, Ok, IfOk, refl, ap, subst, ◌∙◌}
use Rattle.plain_list.proofs.Results.{bind_ok, ok_is}
use Rattle.exact_fraction.specs.declared.fraction.Fraction.{Fraction}
use Rattle.exact_fraction.specs.Numbers.{IsProbability}
use Rattle.exact_fraction.proofs.NumberLemmas.{probability_of-reduced}
use Rattle.ppddl_model.specs.declared.limits.TheConstants.{MOST_DENOMINATOR}
use Rattle.ppddl_model.specs.declared.tree.InitBranch.{InitBranch}
use Rattle.ppddl_model.specs.WellFormed.{AreProbabilities}
use Rattle.ppddl_cursor.specs.declared.place.Place.{Place}
use Rattle.ppddl_cursor.specs.Forms.{Form, begin_of}
use Rattle.ppddl_cursor.specs.Reading.{Fault}
use Rattle.ppddl_cursor.specs.Sequences.{checking, located}
use Rattle.ppddl_forms.specs.Chances.{common_of, shares_of, within, next_chance}
use Rattle.ppddl_forms.specs.Words.{probability}
use Rattle.ppddl_form_grammar.specs.forms.Words as word
use Rattle.ppddl_form_grammar.specs.forms.Words.{IsChance}
use Rattle.ppddl_form_grammar.proofs.lemmas.forms.Parts.{chance_derived, chance_accepted}
use Rattle.ppddl_form_grammar.proofs.lemmas.forms.Shares.{within_ok, judged}
use Rattle.ppddl_forms.specs.items.Items.{chances_of}

pub reduced : (f : Form) (p : Fraction) → IsChance f p → IsProbability p
reduced f p (word.chance {w = w} is) = subst (λ r. IfOk r IsProbability) is (probability_of-reduced w)

pub chances_both : (seen others : List InitBranch) → chances_of (seen ++ others) ≡ chances_of seen ++ chances_of others
chances_both [] others = refl
chances_both (x ∷ seen) others = ap (λ ps. x.chance ∷ ps) (chances_both seen others)

-- a probability behind those seen
pub chance_ok : (seen : List Fraction) (f : Form) (p : Fraction) → next_chance seen f ≡ Ok p
    → IsChance f p × (common_of (seen ++ p ∷ []) ≤ MOST_DENOMINATOR) × (shares_of (seen ++ p ∷ []) ≤ common_of (seen ++ p ∷ []))
unfolding next_chance checking located
chance_ok seen f p is =
    let r = bind_ok (located probability f) (λ x. within seen x.0 x.1) p is in
    let q = bind_ok (probability f) (λ x. Ok (x, begin_of f)) r.0 r.1 in
    let pair : (q.0, begin_of f) ≡ r.0 = ok_is {E = Fault} (q.0, begin_of f) r.0 q.2 in
    let w = within_ok seen q.0 p (begin_of f) (ap (λ (x : Fraction × Place). within seen x.0 x.1) pair ∙ r.2) in (
      subst (IsChance f) w.0 (chance_derived f q.0 q.1),
      subst (λ x. common_of (seen ++ x ∷ []) ≤ MOST_DENOMINATOR) w.0 w.1,
      subst (λ x. shares_of (seen ++ x ∷ []) ≤ common_of (seen ++ x ∷ [])) w.0 w.2,
    )

pub chance_reads : (seen : List Fraction) (f : Form) (p : Fraction) → IsChance f p → AreProbabilities (seen ++ p ∷ []) → next_chance seen f ≡ Ok p
unfolding next_chance checking located
chance_reads seen f p is are = rw (chance_accepted f p is, judged seen p (begin_of f) are) refl
