-- Effects: what is accepted is derived, and what is derived is accepted.
use Rattle.std.proofs.Common.{◌≡◌, ◌≤◌, ℕ, List, [], ◌∷◌, ◌++◌, true, false, Result, Ok, IfOk, All, refl, sym, ap, subst, ◌∙◌, append_assoc}
use Rattle.std.proofs.lemmas.List.{append-nil}
use Rattle.std.proofs.lemmas.List.Elements.{All-nil, All-push}
use Rattle.plain_list.specs.Results.{◌>>=◌}
use Rattle.plain_list.proofs.Results.{bind_ok, ok_is}
use Rattle.exact_fraction.specs.declared.fraction.Fraction.{Fraction}
use Rattle.exact_fraction.specs.Numbers.{IsProbability}
use Rattle.exact_fraction.proofs.NumberLemmas.{probability_of-reduced}
use Rattle.ppddl_lex.specs.declared.keywords.TheConstants.{NOT, AND, FORALL, WHEN, PROBABILISTIC, DECREASE, INCREASE, ASSIGN, SCALE_UP, SCALE_DOWN}
use Rattle.ppddl_lex.specs.Words.{is_name}
use Rattle.ppddl_model.specs.declared.limits.TheConstants.{MOST_DENOMINATOR}
use Rattle.ppddl_model.specs.declared.refusal.TextCode.TheVariants.{Unsupported}
use Rattle.ppddl_model.specs.declared.tree.Branch.{Branch}
use Rattle.ppddl_model.specs.declared.tree.Effect.{Effect}
use Rattle.ppddl_model.specs.declared.tree.Effect.TheVariants as tree
use Rattle.ppddl_model.specs.WellFormed.{AreProbabilities}
use Rattle.ppddl_forms.specs.names.Declarations.{Declared}
use Rattle.ppddl_cursor.specs.declared.place.Place.{Place}
use Rattle.ppddl_cursor.specs.Ahead.{same}
use Rattle.ppddl_cursor.specs.Forms.{Form, Forms, lone, group, none, more, begin_of}
use Rattle.ppddl_cursor.specs.Reading.{Fault, fails, ends}
use Rattle.ppddl_cursor.specs.Sequences.{one_then, last, checking, located}
use Rattle.ppddl_forms.specs.declared.effect_head.EffectHead.{EffectHead}
use Rattle.ppddl_forms.specs.declared.effect_head.EffectHead.TheVariants as head
use Rattle.ppddl_forms.specs.Chances.{common_of, shares_of, within, next_chance}
use Rattle.ppddl_forms.specs.Conditions.{condition}
use Rattle.ppddl_forms.specs.Costs.{cost_value, cost}
use Rattle.ppddl_forms.specs.Terms.{Scope, atom, atom_in}
use Rattle.ppddl_forms.specs.Variables.{variable_list}
use Rattle.ppddl_forms.specs.Words.{probability, reward}
use Rattle.ppddl_forms.specs.Effects.{is_unsupported, effect_head, chances_of, deletion, effect, effect_in, effects, for_all, for_each, conditional, guarded, branches, branch}
use Rattle.ppddl_form_grammar.specs.forms.Words as word
use Rattle.ppddl_form_grammar.specs.forms.Words.{forms, headed, IsChance}
use Rattle.ppddl_form_grammar.specs.forms.Terms as term_by
use Rattle.ppddl_form_grammar.specs.forms.Effects as by
use Rattle.ppddl_form_grammar.specs.forms.Effects.{branch_of, IsEffect, Effects, Branches}
use Rattle.ppddl_form_grammar.proofs.lemmas.forms.Parts.{branch as branch_by, same_word, then_ok, last_ok, pass, either_fails, no_keyword, chance_derived, chance_accepted}
use Rattle.ppddl_form_grammar.proofs.lemmas.forms.Terms.{atom_derived, atom_accepted, application_derived, application_accepted}
use Rattle.ppddl_form_grammar.proofs.lemmas.forms.Lists.{list_derived, list_accepted}
use Rattle.ppddl_form_grammar.proofs.lemmas.forms.Conditions.{condition_derived, condition_accepted, alone}
use Rattle.ppddl_form_grammar.proofs.lemmas.forms.Costs.{reward_derived, reward_accepted, cost_derived, cost_accepted}
use Rattle.ppddl_form_grammar.proofs.lemmas.forms.Shares.{within_ok, no_chances, together, prefix, judged}

abbrev WordOf : EffectHead → List ℕ → Type 0
WordOf head.Not w = w ≡ NOT.now
WordOf head.And w = w ≡ AND.now
WordOf head.Forall w = w ≡ FORALL.now
WordOf head.When w = w ≡ WHEN.now
WordOf head.Probabilistic w = w ≡ PROBABILISTIC.now
WordOf head.Decrease w = w ≡ DECREASE.now
WordOf head.Unsupported w = Unit {0}
WordOf head.Predicate w = Unit {0}

head_word : (w : List ℕ) → WordOf (effect_head w) w
head_word w =
    let P : EffectHead → Type 0 = λ k. WordOf k w in
    branch_by P (same w NOT.now) head.Not _ (same_word w NOT.now) (λ n1.
    branch_by P (same w AND.now) head.And _ (same_word w AND.now) (λ n2.
    branch_by P (same w FORALL.now) head.Forall _ (same_word w FORALL.now) (λ n3.
    branch_by P (same w WHEN.now) head.When _ (same_word w WHEN.now) (λ n4.
    branch_by P (same w PROBABILISTIC.now) head.Probabilistic _ (same_word w PROBABILISTIC.now) (λ n5.
    branch_by P (same w DECREASE.now) head.Decrease _ (same_word w DECREASE.now) (λ n6.
    branch_by P (is_unsupported w) head.Unsupported head.Predicate (λ e. tt) (λ e. tt)))))))

name_head : (w : List ℕ) → is_name w ≡ true → effect_head w ≡ head.Predicate
name_head w named =
    let no : (v : List ℕ) → is_name v ≡ false → same w v ≡ false = λ v. no_keyword w v named in
    pass (same w NOT.now) head.Not _ head.Predicate (no NOT.now refl) (
    pass (same w AND.now) head.And _ head.Predicate (no AND.now refl) (
    pass (same w FORALL.now) head.Forall _ head.Predicate (no FORALL.now refl) (
    pass (same w WHEN.now) head.When _ head.Predicate (no WHEN.now refl) (
    pass (same w PROBABILISTIC.now) head.Probabilistic _ head.Predicate (no PROBABILISTIC.now refl) (
    pass (same w DECREASE.now) head.Decrease _ head.Predicate (no DECREASE.now refl) (
    pass (is_unsupported w) head.Unsupported head.Predicate head.Predicate
    (either_fails _ (same w SCALE_DOWN.now) (either_fails _ (same w SCALE_UP.now) (either_fails (same w INCREASE.now) (same w ASSIGN.now) (no INCREASE.now refl) (no ASSIGN.now refl)) (no SCALE_UP.now refl)) (no SCALE_DOWN.now refl))
    refl))))))

reduced : (f : Form) (p : Fraction) → IsChance f p → IsProbability p
reduced f p (word.chance {w = w} is) = subst (λ r. IfOk r IsProbability) is (probability_of-reduced w)

chances_push : (seen : List Branch) (b : Branch) → chances_of (seen ++ b ∷ []) ≡ chances_of seen ++ b.chance ∷ []
chances_push [] b = refl
chances_push (x ∷ seen) b = ap (λ ps. x.chance ∷ ps) (chances_push seen b)

chances_both : (seen others : List Branch) → chances_of (seen ++ others) ≡ chances_of seen ++ chances_of others
chances_both [] others = refl
chances_both (x ∷ seen) others = ap (λ ps. x.chance ∷ ps) (chances_both seen others)

-- a probability behind those seen
chance_ok : (seen : List Fraction) (f : Form) (p : Fraction) → next_chance seen f ≡ Ok p
    → IsChance f p × (common_of (seen ++ p ∷ []) ≤ MOST_DENOMINATOR) × (shares_of (seen ++ p ∷ []) ≤ common_of (seen ++ p ∷ []))
unfolding next_chance checking located
chance_ok seen f p is =
    let r = bind_ok (located probability f) (λ x. within seen x.0 x.1) p is in
    let q = bind_ok (probability f) (λ x. Ok (x, begin_of f)) r.0 r.1 in
    let pair : (q.0, begin_of f) ≡ r.0 = ok_is {E = Fault} (q.0, begin_of f) r.0 q.2 in
    let w = within_ok seen q.0 p (begin_of f) (ap (λ (x : Fraction × Place). within seen x.0 x.1) pair ∙ r.2) in
    (subst (IsChance f) w.0 (chance_derived f q.0 q.1), subst (λ x. common_of (seen ++ x ∷ []) ≤ MOST_DENOMINATOR) w.0 w.1, subst (λ x. shares_of (seen ++ x ∷ []) ≤ common_of (seen ++ x ∷ [])) w.0 w.2)

chance_reads : (seen : List Fraction) (f : Form) (p : Fraction) → IsChance f p → AreProbabilities (seen ++ p ∷ []) → next_chance seen f ≡ Ok p
unfolding next_chance checking located
chance_reads seen f p is are = rw (chance_accepted f p is, judged seen p (begin_of f) are) refl

module _ (d : Declared) where
  -- what stands behind a first word
  abbrev Read : Scope → EffectHead → List ℕ → Place → Forms → Place → Result Effect Fault
  Read s k w e fs b = elim k [
    | head.Not ↦ deletion d s fs b
    | head.And ↦ effects d s fs b >>= λ es. Ok (tree.Both es)
    | head.Forall ↦ for_all d s fs b
    | head.When ↦ conditional d s fs b
    | head.Probabilistic ↦ branches d s [] fs b >>= λ bs. Ok (tree.Chance bs)
    | head.Decrease ↦ cost d s fs b
    | head.Unsupported ↦ fails Unsupported e
    | head.Predicate ↦ atom_in d s (more (lone w e) fs) b >>= λ x. Ok (tree.Add x)
  ]

  deletion_derived : (s : Scope) (fs : Forms) (b : Place) (x : Effect) (a e : Place) → deletion d s fs b ≡ Ok x → IsEffect d s (headed a e NOT.now fs b) x
  unfolding deletion
  deletion_derived s fs b x a e = then_ok (atom d s) (λ y. last (tree.Delete y)) b (λ gs z. IsEffect d s (headed a e NOT.now gs b) z)
      (λ f y one gs z is.
      let l = last_ok (tree.Delete y) z gs b is in
      subst (λ hs. IsEffect d s (headed a e NOT.now (more f hs) b) z) (sym l.0) (subst (IsEffect d s (headed a e NOT.now (forms (f ∷ [])) b)) l.1 (by.deletion (atom_derived d s f y one)))) fs x

  decrease_derived : (s : Scope) (fs : Forms) (b : Place) (x : Effect) (a e : Place) → cost d s fs b ≡ Ok x → IsEffect d s (headed a e DECREASE.now fs b) x
  unfolding cost
  decrease_derived s fs b x a e = then_ok reward (λ u. one_then (cost_value d s) last) b (λ gs z. IsEffect d s (headed a e DECREASE.now gs b) z)
      (λ f u one. then_ok (cost_value d s) last b (λ gs z. IsEffect d s (headed a e DECREASE.now (more f gs) b) z)
      (λ g y value gs z is.
      let l = last_ok y z gs b is in
      subst (λ hs. IsEffect d s (headed a e DECREASE.now (more f (more g hs)) b) z) (sym l.0)
      (subst (IsEffect d s (headed a e DECREASE.now (forms (f ∷ g ∷ [])) b)) l.1 (by.cost (reward_derived f u one) (cost_derived d s g y value))))) fs x

  in_derived : (s : Scope) (fs : Forms) (b : Place) (x : _) → atom_in d s fs b ≡ Ok x → term_by.Application d s d.predicates fs x
  unfolding atom_in
  in_derived s fs b x eq = application_derived d s d.predicates fs b x eq

  -- the branches behind those seen
  abbrev Rest : Scope → List Branch → Forms → List Branch → Type 0
  Rest s seen fs all = (bs : List Branch) × (seen ++ bs ≡ all) × Branches d s fs bs
      × (All IsProbability (chances_of seen) → AreProbabilities (chances_of seen) → AreProbabilities (chances_of all))

  module _ (s : Scope) (w : List ℕ) (a e : Place) (fs : Forms) (b : Place)
      (parts : (es : List Effect) → effects d s fs b ≡ Ok es → Effects d s fs es)
      (for_alls : (x : Effect) → for_all d s fs b ≡ Ok x → IsEffect d s (headed a e FORALL.now fs b) x)
      (conditionals : (x : Effect) → conditional d s fs b ≡ Ok x → IsEffect d s (headed a e WHEN.now fs b) x)
      (chances : (bs : List Branch) → branches d s [] fs b ≡ Ok bs → Rest s [] fs bs) where
    headed_derived : (k : EffectHead) → WordOf k w → (x : Effect) → Read s k w e fs b ≡ Ok x → IsEffect d s (headed a e w fs b) x
    headed_derived head.Not at x is = subst (λ v. IsEffect d s (headed a e v fs b) x) (sym at) (deletion_derived s fs b x a e is)
    headed_derived head.And at x is =
        let r = bind_ok (effects d s fs b) (λ es. Ok (tree.Both es)) x is in
        subst (λ v. IsEffect d s (headed a e v fs b) x) (sym at) (subst (IsEffect d s (headed a e AND.now fs b)) (ok_is {E = Fault} (tree.Both r.0) x r.2) (by.conjunction (parts r.0 r.1)))
    headed_derived head.Forall at x is = subst (λ v. IsEffect d s (headed a e v fs b) x) (sym at) (for_alls x is)
    headed_derived head.When at x is = subst (λ v. IsEffect d s (headed a e v fs b) x) (sym at) (conditionals x is)
    headed_derived head.Probabilistic at x is =
        let r = bind_ok (branches d s [] fs b) (λ bs. Ok (tree.Chance bs)) x is in
        let c = chances r.0 r.1 in
        let none_seen : All IsProbability [] = All-nil IsProbability in
        let are : AreProbabilities (chances_of r.0) = c.3 none_seen no_chances in
        subst (λ v. IsEffect d s (headed a e v fs b) x) (sym at)
        (subst (IsEffect d s (headed a e PROBABILISTIC.now fs b)) (ok_is {E = Fault} (tree.Chance r.0) x r.2) (by.chance (subst (Branches d s fs) c.1 c.2) are))
    headed_derived head.Decrease at x is = subst (λ v. IsEffect d s (headed a e v fs b) x) (sym at) (decrease_derived s fs b x a e is)
    headed_derived head.Unsupported at x is = absurd cc
    headed_derived head.Predicate at x is =
        let r = bind_ok (atom_in d s (more (lone w e) fs) b) (λ y. Ok (tree.Add y)) x is in
        subst (IsEffect d s (headed a e w fs b)) (ok_is {E = Fault} (tree.Add r.0) x r.2) (by.addition (term_by.atom (in_derived s (more (lone w e) fs) b r.0 r.1)))

  mutual
    unfolding effect effect_in effects for_all for_each conditional guarded branches branch

    pub effect_derived : (s : Scope) (f : Form) (x : Effect) → effect d s f ≡ Ok x → IsEffect d s f x
    effect_derived s (lone w a) x is = absurd cc
    effect_derived s (group a fs b) x is = inside_derived s a fs b x is

    inside_derived : (s : Scope) (a : Place) (fs : Forms) (b : Place) (x : Effect) → effect_in d s fs b ≡ Ok x → IsEffect d s (group a fs b) x
    inside_derived s a none b x is = subst (IsEffect d s (group a none b)) (ok_is {E = Fault} (tree.Both []) x is) by.nothing
    inside_derived s a (more (group e gs g) fs) b x is = absurd cc
    inside_derived s a (more (lone w e) fs) b x is =
        headed_derived s w a e fs b (λ es. effects_derived s fs b es) (λ y. for_all_derived s fs b y a e) (λ y. conditional_derived s fs b y a e) (λ bs. branches_derived s [] fs b bs)
        (effect_head w) (head_word w) x is

    effects_derived : (s : Scope) (fs : Forms) (b : Place) (es : List Effect) → effects d s fs b ≡ Ok es → Effects d s fs es
    effects_derived s none b es is = subst (Effects d s none) (ok_is {E = Fault} [] es is) by.no_effect
    effects_derived s (more f fs) b es is =
        let r = bind_ok (effect d s f) (λ x. effects d s fs b >>= λ xs. Ok (x ∷ xs)) es is in
        let q = bind_ok (effects d s fs b) (λ xs. Ok (r.0 ∷ xs)) es r.2 in
        subst (Effects d s (more f fs)) (ok_is {E = Fault} (r.0 ∷ q.0) es q.2) (by.one_more (effect_derived s f r.0 r.1) (effects_derived s fs b q.0 q.1))

    for_all_derived : (s : Scope) (fs : Forms) (b : Place) (x : Effect) (a e : Place) → for_all d s fs b ≡ Ok x → IsEffect d s (headed a e FORALL.now fs b) x
    for_all_derived s none b x a e is = absurd cc
    for_all_derived s (more f none) b x a e is = let r = bind_ok (variable_list d f) (λ ps. fails _ b) x is in absurd (let bad = r.2 in cc)
    for_all_derived s (more f (more g fs)) b x a e is =
        let p = bind_ok (variable_list d f) (λ ps. effect d (ps ∷ s) g >>= λ y. ends fs b >>= λ u. Ok (tree.Forall ps y)) x is in
        let r = alone d (effect d (p.0 ∷ s) g) fs b (λ y. tree.Forall p.0 y) x p.2 in
        subst (λ gs. IsEffect d s (headed a e FORALL.now (more f (more g gs)) b) x) (sym r.2)
        (subst (IsEffect d s (headed a e FORALL.now (forms (f ∷ g ∷ [])) b)) r.3 (by.universality (list_derived d f p.0 p.1) (effect_derived (p.0 ∷ s) g r.0 r.1)))

    conditional_derived : (s : Scope) (fs : Forms) (b : Place) (x : Effect) (a e : Place) → conditional d s fs b ≡ Ok x → IsEffect d s (headed a e WHEN.now fs b) x
    conditional_derived s none b x a e is = absurd cc
    conditional_derived s (more f none) b x a e is = let r = bind_ok (condition d s f) (λ c. fails _ b) x is in absurd (let bad = r.2 in cc)
    conditional_derived s (more f (more g fs)) b x a e is =
        let p = bind_ok (condition d s f) (λ c. effect d s g >>= λ y. ends fs b >>= λ u. Ok (tree.When c y)) x is in
        let r = alone d (effect d s g) fs b (λ y. tree.When p.0 y) x p.2 in
        subst (λ gs. IsEffect d s (headed a e WHEN.now (more f (more g gs)) b) x) (sym r.2)
        (subst (IsEffect d s (headed a e WHEN.now (forms (f ∷ g ∷ [])) b)) r.3 (by.condition (condition_derived d s f p.0 p.1) (effect_derived s g r.0 r.1)))

    branches_derived : (s : Scope) (seen : List Branch) (fs : Forms) (b : Place) (all : List Branch) → branches d s seen fs b ≡ Ok all → Rest s seen fs all
    branches_derived s seen none b all is =
        let e : seen ≡ all = ok_is {E = Fault} seen all is in
        ([], append-nil seen ∙ e, by.no_branch, λ each are. subst (λ bs. AreProbabilities (chances_of bs)) e are)
    branches_derived s seen (more f none) b all is = let r = bind_ok (next_chance (chances_of seen) f) (λ p. fails _ b) all is in absurd (let bad = r.2 in cc)
    branches_derived s seen (more f (more g fs)) b all is =
        let p = bind_ok (next_chance (chances_of seen) f) (λ p. effect d s g >>= λ x. branches d s (seen ++ branch_of p x ∷ []) fs b) all is in
        let r = bind_ok (effect d s g) (λ x. branches d s (seen ++ branch_of p.0 x ∷ []) fs b) all p.2 in
        let c = chance_ok (chances_of seen) f p.0 p.1 in
        let own : IsProbability p.0 = reduced f p.0 c.0 in
        let one : Branch = branch_of p.0 r.0 in
        let rest = branches_derived s (seen ++ one ∷ []) fs b all r.2 in
        let pushed = chances_push seen one in (
          one ∷ rest.0,
          sym (append_assoc seen (one ∷ []) rest.0) ∙ rest.1,
          by.branch c.0 (effect_derived s g r.0 r.1) rest.2,
          λ each are.
              let every : All IsProbability (chances_of seen ++ p.0 ∷ []) = All-push IsProbability (chances_of seen) p.0 each own in
              rest.3 (subst (All IsProbability) (sym pushed) every) (subst AreProbabilities (sym pushed) (together (chances_of seen ++ p.0 ∷ []) every c.1 c.2)),
        )

  -- ---- and what is derived is accepted

  deletion_reads : (s : Scope) (f : Form) (x : _) (b : Place) → term_by.IsAtom d s f x → deletion d s (more f none) b ≡ Ok (tree.Delete x)
  unfolding deletion one_then last
  deletion_reads s f x b is = rw (atom_accepted d s f x is) refl

  decrease_reads : (s : Scope) (f g : Form) (x : Effect) (b : Place) → word.IsReward f → by.IsCost d s g x → cost d s (more f (more g none)) b ≡ Ok x
  unfolding cost one_then last
  decrease_reads s f g x b one value = rw (reward_accepted f one, cost_accepted d s g x value) refl

  in_reads : (s : Scope) (fs : Forms) (x : _) (b : Place) → term_by.Application d s d.predicates fs x → atom_in d s fs b ≡ Ok x
  unfolding atom_in
  in_reads s fs x b app = application_accepted d s d.predicates fs b x app

  mutual
    unfolding effect effect_in effects for_all for_each conditional guarded branches branch

    pub effect_accepted : (s : Scope) (f : Form) (x : Effect) → IsEffect d s f x → effect d s f ≡ Ok x
    effect_accepted s f x by.nothing = refl
    effect_accepted s f x (by.addition (term_by.atom {b = b} {x = y} (term_by.application {w = w} {a = e} {fs = gs} named at args))) =
        ap (λ k. Read s k w e gs b) (name_head w named) ∙ ap (λ r. r >>= λ z. Ok (tree.Add z)) (in_reads s (more (lone w e) gs) y b (term_by.application named at args))
    effect_accepted s f x (by.deletion {b = b} {f = g} {x = y} is) = deletion_reads s g y b is
    effect_accepted s f x (by.conjunction {b = b} {fs = gs} {es = es} parts) = rw (effects_accepted s gs es parts b) refl
    effect_accepted s f x (by.universality {f = g} {g = h} {ps = ps} {e = y} list inner) = rw (list_accepted d g ps list, effect_accepted (ps ∷ s) h y inner) refl
    effect_accepted s f x (by.condition {f = g} {g = h} {x = c} {e = y} test inner) = rw (condition_accepted d s g c test, effect_accepted s h y inner) refl
    effect_accepted s f x (by.chance {b = b} {fs = gs} {bs = bs} parts are) = rw (branches_accepted s gs bs parts b [] are) refl
    effect_accepted s f x (by.cost {b = b} {f = g} {g = h} one value) = decrease_reads s g h x b one value

    effects_accepted : (s : Scope) (fs : Forms) (es : List Effect) → Effects d s fs es → (b : Place) → effects d s fs b ≡ Ok es
    effects_accepted s fs es by.no_effect b = refl
    effects_accepted s fs es (by.one_more {f = f} {fs = gs} {e = x} {es = xs} is others) b = rw (effect_accepted s f x is, effects_accepted s gs xs others b) refl

    branches_accepted : (s : Scope) (fs : Forms) (bs : List Branch) → Branches d s fs bs → (b : Place) (seen : List Branch) → AreProbabilities (chances_of (seen ++ bs))
        → branches d s seen fs b ≡ Ok (seen ++ bs)
    branches_accepted s fs bs by.no_branch b seen are = ap (λ (xs : List Branch). Ok xs) (sym (append-nil seen))
    branches_accepted s fs bs (by.branch {f = f} {g = g} {fs = gs} {p = p} {e = x} {bs = others} one inner rest) b seen are =
        let this : Branch = branch_of p x in
        let front : (seen ++ this ∷ []) ++ others ≡ seen ++ this ∷ others = append_assoc seen (this ∷ []) others in
        let are' : AreProbabilities (chances_of ((seen ++ this ∷ []) ++ others)) = subst (λ xs. AreProbabilities (chances_of xs)) (sym front) are in
        let first : AreProbabilities (chances_of seen ++ p ∷ []) =
        subst AreProbabilities (chances_push seen this) (prefix (chances_of (seen ++ this ∷ [])) (chances_of others) (subst AreProbabilities (chances_both (seen ++ this ∷ []) others) are')) in
        rw (chance_reads (chances_of seen) f p one first, effect_accepted s g x inner)
        (branches_accepted s gs others rest b (seen ++ this ∷ []) are' ∙ ap (λ (xs : List Branch). Ok xs) front)
