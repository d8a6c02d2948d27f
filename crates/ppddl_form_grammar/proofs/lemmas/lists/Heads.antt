-- The first word of an item of `:init`.
--     effect_head               the heads that are not accepted
--     name_head                 a name is the head of an atom
use Rattle.std.proofs.Common.{◌≡◌, ℕ, List, true, false, ◌||◌, codes, refl}
use Rattle.ppddl_lex.specs.declared.keywords.TheConstants.{NOT, AND, FORALL, WHEN, PROBABILISTIC, DECREASE, INCREASE, ASSIGN}
use Rattle.ppddl_lex.specs.Words.{is_name}
use Rattle.ppddl_cursor.specs.Ahead.{same}
use Rattle.ppddl_forms.specs.declared.symbols.TheConstants.{EQUAL}
use Rattle.ppddl_form_grammar.proofs.lemmas.forms.Parts.{either_fails, no_keyword}
use Rattle.ppddl_forms.specs.items.Items.{is_effect, init_head, is_and}

-- a word that is a name, by which the head of an atom is named here
abbrev pub any_name : List ℕ
any_name = codes "p"

pub effect_head : (w : List ℕ) → same w NOT.now ≡ false → same w PROBABILISTIC.now ≡ false → same w EQUAL.now ≡ false → is_effect w ≡ true
    → init_head w ≡ init_head INCREASE.now
effect_head w n1 n2 n3 is = rw (n1, n2, n3, is) refl

pub other_head : (w : List ℕ) → same w NOT.now ≡ false → same w PROBABILISTIC.now ≡ false → same w EQUAL.now ≡ false → is_effect w ≡ false
    → init_head w ≡ init_head any_name
other_head w n1 n2 n3 other = rw (n1, n2, n3, other) refl

pub name_head : (w : List ℕ) → is_name w ≡ true → init_head w ≡ init_head any_name
name_head w named =
    let no : (v : List ℕ) → is_name v ≡ false → same w v ≡ false = λ v. no_keyword w v named in
    let increases = either_fails (same w INCREASE.now) (same w DECREASE.now) (no INCREASE.now refl) (no DECREASE.now refl) in
    let assigns = either_fails (same w INCREASE.now || same w DECREASE.now) (same w ASSIGN.now) increases (no ASSIGN.now refl) in
    let whens = either_fails (same w INCREASE.now || same w DECREASE.now || same w ASSIGN.now) (same w WHEN.now) assigns (no WHEN.now refl) in
    let for_alls = either_fails (same w INCREASE.now || same w DECREASE.now || same w ASSIGN.now || same w WHEN.now) (same w FORALL.now) whens (no FORALL.now refl) in
    let ands = either_fails (same w INCREASE.now || same w DECREASE.now || same w ASSIGN.now || same w WHEN.now || same w FORALL.now) (same w AND.now) for_alls (no AND.now refl) in
    other_head w (no NOT.now refl) (no PROBABILISTIC.now refl) (no EQUAL.now refl) ands

pub name_not_and : (w : List ℕ) → is_name w ≡ true → is_and w ≡ false
name_not_and w named = no_keyword w AND.now named refl
