-- What clap makes of one word and of one use.
use Rattle.std.proofs.Common.{◌≡◌, refl, sym, ap, subst, ◌∙◌, ℕ, Bool, true, false, not, ◌&&◌, ◌||◌, List, [], ◌∷◌, ◌++◌, Option, Some, None, true≢false, append-nil}
use Rattle.std.specs.Prelude.{nat_eq}
use Rattle.std.specs.Str.{bytes_eq}
use Rattle.std.proofs.lemmas.Slice.Eq.{bytes_eq-Decides}
use Rattle.clap.specs.declared.parser.matches.ValueSource.TheVariants.{CommandLine}
use Rattle.clap.specs.Lexer.{long_of, short_of}
use Rattle.clap.specs.Walk.{Held, Row, Waiting, Walk, at_row, has_row, idle, long_word, more_values, option, without, plain_word, used, value, word_met}
use Rattle.clap.specs.Takes.{long_passes, use_passes, word_passes}
use Rattle.clap.specs.Walk.{arg_by_long}
use Rattle.clap.specs.Simple.{Shape}
use Rattle.plan_request.specs.words.Words.{Text, is_plain}
use Rattle.plan_request.specs.words.Table.{built_rule, row}

false_of_not : (b : Bool) → not b ≡ true → b ≡ false
false_of_not true e = absurd (true≢false (sym e))
false_of_not false e = refl

pub or_false : (a b : Bool) → a ≡ false → b ≡ false → (a || b) ≡ false
or_false a b e f = rw (e, f) refl

pub or_parts : (a b : Bool) → (a || b) ≡ false → (a ≡ false) × (b ≡ false)
or_parts true b e = absurd (true≢false e)
or_parts false b e = (refl, e)

pub and_parts : (a b : Bool) → (a && b) ≡ true → (a ≡ true) × (b ≡ true)
and_parts true b e = (refl, e)
and_parts false b e = absurd (true≢false (sym e))

pub and_both : (a b : Bool) → a ≡ true → b ≡ true → (a && b) ≡ true
and_both a b e f = rw (e, f) refl

pub and_false : (a : Bool) → (a && false) ≡ false
and_false true = refl
and_false false = refl

-- ---- words

-- a word that is plain is no flag
pub plain_is : (v : Text) → is_plain v ≡ true → (bytes_eq v (45 ∷ 45 ∷ []) ≡ false) × (long_of v ≡ None) × (short_of v ≡ None)
plain_is [] e = absurd (true≢false (sym e))
plain_is (b ∷ bs) e =
    let no : nat_eq b 45 ≡ false = false_of_not (nat_eq b 45) e in
    (rw no refl, rw no refl, rw no refl)

pub same_text : (a b : Text) → bytes_eq a b ≡ true → a ≡ b
same_text a b e = (bytes_eq-Decides a b).0 e

pub text_refl : (a : Text) → bytes_eq a a ≡ true
text_refl a = (bytes_eq-Decides a a).1 refl

not_long : (p : Text × Option Text) → None ≡ Some p → ⊥
not_long p e = cc

-- two hyphens alone are no long option
pub long_is : (v n : Text) (o : Option Text) → long_of v ≡ Some (n, o) → bytes_eq v (45 ∷ 45 ∷ []) ≡ false
long_is v n o e =
    let hyphens : Text = 45 ∷ 45 ∷ [] in
    (elim (bytes_eq v hyphens) as (λ b. bytes_eq v hyphens ≡ b → b ≡ false) [
      | true ↦ λ h. absurd (not_long (n, o) (subst (λ x. long_of x ≡ Some (n, o)) (same_text v hyphens h) e))
      | false ↦ λ h. refl
    ]) refl

module _ (s : Shape) (h : Held) where
  pub plain_met : (position : ℕ) (v : Text) → is_plain v ≡ true → word_met s.rules [] false idle position v h ≡ (h, value)
  plain_met position v e = let p = plain_is v e in rw (p.0, p.1, p.2) refl

  pub value_met : (position : ℕ) (n v : Text) → is_plain v ≡ true → word_met s.rules [] false (option n) position v h ≡ plain_word s.rules (option n) v h
  value_met position n v e = let p = plain_is v e in rw (p.0, p.1, p.2) refl

  pub flag_met : (position : ℕ) (v n : Text) (o : Option Text) → long_of v ≡ Some (n, o) → word_met s.rules [] false idle position v h ≡ long_word s.rules idle v n o h
  flag_met position v n o e = rw (long_is v n o e, e) refl

  pub plain_passes : (w : Waiting) (v : Text) → is_plain v ≡ true → word_passes s [] false w v h ≡ true
  plain_passes idle v e = let p = plain_is v e in rw (p.0, p.1, p.2) refl
  plain_passes (option n) v e = let p = plain_is v e in rw (p.0, p.1, p.2) refl
  plain_passes Rattle.clap.specs.Walk.positional v e = let p = plain_is v e in rw (p.0, p.1, p.2) refl

  pub flag_passes : (v n : Text) (o : Option Text) → long_of v ≡ Some (n, o) → word_passes s [] false idle v h ≡ long_passes s.rules s.args_override_self (arg_by_long s.rules n) o h
  flag_passes v n o e = rw (long_is v n o e, e) refl

-- ---- rows

pub at_no_row : (id : Text) (change : Row → List Row) (missing rs : List Row) → has_row id rs ≡ false → at_row id change missing rs ≡ rs ++ missing
at_no_row id change missing [] e = refl
at_no_row id change missing (r ∷ rs) e =
    let p = or_parts (bytes_eq r.id id) (has_row id rs) e in
    rw p.0 (ap (λ l. r ∷ l) (at_no_row id change missing rs p.1))

pub has_row_push : (id name v : Text) (rs : List Row) → has_row id rs ≡ false → bytes_eq name id ≡ false → has_row id (rs ++ row name v ∷ []) ≡ false
has_row_push id name v [] e f = or_false (bytes_eq name id) false f refl
has_row_push id name v (r ∷ rs) e f =
    let p = or_parts (bytes_eq r.id id) (has_row id rs) e in
    or_false _ _ p.0 (has_row_push id name v rs p.1 f)

-- a first use adds a row
pub used_new : (long : Option Text) (index : Option ℕ) (name v : Text) (rs : List Row) → has_row name rs ≡ false
    → used (built_rule long index name) (v ∷ []) rs ≡ rs ++ row name v ∷ []
used_new long index name v rs e =
    let bare : without name rs ≡ rs = at_no_row name (λ _. []) [] rs e ∙ append-nil rs in
    rw bare (at_no_row name (more_values CommandLine (v ∷ [])) (row name v ∷ []) rs e)

pub use_new : (again : Bool) (long : Option Text) (index : Option ℕ) (name v : Text) (rs : List Row) → has_row name rs ≡ false
    → use_passes again (built_rule long index name) (v ∷ []) rs ≡ true
use_new again long index name v rs e = rw e refl
