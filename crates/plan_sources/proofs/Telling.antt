-- Texts that a shelf tells give one answer.
use Rattle.std.proofs.Common.{◌≡◌, ℕ, ◌<◌, inl, inr, List, length, sym, ap, ◌∙◌, subst, Option, Some, None}
use Rattle.std.proofs.lemmas.Bool.Decides.{leb_tells}
use Rattle.shelf_io.specs.Shelf.{Told, Holds, MayHold}
use Rattle.ppddl_lex.specs.declared.lexer.TheConstants.{MOST_TEXT}
use Rattle.plan_request.specs.declared.stop.Stop.TheVariants.{Limit}
use Rattle.plan_sources.specs.declared.texts.Texts.{Texts}
use Rattle.plan_sources.specs.Problems.{problem_of}
use Rattle.plan_sources.specs.Sources.{MayBeSecond}
use Rattle.plan_sources.specs.Laws.{HoldsSecond, OneProblemIsTold}
use Rattle.plan_sources.proofs.Taking.{long_text, first_too_long, long_problem}

-- what a shelf tells of a name is what it may hold
pub told_held : (told : Told) (bytes found : List ℕ) → told ≡ Holds bytes → MayHold told found → found ≡ bytes
told_held told bytes found is (inl untold) = absurd (cc (is, untold))
told_held told bytes found is (inr holds) = cc (is, holds)

second_told : (held : List ℕ → Told) (name second found : Option (List ℕ)) → HoldsSecond held name second → MayBeSecond held name found → second ≡ found
second_told held None second found told may = told ∙ sym may
second_told held (Some name) second found told may =
    told.2 ∙ ap Some (sym (told_held (held name) told.0 may.0 told.1 may.1)) ∙ sym may.2

abbrev texts_of : List ℕ → Option (List ℕ) → Texts
texts_of first second = record { first = first; second = second }

same_texts : (t u : Texts) → t.first ≡ u.first → t.second ≡ u.second → t ≡ u
same_texts t u first second = ap (λ x. texts_of x t.second) first ∙ ap (texts_of u.first) second

pub one_problem_is_told : OneProblemIsTold
one_problem_is_told held s t told result (u, are, is) =
    let first : t.first ≡ u.first = sym (told_held (held s.domain) t.first u.first told.first are.first) in
    elim (leb_tells (length u.first) MOST_TEXT) [
      | inl (fits, short) ↦
          let second : t.second ≡ u.second = second_told held s.problem t.second u.second told.second (are.second short) in
          ap (problem_of s) (same_texts t u first second) ∙ is
      | inr (over, long) ↦
          let here = long_problem t s (Limit 28 MOST_TEXT) (first_too_long t (Limit 28 MOST_TEXT) (long_text t.first (subst (λ text. MOST_TEXT < length text) (sym first) long))) in
          let there = long_problem u s (Limit 28 MOST_TEXT) (first_too_long u (Limit 28 MOST_TEXT) (long_text u.first long)) in
          here ∙ sym there ∙ is
    ]
