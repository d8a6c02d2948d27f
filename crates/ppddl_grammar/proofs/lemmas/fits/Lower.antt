-- Words in lower case, and names of them.
use Rattle.std.proofs.Common.{◌≡◌, ℕ, List, [], ◌∷◌, true, ◌||◌, Ok, refl, sym, ap, ◌∙◌, true≢false}
use Rattle.std.specs.Cmp.Lexicographic.{bytes_decides}
use Rattle.std.specs.List.{list_any}
use Rattle.std.proofs.lemmas.Bool.{and_from, false_from_ne_true}
use Rattle.std.proofs.lemmas.Str.Ascii.{lowercase-lowercase}
use Rattle.ppddl_lex.specs.Words.{lowered, is_name, is_same_word}
use Rattle.ppddl_model.specs.State.{same_name}
use Rattle.ppddl_model.proofs.States.{same_name-Decides}
use Rattle.ppddl_cursor.specs.Ahead.{same}
use Rattle.ppddl_cursor.specs.Forms.{Form, Forms, lone, group, none, more, lowered_form, lowered_forms}
use Rattle.ppddl_forms.specs.declared.name.Name.{Name}
use Rattle.ppddl_forms.specs.Words.{name}
use Rattle.ppddl_form_grammar.proofs.lemmas.fits.Tests.{by_test}
use Rattle.ppddl_grammar.specs.fits.Names.{is_lower_name, IsLower, AreLower}
use Rattle.ppddl_grammar.proofs.lemmas.fits.Walks.{AllForms, name-read}

lowered_once : (w : List ℕ) → lowered (lowered w) ≡ lowered w
lowered_once [] = refl
lowered_once (b ∷ bs) = cc (lowercase-lowercase b, lowered_once bs)

mutual
  form-lowered : (f : Form) → IsLower (lowered_form f)
  form-lowered (lone w a) = lowered_once w
  form-lowered (group a fs b) = forms-lowered fs

  pub forms-lowered : (fs : Forms) → AreLower (lowered_forms fs)
  forms-lowered none = tt
  forms-lowered (more f fs) = (form-lowered f, forms-lowered fs)

pub lower-each : (fs : Forms) → AreLower fs → AllForms IsLower fs
lower-each none lower = tt
lower-each (more f fs) lower = (lower.0, lower-each fs lower.1)

pub lower_name : (w : List ℕ) → is_name w ≡ true → lowered w ≡ w → is_lower_name w ≡ true
lower_name w named lower = and_from (is_name w) (is_same_word w w) named ((bytes_decides (lowered w) w).1 lower)

-- the name of a form in lower case
pub name-lower : (f : Form) (n : Name) → name f ≡ Ok n → IsLower f → is_lower_name n.text ≡ true
name-lower f n is lower = let r = name-read f n is in lower_name n.text r.0 (r.1 lower)

-- words and names are compared alike
pub same-named : (v w : List ℕ) → same v w ≡ same_name v w
same-named v w = by_test (same v w)
    (λ yes. yes ∙ sym ((same_name-Decides v w).1 ((bytes_decides v w).0 yes)))
    (λ no. no ∙ sym (false_from_ne_true (same_name v w) (λ is. true≢false (sym ((bytes_decides v w).1 ((same_name-Decides v w).0 is)) ∙ no))))

pub any-same : (w : List ℕ) (ws : List (List ℕ)) → list_any (same w) ws ≡ list_any (same_name w) ws
any-same w [] = refl
any-same w (v ∷ ws) = ap (λ b. b || list_any (same w) ws) (same-named w v) ∙ ap (λ b. same_name w v || b) (any-same w ws)
