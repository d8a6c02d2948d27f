-- Words and their lowered letters.
use Rattle.std.proofs.Common.{◌≡◌, ℕ, ◌==◌, ◌&&◌, not, Bool, List, [], ◌∷◌, length, Decides, refl, ap, sym, ◌∙◌, subst, arith}
use Rattle.std.specs.Char.{to_ascii_lowercase, is_ascii_alphabetic}
use Rattle.std.specs.List.{list_all, list_any, zip}
use Rattle.std.specs.Str.{bytes_eq}
use Rattle.std.proofs.lemmas.Bool.Decides.{nat_tests}
use Rattle.std.proofs.lemmas.Slice.Eq.{bytes_eq-Decides}
use Rattle.std.proofs.lemmas.Str.Ascii.{lowercase-lowercase}
use Rattle.ppddl_lex.specs.Words.{lowered, is_same_word, is_name_byte, has_name_form, reserved_words, LoweringIsIdempotent, CaseOfNamesIsFree}

-- bytes that agree one by one, of two words of one length
pub agree_same : (w lower : List ℕ) → length w ≡ length lower → list_all (λ p. to_ascii_lowercase p.0 == p.1) (zip w lower) ≡ is_same_word w lower
agree_same [] [] e = refl
agree_same [] (s ∷ lower) e = absurd (omega arith)
agree_same (b ∷ w) [] e = absurd (omega arith)
agree_same (b ∷ w) (s ∷ lower) e = ap (λ v. (to_ascii_lowercase b == s) && v) (agree_same w lower (omega arith))

pub same_word-Decides : (w lower : List ℕ) (r : Bool) → r ≡ is_same_word w lower → Decides r (lowered w ≡ lower)
same_word-Decides w lower r e = subst (λ v. Decides v (lowered w ≡ lower)) (sym e) (bytes_eq-Decides (lowered w) lower)

-- ---- letters of either case

pub lowered_once : LoweringIsIdempotent
lowered_once [] = refl
lowered_once (b ∷ bs) = cc (lowercase-lowercase b, lowered_once bs)

letter-lowered : (b : ℕ) → is_ascii_alphabetic (to_ascii_lowercase b) ≡ is_ascii_alphabetic b
letter-lowered b = grind (arith, nat_tests)

name_byte-lowered : (b : ℕ) → is_name_byte (to_ascii_lowercase b) ≡ is_name_byte b
name_byte-lowered b = grind (arith, nat_tests)

name_bytes-lowered : (w : List ℕ) → list_all is_name_byte (lowered w) ≡ list_all is_name_byte w
name_bytes-lowered [] = refl
name_bytes-lowered (b ∷ bs) = cc (name_byte-lowered b, name_bytes-lowered bs)

form-lowered : (w : List ℕ) → has_name_form (lowered w) ≡ has_name_form w
form-lowered [] = refl
form-lowered (b ∷ bs) = cc (letter-lowered b, name_bytes-lowered bs)

-- a name, by its form and its lowered letters
name_by : Bool → List ℕ → Bool
name_by form lower = form && not (list_any (bytes_eq lower) reserved_words)

pub names_lowered : CaseOfNamesIsFree
unfolding name_by
names_lowered w = ap (λ form. name_by form (lowered (lowered w))) (form-lowered w) ∙ ap (name_by (has_name_form w)) (lowered_once w)
