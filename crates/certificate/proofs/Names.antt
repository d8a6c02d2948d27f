-- Lists of names: what was read is one, and one is read again.
use Rattle.std.proofs.Common.{◌≡◌, ℕ, ◌<◌, ◌≤◌, true, false, eqb, List, [], ◌∷◌, ◌++◌, length, refl, ap, sym, arith}
use Rattle.std.proofs.lemmas.Bool.Decides.{nat_tests}
use Rattle.std.specs.List.{list_any, list_all, join_with_byte, AllByRecursion}
use Rattle.std.proofs.lemmas.Slice.Eq.{bytes_eq-Decides}
use Rattle.std.proofs.lemmas.Bool.{and_parts, ne_eqb}
use Rattle.std.proofs.lemmas.List.Splits.{join_with_byte-slice_split}
use Rattle.ppddl_lex.specs.Words.{lowered, is_same_word, is_name_byte, has_name_form, is_name}
use Rattle.certificate.specs.Names.{is_lower_name, IsNameList}
use Rattle.certificate.specs.Decoding.{parts, are_names, enclosed}
use Rattle.certificate.proofs.Steps.{or_parts}
use Rattle.certificate.proofs.Parts.{HasFirst-parts, parts_join}

abbrev pub Lacks : ℕ → List ℕ → Type 0
Lacks c text = list_any (λ b. eqb b c) text ≡ false

pub Lacks-append : (c : ℕ) (front rest : List ℕ) → Lacks c front → Lacks c rest → Lacks c (front ++ rest)
Lacks-append c [] rest p q = q
Lacks-append c (b ∷ front) rest p q =
    let both = or_parts (eqb b c) (list_any (λ b. eqb b c) front) p in
    rw (both.0, Lacks-append c front rest both.1 q) refl

-- a byte of a name is `-` or above
name_byte_ge : (b : ℕ) → is_name_byte b ≡ true → 45 ≤ b
name_byte_ge b e = grind (arith, nat_tests)

name_bytes_lack : (c : ℕ) (w : List ℕ) → c < 45 → list_all is_name_byte w ≡ true → Lacks c w
name_bytes_lack c [] low bytes = refl
name_bytes_lack c (b ∷ w) low bytes =
    let both = and_parts (is_name_byte b) (list_all is_name_byte w) bytes in
    let high = name_byte_ge b both.0 in
    rw (ne_eqb b c (λ e. omega arith), name_bytes_lack c w low both.1) refl

form_lacks : (c : ℕ) (w : List ℕ) → c < 45 → has_name_form w ≡ true → Lacks c w
form_lacks c [] low form = refl
form_lacks c (b ∷ w) low form =
    let both = and_parts _ (list_all is_name_byte w) form in
    let high : 45 ≤ b = grind (arith, nat_tests, both.0) in
    rw (ne_eqb b c (λ e. omega arith), name_bytes_lack c w low both.1) refl

-- a name in lower case has the form of names as it stands
lower_form : (w : List ℕ) → is_lower_name w ≡ true → has_name_form w ≡ true
lower_form w named =
    let both = and_parts (is_name w) (is_same_word w w) named in
    let same : lowered w ≡ w = (bytes_eq-Decides (lowered w) w).0 both.1 in
    grind (arith, nat_tests, both.0, same)

name_lacks : (c : ℕ) (w : List ℕ) → c < 45 → is_lower_name w ≡ true → Lacks c w
name_lacks c w low named = form_lacks c w low (lower_form w named)

names_lack : (c : ℕ) (names : List (List ℕ)) → c < 45 → list_all is_lower_name names ≡ true → AllByRecursion (Lacks c) names
names_lack c [] low named = tt
names_lack c (w ∷ names) low named =
    let both = and_parts (is_lower_name w) (list_all is_lower_name names) named in
    (name_lacks c w low both.0, names_lack c names low both.1)

joined_lacks : (c : ℕ) (names : List (List ℕ)) → (32 ≡ c → ⊥) → AllByRecursion (Lacks c) names → Lacks c (join_with_byte 32 names)
joined_lacks c [] apart lack = refl
joined_lacks c (w ∷ []) apart lack = lack.0
joined_lacks c (w ∷ v ∷ names) apart lack =
    Lacks-append c w (32 ∷ join_with_byte 32 (v ∷ names)) lack.0 (rw (ne_eqb 32 c apart) (joined_lacks c (v ∷ names) apart lack.1))

-- what stands between the parentheses
pub record IsInner (text names : List ℕ) : Type 0 where
  pub named : are_names names ≡ true
  pub spelled : text ≡ enclosed names
  pub lacks_close : Lacks 41 names
  pub lacks_feed : Lacks 10 names

pub list_inner : (text : List ℕ) (list : IsNameList text) → IsInner text (join_with_byte 32 list.names)
list_inner text list = record {
  named = rw (parts_join 32 list.names (names_lack 32 list.names (omega arith) list.each) list.some) list.each;
  spelled = list.spelled;
  lacks_close = joined_lacks 41 list.names (λ e. omega arith) (names_lack 41 list.names (omega arith) list.each);
  lacks_feed = joined_lacks 10 list.names (λ e. omega arith) (names_lack 10 list.names (omega arith) list.each);
}

pub enclosed_is_list : (names : List ℕ) → are_names names ≡ true → IsNameList (enclosed names)
enclosed_is_list names named =
    let first = HasFirst-parts 32 names in record {
      names = parts 32 names;
      some = omega (arith, ap length first.is);
      each = named;
      spelled = ap enclosed (sym (join_with_byte-slice_split 32 names));
    }

-- no line feed stands in a list of names
pub list_lacks_feed : (text : List ℕ) → IsNameList text → Lacks 10 text
list_lacks_feed text list =
    let inner = list_inner text list in
    rw inner.spelled (Lacks-append 10 (join_with_byte 32 list.names) (41 ∷ []) inner.lacks_feed refl)
