-- A text that is cut at each of a byte.
use Rattle.std.proofs.Common.{Option, ◌≡◌, ℕ, true, false, cond, eqb, List, [], ◌∷◌, ◌++◌, Some, None, option_map, Ok, refl, ap, sym, ◌∙◌, inl, inr, ◌<◌, length, arith, append_assoc}
use Rattle.std.specs.List.{onto_first, list_any, join_with_byte, flat_map, AllByRecursion}
use Rattle.std.proofs.lemmas.Bool.Decides.{eqb_tells}
use Rattle.std.proofs.lemmas.List.{append-nil}
use Rattle.certificate.specs.Decoding.{cut, parts}
use Rattle.certificate.specs.Counted.{line_at}
use Rattle.certificate.proofs.Steps.{some_is, mapped, unmapped, or_parts}
use Rattle.certificate.proofs.Cuts.{cut_again}

-- a text has one part at least
pub record HasFirst (texts : List (List ℕ)) : Type 0 where
  pub first : List ℕ
  pub others : List (List ℕ)
  pub is : texts ≡ first ∷ others

HasFirst-onto_first : (b : ℕ) (texts : List (List ℕ)) → HasFirst (onto_first b texts)
HasFirst-onto_first b [] = record { first = b ∷ []; others = []; is = refl }
HasFirst-onto_first b (text ∷ texts) = record { first = b ∷ text; others = texts; is = refl }

pub HasFirst-parts : (c : ℕ) (text : List ℕ) → HasFirst (parts c text)
HasFirst-parts c [] = record { first = []; others = []; is = refl }
HasFirst-parts c (b ∷ text) =
    elim (eqb b c) as (λ v. HasFirst (cond v ([] ∷ parts c text) (onto_first b (parts c text)))) [
      | true ↦ record { first = []; others = parts c text; is = refl }
      | false ↦ HasFirst-onto_first b (parts c text)
    ]

-- where the byte stands, the first part ends
pub parts_cut : (c : ℕ) (text front rest : List ℕ) → cut c text ≡ Some (front, rest) → parts c text ≡ front ∷ parts c rest
parts_cut c [] front rest e = absurd cc
parts_cut c (b ∷ text) front rest e =
    let ended : List ℕ × List ℕ → List (List ℕ) = λ p. p.0 ∷ parts c p.1 in
    elim (eqb_tells b c) [
      | inl here ↦ (
          let at : Some ([], text) ≡ Some (front, rest) = rw here.0 at e in
          rw here.0 (ap ended (some_is ([], text) (front, rest) at))
          )
      | inr apart ↦ (
          let later : option_map (λ (p : List ℕ × List ℕ). (b ∷ p.0, p.1)) (cut c text) ≡ Some (front, rest) = rw apart.0 at e in
          let p = mapped (λ (p : List ℕ × List ℕ). (b ∷ p.0, p.1)) (cut c text) (front, rest) later in
          rw apart.0 (ap (onto_first b) (parts_cut c text p.0.0 p.0.1 p.1) ∙ ap ended p.2)
          )
    ]

-- where it stands nowhere, the text is the one part
pub parts_whole : (c : ℕ) (text : List ℕ) → cut c text ≡ None → parts c text ≡ text ∷ []
parts_whole c [] e = refl
parts_whole c (b ∷ text) e =
    let longer : List ℕ × List ℕ → List ℕ × List ℕ = λ p. (b ∷ p.0, p.1) in
    elim (eqb_tells b c) [
      | inl here ↦ (
          let none : Option (List ℕ × List ℕ) = None in
          let at : Some ([], text) ≡ none = rw here.0 at e in
          absurd cc
          )
      | inr apart ↦ (
          let later : option_map longer (cut c text) ≡ None = rw apart.0 at e in
          rw apart.0 (ap (onto_first b) (parts_whole c text (unmapped longer (cut c text) later)))
          )
    ]

-- the line before a line feed
pub line_found : (k : ℕ) (front rest : List ℕ) → line_at k (front ∷ parts 10 rest) ≡ Ok (front, parts 10 rest)
line_found k front rest = let p = HasFirst-parts 10 rest in rw p.is refl

-- ---- texts that are joined by a byte that they lack

pub cut_lacks : (c : ℕ) (text : List ℕ) → list_any (λ b. eqb b c) text ≡ false → cut c text ≡ None
cut_lacks c [] lacks = refl
cut_lacks c (b ∷ text) lacks =
    let p = or_parts (eqb b c) (list_any (λ b. eqb b c) text) lacks in
    rw (p.0, cut_lacks c text p.1) refl

pub parts_join : (c : ℕ) (texts : List (List ℕ)) → AllByRecursion (λ text. list_any (λ b. eqb b c) text ≡ false) texts → 0 < length texts → parts c (join_with_byte c texts) ≡ texts
parts_join c [] lack some = absurd (omega arith)
parts_join c (text ∷ []) lack some = parts_whole c text (cut_lacks c text lack.0)
parts_join c (text ∷ next ∷ more) lack some =
    parts_cut c (text ++ c ∷ join_with_byte c (next ∷ more)) text (join_with_byte c (next ∷ more)) (cut_again c text (join_with_byte c (next ∷ more)) lack.0)
    ∙ ap (λ (others : List (List ℕ)). text ∷ others) (parts_join c (next ∷ more) lack.1 (omega arith))

-- lines that are each ended by a line feed
pub parts_ended : (lines : List (List ℕ)) → AllByRecursion (λ line. list_any (λ b. eqb b 10) line ≡ false) lines → parts 10 (flat_map (λ line. line ++ 10 ∷ []) lines) ≡ lines ++ [] ∷ []
parts_ended [] lack = refl
parts_ended (line ∷ lines) lack =
    let rest : List ℕ = flat_map (λ l. l ++ 10 ∷ []) lines in
    ap (parts 10) (append_assoc line (10 ∷ []) rest)
    ∙ parts_cut 10 (line ++ 10 ∷ rest) line rest (cut_again 10 line rest lack.0)
    ∙ ap (λ (others : List (List ℕ)). line ∷ others) (parts_ended lines lack.1)

pub join_ended : (lines : List (List ℕ)) → join_with_byte 10 (lines ++ [] ∷ []) ≡ flat_map (λ line. line ++ 10 ∷ []) lines
join_ended [] = refl
join_ended (line ∷ []) = sym (append-nil (line ++ 10 ∷ []))
join_ended (line ∷ next ∷ more) = ap (λ (rest : List ℕ). line ++ 10 ∷ rest) (join_ended (next ∷ more)) ∙ sym (append_assoc line (10 ∷ []) (flat_map (λ l. l ++ 10 ∷ []) (next ∷ more)))
