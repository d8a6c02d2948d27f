-- Digits at the front of a text, as a loop reads them.
use Rattle.std.proofs.Common.{◌≡◌, ℕ, ◌+◌, ◌-◌, ◌*◌, ◌<◌, ◌≤◌, true, false, List, [], ◌∷◌, ◌++◌, length, get_or, take, drop, Some, None, refl, ap, sym, ◌∙◌, arith, append_assoc}
use Rattle.std.specs.Char.{is_ascii_digit}
use Rattle.std.specs.Str.{all_ascii_digits}
use Rattle.std.proofs.lemmas.List.{append-nil, take_more, at_drop_more, at_drop_all}
use Rattle.certificate.specs.declared.limits.TheConstants.{MOST_UNITS}
use Rattle.certificate.specs.Decoding.{is_plain, number_after, number_of, digits_at, number_at}
use Rattle.certificate.proofs.Decimals.{number_after_ge, too_great, not_plain, is_number}
use Rattle.certificate.proofs.Numbers.{digits_are}

number_after-append : (n : ℕ) (xs ys : List ℕ) → number_after n (xs ++ ys) ≡ number_after (number_after n xs) ys
number_after-append n [] ys = refl
number_after-append n (x ∷ xs) ys = number_after-append (n * 10 + (x - 48)) xs ys

-- the first i bytes are digits that the text begins with
abbrev pub Begin : ℕ → List ℕ → Type 0
Begin i text = digits_at text ≡ (take i text ++ (digits_at (drop i text)).0, (digits_at (drop i text)).1)

module _ (text : List ℕ) (i : ℕ) where
  pub value_more : i < length text → number_after 0 (take (i + 1) text) ≡ number_after 0 (take i text) * 10 + (get_or text i 0 - 48)
  value_more lt = ap (number_after 0) (take_more text i 0 lt) ∙ number_after-append 0 (take i text) (get_or text i 0 ∷ [])

  pub digits_go_on : i < length text → is_ascii_digit (get_or text i 0) ≡ true → Begin i text → Begin (i + 1) text
  digits_go_on lt digit so_far =
      let rest : List ℕ = drop (i + 1) text in
      let next : digits_at (drop i text) ≡ (get_or text i 0 ∷ (digits_at rest).0, (digits_at rest).1) = at_drop_more digits_at text i 0 lt ∙ rw digit refl in
      let more : take i text ++ get_or text i 0 ∷ (digits_at rest).0 ≡ take (i + 1) text ++ (digits_at rest).0 =
      sym (append_assoc (take i text) (get_or text i 0 ∷ []) (digits_at rest).0) ∙ ap (λ (x : List ℕ). x ++ (digits_at rest).0) (sym (take_more text i 0 lt)) in
      so_far ∙ ap (λ (p : List ℕ × List ℕ). (take i text ++ p.0, p.1)) next ∙ ap (λ (x : List ℕ). (x, (digits_at rest).1)) more

  pub too_many : Begin i text → MOST_UNITS < number_after 0 (take i text) → None ≡ number_at text
  unfolding number_at
  too_many so_far above =
      let ds : List ℕ = (digits_at (drop i text)).0 in
      let all : (digits_at text).0 ≡ take i text ++ ds = ap (λ (p : List ℕ × List ℕ). p.0) so_far in
      let none : number_of (digits_at text).0 ≡ None =
      ap number_of all ∙ too_great (take i text ++ ds) (omega (arith, above, number_after-append 0 (take i text) ds, number_after_ge (number_after 0 (take i text)) ds)) in
      rw none refl

  -- no digit stands at i
  pub stops_here : i < length text → is_ascii_digit (get_or text i 0) ≡ false → digits_at (drop i text) ≡ ([], drop i text)
  stops_here lt apart =
      at_drop_more digits_at text i 0 lt ∙ rw apart (ap (λ (x : List ℕ). ([], x)) (sym (at_drop_more (λ (x : List ℕ). x) text i 0 lt)))

  pub stops_at_end : length text ≤ i → digits_at (drop i text) ≡ ([], drop i text)
  stops_at_end le = at_drop_all digits_at text i le ∙ ap (λ (x : List ℕ). ([], x)) (sym (at_drop_all (λ (x : List ℕ). x) text i le))

  digits_end : Begin i text → digits_at (drop i text) ≡ ([], drop i text) → digits_at text ≡ (take i text, drop i text)
  digits_end so_far stops = so_far ∙ ap (λ (p : List ℕ × List ℕ). (take i text ++ p.0, p.1)) stops ∙ ap (λ (x : List ℕ). (x, drop i text)) (append-nil (take i text))

  pub plain_not : Begin i text → digits_at (drop i text) ≡ ([], drop i text) → is_plain (take i text) ≡ false → None ≡ number_at text
  unfolding number_at
  plain_not so_far stops apart =
      let all = digits_end so_far stops in
      let none : number_of (digits_at text).0 ≡ None = ap (λ (p : List ℕ × List ℕ). number_of p.0) all ∙ not_plain (take i text) apart in
      rw none refl

  pub number_found : (n : ℕ) → Begin i text → digits_at (drop i text) ≡ ([], drop i text) → is_plain (take i text) ≡ true → number_after 0 (take i text) ≡ n → n ≤ MOST_UNITS → Some (n, drop i text) ≡ number_at text
  unfolding number_at
  number_found n so_far stops plain value below =
      let all = digits_end so_far stops in
      let digits : all_ascii_digits (take i text) ≡ true = sym (ap (λ (p : List ℕ × List ℕ). all_ascii_digits p.0) all) ∙ digits_are text in
      let found : number_of (digits_at text).0 ≡ Some n =
      ap (λ (p : List ℕ × List ℕ). number_of p.0) all ∙ is_number (take i text) plain digits (omega (arith, value)) ∙ ap (λ (v : ℕ). Some v) value in
      rw found (ap (λ (p : List ℕ × List ℕ). Some (n, p.1)) (sym all))
