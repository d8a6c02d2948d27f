-- A row of version 2 and its line: what was read is spelled so, and what is spelled so is read.
use Rattle.std.proofs.Common.{◌≡◌, ℕ, ◌<◌, ◌≤◌, true, List, [], ◌∷◌, ◌++◌, length, Some, None, option_map, refl, ap, subst, ◌∙◌, inl, inr, arith}
use Rattle.std.specs.Prelude.{codes, decimal}
use Rattle.std.specs.Option.{option_or}
use Rattle.std.specs.Str.{all_ascii_digits}
use Rattle.std.specs.Char.{is_ascii_digit}
use Rattle.std.specs.List.{flat_map, AllByRecursion}
use Rattle.std.proofs.lemmas.Bool.{and_parts, leb-true, ne_eqb}
use Rattle.std.proofs.lemmas.Fmt.{decimal_nonempty}
use Rattle.certificate.specs.declared.limits.TheConstants.{MOST_COUNT}
use Rattle.certificate.specs.declared.act.Act.{Act}
use Rattle.certificate.specs.declared.act.Act.TheVariants.{GiveUp, Goal, Do}
use Rattle.certificate.specs.Rows.{Row}
use Rattle.certificate.specs.Spelling.{spaced, act_text, numbers_text, row_line}
use Rattle.certificate.specs.Content.{IsAct, IsRow}
use Rattle.certificate.specs.Decoding.{◌>>=◌, behind, parts, place_at, spaced_places, word_at, act_at, field_at, row_of}
use Rattle.certificate.proofs.Steps.{some_is, chained, mapped, either}
use Rattle.certificate.proofs.Cuts.{behind_is_rest}
use Rattle.certificate.proofs.Decimals.{digits_decimal_of, decimal_lacks}
use Rattle.certificate.proofs.Numbers.{field_is, field_again, place_is, place_again, spaced_are, spaced_again}
use Rattle.certificate.proofs.Names.{Lacks, Lacks-append}
use Rattle.certificate.proofs.NamedRowLaws.{word_is}

-- ---- an act

abbrev placed : ℕ × List ℕ → Act × List ℕ
placed place = (Do place.0, place.1)

abbrev joined : Act × List ℕ → List ℕ
joined p = act_text p.0 ++ p.1

pub act_is : (acts : ℕ) (text : List ℕ) (act : Act) (rest : List ℕ) → act_at acts text ≡ Some (act, rest) → (text ≡ act_text act ++ rest) × IsAct acts act
unfolding act_at
act_is acts text act rest e =
    elim (either (word_at (codes "give-up") GiveUp text) (option_or (word_at (codes "goal") Goal text) (option_map placed (place_at acts text))) (act, rest) e) [
      | inl give_up ↦ (
          let word = word_is (codes "give-up") GiveUp text (act, rest) give_up in
          (word.0 ∙ ap (λ (a : Act). act_text a ++ rest) word.1, subst (IsAct acts) word.1 tt)
          )
      | inr others ↦ elim (either (word_at (codes "goal") Goal text) (option_map placed (place_at acts text)) (act, rest) others) [
        | inl goal ↦ (
            let word = word_is (codes "goal") Goal text (act, rest) goal in
            (word.0 ∙ ap (λ (a : Act). act_text a ++ rest) word.1, subst (IsAct acts) word.1 tt)
            )
        | inr number ↦ (
            let found = mapped placed (place_at acts text) (act, rest) number in
            let spelled = place_is acts text found.0.0 found.0.1 found.1 in
            (spelled.0 ∙ ap joined found.2, subst (IsAct acts) (ap (λ (p : Act × List ℕ). p.0) found.2) spelled.1)
            )
      ]
    ]

-- no word begins with a digit
no_word : (letter : ℕ) (front ds rest : List ℕ) → 57 < letter → 0 < length ds → all_ascii_digits ds ≡ true → behind (letter ∷ front) (ds ++ rest) ≡ None
no_word letter front [] rest high some digits = absurd (omega (arith, some))
no_word letter front (d ∷ ds) rest high some digits =
    let both = and_parts (is_ascii_digit d) (all_ascii_digits ds) digits in
    let range = and_parts _ _ both.0 in
    let low : d ≤ 57 = leb-true d 57 range.1 in
    rw (ne_eqb d letter (λ e. omega (arith, low, high, e))) refl

pub act_again : (acts : ℕ) (act : Act) (rest : List ℕ) → acts ≤ MOST_COUNT → IsAct acts act → act_at acts (act_text act ++ 32 ∷ rest) ≡ Some (act, 32 ∷ rest)
unfolding act_at
act_again acts GiveUp rest few is = refl
act_again acts Goal rest few is = refl
act_again acts (Do n) rest few is =
    let digits = digits_decimal_of n (omega (arith, few, is)) in
    let some = decimal_nonempty n (omega (arith, few, is)) in
    rw (
      no_word 103 (codes "ive-up") (decimal n) (32 ∷ rest) (omega arith) some digits,
      no_word 103 (codes "oal") (decimal n) (32 ∷ rest) (omega arith) some digits,
      place_again acts n (32 ∷ rest) is (omega (arith, few, is)) refl,
    ) refl

-- ---- a row

pub row_is : (atoms acts : ℕ) (line : List ℕ) (r : Row) → row_of atoms acts line ≡ Some r → (line ≡ row_line r) × IsRow atoms acts r
unfolding row_of
row_is atoms acts line r e =
    let lower = chained (field_at line) (λ l. field_at l.1 >>= λ u. act_at acts u.1 >>= λ a. behind (codes " :") a.1 >>= λ list. spaced_places atoms (parts 32 list) >>= λ numbers. Some (record { lower = l.0; upper = u.0; act = a.0; atoms = numbers })) r e in
    let upper = chained (field_at lower.0.1) (λ u. act_at acts u.1 >>= λ a. behind (codes " :") a.1 >>= λ list. spaced_places atoms (parts 32 list) >>= λ numbers. Some (record { lower = lower.0.0; upper = u.0; act = a.0; atoms = numbers })) r lower.2 in
    let act = chained (act_at acts upper.0.1) (λ a. behind (codes " :") a.1 >>= λ list. spaced_places atoms (parts 32 list) >>= λ numbers. Some (record { lower = lower.0.0; upper = upper.0.0; act = a.0; atoms = numbers })) r upper.2 in
    let list = chained (behind (codes " :") act.0.1) (λ list. spaced_places atoms (parts 32 list) >>= λ numbers. Some (record { lower = lower.0.0; upper = upper.0.0; act = act.0.0; atoms = numbers })) r act.2 in
    let numbers = chained (spaced_places atoms (parts 32 list.0)) (λ numbers. Some (record { lower = lower.0.0; upper = upper.0.0; act = act.0.0; atoms = numbers })) r list.2 in
    let made : Row = record { lower = lower.0.0; upper = upper.0.0; act = act.0.0; atoms = numbers.0 } in
    let same : made ≡ r = some_is made r numbers.2 in
    let l = field_is line lower.0.0 lower.0.1 lower.1 in
    let u = field_is lower.0.1 upper.0.0 upper.0.1 upper.1 in
    let a = act_is acts upper.0.1 act.0.0 act.0.1 act.1 in
    let behind_act : act.0.1 ≡ 32 ∷ 58 ∷ list.0 = behind_is_rest (codes " :") act.0.1 list.0 list.1 in
    let found = spaced_are atoms list.0 numbers.0 numbers.1 in
    let tail : upper.0.1 ≡ spaced (act_text act.0.0) (numbers_text numbers.0) = a.0 ∙ ap (λ (x : List ℕ). act_text act.0.0 ++ x) (behind_act ∙ ap (λ (x : List ℕ). 32 ∷ 58 ∷ x) found.0) in
    let whole : line ≡ row_line made = l.0 ∙ ap (spaced (decimal lower.0.0)) (u.0 ∙ ap (spaced (decimal upper.0.0)) tail) in
    subst (λ (x : Row). (line ≡ row_line x) × IsRow atoms acts x) same (whole, record { lower = l.1; upper = u.1; act = a.1; atoms = found.1 })

pub row_again : (atoms acts : ℕ) (r : Row) → atoms ≤ MOST_COUNT → acts ≤ MOST_COUNT → IsRow atoms acts r → row_of atoms acts (row_line r) ≡ Some r
unfolding row_of
row_again atoms acts r few_atoms few_acts is =
    let tail : List ℕ = numbers_text r.atoms in
    rw (
      field_again r.lower (spaced (decimal r.upper) (act_text r.act ++ 32 ∷ tail)) is.lower,
      field_again r.upper (act_text r.act ++ 32 ∷ tail) is.upper,
      act_again acts r.act tail few_acts is.act,
      spaced_again atoms r.atoms (omega (arith, few_atoms)) is.atoms,
    ) refl

-- no line feed stands in a row's line
numbers_lack_feed : (atoms : ℕ) (numbers : List ℕ) → atoms ≤ MOST_COUNT → AllByRecursion (λ n. n < atoms) numbers → Lacks 10 (flat_map (λ n. 32 ∷ decimal n) numbers)
numbers_lack_feed atoms [] few are = refl
numbers_lack_feed atoms (n ∷ numbers) few are = Lacks-append 10 (decimal n) (flat_map (λ m. 32 ∷ decimal m) numbers) (decimal_lacks 10 n (omega arith) (omega (arith, few, are.0))) (numbers_lack_feed atoms numbers few are.1)

act_lacks_feed : (acts : ℕ) (act : Act) → acts ≤ MOST_COUNT → IsAct acts act → Lacks 10 (act_text act)
act_lacks_feed acts GiveUp few is = refl
act_lacks_feed acts Goal few is = refl
act_lacks_feed acts (Do n) few is = decimal_lacks 10 n (omega arith) (omega (arith, few, is))

pub row_lacks_feed : (atoms acts : ℕ) (r : Row) → atoms ≤ MOST_COUNT → acts ≤ MOST_COUNT → IsRow atoms acts r → Lacks 10 (row_line r)
row_lacks_feed atoms acts r few_atoms few_acts is =
    Lacks-append 10 (decimal r.lower) _ (decimal_lacks 10 r.lower (omega arith) is.lower) (
    Lacks-append 10 (decimal r.upper) _ (decimal_lacks 10 r.upper (omega arith) is.upper) (
    Lacks-append 10 (act_text r.act) _ (act_lacks_feed acts r.act few_acts is.act) (numbers_lack_feed atoms r.atoms few_atoms is.atoms)
    )
    )
