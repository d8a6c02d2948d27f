-- What is built has the form of a certificate, and its rows say what the rows that are kept say.
use Rattle.std.proofs.Common.{◌≡◌, ◌≢◌, inl, inr, ℕ, ◌<◌, ◌≤◌, true, false, List, [], ◌∷◌, ◌++◌, length, map, get_or, Option, Some, None, refl, sym, ap, subst, ◌∙◌, arith}
use Rattle.std.specs.Prelude.{Contains, AllPairs, IsTrue, IsSorted, is_some, nat_eq, option_map}
use Rattle.std.specs.List.{slice_get, list_any}
use Rattle.std.specs.List.Sorted.{IsPermutation}
use Rattle.std.specs.declared.cmp.Ordering.TheVariants.{Less}
use Rattle.std.specs.declared.cmp.Ordering.{Ordering}
use Rattle.std.specs.Ordering.{nat_cmp, is_lt}
use Rattle.std.proofs.lemmas.Bool.{cases_Bool, eq-eqb, eqb-true}
use Rattle.std.proofs.lemmas.List.{get_or-map, get_or_default, length-map}
use Rattle.std.proofs.lemmas.List.Concat.{flat_map-cons}
use Rattle.std.proofs.lemmas.List.Elements.{All-contains, All-map, recursion_from_All, Contains-get_or}
use Rattle.std.proofs.lemmas.Option.{slice_get-get_or, slice_get_past, slice_get_within, slice_get-map, get_or_from_slice_get}
use Rattle.fixed_round.specs.Words.{value_of, code_of}
use Rattle.plain_list.specs.Texts.{compare_texts, rises}
use Rattle.plain_list.proofs.Members.{Contains-first, Contains-later, Contains-map, Contains-map_cases}
use Rattle.ground_model.specs.declared.action.GroundAction.{GroundAction}
use Rattle.ground_model.specs.Packed.{words_for}
use Rattle.ground_model.specs.Ground.{Ground}
use Rattle.ground_model.specs.Invariant.{IsGroundProblem}
use Rattle.ground_model.proofs.Rising.{pairs_rise, texts_differ}
use Rattle.std.proofs.lemmas.Cmp.{nat_list_cmp_total}
use Rattle.ground_step.specs.Atoms.{state_of}
use Rattle.ground_step.specs.Names.{action_names}
use Rattle.ground_step.specs.Names as steps
use Rattle.bound_core.specs.declared.codes.TheConstants.{GIVE_UP}
use Rattle.bound_core.specs.declared.image.ImageRow.{ImageRow}
use Rattle.certificate.specs.Names.{IsNameList}
use Rattle.certificate.specs.Rows.{Row}
use Rattle.certificate.specs.Content.{Content, content_of, compare_rows, name_at, does, uses_atom, uses_act, IsAct, IsRow, IsCertificate}
use Rattle.certificate.specs.Numbering.{table_of, place_of}
use Rattle.certificate.proofs.Sorted as tables
use Rattle.certificate_check.specs.Claims.{number_at, numbers_of, are_known, listed, doing, taken, atom_numbers, act_codes, knows, row_state, act_of, row_of}
use Rattle.bound_core.specs.ends.Closing.{act_in, closing_row, differs, IsClosing}
use Rattle.bound_core.specs.ends.Ends.{closing_low, closing_high}
use Rattle.bound_core.proofs.lemmas.ends.Reading.{lower_within, upper_within}
use Rattle.plan_report.specs.certificates.RowsKept.{KeptRow}
use Rattle.plan_report.specs.certificates.Certificates.{HasNameLists}
use Rattle.plan_report.specs.certificates.Kept.{kept_of, kept_rows, act_name, act_names, used_atoms}
use Rattle.plan_report.specs.certificates.Tables.{place_in, ArePlaces, act_for, numbered_row}
use Rattle.plan_report.proofs.lemmas.certificates.Lists.{members_all, any_from_member, pairs_mapped, rises_from_pairs, both}
use Rattle.plan_report.proofs.lemmas.certificates.Once.{below_from_sorted, once_from_pairs, once_permuted, rises_sorted}
use Rattle.plan_report.proofs.lemmas.certificates.AtomSets.{atoms_rise, state_back}
use Rattle.plan_report.proofs.lemmas.certificates.Used.{used_rise, used_few, used_from, used_has}
use Rattle.plan_report.proofs.lemmas.certificates.Places.{own_place, lists_ordered, place_within, number_there, places_rise, places_ordered, numbers_below}
use Rattle.plan_report.proofs.lemmas.certificates.ActTable.{acts_few, acts_rise, acts_have, act_from, act_place}
use Rattle.plan_report.proofs.lemmas.certificates.KeptRows.{kept_from, kept_few, kept_below, kept_differ, row_inside, elsewhere, code_is_open, act_gives_up, act_takes}

abbrev pub built : Ground → List ImageRow → List ℕ → List ℕ → List (List ℕ) → List KeptRow → Content
built g rows used places acts kept =
    content_of 2 g.penalty (closing_low g rows) (closing_high g rows) (map (name_at g.atoms) used) acts
    (map (numbered_row g places acts) kept)

-- what is known of the parts
pub record IsBuilt (g : Ground) (rows : List ImageRow) (places : List ℕ) (kept : List KeptRow) : Type 0 where
  pub valid : IsGroundProblem g
  pub closing : IsClosing g rows
  pub names : HasNameLists g
  pub few : length rows ≤ 1000000
  pub moved : IsPermutation (kept_rows g rows) kept
  pub placed : ArePlaces (used_atoms g kept) places

numbers_back : (numbers : List (Option ℕ)) (f : ℕ → ℕ) (xs : List ℕ) → ((q : ℕ) → Contains xs q → number_at numbers (f q) ≡ Some q)
    → numbers_of numbers (map f xs) ≡ xs
numbers_back numbers f [] each = refl
numbers_back numbers f (x ∷ xs) each =
    let first : listed (number_at numbers (f x)) ≡ x ∷ [] = ap listed (each x (Contains-first x xs)) in
    let rest = numbers_back numbers f xs (λ q inside. each q (Contains-later x xs q inside)) in
    flat_map-cons (λ i. listed (number_at numbers i)) (f x) (map f xs) ∙ (λ j. first j ++ rest j)

all_known : (numbers : List (Option ℕ)) (f : ℕ → ℕ) (xs : List ℕ) → ((q : ℕ) → Contains xs q → number_at numbers (f q) ≡ Some q)
    → are_known numbers (map f xs) ≡ true
all_known numbers f [] each = refl
all_known numbers f (x ∷ xs) each =
    both (is_some (number_at numbers (f x))) (are_known numbers (map f xs)) (ap is_some (each x (Contains-first x xs)))
    (all_known numbers f xs (λ q inside. each q (Contains-later x xs q inside)))

module _ (g : Ground) (rows : List ImageRow) (places : List ℕ) (kept : List KeptRow) (is : IsBuilt g rows places kept) where
  abbrev pub used : List ℕ
  used = used_atoms g kept

  abbrev pub acts : List (List ℕ)
  acts = table_of (act_names g kept)

  abbrev pub content : Content
  content = built g rows used places acts kept

  atoms_few : length g.atoms ≤ 1024
  atoms_few = (let most = is.valid.atoms_count in omega arith)

  below : (r : KeptRow) → Contains kept r → (q : ℕ) → Contains r.atoms q → q < length g.atoms
  below = kept_below g rows kept is.moved is.valid is.closing

  in_use : (r : KeptRow) → Contains kept r → (q : ℕ) → Contains r.atoms q → Contains used q
  in_use r there q inside = used_has g kept r there q inside (below r there q inside)

  use_below : (q : ℕ) → Contains used q → q < length g.atoms
  use_below q inside = let from = used_from g kept q inside in below from.0 from.1 q from.2

  place_small : (q : ℕ) → Contains used q → place_in places q < length content.atoms
  place_small q inside =
      let a = place_within used places (used_rise g kept) is.placed q inside in
      let b = length-map used (name_at g.atoms) in omega arith

  -- ---- what the tables say

  entry_is : (q : ℕ) → Contains used q → get_or content.atoms (place_in places q) [] ≡ get_or g.atoms q []
  entry_is q inside =
      get_or-map (name_at g.atoms) used (place_in places q) 0 [] (place_within used places (used_rise g kept) is.placed q inside)
      ∙ ap (name_at g.atoms) (number_there used places (used_rise g kept) is.placed q 0 inside)

  number_is : (q : ℕ) → Contains used q → number_at (atom_numbers g content) (place_in places q) ≡ Some q
  number_is q inside =
      get_or-map (steps.place_of g.atoms) content.atoms (place_in places q) [] None (place_small q inside)
      ∙ ap (steps.place_of g.atoms) (entry_is q inside)
      ∙ own_place g.atoms (texts_differ g.atoms is.valid.atoms_rise) q (use_below q inside)

  names_apart : AllPairs (λ x y. x ≢ y) (action_names g)
  names_apart = pairs_mapped (λ x y. x ≢ y) (λ (a : GroundAction). a.name) (λ (a b : GroundAction). a.name ≢ b.name) g.actions is.valid.names_differ (λ a b h k apart. apart)

  name_of_code : (code : ℕ) → code < length g.actions → option_map (λ (a : GroundAction). a.name) (slice_get g.actions code) ≡ Some (get_or (action_names g) code [])
  name_of_code code within =
      sym (slice_get-map (λ (a : GroundAction). a.name) g.actions code)
      ∙ slice_get-get_or (action_names g) code [] (let a = length-map g.actions (λ (a : GroundAction). a.name) in omega arith)

  -- ---- one row

  module _ (r : KeptRow) (there : Contains kept r) (row : ImageRow) (held : Contains rows row) (different : differs g row ≡ true) (same : kept_of row ≡ r) where
    abbrev numbers : Row
    numbers = numbered_row g places acts r

    each_number : (q : ℕ) → Contains r.atoms q → number_at (atom_numbers g content) (place_in places q) ≡ Some q
    each_number q inside = number_is q (in_use r there q inside)

    pub row_known : knows g content numbers ≡ true
    row_known = all_known (atom_numbers g content) (place_in places) r.atoms each_number

    state_is : row_state g content numbers ≡ row.state
    state_is =
        ap (λ atoms. state_of atoms (words_for (length g.atoms))) (numbers_back (atom_numbers g content) (place_in places) r.atoms each_number)
        ∙ ap (λ (x : KeptRow). state_of x.atoms (words_for (length g.atoms))) (sym same)
        ∙ state_back (length g.atoms) row.state (row_inside g rows kept is.moved is.valid is.closing row held)

    word_is : row.upper ≡ r.upper
    word_is = ap (λ (x : KeptRow). x.upper) same

    gives_up : nat_eq (code_of row.upper) GIVE_UP ≡ true → (act_name g r.upper ≡ None)
    gives_up on =
        let code : code_of row.upper ≡ 65535 = eqb-true (code_of row.upper) GIVE_UP on in
        let most = is.valid.actions_count in
        ap (act_name g) (sym word_is)
        ∙ ap (option_map (λ (a : GroundAction). a.name)) (slice_get_past g.actions (code_of row.upper) (omega arith))

    takes : nat_eq (code_of row.upper) GIVE_UP ≡ false → act_name g r.upper ≡ Some (get_or (action_names g) (code_of row.upper) [])
    takes off =
        ap (act_name g) (sym word_is)
        ∙ name_of_code (code_of row.upper) (code_is_open g rows is.closing row held different off)

    act_found : (name : List ℕ) → act_name g r.upper ≡ Some name → (place_of acts name < length acts) × (name_at acts (place_of acts name) ≡ name)
    act_found name named = tables.place_found acts name (acts_have g kept r there name named)

    code_there : (off : nat_eq (code_of row.upper) GIVE_UP ≡ false)
        → get_or (act_codes g content) (place_of acts (get_or (action_names g) (code_of row.upper) [])) None ≡ Some (code_of row.upper)
    code_there off =
        let name = get_or (action_names g) (code_of row.upper) [] in
        let found = act_found name (takes off) in
        let open_code = code_is_open g rows is.closing row held different off in
        get_or-map (steps.place_of (action_names g)) acts (place_of acts name) [] None found.0
        ∙ ap (steps.place_of (action_names g)) found.1
        ∙ own_place (action_names g) names_apart (code_of row.upper)
        (let a = length-map g.actions (λ (a : GroundAction). a.name) in omega arith)

    act_by_code : (off : nat_eq (code_of row.upper) GIVE_UP ≡ false) → act_of g content numbers.act ≡ doing (Some (code_of row.upper))
    act_by_code off =
        ap (λ o. act_of g content (act_for acts o)) (takes off) ∙ ap doing (code_there off)

    act_taken : taken (act_of g content numbers.act) ≡ act_in row.upper
    act_taken = elim (cases_Bool (nat_eq (code_of row.upper) GIVE_UP)) [
      | inl on ↦
          ap (λ o. taken (act_of g content (act_for acts o))) (gives_up on)
          ∙ sym (act_gives_up row.upper (elsewhere g rows is.closing row held different) on)
      | inr off ↦
          ap taken (act_by_code off)
          ∙ sym (act_takes row.upper (elsewhere g rows is.closing row held different) off)
    ]

    pub act_named : is_some (act_of g content numbers.act) ≡ true
    act_named = elim (cases_Bool (nat_eq (code_of row.upper) GIVE_UP)) [
      | inl on ↦ ap (λ o. is_some (act_of g content (act_for acts o))) (gives_up on)
      | inr off ↦ ap is_some (act_by_code off)
    ]

    pub row_back : row_of g content numbers ≡ closing_row row
    row_back = λ j. record {
      state = state_is j;
      lower = ap (λ (x : KeptRow). x.lower) (sym same) j;
      upper = ap (λ (x : KeptRow). value_of x.upper) (sym same) j;
      act = act_taken j;
    }

    row_in_range : IsRow (length content.atoms) (length content.acts) numbers
    row_in_range =
        let quit = is.valid.penalty_within in
        let lower : row.lower ≡ r.lower = ap (λ (x : KeptRow). x.lower) same in
        let upper : value_of row.upper ≡ value_of r.upper = ap (λ (x : KeptRow). value_of x.upper) same in
        let a = lower_within g rows is.closing row held in
        let b = upper_within g rows is.closing row held in record {
          lower = omega arith;
          upper = omega arith;
          act = act_in_range (act_name g r.upper) (λ name named. (act_found name named).0);
          atoms = recursion_from_All (λ n. n < length content.atoms) (map (place_in places) r.atoms)
              (members_all (λ n. n < length content.atoms) (map (place_in places) r.atoms) (λ n inside.
              let from = Contains-map_cases (place_in places) r.atoms n inside in
              subst (λ k. k < length content.atoms) from.2 (place_small from.0 (in_use r there from.0 from.1))));
        }
      where
        act_in_range : (o : Option (List ℕ)) → ((name : List ℕ) → o ≡ Some name → place_of acts name < length acts) → IsAct (length acts) (act_for acts o)
        act_in_range None within = tt
        act_in_range (Some name) within = within name refl

  -- ---- the rows rise

  numbers_rise : (r : KeptRow) → Contains kept r → rises nat_cmp (map (place_in places) r.atoms) ≡ true
  numbers_rise r there =
      let k = kept_from g rows kept is.moved r there in
      let rise : AllPairs (λ p q. p < q) r.atoms = subst (λ (x : KeptRow). AllPairs (λ p q. p < q) x.atoms) k.is (atoms_rise k.row.state) in
      rises_from_pairs nat_cmp (map (place_in places) r.atoms)
      (pairs_mapped (λ p q. nat_cmp p q ≡ Less) (place_in places) (λ p q. p < q) r.atoms rise (λ p q h k less.
      numbers_below (place_in places p) (place_in places q)
      (places_rise used places (used_rise g kept) is.placed p q (in_use r there p h) (in_use r there q k) less)))

  order_kept : (x y : KeptRow) → Contains kept x → Contains kept y
      → compare_rows (numbered_row g places acts x) (numbered_row g places acts y) ≡ compare_texts x.atoms y.atoms
  order_kept x y here there =
      lists_ordered (place_in places) x.atoms y.atoms (λ p q h k.
      places_ordered used places (used_rise g kept) is.placed p q (in_use x here p h) (in_use y there q k))

  rows_rise : (cmp : KeptRow → KeptRow → Ordering) → ((x y : KeptRow) → is_lt (cmp y x) ≡ false → is_lt (compare_texts y.atoms x.atoms) ≡ false)
      → IsSorted cmp kept → rises compare_rows content.rows ≡ true
  rows_rise cmp first sorted =
      rises_sorted (λ (x : KeptRow). x.atoms) cmp compare_rows (numbered_row g places acts) (Contains kept)
      (λ x y here there below apart. order_kept x y here there ∙ below_from_sorted x.atoms y.atoms (first x y below) apart)
      kept (λ x inside. inside) sorted
      (once_permuted (λ (x : KeptRow). x.atoms) (kept_rows g rows) kept is.moved
      (once_from_pairs (λ (x : KeptRow). x.atoms) (kept_rows g rows) (kept_differ g rows kept is.moved is.valid is.closing)))

  -- ---- the tables have what the rows use, and nothing else

  atoms_used : (k : ℕ) → k < length content.atoms → uses_atom content.rows k ≡ true
  atoms_used k within =
      let small : k < length used = (let a = length-map used (name_at g.atoms) in omega arith) in
      let q = get_or used k 0 in
      let place : place_in places q ≡ k = is.placed k q (slice_get-get_or used k 0 small) in
      let from = used_from g kept q (Contains-get_or used k 0 small) in
      let r = from.0 in
      any_from_member (λ (x : Row). list_any (λ n. nat_eq n k) x.atoms) content.rows (numbered_row g places acts r)
      (Contains-map (numbered_row g places acts) kept r from.1)
      (any_from_member (λ n. nat_eq n k) (map (place_in places) r.atoms) (place_in places q)
      (Contains-map (place_in places) r.atoms q from.2) (eq-eqb (place_in places q) k place))

  acts_used : (k : ℕ) → k < length acts → uses_act content.rows k ≡ true
  acts_used k within =
      let from = act_from g kept k within in
      let r = from.0 in
      any_from_member (λ (x : Row). does k x.act) content.rows (numbered_row g places acts r)
      (Contains-map (numbered_row g places acts) kept r from.1)
      (ap (λ o. does k (act_for acts o)) from.2 ∙ eq-eqb (place_of acts (name_at acts k)) k (act_place g kept k within))

  -- ---- the whole

  texts_rise : rises compare_texts content.atoms ≡ true
  texts_rise =
      rises_from_pairs compare_texts content.atoms
      (pairs_mapped (λ x y. compare_texts x y ≡ Less) (name_at g.atoms) (λ p q. p < q) used (used_rise g kept) (λ p q h k less.
      pairs_rise compare_texts nat_list_cmp_total g.atoms is.valid.atoms_rise p q [] less (use_below q k)))

  texts_are_lists : (text : List ℕ) → Contains content.atoms text → IsNameList text
  texts_are_lists text inside =
      let from = Contains-map_cases (name_at g.atoms) used text inside in
      subst IsNameList from.2 (is.names.atoms from.0 [] (use_below from.0 from.1))

  acts_are_lists : (name : List ℕ) → Contains acts name → IsNameList name
  acts_are_lists name inside =
      let from = act_from g kept inside.0 inside.1 in
      let code = code_of from.0.upper in
      let at : slice_get (action_names g) code ≡ Some name =
      slice_get-map (λ (a : GroundAction). a.name) g.actions code ∙ from.2
      ∙ ap Some (get_or_default acts inside.0 [] name inside.1 ∙ inside.2) in
      All-contains IsNameList (action_names g) name (All-map IsNameList (λ (a : GroundAction). a.name) g.actions is.names.actions)
      (code, slice_get_within (action_names g) code name at, get_or_from_slice_get (action_names g) code name name at)

  pub has_form : (cmp : KeptRow → KeptRow → Ordering) → ((x y : KeptRow) → is_lt (cmp y x) ≡ false → is_lt (compare_texts y.atoms x.atoms) ≡ false)
      → IsSorted cmp kept → closing_low g rows ≤ g.penalty → closing_high g rows ≤ g.penalty → IsCertificate content
  has_form cmp first sorted low high =
      let above = is.valid.penalty_above in let within = is.valid.penalty_within in
      let rows_few = kept_few g rows kept is.moved in let few = is.few in record {
        version = inr refl;
        penalty = (omega arith, omega arith);
        lower = omega arith;
        upper = omega arith;
        count = (let a = length-map kept (numbered_row g places acts) in omega arith);
        atoms = recursion_from_All IsNameList content.atoms (members_all IsNameList content.atoms texts_are_lists);
        acts = recursion_from_All IsNameList acts (members_all IsNameList acts acts_are_lists);
        atoms_rise = texts_rise;
        acts_rise = acts_rise g kept;
        few_atoms = λ _. (let a = length-map used (name_at g.atoms) in let b = used_few g kept atoms_few in omega arith);
        few_acts = λ _. (let a = acts_few g kept in omega arith);
        atoms_used = atoms_used;
        acts_used = acts_used;
        rows = recursion_from_All (IsRow (length content.atoms) (length content.acts)) content.rows
            (members_all (IsRow (length content.atoms) (length content.acts)) content.rows (λ x inside.
            let from = Contains-map_cases (numbered_row g places acts) kept x inside in
            let k = kept_from g rows kept is.moved from.0 from.1 in
            subst (IsRow (length content.atoms) (length content.acts)) from.2 (row_in_range from.0 from.1 k.row k.held k.different k.is)));
        numbers_rise = recursion_from_All (λ (x : Row). IsTrue (rises nat_cmp x.atoms)) content.rows
            (members_all (λ (x : Row). IsTrue (rises nat_cmp x.atoms)) content.rows (λ x inside.
            let from = Contains-map_cases (numbered_row g places acts) kept x inside in
            subst (λ (y : Row). IsTrue (rises nat_cmp y.atoms)) from.2 (numbers_rise from.0 from.1)));
        rows_rise = rows_rise cmp first sorted;
      }
