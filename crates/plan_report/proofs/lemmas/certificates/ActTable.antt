-- The table of acts: it has the names of the actions that rows take, and no other.
use Rattle.std.proofs.Common.{◌≡◌, inl, inr, ℕ, suc, ◌+◌, ◌<◌, ◌≤◌, true, List, [], ◌∷◌, ◌++◌, length, Option, Some, None, refl, sym, ap, subst, ◌∙◌, arith, Ordering}
use Rattle.std.specs.Prelude.{Contains, get_or, slice_set, is_some}
use Rattle.std.specs.List.{slice_get}
use Rattle.std.specs.BTreeSet.{insert_key}
use Rattle.std.specs.Ordering.{match_ordering}
use Rattle.std.specs.declared.cmp.Ordering.TheVariants.{Less, Equal, Greater}
use Rattle.std.specs.Prelude.{option_map}
use Rattle.std.proofs.lemmas.List.Concat.{flat_map-cons}
use Rattle.std.proofs.lemmas.Bool.{cases_eq, true≢false}
use Rattle.std.proofs.lemmas.List.{get_or-set_same, get_or-set_other, length-set}
use Rattle.std.proofs.lemmas.Option.{slice_get_cases, slice_get_past, slice_get_read, slice_get-get_or}
use Rattle.fixed_round.specs.Words.{code_of}
use Rattle.ground_model.specs.declared.action.GroundAction.{GroundAction}
use Rattle.certificate.specs.declared.act.Act.TheVariants.{Do}
use Rattle.plain_list.specs.Texts.{compare_texts, rises}
use Rattle.plain_list.proofs.Members.{Contains-first, Contains-later, Contains-cons_cases, Contains-nil, Contains-flat_map, Contains-flat_map_cases}
use Rattle.ground_model.specs.Ground.{Ground}
use Rattle.certificate.specs.Content.{name_at}
use Rattle.certificate.specs.Numbering.{Among, filled, table_of, place_of}
use Rattle.certificate.proofs.Sorted.{table_sorted, table_has, table_origin, sorted_rises, name_among, place_is_own}
use Rattle.plan_report.specs.certificates.RowsKept.{KeptRow}
use Rattle.plan_report.specs.certificates.Kept.{act_name, act_names, named}
use Rattle.plan_report.specs.certificates.Tables.{act_at, act_for, in_place, AreActPlaces, IsPlaced, HasMorePlaces, HasActPlace, HaveActPlaces, HasActIn, HaveActsIn}

pub among_member : (texts : List (List ℕ)) (text : List ℕ) → Contains texts text → Among texts text
among_member [] text inside = absurd (Contains-nil text inside)
among_member (first ∷ more) text inside = elim (Contains-cons_cases first more text inside) [
  | inl here ↦ inl here
  | inr later ↦ inr (among_member more text later)
]

pub member_among : (texts : List (List ℕ)) (text : List ℕ) → Among texts text → Contains texts text
member_among [] text among = absurd among
member_among (first ∷ more) text (inl here) = subst (Contains (first ∷ more)) here (Contains-first first more)
member_among (first ∷ more) text (inr later) = Contains-later first more text (member_among more text later)

named_has : (o : Option (List ℕ)) (name : List ℕ) → o ≡ Some name → Contains (named o) name
named_has o name is = subst (λ p. Contains (named p) name) (sym is) (Contains-first name [])

named_from : (o : Option (List ℕ)) (name : List ℕ) → Contains (named o) name → o ≡ Some name
named_from None name inside = absurd (Contains-nil name inside)
named_from (Some other) name inside = elim (Contains-cons_cases other [] name inside) [
  | inl here ↦ ap Some here
  | inr later ↦ absurd (Contains-nil name later)
]

-- ---- how long a table is

longer : (o : Ordering) (k x : List ℕ) (xs rest : List (List ℕ)) → length rest ≤ suc (length xs)
    → length (match_ordering o (k ∷ x ∷ xs) (x ∷ xs) (x ∷ rest)) ≤ suc (suc (length xs))
longer Less k x xs rest few = omega arith
longer Equal k x xs rest few = omega arith
longer Greater k x xs rest few = omega (arith, few)

inserted_few : (table : List (List ℕ)) (k : List ℕ) → length (insert_key compare_texts table k) ≤ suc (length table)
inserted_few [] k = omega arith
inserted_few (x ∷ table) k = longer (compare_texts k x) k x table (insert_key compare_texts table k) (inserted_few table k)

filled_few : (table texts : List (List ℕ)) → length (filled table texts) ≤ length table + length texts
filled_few table [] = omega arith
filled_few table (text ∷ texts) =
    (let a = filled_few (insert_key compare_texts table text) texts in let b = inserted_few table text in omega arith)

module _ (g : Ground) (rows : List KeptRow) where
  abbrev acts : List (List ℕ)
  acts = table_of (act_names g rows)

  names_few : (rs : List KeptRow) → length (act_names g rs) ≤ length rs
  names_few [] = omega arith
  names_few (r ∷ rs) =
      let a : act_names g (r ∷ rs) ≡ named (act_name g r.upper) ++ act_names g rs = flat_map-cons (λ (x : KeptRow). named (act_name g x.upper)) r rs in
      one_more (act_name g r.upper) (act_names g rs) (act_names g (r ∷ rs)) (length rs) a (names_few rs)
    where
      one_more : (o : Option (List ℕ)) (rest all : List (List ℕ)) (n : ℕ) → all ≡ named o ++ rest → length rest ≤ n → length all ≤ suc n
      one_more None rest all n is few = (let a = ap length is in omega arith)
      one_more (Some name) rest all n is few = (let a = ap length is in omega arith)

  pub acts_few : length acts ≤ length rows
  acts_few = (let a = filled_few [] (act_names g rows) in let b = names_few rows in omega arith)

  pub acts_rise : rises compare_texts acts ≡ true
  acts_rise = sorted_rises acts (table_sorted (act_names g rows))

  pub acts_have : HaveActsIn g acts rows
  acts_have r inside name is =
      table_has (act_names g rows) name (among_member (act_names g rows) name
      (Contains-flat_map (λ (x : KeptRow). named (act_name g x.upper)) rows r name inside (named_has (act_name g r.upper) name is)))

  pub act_from : (i : ℕ) → i < length acts
      → (r : KeptRow) × Contains rows r × (act_name g r.upper ≡ Some (name_at acts i))
  act_from i within =
      let name = name_at acts i in
      let inside : Contains (act_names g rows) name
      = member_among (act_names g rows) name (table_origin (act_names g rows) name (name_among acts i within)) in
      let from = Contains-flat_map_cases (λ (x : KeptRow). named (act_name g x.upper)) rows name inside in
      (from.0, from.1, named_from (act_name g from.0.upper) name from.2)

  pub act_place : (i : ℕ) → i < length acts → place_of acts (name_at acts i) ≡ i
  act_place i within = place_is_own acts i (name_at acts i) (table_sorted (act_names g rows)) within refl

-- ---- the places of the actions' names, by code

placed_of : (o : Option ℕ) → is_some o ≡ true → (place : ℕ) × (o ≡ Some place)
placed_of None on = absurd (true≢false (sym on))
placed_of (Some place) on = (place, refl)

some_place : (x y : Option ℕ) → Some x ≡ Some y → x ≡ y
some_place x y e = cc

-- a place that stands there stays, and where one is put there is one
module _ (places : List (Option ℕ)) (code place : ℕ) where
  pub stands : (o : Option ℕ) → code < length places → o ≡ get_or places code o → is_some o ≡ true → IsPlaced places code
  stands o within read on =
      let there : slice_get places code ≡ Some o = slice_get_read places (length places) code o refl within read in
      let same : get_or places code None ≡ o = some_place (get_or places code None) o (sym (slice_get-get_or places code None within) ∙ there) in
      let placed = placed_of o on in (placed.0, same ∙ placed.1)

  pub more_put : code < length places → HasMorePlaces places (slice_set places code (Some place))
  more_put within = (
    length-set places code (Some place),
    λ other placed. elim (cases_eq other code) [
      | inl same ↦ (place, ap (λ k. get_or (slice_set places code (Some place)) k None) same ∙ get_or-set_same places code (Some place) None within)
      | inr apart ↦ (placed.0, get_or-set_other places code other (Some place) None apart ∙ placed.1)
    ],
  )

some_row : (x y : KeptRow) → Some x ≡ Some y → x ≡ y
some_row x y e = cc

-- a row more has the place of its action
module _ (old new : List (Option ℕ)) (rows : List KeptRow) (i : ℕ) (row : KeptRow) (there : slice_get rows i ≡ Some row) (before : HaveActPlaces old rows i)
    (more : HasMorePlaces old new) (here : HasActPlace new row.upper) where
  one_placed : (k : ℕ) (r : KeptRow) → k < i + 1 → slice_get rows k ≡ Some r → code_of r.upper < length new → IsPlaced new (code_of r.upper)
  one_placed k r below at within = elim (cases_eq k i) [
    | inl same ↦
        let is : r ≡ row = some_row r row (sym at ∙ ap (slice_get rows) same ∙ there) in
        subst (λ (x : KeptRow). IsPlaced new (code_of x.upper)) (sym is) (here (subst (λ (x : KeptRow). code_of x.upper < length new) is within))
    | inr apart ↦
        let kept = more.0 in let earlier : k < i = omega (arith, below, apart) in let had : code_of r.upper < length old = omega (arith, within, kept) in
        more.1 (code_of r.upper) (before k r earlier at had)
  ]

  pub one_more_placed : HaveActPlaces new rows (i + 1)
  one_more_placed = one_placed

module _ (g : Ground) (acts : List (List ℕ)) (places : List (Option ℕ)) (are : AreActPlaces g acts places) where
  module _ (word : ℕ) (here : HasActPlace places word) (has : HasActIn g acts word) where
    abbrev code : ℕ
    code = code_of word

    there_is : (a : GroundAction) → code < length g.actions → slice_get g.actions code ≡ Some a → act_at places word ≡ act_for acts (act_name g word)
    there_is a within at =
        let name : act_name g word ≡ Some a.name = ap (option_map (λ (x : GroundAction). x.name)) at in
        let below : code < length places = (let long = are.long in omega (arith, within)) in
        let placed = here below in
        let found : slice_get places code ≡ Some (Some placed.0) = slice_get-get_or places code None below ∙ ap Some placed.1 in
        ap in_place found
        ∙ ap Do (are.placed code placed.0 a.name placed.1 name (has a.name name))
        ∙ sym (ap (act_for acts) name)

    there_is_none : length g.actions ≤ code → slice_get g.actions code ≡ None → act_at places word ≡ act_for acts (act_name g word)
    there_is_none past at =
        let found : slice_get places code ≡ None = slice_get_past places code (let long = are.long in omega (arith, past)) in
        ap in_place found ∙ sym (ap (λ o. act_for acts (option_map (λ (x : GroundAction). x.name) o)) at)

    pub act_is : act_at places word ≡ act_for acts (act_name g word)
    act_is = elim (slice_get_cases g.actions code).1 [
      | inl found ↦ there_is found.0 found.1 found.2
      | inr past ↦ there_is_none past.0 past.1
    ]
