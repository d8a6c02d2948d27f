-- A name that a set has is put there without a change, so that each action's name is put there once.
use Rattle.std.proofs.Common.{◌≡◌, inl, inr, ℕ, ◌<◌, Bool, true, false, List, [], length, get_or, Some, refl, sym, ap, subst, ◌∙◌, arith}
use Rattle.std.specs.Prelude.{slice_set, option_map}
use Rattle.std.specs.List.{slice_get}
use Rattle.std.specs.List.Sorted.{IsStrictlySortedBy}
use Rattle.std.specs.BTreeSet.{insert_key}
use Rattle.std.proofs.Math.ListN.{replicate, get_or-eq_default}
use Rattle.std.proofs.lemmas.Bool.{cases_lt, cases_eq, true≢false}
use Rattle.std.proofs.lemmas.Option.{slice_get_read}
use Rattle.std.proofs.lemmas.List.{get_or-replicate, get_or-set_other, length-replicate, length-set}
use Rattle.plain_list.specs.Texts.{compare_texts}
use Rattle.certificate.specs.Numbering.{Among}
use Rattle.ground_model.specs.Ground.{Ground}
use Rattle.ground_model.specs.declared.action.GroundAction.{GroundAction}
use Rattle.plan_report.specs.certificates.Kept.{name_of_code}
use Rattle.plan_report.specs.certificates.Tables.{AreTaken}
use Rattle.certificate.proofs.Sorted.{insert_sorted, insert_has, insert_keeps, insert_origin, same_table}

pub insert_same : (table : List (List ℕ)) (name : List ℕ) → IsStrictlySortedBy compare_texts table → Among table name
    → insert_key compare_texts table name ≡ table
insert_same table name sorted among =
    same_table (insert_key compare_texts table name) table (insert_sorted table name sorted) sorted
    (λ other inside. elim (insert_origin table name other inside) [
      | inl is ↦ subst (Among table) is among
      | inr there ↦ there
    ])
    (λ other there. insert_keeps table name other there)

none_is_taken : (n code : ℕ) → get_or (replicate n false) code false ≡ false
none_is_taken n code = elim (cases_lt code n) [
  | inl within ↦ get_or-replicate n code false false within
  | inr past ↦ get_or-eq_default (replicate n false) false (let long = length-replicate n false in omega (arith, past))
]

module _ (g : Ground) where
  pub no_names : (n : ℕ) → n ≡ length g.actions → AreTaken g (replicate n false) []
  unfolding IsStrictlySortedBy
  no_names n is = record {
    long = length-replicate n false ∙ is;
    sorted = tt;
    had = λ code name taken there. absurd (true≢false (sym taken ∙ none_is_taken n code));
  }

  -- what is read at a code of the actions
  pub name_at : (actions : List GroundAction) → actions ≡ g.actions → (code : ℕ) (action : GroundAction) → code < length actions
      → action ≡ get_or actions code action → (code < length g.actions) × (name_of_code g code ≡ Some action.name)
  name_at actions are code action within is = (
    subst (λ (l : List GroundAction). code < length l) are within,
    ap (λ (l : List GroundAction). option_map (λ (a : GroundAction). a.name) (slice_get l code)) (sym are)
        ∙ ap (option_map (λ (a : GroundAction). a.name)) (slice_get_read actions (length actions) code action refl within is),
  )

  module _ (taken : List Bool) (names : List (List ℕ)) (are : AreTaken g taken names) (code : ℕ) (name : List ℕ)
      (is : name_of_code g code ≡ Some name) where
    pub name_again : get_or taken code false ≡ true → insert_key compare_texts names name ≡ names
    name_again on = insert_same names name are.sorted (are.had code name on is)

    pub name_put : code < length g.actions → AreTaken g (slice_set taken code true) (insert_key compare_texts names name)
    name_put within = record {
      long = length-set taken code true ∙ are.long;
      sorted = insert_sorted names name are.sorted;
      had = λ other text on there. elim (cases_eq other code) [
        | inl same ↦
            subst (Among (insert_key compare_texts names name))
            (some_is name text (sym is ∙ ap (name_of_code g) (sym same) ∙ there)) (insert_has names name)
        | inr apart ↦
            insert_keeps names name text
            (are.had other text (sym (get_or-set_other taken code other true false apart) ∙ on) there)
      ];
    }
      where
        some_is : (x y : List ℕ) → Some x ≡ Some y → x ≡ y
        some_is x y e = cc
