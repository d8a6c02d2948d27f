-- An entry of a table that a set has is put there without a change, so that each entry is put there once.
use Rattle.std.proofs.Common.{◌≡◌, inl, inr, ℕ, Bool, true, false, List, get_or, sym, subst, ◌∙◌}
use Rattle.std.specs.Prelude.{slice_set}
use Rattle.std.specs.List.Sorted.{IsStrictlySortedBy}
use Rattle.std.specs.BTreeSet.{insert_key}
use Rattle.std.proofs.lemmas.Bool.{cases_eq}
use Rattle.std.proofs.lemmas.List.{get_or-set_other, length-set}
use Rattle.plain_list.specs.Texts.{compare_texts}
use Rattle.certificate.specs.Content.{name_at}
use Rattle.certificate.specs.Numbering.{Among}
use Rattle.certificate.proofs.Sorted.{insert_sorted, insert_has, insert_keeps, insert_origin, same_table}
use Rattle.cert_merge.specs.Tables.{AreTaken}

insert_same : (table : List (List ℕ)) (name : List ℕ) → IsStrictlySortedBy compare_texts table → Among table name
    → insert_key compare_texts table name ≡ table
insert_same table name sorted among =
    same_table (insert_key compare_texts table name) table (insert_sorted table name sorted) sorted
    (λ other inside. elim (insert_origin table name other inside) [
      | inl is ↦ subst (Among table) is among
      | inr there ↦ there
    ])
    (λ other there. insert_keeps table name other there)

module _ (table : List (List ℕ)) (taken : List Bool) (names : List (List ℕ)) (are : AreTaken table taken names) where
  pub more_names : (name : List ℕ) → AreTaken table taken (insert_key compare_texts names name)
  more_names name = record {
    long = are.long;
    sorted = insert_sorted names name are.sorted;
    had = λ i on. insert_keeps names name (name_at table i) (are.had i on);
  }

  pub entry_again : (i : ℕ) → get_or taken i false ≡ true → insert_key compare_texts names (name_at table i) ≡ names
  entry_again i on = insert_same names (name_at table i) are.sorted (are.had i on)

  pub entry_put : (i : ℕ) → AreTaken table (slice_set taken i true) (insert_key compare_texts names (name_at table i))
  entry_put i = record {
    long = length-set taken i true ∙ are.long;
    sorted = insert_sorted names (name_at table i) are.sorted;
    had = λ k on. elim (cases_eq k i) [
      | inl same ↦
          subst (λ n. Among (insert_key compare_texts names (name_at table i)) (name_at table n)) (sym same) (insert_has names (name_at table i))
      | inr apart ↦
          insert_keeps names (name_at table i) (name_at table k) (are.had k (sym (get_or-set_other taken i k true false apart) ∙ on))
    ];
  }
