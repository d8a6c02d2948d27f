-- Rows that have marks.
use Rattle.std.proofs.Common.{◌≡◌, ℕ, ◌<◌, Bool, true, false, ◌||◌, true≢false, List, [], ◌∷◌, ◌++◌, length, get_or, if◌then◌else◌, refl, sym, ap, subst, ◌∙◌, arith}
use Rattle.std.specs.Prelude.{All, nat_eq, slice_set}
use Rattle.std.specs.List.{list_any}
use Rattle.std.proofs.lemmas.Bool.{eqb-true, eq-eqb}
use Rattle.std.proofs.lemmas.List.{get_or-set_same, get_or-set_other, length-set}
use Rattle.std.proofs.lemmas.List.Elements.{All-nil, All-cons, All-append, All-weaker, All-head, All-tail}
use Rattle.ppddl_model.specs.State.{same_name}
use Rattle.ppddl_model.proofs.States.{same_name-Decides}
use Rattle.type_table.specs.Numbered.{with_name}
use Rattle.type_table.proofs.Lists.{by_test}
use Rattle.task_instances.specs.fact_rows.Marks.{mark_of, IsMarked, AreMarked}

-- a row without a mark is not there
pub no_mark : (marks : List Bool) (rows : List (List ℕ)) (row : List ℕ) → All (IsMarked marks) rows → get_or marks (mark_of row) false ≡ false
    → list_any (same_name row) rows ≡ false
no_mark marks [] row each none = refl
no_mark marks (r ∷ rows) row each none =
    by_test (same_name row r)
    (λ e. absurd (true≢false (sym (ap (λ x. get_or marks (mark_of x) false) ((same_name-Decides row r).0 e)
    ∙ All-head (IsMarked marks) r rows each) ∙ none)))
    (λ e. ap (λ b. b || list_any (same_name row) rows) e ∙ no_mark marks rows row (All-tail (IsMarked marks) r rows each) none)

still_marked : (marks : List Bool) (place : ℕ) → place < length marks → (row : List ℕ) → IsMarked marks row → IsMarked (slice_set marks place true) row
still_marked marks place within row is =
    by_test (nat_eq (mark_of row) place)
    (λ e. ap (λ k. get_or (slice_set marks place true) k false) (eqb-true (mark_of row) place e) ∙ get_or-set_same marks place true false within)
    (λ e. get_or-set_other marks place (mark_of row) true false (λ same. true≢false (sym (eq-eqb (mark_of row) place same) ∙ e)) ∙ is)

-- one mark more, and then the row
pub all_marked : (marks : List Bool) (rows : List (List ℕ)) (place : ℕ) → AreMarked marks rows → place < 262144 → AreMarked (slice_set marks place true) rows
all_marked marks rows place are within = record {
  count = length-set marks place true ∙ are.count;
  each =
      All-weaker (IsMarked marks) (IsMarked (slice_set marks place true))
      (still_marked marks place (omega (arith, within, are.count))) rows are.each;
}

pub row_marked : (marks : List Bool) (rows : List (List ℕ)) (row : List ℕ) (place : ℕ) → AreMarked marks rows → place < 262144 → place ≡ mark_of row
    → AreMarked (slice_set marks place true) (with_name rows row)
row_marked marks rows row place are within is =
    let before = all_marked marks rows place are within in
    record {
      count = before.count;
      each = by_test (list_any (same_name row) rows)
          (λ e. subst (All (IsMarked (slice_set marks place true))) (sym (ap (λ b. if b then rows else rows ++ row ∷ []) e)) before.each)
          (λ e. subst (All (IsMarked (slice_set marks place true))) (sym (ap (λ b. if b then rows else rows ++ row ∷ []) e))
          (All-append (IsMarked (slice_set marks place true)) rows (row ∷ []) before.each
          (All-cons (IsMarked (slice_set marks place true)) row []
          (ap (λ k. get_or (slice_set marks place true) k false) (sym is) ∙ get_or-set_same marks place true false (omega (arith, within, are.count)))
          (All-nil (IsMarked (slice_set marks place true))))));
    }

-- with no row yet, and where the row that was marked was put in or not
pub none_marked : (marks : List Bool) (rows : List (List ℕ)) → length marks ≡ 262144 → rows ≡ [] → AreMarked marks rows
none_marked marks rows count none = record {
  count = count;
  each = subst (All (IsMarked marks)) (sym none) (All-nil (IsMarked marks));
}
