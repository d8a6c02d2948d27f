-- The same pass later.
use Rattle.std.proofs.Common.{◌≡◌, ℕ, Bool, true, false, cond, nat_eq, List, [], ◌∷◌, ◌++◌, refl, sym, ◌∙◌, subst, arith}
use Rattle.word_table.specs.declared.view.notes.Look.{Look}
use Rattle.word_table.specs.declared.view.notes.Look.TheVariants.{End}
use Rattle.word_table.specs.declared.view.View.{View}
use Rattle.word_table.specs.view.Laws.{HasMore}
use Rattle.word_table.specs.view.Steps.{with_lower, with_upper, with_lower_load, with_upper_load, with_count, with_state_word, united, without_rights}
use Rattle.word_table.proofs.lemmas.view.Seen.{more_is_later}
use Rattle.word_table.proofs.lemmas.view.Noting.{noted_is_more, united_is_more}
use Rattle.word_table.specs.Seen.{Board, Knowledge, knowledge, IsOf}
use Rattle.bound_words.specs.declared.bounds.Interval.{Interval}
use Rattle.bound_words.specs.Intervals.{with_interval, word_in}
use Rattle.state_interner.specs.Interned.{AddsLooks}
use Rattle.bellman_backup.specs.Races.{has_all, has_more_again, looks_again}
use Rattle.bellman_backup.specs.Backups.{Keeps}
use Rattle.bellman_backup.proofs.NextRead.{Grows}

count_looks : (b : Bool) (ls : List Look) → (added : List Look) × (cond b (End ∷ ls) ls ≡ added ++ ls)
count_looks true ls = (End ∷ [], refl)
count_looks false ls = ([], refl)

pub keeps_all : (b : Board) (k : Knowledge) → IsOf b k → Keeps b k k
keeps_all b k here = record { here = here; noted = has_all k.view; rights = refl; looks = ([], refl) }

pub keeps_again : (b : Board) (k l m : Knowledge) → Keeps b k l → Keeps b l m → Keeps b k m
keeps_again b k l m first second = record {
  here = second.here;
  noted = has_more_again k.view l.view m.view first.noted second.noted;
  rights = second.rights ∙ first.rights;
  looks = looks_again k.view l.view m.view first.looks second.looks;
}

pub grows : (b : Board) (k l : Knowledge) → Keeps b k l → Grows k.view l.view
grows b k l keeps = record { later = more_is_later k.view l.view keeps.noted; noted = keeps.noted; looks = keeps.looks }

-- after one step
pub keeps_step : (b : Board) (k l : Knowledge) (w : View) → IsOf b k → l ≡ knowledge k.table w → w.live ≡ k.view.live → w.rights ≡ k.view.rights
    → HasMore k.view w → AddsLooks k.view w → Keeps b k l
keeps_step b k l w of is live rights more looks = subst (Keeps b k) (sym is) (record {
  here = record {
    table = of.table;
    view = record { live = live ∙ of.view.live; problem = more.problem ∙ of.view.problem; layout = more.layout ∙ of.view.layout };
  };
  noted = more;
  rights = rights;
  looks = looks;
})

pub keeps_word : (b : Board) (k l : Knowledge) (id place x : ℕ) → IsOf b k → l ≡ knowledge k.table (with_state_word k.view id place x) → Keeps b k l
keeps_word b k l id place x of is = keeps_step b k l (with_state_word k.view id place x) of is refl refl ((noted_is_more k.view).state_word id place x) ([], refl)

pub keeps_raised : (b : Board) (k l : Knowledge) (id n : ℕ) → IsOf b k → l ≡ knowledge k.table (with_lower k.view id n) → Keeps b k l
keeps_raised b k l id n of is = keeps_step b k l (with_lower k.view id n) of is refl refl ((noted_is_more k.view).lower id n) ([], refl)

pub keeps_sunk : (b : Board) (k l : Knowledge) (id x : ℕ) → IsOf b k → l ≡ knowledge k.table (with_upper k.view id x) → Keeps b k l
keeps_sunk b k l id x of is = keeps_step b k l (with_upper k.view id x) of is refl refl ((noted_is_more k.view).upper id x) ([], refl)

pub keeps_interval : (b : Board) (k l : Knowledge) (id : ℕ) (i : Interval) → IsOf b k → l ≡ knowledge k.table (with_interval k.view id i) → Keeps b k l
keeps_interval b k l id i of is = keeps_step b k l (with_interval k.view id i) of is refl refl
    (has_more_again k.view _ (with_interval k.view id i) ((noted_is_more k.view).lower_load id i.lower) ((noted_is_more _).upper_load id (word_in i))) ([], refl)

pub keeps_lower_load : (b : Board) (k l : Knowledge) (id n : ℕ) → IsOf b k → l ≡ knowledge k.table (with_lower_load k.view id n) → Keeps b k l
keeps_lower_load b k l id n of is = keeps_step b k l (with_lower_load k.view id n) of is refl refl ((noted_is_more k.view).lower_load id n) ([], refl)

pub keeps_upper_load : (b : Board) (k l : Knowledge) (id x : ℕ) → IsOf b k → l ≡ knowledge k.table (with_upper_load k.view id x) → Keeps b k l
keeps_upper_load b k l id x of is = keeps_step b k l (with_upper_load k.view id x) of is refl refl ((noted_is_more k.view).upper_load id x) ([], refl)

pub keeps_count : (b : Board) (k l : Knowledge) (n : ℕ) → IsOf b k → l ≡ knowledge k.table (with_count k.view n) → Keeps b k l
keeps_count b k l n of is = keeps_step b k l (with_count k.view n) of is refl refl ((noted_is_more k.view).count n) (count_looks (nat_eq n k.view.layout.ids) k.view.looks)

-- a pass that has met another
pub meets : (b : Board) (k l m : Knowledge) → IsOf b k → IsOf b l → m ≡ knowledge k.table (united k.view (without_rights l.view))
    → Keeps b k m × HasMore l.view m.view
meets b k l m of other is =
    let both = united_is_more k.view (without_rights l.view) (other.view.problem ∙ sym of.view.problem) (other.view.layout ∙ sym of.view.layout) in (
      keeps_step b k m (united k.view (without_rights l.view)) of is refl (omega arith) both.0 ([], refl),
      subst (λ (n : Knowledge). HasMore l.view n.view) (sym is)
          (has_more_again l.view (without_rights l.view) (united k.view (without_rights l.view)) (noted_is_more l.view).rights both.1),
    )
