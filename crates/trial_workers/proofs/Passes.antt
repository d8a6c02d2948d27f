-- The same pass later, and what a meeting brings.
use Rattle.std.proofs.Common.{◌≡◌, ℕ, ◌+◌, ◌-◌, ◌≤◌, [], refl, sym, ◌∙◌, subst, arith}
use Rattle.fixed_round.specs.Words.{value_of}
use Rattle.ground_model.specs.Packed.{State}
use Rattle.ground_model.specs.Ground.{Ground}
use Rattle.ground_model.specs.Steps.{ground_process}
use Rattle.decision_process.specs.sweeps.Sweeps as sweeps
use Rattle.decision_process.proofs.lemmas.sweeps.Rounds.{wider_is_backed_up}
use Rattle.word_table.specs.declared.view.View.{View}
use Rattle.word_table.specs.view.Views.{seen_lower, seen_upper}
use Rattle.word_table.specs.view.Laws.{HasMore, IsLater}
use Rattle.word_table.specs.view.Steps.{united, without_rights}
use Rattle.word_table.proofs.lemmas.view.Seen.{more_is_later}
use Rattle.word_table.proofs.lemmas.view.Noting.{noted_is_more, united_is_more}
use Rattle.word_table.specs.Seen.{Board, Knowledge, knowledge, IsOf, with_rights}
use Rattle.bellman_backup.specs.Scratches.{ScratchView, IsScratchOf}
use Rattle.bellman_backup.specs.Races.{IsReady, Races, has_all, has_more_again, looks_again}
use Rattle.bellman_backup.specs.Backups.{Keeps, Narrows}
use Rattle.bellman_backup.specs.means.Means.{seen_value}
use Rattle.trial_workers.specs.Workers.{Stays}

-- ---- the same pass later

pub stays_all : (b : Board) (k : Knowledge) → IsOf b k → Stays b k k
stays_all b k here = record { here = here; noted = has_all k.view; looks = ([], refl); rights = refl }

pub stays_again : (b : Board) (k l m : Knowledge) → Stays b k l → Stays b l m → Stays b k m
stays_again b k l m first second = record {
  here = second.here;
  noted = has_more_again k.view l.view m.view first.noted second.noted;
  looks = looks_again k.view l.view m.view first.looks second.looks;
  rights = second.rights ∙ first.rights;
}

pub keeps_stays : (b : Board) (k l : Knowledge) → Keeps b k l → Stays b k l
keeps_stays b k l keeps = record { here = keeps.here; noted = keeps.noted; looks = keeps.looks; rights = keeps.rights }

-- ---- meetings

pub meets : (b : Board) (k l m : Knowledge) → IsOf b k → IsOf b l → m ≡ knowledge k.table (united k.view (without_rights l.view))
    → Stays b k m × HasMore l.view m.view
meets b k l m of other is =
    let both = united_is_more k.view (without_rights l.view) (other.view.problem ∙ sym of.view.problem) (other.view.layout ∙ sym of.view.layout) in
    subst (λ n. Stays b k n × HasMore l.view n.view) (sym is) (
      record {
        here = record { table = of.table; view = record { live = of.view.live; problem = of.view.problem; layout = of.view.layout } };
        noted = both.0;
        looks = ([], refl);
        rights = (let r : k.view.rights + 0 ≡ k.view.rights = omega arith in r);
      },
      has_more_again l.view (without_rights l.view) (united k.view (without_rights l.view)) (noted_is_more l.view).rights both.1,
    )

-- ---- what was backed up stays so

value_rises : (x y : ℕ) → x ≤ y → value_of x ≤ value_of y
value_rises x y below = omega arith

pub seen_value_falls : (v w : View) → IsLater v w → (s : State) → seen_value w s ≤ seen_value v s
seen_value_falls v w later s = value_rises (seen_upper w s) (seen_upper v s) (later.upper s)

pub narrows_wider : (g : Ground) (u v w x : View) (id : ℕ) → HasMore u v → HasMore w x → Narrows g v w id → Narrows g u x id
narrows_wider g u v w x id before after narrows s has =
    let earlier = more_is_later u v before in let later = more_is_later w x after in
    let b = narrows s (earlier.states id s has) in
    let there : sweeps.IsBackedUp (ground_process g) (seen_lower v) (seen_value v) (seen_lower w) (seen_value w) s = record { lower = b.lower; upper = b.upper } in
    let here = wider_is_backed_up (ground_process g) (seen_lower v) (seen_value v) (seen_lower w) (seen_value w)
    (seen_lower u) (seen_value u) (seen_lower x) (seen_value x) earlier.lower (seen_value_falls u v earlier) later.lower (seen_value_falls w x later) s there in
    record { lower = here.lower; upper = here.upper }

-- ---- the pass of a trial's bounds

pub same_rights : (k : Knowledge) → knowledge k.table (with_rights (k.view.rights - 0) k.view) ≡ k
same_rights k = (λ t. knowledge k.table (with_rights ((let e : k.view.rights - 0 ≡ k.view.rights = omega arith in e) t) k.view))

pub own_is_ready : (b : Board) (k l : Knowledge) (x : ScratchView) → l ≡ k → IsReady b k x → IsReady b l x
own_is_ready b k l x same ready = subst (λ m. IsReady b m x) (sym same) ready

pub raced_stays : (b : Board) (k : Knowledge) (x : ScratchView) (c : Board) (l : Knowledge) (y : ScratchView) (d : Board) (m : Knowledge) (z : ScratchView) → IsOf b k
    → c ≡ b → l ≡ k → Races c l y d m z → Stays b k m
raced_stays b k x c l y d m z of board pass races =
    let here : IsOf b l = subst (IsOf b) (sym pass) of in
    subst (λ n. Stays b n m) pass (record {
      here = record {
        table = races.table ∙ here.table;
        view = record { live = races.live ∙ here.view.live; problem = races.noted.problem ∙ here.view.problem; layout = races.noted.layout ∙ here.view.layout };
      };
      noted = races.noted;
      looks = races.looks;
      rights = races.rights;
    })

pub raced_is_of : (b : Board) (c : Board) (l : Knowledge) (y : ScratchView) (d : Board) (m : Knowledge) (z : ScratchView)
    → c ≡ b → Races c l y d m z → IsScratchOf d z → IsScratchOf b z
raced_is_of b c l y d m z board races of = subst (λ x. IsScratchOf x z) (races.words ∙ board) of
