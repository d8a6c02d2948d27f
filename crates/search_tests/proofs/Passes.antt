-- Passes after a step.
use Rattle.std.proofs.Common.{◌≡◌, ℕ, ◌<◌, Some, List, ◌∷◌, length, refl, sym, ap, ◌∙◌, subst, arith}
use Rattle.std.specs.Prelude.{is_some, get_or}
use Rattle.ground_model.specs.Packed.{State}
use Rattle.word_table.specs.declared.layout.Layout.{Layout}
use Rattle.word_table.specs.declared.view.notes.Written.{Written}
use Rattle.word_table.specs.declared.view.View.{View}
use Rattle.word_table.specs.view.Views.{written, written_at, IsReached}
use Rattle.word_table.specs.view.Laws.{HasMore}
use Rattle.word_table.specs.view.Steps.{with_count, with_spare, with_written, with_held, with_published}
use Rattle.word_table.proofs.lemmas.view.Noting.{noted_is_more}
use Rattle.word_table.specs.Seen.{Board, Knowledge, IsOf, HoldsId, HasPublished, knowledge}
use Rattle.bellman_backup.proofs.Stepping.{reached_later}
use Rattle.search_tests.specs.Steps.{CanWalk, IsPrepared}

-- ---- what a step leaves

pub stepped : (b : Board) (k l : Knowledge) (w : View) → IsOf b k → HasMore k.view w → w.live ≡ k.view.live → l ≡ knowledge k.table w
    → IsOf b l × HasMore k.view l.view
stepped b k l w here more live is = subst (λ x. IsOf b x × HasMore k.view x.view) (sym is) (
  record {
    table = here.table;
    view = record {
      live = live ∙ here.view.live;
      problem = more.problem ∙ here.view.problem;
      layout = more.layout ∙ here.view.layout;
    };
  },
  more,
)

pub published_reached : (b : Board) (k l : Knowledge) (bucket : ℕ) (s : State) → IsOf b k → HasPublished k bucket l → IsReached k.view s → IsReached l.view s
published_reached b k l bucket s here is reached =
    reached_later k.view l.view s (stepped b k l (with_published k.view bucket) here ((noted_is_more k.view).published bucket) refl is).1 reached

pub held_reached : (b : Board) (k l : Knowledge) (bucket id : ℕ) (s : State) → IsOf b k → HoldsId b k bucket id l → IsReached k.view s → IsReached l.view s
held_reached b k l bucket id s here holds reached =
    reached_later k.view l.view s (stepped b k l (with_held k.view bucket id) here ((noted_is_more k.view).held bucket id) refl holds.seen).1 reached

one_word : (ds : List Written) (s : State) (word place : ℕ) → length s ≡ 1 → word ≡ get_or s 0 0 → place < length s
    → written_at (written 0 word ∷ ds) place ≡ Some (get_or s place 0)
one_word ds s word place one is below =
    let first : 0 ≡ place = omega arith in
    subst (λ p. written_at (written 0 word ∷ ds) p ≡ Some (get_or s p 0)) first (ap Some is)

pub claimed_is_prepared : (b : Board) (k l m n : Knowledge) (s : State) (count word : ℕ) → CanWalk b k → IsReached k.view s
    → l ≡ knowledge k.table (with_count k.view count) → m ≡ knowledge l.table (with_spare l.view count)
    → n ≡ knowledge m.table (with_written m.view 0 word) → length s ≡ 1 → b.layout.width ≡ 1 → word ≡ get_or s 0 0 → IsPrepared b n s
claimed_is_prepared b k l m n s count word can reached counted claimed wrote one width is =
    let first = stepped b k l (with_count k.view count) can.here ((noted_is_more k.view).count count) refl counted in
    let second = stepped b l m (with_spare l.view count) first.0 ((noted_is_more l.view).spare count) refl claimed in
    let third = stepped b m n (with_written m.view 0 word) second.0 ((noted_is_more m.view).written 0 word) refl wrote in
    let rights : n.view.rights ≡ k.view.rights =
    ap (λ (x : Knowledge). x.view.rights) wrote ∙ (ap (λ (x : Knowledge). x.view.rights) claimed ∙ ap (λ (x : Knowledge). x.view.rights) counted) in
    let spare : n.view.spare ≡ Some count = ap (λ (x : Knowledge). x.view.spare) wrote ∙ ap (λ (x : Knowledge). x.view.spare) claimed in
    let draft : n.view.draft ≡ written 0 word ∷ m.view.draft = ap (λ (x : Knowledge). x.view.draft) wrote in
    let wide : n.view.layout.width ≡ b.layout.width = ap (λ (x : Layout). x.width) third.0.view.layout in record {
      here = third.0;
      right = (let right = can.right in omega arith);
      spare = ap is_some spare;
      written = record {
        whole = one ∙ sym (wide ∙ width);
        words = λ place below. subst (λ ds. written_at ds place ≡ Some (get_or s place 0)) (sym draft) (one_word m.view.draft s word place one is below);
      };
      reached = reached_later m.view n.view s third.1 (reached_later l.view m.view s second.1 (reached_later k.view l.view s first.1 reached));
    }
