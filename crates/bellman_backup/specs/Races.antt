-- Bounds of a pass that races with others.
--     IsReady b k x              a pass and a scratch of the words; the pass may claim an id and knows the starts
--     IsRacing b k x             the same, with ids found by a test
--     Races b k x c l y          the same words, the same pass later, and a scratch of the same problem
--     FoundFull v w              between v and w a look for a state has found the table full
-- The laws of this.
use Rattle.std.proofs.Common.{◌≡◌, ℕ, ◌<◌, [], ◌++◌, refl, sym, ap, ◌∙◌, append_assoc}
use Rattle.std.specs.Prelude.{length, map, nat_eq, true}
use Rattle.std.specs.List.{list_any}
use Rattle.ground_model.specs.declared.start.Start.{Start}
use Rattle.ground_model.specs.Packed.{State}
use Rattle.word_table.specs.declared.view.View.{View}
use Rattle.word_table.specs.view.Views.{knows}
use Rattle.word_table.specs.view.Laws.{HasMore}
use Rattle.word_table.specs.Seen.{Board, Knowledge, IsOf}
use Rattle.state_interner.specs.Interned.{AddsLooks}
use Rattle.bellman_backup.specs.Readings.{WasFull}
use Rattle.bellman_backup.specs.Scratches.{ScratchView, IsScratchOf}

pub record IsReady (b : Board) (k : Knowledge) (x : ScratchView) : Type 0 where
  pub here : IsOf b k
  pub right : 0 < k.view.rights
  pub scratch : IsScratchOf b x
  pub starts : (id : ℕ) → id < length b.problem.starts → knows k.view id

pub record IsRacing (b : Board) (k : Knowledge) (x : ScratchView) : Type 0 where
  pub here : IsOf b k
  pub right : 0 < k.view.rights
  pub scratch : IsScratchOf b x
  pub starts : (id : ℕ) → id < length b.problem.starts → list_any (nat_eq id) k.view.known ≡ true

pub record Races (b : Board) (k : Knowledge) (x : ScratchView) (c : Board) (l : Knowledge) (y : ScratchView) :
    Type 0 where
  pub words : c ≡ b
  pub table : l.table ≡ k.table
  pub live : l.view.live ≡ k.view.live
  pub noted : HasMore k.view l.view
  pub looks : AddsLooks k.view l.view
  pub rights : l.view.rights ≡ k.view.rights
  pub problem : y.problem ≡ x.problem

abbrev pub FoundFull : View → View → Type 0
FoundFull v w = (t : State) × WasFull v t w

pub has_all : (v : View) → HasMore v v
has_all v = record {
  problem = refl;
  layout = refl;
  known = λ id there. there;
  held = λ n there. there;
  words = λ id place x there. there;
  lower = λ n there. there;
  upper = λ n there. there;
}

pub has_more_again : (u v w : View) → HasMore u v → HasMore v w → HasMore u w
has_more_again u v w first second = record {
  problem = second.problem ∙ first.problem;
  layout = second.layout ∙ first.layout;
  known = λ id there. second.known id (first.known id there);
  held = λ n there. second.held n (first.held n there);
  words = λ id place x there. second.words id place x (first.words id place x there);
  lower = λ n there. second.lower n (first.lower n there);
  upper = λ n there. second.upper n (first.upper n there);
}

pub looks_again : (u v w : View) → AddsLooks u v → AddsLooks v w → AddsLooks u w
looks_again u v w first second =
    (second.0 ++ first.0, second.1 ∙ ap (λ ls. second.0 ++ ls) first.1 ∙ sym (append_assoc second.0 first.0 u.looks))

pub full_between : (u v w x : View) (t : State) → HasMore u v → AddsLooks u v → WasFull v t w
    → HasMore w x → AddsLooks w x → WasFull u t x
full_between u v w x t more looks was noted looked = record {
  before = was.before;
  after = was.after;
  noted_before = has_more_again u v was.before more was.noted_before;
  looks_before = looks_again u v was.before looks was.looks_before;
  full = was.full;
  noted_after = has_more_again was.after w x was.noted_after noted;
  looks_after = looks_again was.after w x was.looks_after looked;
}

pub found_full_between : (u v w x : View) → HasMore u v → AddsLooks u v → FoundFull v w
    → HasMore w x → AddsLooks w x → FoundFull u x
found_full_between u v w x more looks was noted looked =
    (was.0, full_between u v w x was.0 more looks was.1 noted looked)

pub races_on : (b : Board) (k : Knowledge) (x : ScratchView) → Races b k x b k x
races_on b k x = record {
  words = refl;
  table = refl;
  live = refl;
  noted = has_all k.view;
  looks = ([], refl);
  rights = refl;
  problem = refl;
}

pub races_again : (b : Board) (k : Knowledge) (x : ScratchView) (c : Board) (l : Knowledge) (y : ScratchView)
    (d : Board) (m : Knowledge) (z : ScratchView) → Races b k x c l y → Races c l y d m z → Races b k x d m z
races_again b k x c l y d m z first second = record {
  words = second.words ∙ first.words;
  table = second.table ∙ first.table;
  live = second.live ∙ first.live;
  noted = has_more_again k.view l.view m.view first.noted second.noted;
  looks = looks_again k.view l.view m.view first.looks second.looks;
  rights = second.rights ∙ first.rights;
  problem = second.problem ∙ first.problem;
}

pub weights_still : (b c : Board) → c ≡ b
    → map (λ (x : Start). x.weight) c.problem.starts ≡ map (λ (x : Start). x.weight) b.problem.starts
weights_still b c same = ap (λ (d : Board). map (λ (x : Start). x.weight) d.problem.starts) same
