-- Transitions that are put behind the others, one by one.
use Rattle.std.proofs.Common.{◌≡◌, ℕ, ◌+◌, ◌*◌, ◌≤◌, ◌^◌, true, false, cond, Some, List, [], ◌∷◌, ◌++◌, length, take, get_or, refl, sym, ap, ◌∙◌, subst, arith}
use Rattle.std.specs.Prelude.{Bool, IsTrue}
use Rattle.std.specs.List.{slice_get}
use Rattle.std.proofs.lemmas.List.{length_push, take_all}
use Rattle.ground_model.specs.declared.action.Choice.{Choice}
use Rattle.ground_model.specs.declared.action.GroundAction.{GroundAction}
use Rattle.ground_model.specs.Packed.{State, has_bit}
use Rattle.ground_model.specs.Choices.{cost_of, next_state}
use Rattle.word_table.specs.declared.view.View.{View}
use Rattle.word_table.specs.Seen.{Board, Knowledge, IsOf}
use Rattle.state_interner.specs.Interned.{IsIdOf}
use Rattle.kept_transitions.specs.declared.kept_action.KeptAction.{KeptAction}
use Rattle.kept_transitions.specs.Idle.{is_idle, moving}
use Rattle.kept_transitions.specs.Rows.{Transitions, AddsAction}
use Rattle.kept_transitions.specs.Meaning.{cost_of_all, HasGrown}
use Rattle.kept_transitions.proofs.Growth.{grown_all, grown_again}
use Rattle.kept_transitions.proofs.Putting.{AllLead, AllStand, action_is_kept, one_moving_more, new_id_leads, own_id_leads, one_more_leads, one_more_stands}
use Rattle.bellman_backup.specs.Backups.{Keeps}
use Rattle.bellman_backup.specs.Kept.{LeadsTo}
use Rattle.bellman_backup.specs.Growing.{HasKeptId, HasKeptChoice, HasKeptAction}
use Rattle.bellman_backup.proofs.Keeping.{keeps_all, keeps_again}
use Rattle.bellman_backup.proofs.KeptRows.{id_later}
use Rattle.bellman_backup.proofs.Summing.{product_within}

-- ---- one choice

pub idle_is_kept : (v : View) (s : State) (c : Choice) (t : Transitions) → is_idle c ≡ true → next_state s c ≡ s → HasKeptChoice v v s c t t
idle_is_kept v s c t idle stays = record {
  count = (let none : moving (c ∷ []) ≡ 0 = ap (λ (b : Bool). cond b 0 1 + 0) idle in omega arith);
  actions = refl;
  leads = λ own is.
      own_id_leads (IsIdOf v) s own c t.ids (length t.ids) idle (subst (λ n. IsIdOf v n own) (sym stays) is);
}

pub id_is_kept : (u v : View) (s : State) (c : Choice) (t w : Transitions) → is_idle c ≡ false → HasKeptId v (next_state s c) t w → HasKeptChoice u v s c t w
id_is_kept u v s c t w moves put = record {
  count = (let one : moving (c ∷ []) ≡ 1 = ap (λ (b : Bool). cond b 0 1 + 0) moves in let long = ap length put.ids ∙ length_push t.ids put.id in omega arith);
  actions = put.actions;
  leads = λ own is. subst (λ xs. LeadsTo v s own xs (length t.ids) c) (sym put.ids)
      (new_id_leads (IsIdOf v) s own c t.ids (length t.ids) put.id moves refl put.is);
}

-- ---- the choices of an action

pub record ChoicesKept (b : Board) (k l : Knowledge) (s : State) (choices : List Choice) (t u : Transitions) (i cost : ℕ) : Type 0 where
  pub keeps : Keeps b k l
  pub loads : l.view.loads ≡ k.view.loads
  pub grown : HasGrown t u
  pub actions : u.actions ≡ t.actions
  pub count : length u.ids ≡ length t.ids + moving (take i choices)
  pub next : (own : ℕ) → IsIdOf k.view s own → AllLead (IsIdOf l.view) s own choices u.ids (length t.ids) i
  pub cost_is : cost ≡ cost_of_all s (take i choices)
  pub room : cost ≤ i * (10 ^ 18 * (11 * 10 ^ 13))

pub choices_begin : (b : Board) (k : Knowledge) (s : State) (choices : List Choice) (t : Transitions) → IsOf b k → ChoicesKept b k k s choices t t 0 0
choices_begin b k s choices t of = record {
  keeps = keeps_all b k of;
  loads = refl;
  grown = grown_all t;
  actions = refl;
  count = omega arith;
  next = λ own is j c below. absurd (omega arith);
  cost_is = refl;
  room = omega arith;
}

module _ (b : Board) (k l m : Knowledge) (s : State) (choices : List Choice) (t u w : Transitions) (i cost weight paid : ℕ) (c : Choice)
    (so : ChoicesKept b k l s choices t u i cost) (keeps : Keeps b l m) (loads : m.view.loads ≡ l.view.loads) (grown : HasGrown u w)
    (put : HasKeptChoice l.view m.view s c u w) (here : slice_get choices i ≡ Some c)
    (costs : cost_of_all s (take (i + 1) choices) ≡ cost_of_all s (take i choices) + c.weight * cost_of (has_bit s) c)
    (weight_is : weight ≡ c.weight) (paid_is : paid ≡ cost_of (has_bit s) c) (small : weight ≤ 10 ^ 18) (within : paid ≤ 10 ^ 13) where
  new_leads : (own : ℕ) → IsIdOf k.view s own → LeadsTo m.view s own w.ids (length t.ids + moving (take i choices)) c
  new_leads own is = subst (λ n. LeadsTo m.view s own w.ids n c) so.count (put.leads own (id_later k.view l.view so.keeps.noted s own is))

  all_lead : (own : ℕ) → IsIdOf k.view s own → AllLead (IsIdOf m.view) s own choices w.ids (length t.ids) (i + 1)
  all_lead own is = subst (λ xs. AllLead (IsIdOf m.view) s own choices xs (length t.ids) (i + 1)) (sym grown.ids)
      (one_more_leads (IsIdOf l.view) (IsIdOf m.view) (id_later l.view m.view keeps.noted) s own choices u.ids grown.more_ids (length t.ids) i c
      (so.next own is) here (subst (λ xs. LeadsTo m.view s own xs (length t.ids + moving (take i choices)) c) grown.ids (new_leads own is)))

  pub choices_go_on : ChoicesKept b k m s choices t w (i + 1) (cost + weight * paid)
  choices_go_on = record {
    keeps = keeps_again b k l m so.keeps keeps;
    loads = loads ∙ so.loads;
    grown = grown_again t u w so.grown grown;
    actions = put.actions ∙ so.actions;
    count = (let n = so.count in let one = put.count in let more = one_moving_more choices i c here in omega arith);
    next = all_lead;
    cost_is = (λ n. so.cost_is n + weight_is n * paid_is n) ∙ sym costs;
    room = (let own = product_within weight paid small (omega arith) in let before = so.room in omega arith);
  }

pub has_action : (b : Board) (k l : Knowledge) (s : State) (code : ℕ) (a : GroundAction) (t u w : Transitions) (i cost : ℕ) (action : KeptAction) (done : Bool)
    → ChoicesKept b k l s a.choices t u i cost → length a.choices ≤ i → slice_get b.problem.actions code ≡ Some a → AddsAction u action done w
    → action.code ≡ code → action.first ≡ length t.ids → action.cost ≡ cost → IsTrue done → HasKeptAction k.view l.view s b.problem code t w
has_action b k l s code a t u w i cost action true so all coded adds code_is first_is cost_is on = record {
  action = action;
  actions = ap (λ (x : Transitions). x.actions) adds ∙ ap (λ xs. xs ++ action ∷ []) so.actions;
  is = λ own is. action_is_kept (IsIdOf l.view) s own b.problem code a u w (length t.ids) i action (so.next own is) all coded code_is first_is
      (cost_is ∙ so.cost_is ∙ ap (cost_of_all s) (take_all i a.choices all)) adds;
}
has_action b k l s code a t u w i cost action false so all coded adds code_is first_is cost_is on = cc

-- ---- the actions of a state

pub record ActionsKept (b : Board) (k l : Knowledge) (s : State) (codes : List ℕ) (t u : Transitions) (i : ℕ) : Type 0 where
  pub keeps : Keeps b k l
  pub loads : l.view.loads ≡ k.view.loads
  pub grown : HasGrown t u
  pub count : length u.actions ≡ length t.actions + i
  pub each : (own : ℕ) → IsIdOf k.view s own → AllStand (IsIdOf l.view) s own b.problem codes u (length t.actions) i

pub actions_begin : (b : Board) (k : Knowledge) (s : State) (codes : List ℕ) (t : Transitions) → IsOf b k → ActionsKept b k k s codes t t 0
actions_begin b k s codes t of = record {
  keeps = keeps_all b k of;
  loads = refl;
  grown = grown_all t;
  count = omega arith;
  each = λ own is j below. absurd (omega arith);
}

module _ (b : Board) (k l m : Knowledge) (s : State) (codes : List ℕ) (t u w : Transitions) (i code : ℕ) (so : ActionsKept b k l s codes t u i)
    (keeps : Keeps b l m) (loads : m.view.loads ≡ l.view.loads) (grown : HasGrown u w) (put : HasKeptAction l.view m.view s b.problem code u w)
    (here : code ≡ get_or codes i 0) where
  pub actions_go_on : ActionsKept b k m s codes t w (i + 1)
  actions_go_on = record {
    keeps = keeps_again b k l m so.keeps keeps;
    loads = loads ∙ so.loads;
    grown = grown_again t u w so.grown grown;
    count = (let n = so.count in let long = ap length put.actions ∙ length_push u.actions put.action in omega arith);
    each = λ own is. one_more_stands (IsIdOf l.view) (IsIdOf m.view) (id_later l.view m.view keeps.noted) s own b.problem codes u w (length t.actions) i code
        put.action (so.each own is) so.count grown put.actions (put.is own (id_later k.view l.view so.keeps.noted s own is)) here;
  }
