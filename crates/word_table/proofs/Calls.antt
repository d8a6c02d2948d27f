-- What a call knows of its words and its pass, and what it leaves.
use Rattle.std.proofs.Common.{◌≡◌, ℕ, ◌<◌, [], Some, None, refl, sym, ap, ◌∙◌, subst, arith}
use Rattle.std.specs.Prelude.{Option}
use Rattle.std.specs.Option.{unwrap_or}
use Rattle.std.proofs.lemmas.List.Elements.{All-cons, All-contains}
use Rattle.atomic_table.specs.Seated.{TableId}
use Rattle.ground_model.specs.Ground.{Ground}
use Rattle.word_table.specs.declared.layout.Layout.{Layout}
use Rattle.word_table.specs.layout.Places.{bucket_at, state_at, lower_at, upper_at, size, IsLayout}
use Rattle.word_table.proofs.lemmas.layout.Places.{state_words_are_within}
use Rattle.word_table.specs.declared.view.View.{View}
use Rattle.word_table.specs.view.Views.{knows}
use Rattle.word_table.specs.view.Steps.{with_held, with_published}
use Rattle.word_table.specs.rule.Laws.{IsViewOf}
use Rattle.word_table.specs.Seen.{Board, Knowledge, board, knowledge, IsOf, IsWithin, HoldsId}
use Rattle.word_table.specs.Plays.{Mine}

-- the pass after a step
pub seen_after : (zs zs' : TableId) (v v' : View) (k : Knowledge) (f : View → View) → knowledge zs v ≡ k → zs' ≡ zs → v' ≡ f v
    → knowledge zs' v' ≡ knowledge k.table (f k.view)
seen_after zs zs' v v' k f is same view =
    (λ t. knowledge (same t) (view t)) ∙ subst (λ (x : Knowledge). knowledge zs (f v) ≡ knowledge x.table (f x.view)) is refl

pub kept_after : (m m' : Mine) (w : View) (spare : Option ℕ) → m' ≡ (w, m.1) → m.1 ≡ [] → spare ≡ w.spare → IsWithin w
    → (m'.1 ≡ []) × (spare ≡ m'.0.spare) × IsWithin m'.0
kept_after m m' w spare is none same within = subst (λ (x : Mine). (x.1 ≡ []) × (spare ≡ x.0.spare) × IsWithin x.0) (sym is) (none, same, within)

module _ (b : Board) (k : Knowledge) (g : Ground) (l : Layout) (most : ℕ) (z : TableId) (zs : TableId) (v : View)
    (words_are : board g l most z ≡ b) (pass_is : knowledge zs v ≡ k) (of : IsOf b k) where
  pub same_table : zs ≡ z
  same_table = ap (λ (x : Knowledge). x.table) pass_is ∙ (of.table ∙ sym (ap (λ (x : Board). x.table) words_are))

  pub own_view : IsViewOf g l v
  own_view = record {
    live = ap (λ (x : Knowledge). x.view.live) pass_is ∙ of.view.live;
    problem = ap (λ (x : Knowledge). x.view.problem) pass_is ∙ (of.view.problem ∙ sym (ap (λ (x : Board). x.problem) words_are));
    layout = ap (λ (x : Knowledge). x.view.layout) pass_is ∙ (of.view.layout ∙ sym (ap (λ (x : Board). x.layout) words_are));
  }

  pub view_of_key : (key_g : Ground) (key_l : Layout) → key_g ≡ g → key_l ≡ l → IsViewOf key_g key_l v
  view_of_key key_g key_l same_g same_l = record {
    live = own_view.live;
    problem = own_view.problem ∙ sym same_g;
    layout = own_view.layout ∙ sym same_l;
  }

  -- what is told of the seat's view is told of the pass
  pub told_of : (T : Ground → View → Type 0) → T v.problem v → T b.problem k.view
  told_of T told = subst (λ p. T p k.view) (own_view.problem ∙ ap (λ (x : Board). x.problem) words_are) (subst (λ (x : Knowledge). T v.problem x.view) pass_is told)

  layout_of : v.layout ≡ b.layout
  layout_of = own_view.layout ∙ ap (λ (x : Board). x.layout) words_are

  -- a bucket was found to hold an id
  pub holds_id : (zs' : TableId) (v' : View) (bucket id : ℕ) → zs' ≡ zs → v' ≡ with_held v bucket id → id < v.layout.ids
      → HoldsId b k bucket id (knowledge zs' v')
  holds_id zs' v' bucket id same view below = record {
    within = subst (λ (m : Layout). id < m.ids) layout_of below;
    seen = seen_after zs zs' v v' k (λ u. with_held u bucket id) pass_is same view;
  }

  -- the number of an id fits 32 bits
  pub id_fits : IsLayout l → (id : ℕ) → id < v.layout.ids → id < 4294967296
  id_fits layout id below =
      let most = layout.ids_within in
      let inside : id < l.ids = subst (λ (m : Layout). id < m.ids) own_view.layout below in omega arith

-- ids that are known are ids of the table, so their words are words of it
pub known_within : (v : View) (l : Layout) (id : ℕ) → v.layout ≡ l → IsWithin v → knows v id → id < l.ids
known_within v l id layout within there = subst (λ (m : Layout). id < m.ids) layout (All-contains (λ i. i < v.layout.ids) v.known id within.known there)

pub spare_within : (v : View) (l : Layout) (id : ℕ) → v.layout ≡ l → IsWithin v → v.spare ≡ Some id → id < l.ids
spare_within v l id layout within mine = subst (λ (m : Layout). id < m.ids) layout (within.spare id mine)

-- the place of a number that words tell is that of their layout
module _ (b : Board) (g : Ground) (l : Layout) (most : ℕ) (z : TableId) (i id : ℕ) (words_are : board g l most z ≡ b) where
  pub lower_of : i ≡ lower_at b.layout id → i ≡ lower_at l id
  lower_of at = at ∙ ap (λ (x : Board). lower_at x.layout id) (sym words_are)

  pub upper_of : i ≡ upper_at b.layout id → i ≡ upper_at l id
  upper_of at = at ∙ ap (λ (x : Board). upper_at x.layout id) (sym words_are)

pub lower_is_a_word : (l : Layout) (i id n : ℕ) → i ≡ lower_at l id → id < l.ids → n ≡ size l → i < n
lower_is_a_word l i id n is below all = omega arith

pub upper_is_a_word : (l : Layout) (i id n : ℕ) → i ≡ upper_at l id → id < l.ids → n ≡ size l → i < n
upper_is_a_word l i id n is below all = omega arith

pub bucket_is_a_word : (l : Layout) (i b n : ℕ) → i ≡ bucket_at b → b < l.buckets → n ≡ size l → i < n
bucket_is_a_word l i b n is below all = omega arith

pub state_is_a_word : (l : Layout) (i id place n : ℕ) → i ≡ state_at l id place → id < l.ids → place < l.width → n ≡ size l → i < n
state_is_a_word l i id place n is below small all = let before = state_words_are_within l id place below small in omega arith

pub count_is_a_word : (l : Layout) (n : ℕ) → n ≡ size l → 0 < n
count_is_a_word l n all = omega arith

-- after a look at a bucket
pub looked_within : (v : View) (bucket id : ℕ) → IsWithin v → id < v.layout.ids → IsWithin (with_held v bucket id)
looked_within v bucket id within below = record {
  known = All-cons (λ i. i < v.layout.ids) id v.known below within.known;
  spare = within.spare;
}

none_is_not_some : (x : ℕ) → None ≡ Some x → ⊥
none_is_not_some x same = cc

pub published_within : (v : View) (bucket id : ℕ) → IsWithin v → v.spare ≡ Some id → IsWithin (with_published v bucket)
published_within v bucket id within spare = record {
  known = All-cons (λ i. i < v.layout.ids) (unwrap_or v.spare 0) v.known
      (subst (λ o. unwrap_or o 0 < v.layout.ids) (sym spare) (within.spare id spare)) within.known;
  spare = λ i its. absurd (none_is_not_some i its);
}
