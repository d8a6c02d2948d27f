-- Clap takes the words of each command in form, and finds what they give.
use Rattle.std.proofs.Common.{◌≡◌, refl, sym, ap, subst, ◌∙◌, ◌≤◌, ◌⊎◌, inl, inr, Bool, true, false, not, ◌||◌, cond, List, [], ◌∷◌, length, Some, None, arith}
use Rattle.std.specs.Prelude.{find, codes}
use Rattle.std.specs.Str.{bytes_eq}
use Rattle.clap.specs.Walk.{answers_to, idle, subcommand_met}
use Rattle.clap.specs.Simple.{App, built, label_of, names_of, subcommand_of}
use Rattle.clap.specs.Takes.{takes}
use Rattle.plan_request.specs.words.Words.{Text, Item, positionals_of, read}
use Rattle.plan_request.specs.words.Table.{Form, IsTable, bench_form, built_sub, check_form, draw_form, forms, ground_form, merge_form, plan_app, rows_from, serve_form, solve_form, walk_form}
use Rattle.plan_request.proofs.lemmas.words.Single.{and_both, same_text}
use Rattle.plan_request.proofs.lemmas.words.Levels.{IsLeaf, above_entered, above_taken, level_rows, level_taken}
use Rattle.plan_request.proofs.lemmas.words.Rules.{one_table, simple, two_table}

abbrev whole : App
whole = built (plan_app forms)

-- what clap's command has of one of the commands
pub record IsKnown (f : Form) : Type 0 where
  pub table : IsTable (built_sub f).rules f.options f.words
  pub leaf : IsLeaf (built_sub f)
  pub met : subcommand_met (names_of whole) idle f.name ≡ Some f.name
  pub helpless : (not (bytes_eq f.name (codes "help")) || whole.top.disable_help_subcommand) ≡ true
  pub found : find (λ s. answers_to f.name (label_of s)) whole.subs ≡ Some (built_sub f)

solve_known : IsKnown solve_form
solve_known = record { table = one_table solve_form.options (codes "DOMAIN") refl; leaf = record { no_default = refl; defaults_pass = refl; valid = λ rows. refl }; met = refl; helpless = refl; found = refl }

check_known : IsKnown check_form
check_known = record { table = one_table check_form.options (codes "DOMAIN") refl; leaf = record { no_default = refl; defaults_pass = refl; valid = λ rows. refl }; met = refl; helpless = refl; found = refl }

serve_known : IsKnown serve_form
serve_known = record { table = one_table serve_form.options (codes "DOMAIN") refl; leaf = record { no_default = refl; defaults_pass = refl; valid = λ rows. refl }; met = refl; helpless = refl; found = refl }

ground_known : IsKnown ground_form
ground_known = record { table = one_table ground_form.options (codes "DOMAIN") refl; leaf = record { no_default = refl; defaults_pass = refl; valid = λ rows. refl }; met = refl; helpless = refl; found = refl }

bench_known : IsKnown bench_form
bench_known = record { table = two_table (codes "N") (codes "SEED") refl; leaf = record { no_default = refl; defaults_pass = refl; valid = λ rows. refl }; met = refl; helpless = refl; found = refl }

merge_known : IsKnown merge_form
merge_known = record { table = one_table merge_form.options (codes "DOMAIN") refl; leaf = record { no_default = refl; defaults_pass = refl; valid = λ rows. refl }; met = refl; helpless = refl; found = refl }

walk_known : IsKnown walk_form
walk_known = record { table = one_table walk_form.options (codes "DOMAIN") refl; leaf = record { no_default = refl; defaults_pass = refl; valid = λ rows. refl }; met = refl; helpless = refl; found = refl }

draw_known : IsKnown draw_form
draw_known = record { table = one_table draw_form.options (codes "DOMAIN") refl; leaf = record { no_default = refl; defaults_pass = refl; valid = λ rows. refl }; met = refl; helpless = refl; found = refl }

find_step : (g : Form) (rest : List Form) (cmd : Text) (f : Form) → find (λ f. bytes_eq f.name cmd) (g ∷ rest) ≡ Some f
    → ((g ≡ f) × (g.name ≡ cmd)) ⊎ (find (λ f. bytes_eq f.name cmd) rest ≡ Some f)
find_step g rest cmd f e =
    let Found : Bool → Type 0 = λ b. bytes_eq g.name cmd ≡ b → cond b (Some g) (find (λ f. bytes_eq f.name cmd) rest) ≡ Some f → ((g ≡ f) × (g.name ≡ cmd)) ⊎ (find (λ f. bytes_eq f.name cmd) rest ≡ Some f) in
    (elim (bytes_eq g.name cmd) as Found [
      | true ↦ λ h k. inl (let x : Some g ≡ Some f = k in cc, same_text g.name cmd h)
      | false ↦ λ h k. inr k
    ]) refl e

known_as : (g f : Form) (cmd : Text) → IsKnown g → (g ≡ f) × (g.name ≡ cmd) → IsKnown f × (f.name ≡ cmd)
known_as g f cmd k p = (subst IsKnown p.0 k, sym (ap (λ (x : Form). x.name) p.0) ∙ p.1)

pub known_of : (cmd : Text) (f : Form) → find (λ f. bytes_eq f.name cmd) forms ≡ Some f → IsKnown f × (f.name ≡ cmd)
known_of cmd f e = elim (find_step solve_form (check_form ∷ serve_form ∷ ground_form ∷ bench_form ∷ merge_form ∷ walk_form ∷ draw_form ∷ []) cmd f e) [
  | inl p ↦ known_as solve_form f cmd solve_known p
  | inr a ↦ elim (find_step check_form (serve_form ∷ ground_form ∷ bench_form ∷ merge_form ∷ walk_form ∷ draw_form ∷ []) cmd f a) [
    | inl p ↦ known_as check_form f cmd check_known p
    | inr b ↦ elim (find_step serve_form (ground_form ∷ bench_form ∷ merge_form ∷ walk_form ∷ draw_form ∷ []) cmd f b) [
      | inl p ↦ known_as serve_form f cmd serve_known p
      | inr c ↦ elim (find_step ground_form (bench_form ∷ merge_form ∷ walk_form ∷ draw_form ∷ []) cmd f c) [
        | inl p ↦ known_as ground_form f cmd ground_known p
        | inr d ↦ elim (find_step bench_form (merge_form ∷ walk_form ∷ draw_form ∷ []) cmd f d) [
          | inl p ↦ known_as bench_form f cmd bench_known p
          | inr g ↦ elim (find_step merge_form (walk_form ∷ draw_form ∷ []) cmd f g) [
            | inl p ↦ known_as merge_form f cmd merge_known p
            | inr h ↦ elim (find_step walk_form (draw_form ∷ []) cmd f h) [
              | inl p ↦ known_as walk_form f cmd walk_known p
              | inr i ↦ elim (find_step draw_form [] cmd f i) [
                | inl p ↦ known_as draw_form f cmd draw_known p
                | inr none ↦ absurd (let x : None ≡ Some f = none in cc)
              ]
            ]
          ]
        ]
      ]
    ]
  ]
]

module _ (f : Form) (k : IsKnown f) (ws : List Text) (items : List Item) (e : read f.options [] None ws ≡ Some items) (whole_words : length (positionals_of items) ≡ length f.words) where
  fits : length (positionals_of items) ≤ length f.words
  fits = omega arith

  at_taken : takes (plan_app forms) (f.name ∷ ws) ≡ true
  at_taken = and_both _ _ simple (above_taken whole f.name f.name (built_sub f) ws refl k.met k.helpless k.found refl
      (level_taken (built_sub f) f.options f.words k.table k.leaf ws items e fits))

  at_found : subcommand_of (plan_app forms) (f.name ∷ ws) ≡ Some (f.name, rows_from f.words 0 items)
  at_found = above_entered whole f.name f.name (built_sub f) ws refl k.met k.helpless k.found refl
      ∙ ap (λ rows. Some (f.name, rows)) (level_rows (built_sub f) f.options f.words k.table k.leaf ws items e fits)

-- the words of a command in form
pub words_taken : (cmd : Text) (ws : List Text) (f : Form) (items : List Item) → find (λ f. bytes_eq f.name cmd) forms ≡ Some f → read f.options [] None ws ≡ Some items
    → length (positionals_of items) ≡ length f.words
    → (takes (plan_app forms) (cmd ∷ ws) ≡ true) × (subcommand_of (plan_app forms) (cmd ∷ ws) ≡ Some (f.name, rows_from f.words 0 items))
words_taken cmd ws f items at e count =
    let k = known_of cmd f at in
    let Taken : Text → Type 0 = λ c. (takes (plan_app forms) (c ∷ ws) ≡ true) × (subcommand_of (plan_app forms) (c ∷ ws) ≡ Some (f.name, rows_from f.words 0 items)) in
    subst Taken k.1 (at_taken f k.0 ws items e count, at_found f k.0 ws items e count)
