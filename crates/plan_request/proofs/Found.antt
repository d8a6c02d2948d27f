-- The command of words in form, and what stands under its names.
use Rattle.std.proofs.Common.{◌≡◌, refl, ap, subst, inl, inr, Bool, true, false, ◌||◌, List, [], ◌∷◌, length, Option, Some, None, lit<}
use Rattle.std.specs.Prelude.{find, codes, nat_eq, option_map, option_and_then}
use Rattle.std.proofs.lemmas.Option.{option_and_then_some, cond_some}
use Rattle.std.specs.Str.{bytes_eq}
use Rattle.plan_request.specs.words.Words.{Text, Item, is_among, positionals_of, read}
use Rattle.plan_request.specs.words.Table.{Form, forms, run_options, solve_form, check_form, serve_form, ground_form, bench_form, merge_form, walk_form, draw_form}
use Rattle.plan_request.specs.words.Scans.{behind_name, formed, if_counted}
use Rattle.plan_request.specs.words.Parses.{HasValues}
use Rattle.plan_request.specs.declared.words.parsing.Parsed.{Parsed}
use Rattle.plan_request.specs.declared.command.Command.{Command}
use Rattle.plan_request.specs.declared.command.Command.TheVariants.{Solve, Check, Serve, Ground, Bench, Merge, Walk, Draw}
use Rattle.plan_request.specs.declared.ends.Ends.{Ends}
use Rattle.plan_request.specs.declared.lower.Lower.{Lower}
use Rattle.plan_request.specs.declared.lower.Lower.TheVariants as lowers
use Rattle.plan_request.specs.Commands.{command_named}
use Rattle.plan_request.specs.Asked.{Given, Solving, progress_of, to_solve, to_serve, to_ground, to_merge, to_walk, to_draw, given_in}
use Rattle.plan_request.specs.Asked.{sources_of, effort_of, sizes_of, lower_of, solving_of, merging_of, walking_of, drawing_of, solved_of, checked_of, benched_of, asked_by}
use Rattle.plan_request.specs.Shown.{given_by}
use Rattle.plan_request.proofs.Options.{chosen}

-- ---- the command

abbrev pub form_of : Command → Form
form_of Solve = solve_form
form_of Check = check_form
form_of Serve = serve_form
form_of Ground = ground_form
form_of Bench = bench_form
form_of Merge = merge_form
form_of Walk = walk_form
form_of Draw = draw_form

behind_is : (ws : List Text) (o : Option Form) (f : Form) (items : List Item) → behind_name ws o ≡ Some (f, items) → o ≡ Some f
behind_is ws None f items e = absurd (cc)
behind_is ws (Some g) f items e =
    option_and_then_some (if_counted g) (read g.options [] None ws) (f, items) e
    (λ is _ counted. let same = (cond_some (nat_eq (length (positionals_of is)) (length g.words)) (g, is) (f, items) counted).1 in ap (λ (p : Form × List Item). Some p.0) same)

command_at : (w : Text) (f : Form) → find (λ f. bytes_eq f.name w) forms ≡ Some f → (c : Command) × (form_of c ≡ f)
command_at w f e =
    elim (chosen (bytes_eq (codes "solve") w) solve_form f _ e) [
      | inl is ↦ (Solve, is)
      | inr a ↦ elim (chosen (bytes_eq (codes "check") w) check_form f _ a) [
        | inl is ↦ (Check, is)
        | inr b ↦ elim (chosen (bytes_eq (codes "serve") w) serve_form f _ b) [
          | inl is ↦ (Serve, is)
          | inr c ↦ elim (chosen (bytes_eq (codes "ground") w) ground_form f _ c) [
            | inl is ↦ (Ground, is)
            | inr d ↦ elim (chosen (bytes_eq (codes "bench") w) bench_form f _ d) [
              | inl is ↦ (Bench, is)
              | inr g ↦ elim (chosen (bytes_eq (codes "merge") w) merge_form f _ g) [
                | inl is ↦ (Merge, is)
                | inr h ↦ elim (chosen (bytes_eq (codes "walk") w) walk_form f _ h) [
                  | inl is ↦ (Walk, is)
                  | inr k ↦ elim (chosen (bytes_eq (codes "draw") w) draw_form f None k) [
                    | inl is ↦ (Draw, is)
                    | inr none ↦ absurd (let x : None ≡ Some f = none in cc)
                  ]
                ]
              ]
            ]
          ]
        ]
      ]
    ]

pub command_of : (ws : List Text) (f : Form) (items : List Item) → formed ws ≡ Some (f, items) → (c : Command) × (form_of c ≡ f)
command_of [] f items e = absurd (let x : None ≡ Some (f, items) = e in cc)
command_of (w ∷ ws) f items e = command_at w f (behind_is ws (find (λ f. bytes_eq f.name w) forms) f items e)

-- ---- what stands under the names

module _ (g h : Given) where
  sources_same : g (codes "DOMAIN") ≡ h (codes "DOMAIN") → g (codes "problem") ≡ h (codes "problem") → g (codes "penalty") ≡ h (codes "penalty")
      → g (codes "step-cost") ≡ h (codes "step-cost") → sources_of g ≡ sources_of h
  unfolding sources_of
  sources_same a b c d = rw (a, b, c, d) refl

  effort_same : g (codes "gap") ≡ h (codes "gap") → g (codes "rounds") ≡ h (codes "rounds") → g (codes "trials") ≡ h (codes "trials")
      → g (codes "depth") ≡ h (codes "depth") → g (codes "tau") ≡ h (codes "tau") → g (codes "seed") ≡ h (codes "seed") → g (codes "ends") ≡ h (codes "ends") → effort_of g ≡ effort_of h
  unfolding effort_of
  effort_same a b c d e f k = rw (a, b, c, d, e, f, k) refl

  sizes_same : g (codes "workers") ≡ h (codes "workers") → g (codes "states") ≡ h (codes "states") → g (codes "sweep-states") ≡ h (codes "sweep-states")
      → (ends : Ends) → sizes_of ends g ≡ sizes_of ends h
  unfolding sizes_of
  sizes_same a b c ends = rw (a, b, c) refl

  solving_same : (lower : Lower) → sources_of g ≡ sources_of h → g (codes "cert") ≡ h (codes "cert") → effort_of g ≡ effort_of h → ((ends : Ends) → sizes_of ends g ≡ sizes_of ends h) → g (codes "progress") ≡ h (codes "progress") → solving_of lower g ≡ solving_of lower h
  unfolding solving_of
  solving_same lower a b c d e =
      (λ j. option_and_then (λ sources. option_and_then (λ certificate. option_and_then (λ effort. option_and_then (λ sizes. option_and_then (λ progress. let s : Solving = record {
        sources = sources;
        certificate = certificate;
        effort = effort;
        sizes = sizes;
        lower = lower;
        progress = progress;
      } in Some s) (progress_of (e j))) (d effort.ends j)) (c j)) (b j)) (a j))

  solved_same : g (codes "lower") ≡ h (codes "lower") → ((lower : Lower) → solving_of lower g ≡ solving_of lower h) → solved_of g ≡ solved_of h
  unfolding solved_of
  solved_same a b =
      (λ j. option_and_then (λ lower. option_and_then (λ s. Some (to_solve s)) (b lower j)) (lower_of (a j)))

  checked_same : sources_of g ≡ sources_of h → g (codes "cert") ≡ h (codes "cert") → checked_of g ≡ checked_of h
  unfolding checked_of
  checked_same a b = rw (a, b) refl

  benched_same : g (codes "N") ≡ h (codes "N") → g (codes "SEED") ≡ h (codes "SEED") → benched_of g ≡ benched_of h
  unfolding benched_of
  benched_same a b = rw (a, b) refl

  merging_same : sources_of g ≡ sources_of h → g (codes "cert") ≡ h (codes "cert") → g (codes "with") ≡ h (codes "with") → g (codes "into") ≡ h (codes "into")
      → merging_of g ≡ merging_of h
  unfolding merging_of
  merging_same a b c d = rw (a, b, c, d) refl

  walking_same : sources_of g ≡ sources_of h → g (codes "cert") ≡ h (codes "cert") → g (codes "seed") ≡ h (codes "seed") → g (codes "walks") ≡ h (codes "walks")
      → g (codes "steps") ≡ h (codes "steps") → walking_of g ≡ walking_of h
  unfolding walking_of
  walking_same a b c d e = rw (a, b, c, d, e) refl

  drawing_same : sources_of g ≡ sources_of h → g (codes "cert") ≡ h (codes "cert") → g (codes "into") ≡ h (codes "into") → g (codes "states") ≡ h (codes "states")
      → drawing_of g ≡ drawing_of h
  unfolding drawing_of
  drawing_same a b c d = rw (a, b, c, d) refl

-- a command with these options that reads a task
abbrev reading : Text → List Text → Form
reading name options = record { name = name; options = options; words = codes "DOMAIN" ∷ [] }

module _ (name : Text) (items : List Item) (p : Parsed) where
  solving_found : (lower : Lower) → HasValues (reading name run_options) items p
      → solving_of lower (given_by p) ≡ solving_of lower (given_in (reading name run_options) items)
  solving_found lower v =
      let g = given_by p in
      let h = given_in (reading name run_options) items in
      solving_same g h lower
      (sources_same g h (v.words 0 (lit< tt)) (v.options (codes "problem") refl) (v.options (codes "penalty") refl) (v.options (codes "step-cost") refl))
      (v.options (codes "cert") refl)
      (effort_same g h (v.options (codes "gap") refl) (v.options (codes "rounds") refl) (v.options (codes "trials") refl) (v.options (codes "depth") refl)
      (v.options (codes "tau") refl) (v.options (codes "seed") refl) (v.options (codes "ends") refl))
      (sizes_same g h (v.options (codes "workers") refl) (v.options (codes "states") refl) (v.options (codes "sweep-states") refl))
      (v.options (codes "progress") refl)

-- what is found under more options is found under fewer
or_right : (a b : Bool) → b ≡ true → (a || b) ≡ true
or_right true b is = refl
or_right false b is = is

fewer : (name option : Text) (options : List Text) (items : List Item) (p : Parsed) → HasValues (reading name (option ∷ options)) items p
    → HasValues (reading name options) items p
fewer name option options items p v = record {
  options = λ n among. v.options n (or_right (bytes_eq option n) (is_among n options) among);
  words = v.words;
}

asked_found : (c : Command) (items : List Item) (p : Parsed) → HasValues (form_of c) items p
    → asked_by (form_of c).name (given_by p) ≡ asked_by (form_of c).name (given_in (form_of c) items)
unfolding command_named
asked_found Solve items p v =
    solved_same (given_by p) (given_in solve_form items) (v.options (codes "lower") refl)
    (λ lower. solving_found (codes "solve") items p lower (fewer (codes "solve") (codes "lower") run_options items p v))
asked_found Serve items p v = ap (option_map to_serve) (solving_found (codes "serve") items p lowers.None v)
asked_found Check items p v =
    let g = given_by p in
    let h = given_in check_form items in
    checked_same g h
    (sources_same g h (v.words 0 (lit< tt)) (v.options (codes "problem") refl) (v.options (codes "penalty") refl) (v.options (codes "step-cost") refl))
    (v.options (codes "cert") refl)
asked_found Ground items p v =
    let g = given_by p in
    let h = given_in ground_form items in
    ap (option_map to_ground)
    (sources_same g h (v.words 0 (lit< tt)) (v.options (codes "problem") refl) (v.options (codes "penalty") refl) (v.options (codes "step-cost") refl))
asked_found Bench items p v = benched_same (given_by p) (given_in bench_form items) (v.words 0 (lit< tt)) (v.words 1 (lit< tt))
asked_found Merge items p v =
    let g = given_by p in
    let h = given_in merge_form items in
    ap (option_map to_merge)
    (merging_same g h
    (sources_same g h (v.words 0 (lit< tt)) (v.options (codes "problem") refl) (v.options (codes "penalty") refl) (v.options (codes "step-cost") refl))
    (v.options (codes "cert") refl) (v.options (codes "with") refl) (v.options (codes "into") refl))
asked_found Walk items p v =
    let g = given_by p in
    let h = given_in walk_form items in
    ap (option_map to_walk)
    (walking_same g h
    (sources_same g h (v.words 0 (lit< tt)) (v.options (codes "problem") refl) (v.options (codes "penalty") refl) (v.options (codes "step-cost") refl))
    (v.options (codes "cert") refl) (v.options (codes "seed") refl) (v.options (codes "walks") refl) (v.options (codes "steps") refl))
asked_found Draw items p v =
    let g = given_by p in
    let h = given_in draw_form items in
    ap (option_map to_draw)
    (drawing_same g h
    (sources_same g h (v.words 0 (lit< tt)) (v.options (codes "problem") refl) (v.options (codes "penalty") refl) (v.options (codes "step-cost") refl))
    (v.options (codes "cert") refl) (v.options (codes "into") refl) (v.options (codes "states") refl))

pub found_asked : (ws : List Text) (f : Form) (items : List Item) (p : Parsed) → formed ws ≡ Some (f, items) → HasValues f items p
    → asked_by f.name (given_by p) ≡ asked_by f.name (given_in f items)
found_asked ws f items p e v =
    let c = command_of ws f items e in
    let Same : Form → Type 0 = λ f. HasValues f items p → asked_by f.name (given_by p) ≡ asked_by f.name (given_in f items) in
    subst Same c.1 (asked_found c.0 items p) v
