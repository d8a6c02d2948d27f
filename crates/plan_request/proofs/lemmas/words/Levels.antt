-- What clap makes of a command's words at its own level, and of the words with the command before them.
use Rattle.std.proofs.Common.{◌≡◌, refl, sym, ap, ◌∙◌, ◌≤◌, true, false, not, ◌||◌, cond, List, [], ◌∷◌, ◌++◌, length, Some, None, arith}
use Rattle.std.specs.Prelude.{fold, codes, is_some, find}
use Rattle.std.specs.List.{list_all}
use Rattle.std.proofs.lemmas.Bool.{eqb-true}
use Rattle.std.specs.Str.{bytes_eq}
use Rattle.clap.specs.Walk.{Names, Rule, Row, Walk, answers_to, default_rows, finished, has_row, idle, is_empty, nothing_held, rows_after, subcommand_met, walk, walk_from, walked, with_default}
use Rattle.clap.specs.Takes.{built_takes, default_passes, entered_passes, is_valid, level_passes, settle_passes, turn_passes, walk_passes}
use Rattle.clap.specs.Simple.{App, Shape, entered, label_of, names_of, rows_at}
use Rattle.clap.proofs.WalkLemmas.{walk_stopped}
use Rattle.plan_request.specs.words.Words.{Text, Item, read, positionals_of}
use Rattle.plan_request.specs.words.Table.{IsTable, rows_from}
use Rattle.plan_request.proofs.lemmas.words.Single.{and_both, and_parts}
use Rattle.plan_request.proofs.lemmas.words.Walks.{IsRead, quiet, read_quiet}

-- no rule has a default
no_defaults : (c : List Rule) (rows : List Row) → list_all (λ a. is_empty a.defaults) c ≡ true → fold with_default rows c ≡ rows
no_defaults [] rows e = refl
no_defaults (a ∷ c) rows e =
    let p = and_parts (is_empty a.defaults) _ e in
    let same : with_default rows a ≡ rows = default_none rows a p.0 in
    ap (λ r. fold with_default r c) same ∙ no_defaults c rows p.1
  where
    none : (a : Rule) (defaults : List Text) (rows : List Row) → is_empty defaults ≡ true → default_rows a.id (Rattle.clap.specs.Walk.reading_by a) defaults rows ≡ rows
    none a [] rows e = refl
    none a (d ∷ ds) rows e = absurd (let z = eqb-true (length (d ∷ ds)) 0 e in omega arith)

    default_none : (rows : List Row) (a : Rule) → is_empty a.defaults ≡ true → with_default rows a ≡ rows
    default_none rows a e = (elim (has_row a.id rows) as (λ b. cond b rows (default_rows a.id (Rattle.clap.specs.Walk.reading_by a) a.defaults rows) ≡ rows) [
      | true ↦ refl
      | false ↦ none a a.defaults rows e
    ])

-- ---- the level of a command

-- what a command's shape needs beside its rules
pub record IsLeaf (s : Shape) : Type 0 where
  pub no_default : list_all (λ a. is_empty a.defaults) s.rules ≡ true
  pub defaults_pass : list_all default_passes s.rules ≡ true
  pub valid : (rows : List Row) → is_valid s rows false ≡ true

module _ (s : Shape) (os ps : List Text) (t : IsTable s.rules os ps) (l : IsLeaf s) (ws : List Text) (items : List Item)
    (e : read os [] None ws ≡ Some items) (fits : length (positionals_of items) ≤ length ps) where
  taken : IsRead s os ps t (quiet nothing_held 0) ws (rows_from ps 0 items)
  taken = read_quiet s os ps t ws [] nothing_held 0 items e refl (record { named = λ n a b. refl; placed = λ j le lt. refl }) (omega arith)

  pub level_rows : rows_after s.rules [] ws ≡ rows_from ps 0 items
  level_rows = no_defaults s.rules _ l.no_default ∙ taken.holds

  pub level_taken : level_passes s [] nothing_held ws false ≡ true
  level_taken = and_both _ _ taken.turns (and_both _ _ taken.settles (and_both _ _ l.defaults_pass (l.valid (finished s.rules (walk s.rules [] nothing_held ws).held))))

-- ---- the level above

stopped_passes : (s : Shape) (names : Names) (w : Walk) (p : Text × List Text) (ws : List Text) → walk_passes s names (record w { stopped = Some p }) ws ≡ true
unfolding walk_passes walked
stopped_passes s names w p [] = refl
stopped_passes s names w p (x ∷ ws) = stopped_passes s names w (p.0, p.1 ++ x ∷ []) ws

module _ (b : App) (cmd name : Text) (s : Shape) (ws : List Text) (bare : b.top.rules ≡ []) (met : subcommand_met (names_of b) idle cmd ≡ Some name)
    (helpless : (not (bytes_eq name (codes "help")) || b.top.disable_help_subcommand) ≡ true) (found : find (λ s. answers_to name (label_of s)) b.subs ≡ Some s)
    (valid : is_valid b.top [] true ≡ true) where
  first : walked b.top.rules (names_of b) (walk_from nothing_held) cmd ≡ record (walk_from nothing_held) { stopped = Some (name, []) }
  unfolding walked
  first = rw met refl

  above : walk b.top.rules (names_of b) nothing_held (cmd ∷ ws) ≡ record (walk_from nothing_held) { stopped = Some (name, ws) }
  above = ap (λ w. fold (walked b.top.rules (names_of b)) w ws) first ∙ sym (walk_stopped b.top.rules (names_of b) (walk_from nothing_held) name [] ws)

  pub above_entered : entered b (walk b.top.rules (names_of b) nothing_held (cmd ∷ ws)).stopped ≡ Some (rows_at s ws)
  above_entered = rw (above, found) refl

  above_turns : walk_passes b.top (names_of b) (walk_from nothing_held) (cmd ∷ ws) ≡ true
  unfolding walk_passes
  above_turns =
      let turn : turn_passes b.top (names_of b) (walk_from nothing_held) cmd ≡ true = rw (met, helpless) refl in
      and_both _ _ turn (rw first (stopped_passes b.top (names_of b) (walk_from nothing_held) (name, []) ws))

  pub above_taken : level_passes s [] nothing_held ws false ≡ true → built_takes b nothing_held (cmd ∷ ws) ≡ true
  above_taken level =
      let all : List Text = cmd ∷ ws in
      let w : Walk = walk b.top.rules (names_of b) nothing_held all in
      let rows_are : finished b.top.rules w.held ≡ [] = rw above (rw bare refl) in
      let below : entered_passes b w.stopped ≡ true = rw (above, found) level in
      let there : is_some (entered b w.stopped) ≡ true = ap is_some above_entered in
      let settles : settle_passes b.top.rules b.top.args_override_self w.held ≡ true = rw above refl in
      let defaults : list_all default_passes b.top.rules ≡ true = rw bare refl in
      let valid_here : is_valid b.top (finished b.top.rules w.held) (is_some (entered b w.stopped)) ≡ true = rw (rows_are, there) valid in
      and_both _ _ below (and_both _ _ above_turns (and_both _ _ settles (and_both _ _ defaults valid_here)))
