-- The board with the starts shows the core with which a run begins, and this is sound.
use Rattle.std.proofs.Common.{◌≡◌, ◌≢◌, ℕ, suc, zero, ◌+◌, ◌<◌, ◌≤◌, min, max, cond, Bool, true, false, ◌||◌, List, [], ◌∷◌, length, map, None, Some, refl, sym, ap, subst, inl, inr, ◌∙◌, arith}
use Rattle.std.specs.Prelude.{Option, All, AllPairs, Contains, nat_lt, option_map}
use Rattle.std.specs.Option.{unwrap_or}
use Rattle.std.specs.List.{slice_get, range_with_len}
use Rattle.std.specs.Cmp.Lexicographic.{bytes_decides}
use Rattle.std.proofs.lemmas.Bool.{cases_Bool, cases_eq, cases_lt, eq-eqb, ne_eqb, lt-ltb, le-ltb}
use Rattle.std.proofs.lemmas.List.{length-map, get_or-map}
use Rattle.std.proofs.lemmas.List.Elements.{All-cons, All-nil, Contains-append_left}
use Rattle.std.proofs.lemmas.Option.{slice_get-map}
use Rattle.plain_list.proofs.Members.{Contains-map, Contains-map_cases}
use Rattle.decision_process.specs.Process as processes
use Rattle.decision_process.specs.Levels.{IsReachable}
use Rattle.ground_model.specs.declared.start.Start.{Start}
use Rattle.ground_model.specs.Packed.{State, same_state}
use Rattle.ground_model.specs.Ground.{Ground}
use Rattle.ground_model.specs.Invariant.{IsInside, IsGroundProblem}
use Rattle.ground_model.specs.Steps.{start_of, ground_process, ground_starts}
use Rattle.ground_model.proofs.Packed.{length-inside}
use Rattle.bound_core.specs.declared.id_row.IdRow.{IdRow}
use Rattle.bound_core.specs.declared.worker.Seen.{Seen}
use Rattle.bound_core.specs.declared.worker.Worker.{Worker}
use Rattle.bound_core.specs.Numbers.{first_word}
use Rattle.bound_core.specs.Core.{first_sight, first_core}
use Rattle.bound_core.specs.Sound.{Sound}
use Rattle.bound_core.specs.Shown.{state_in, published_state, is_of, lower_in, upper_in, seen_lower_in, seen_upper_in, word_in, sight_in}
use Rattle.bound_core.proofs.Keeping.{first_is_sound}
use Rattle.core_run.specs.declared.board.Board.{Board}
use Rattle.core_run.specs.Merged.{knows_in}
use Rattle.core_run.specs.Began.{start_row, unseen}
use Rattle.core_run.specs.Boards.{core_of, IsFormedRow, IsFormed}
use Rattle.core_run.specs.Run.{start_states, begun}
use Rattle.core_run.proofs.Shown.{sight_equal, core_equal}
use Rattle.core_run.proofs.Simulation.{show, show_same}

unwritten : (s : State) → map (λ (o : Option ℕ). unwrap_or o 0) (map (λ (word : ℕ). Some word) s) ≡ s
unwritten [] = refl
unwritten (word ∷ s) = ap (λ l. word ∷ l) (unwritten s)

states_again : (g : Ground) (states : List State) → map state_in (map (start_row g) states) ≡ states
states_again g [] = refl
states_again g (s ∷ states) = ap (λ t. t ∷ map state_in (map (start_row g) states)) (unwritten s) ∙ ap (λ l. s ∷ l) (states_again g states)

shown_state : (g : Ground) (o : Option State) → published_state (option_map (start_row g) o) ≡ o
shown_state g None = refl
shown_state g (Some s) = ap Some (unwritten s)

no_lower : (g : Ground) (states : List State) (t : State) → lower_in (map (start_row g) states) t ≡ 0
no_lower g [] t = refl
no_lower g (s ∷ states) t =
    ap (λ m. cond (is_of (Some (start_row g s)) t) (max m 0) m) (no_lower g states t) ∙ either (is_of (Some (start_row g s)) t)
  where
    either : (b : Bool) → cond b (max 0 0) 0 ≡ 0
    either true = refl
    either false = refl

first_upper : (g : Ground) (states : List State) (t : State) → upper_in (first_word g t) (map (start_row g) states) t ≡ first_word g t
first_upper g [] t = refl
first_upper g (s ∷ states) t =
    ap (λ m. cond (is_of (Some (start_row g s)) t) (min m (first_word g s)) m) (first_upper g states t)
    ∙ elim (cases_Bool (same_state (state_in (start_row g s)) t)) [
      | inl on ↦
          let same : s ≡ t = sym (unwritten s) ∙ (bytes_decides (state_in (start_row g s)) t).0 on in
          let both : min (first_word g t) (first_word g s) ≡ first_word g t = (let e : first_word g s ≡ first_word g t = ap (first_word g) same in omega arith) in
          ap (λ b. cond b (min (first_word g t) (first_word g s)) (first_word g t)) on ∙ both
      | inr off ↦ ap (λ b. cond b (min (first_word g t) (first_word g s)) (first_word g t)) off
    ]

abbrev pub none_seen : ℕ → Seen
none_seen id = record { id = id; lower = None; upper = None }

known_within : (a n id : ℕ) → a ≤ id → id < a + n → knows_in (map none_seen (range_with_len a n)) id ≡ true
known_within a zero id first last = absurd (omega arith)
known_within a (suc n) id first last = elim (cases_eq a id) [
  | inl same ↦ ap (λ b. b || knows_in (map none_seen (range_with_len (a + 1) n)) id) (eq-eqb a id same)
  | inr apart ↦
      ap (λ b. b || knows_in (map none_seen (range_with_len (a + 1) n)) id) (ne_eqb a id apart)
      ∙ known_within (a + 1) n id (omega arith) (omega arith)
]

unknown_past : (a n id : ℕ) → a + n ≤ id → knows_in (map none_seen (range_with_len a n)) id ≡ false
unknown_past a zero id past = refl
unknown_past a (suc n) id past =
    ap (λ b. b || knows_in (map none_seen (range_with_len (a + 1) n)) id) (ne_eqb a id (λ same. omega arith))
    ∙ unknown_past (a + 1) n id (omega arith)

known_first : (n id : ℕ) → knows_in (unseen n) id ≡ nat_lt id n
known_first n id = elim (cases_lt id n) [
  | inl below ↦ known_within 0 n id (omega arith) (omega arith) ∙ sym (lt-ltb id n below)
  | inr above ↦ unknown_past 0 n id (omega arith) ∙ sym (le-ltb id n above)
]

unseen_lower : (ids : List IdRow) (a n : ℕ) (t : State) → seen_lower_in ids (map none_seen (range_with_len a n)) t ≡ 0
unseen_lower ids a zero t = refl
unseen_lower ids a (suc n) t =
    ap (λ m. cond (is_of (slice_get ids a) t) (max m 0) m) (unseen_lower ids (a + 1) n t) ∙ either (is_of (slice_get ids a) t)
  where
    either : (b : Bool) → cond b (max 0 0) 0 ≡ 0
    either true = refl
    either false = refl

unseen_upper : (ids : List IdRow) (first a n : ℕ) (t : State) → seen_upper_in ids first (map none_seen (range_with_len a n)) t ≡ first
unseen_upper ids first a zero t = refl
unseen_upper ids first a (suc n) t =
    ap (λ m. cond (is_of (slice_get ids a) t) (min m first) m) (unseen_upper ids first (a + 1) n t) ∙ either (is_of (slice_get ids a) t)
  where
    either : (b : Bool) → cond b (min first first) first ≡ first
    either true = omega arith
    either false = refl

module _ (g : Ground) where
  abbrev rows_of : List State → List IdRow
  rows_of states = map (start_row g) states

  first_worker : (states : List State) (w : Worker) → w.live ≡ true → w.seen ≡ unseen (length states) → w.spare ≡ None
      → sight_in (rows_of states) g w ≡ first_sight g states
  first_worker states w live seen spare = sight_equal (sight_in (rows_of states) g w) (first_sight g states) live
      (λ id. ap (λ l. knows_in l id) seen ∙ known_first (length states) id)
      (λ t. ap (λ l. seen_lower_in (rows_of states) l t) seen ∙ unseen_lower (rows_of states) 0 (length states) t)
      (λ t. ap (λ l. seen_upper_in (rows_of states) (first_word g t) l t) seen ∙ unseen_upper (rows_of states) (first_word g t) 0 (length states) t)
      spare (λ place. ap (λ s. word_in (rows_of states) s place) spare)

  starts_shown : (states : List State) (w : Worker) → w.live ≡ true → w.seen ≡ unseen (length states) → w.spare ≡ None
      → show g (rows_of states) (w ∷ []) ≡ first_core g states
  starts_shown states w live seen spare = core_equal (show g (rows_of states) (w ∷ [])) (first_core g states)
      (length-map states (start_row g))
      (λ id. ap published_state (slice_get-map (start_row g) states id) ∙ shown_state g (slice_get states id))
      (no_lower g states) (first_upper g states) (ap (λ v. v ∷ []) (first_worker states w live seen spare))

  rows_formed : (starts : List Start) → All (IsInside (length g.atoms)) starts → All (IsFormedRow g) (rows_of (map (λ (x : Start). x.state) starts))
  rows_formed [] inside = All-nil (IsFormedRow g)
  rows_formed (x ∷ starts) inside = All-cons (IsFormedRow g) (start_row g x.state) (rows_of (map (λ (y : Start). y.state) starts))
      (record {
        whole = length-map x.state (λ (word : ℕ). Some word) ∙ length-inside (length g.atoms) x.state (inside 0 x (omega arith));
        lower = λ never. absurd cc;
        upper = λ never. absurd cc;
      })
      (rows_formed starts (λ i d within. inside (suc i) d (omega arith)))

  pub begins : IsGroundProblem g → (b : Board) (w : Worker) → b.ids.items ≡ rows_of (start_states g) → b.states.items ≡ start_states g
      → b.workers.items ≡ w ∷ [] → w.live ≡ true → w.seen ≡ unseen (length g.starts) → w.spare ≡ None
      → (core_of g b ≡ begun g) × IsFormed g b
  begins is b w ids states workers live seen spare = (
    show_same g (rows_of (start_states g)) b.ids.items (w ∷ []) b.workers.items ids workers
        ∙ starts_shown (start_states g) w live (seen ∙ ap unseen (sym (length-map g.starts (λ (x : Start). x.state)))) spare,
    record {
      states = states ∙ sym (states_again g (start_states g)) ∙ ap (map state_in) (sym ids);
      rows = subst (λ l. All (IsFormedRow g) l) (sym ids) (rows_formed g.starts is.starts_inside);
    },
  )

  start_reached : (s : State) → Contains (start_states g) s → IsReachable (ground_process g) (ground_starts g) s
  start_reached s inside =
      let found = Contains-map_cases (λ (x : Start). x.state) g.starts s inside in (
        1,
        Contains-append_left (map (λ (x : processes.Start State). x.state) (ground_starts g)) [] s
            (subst (λ t. Contains (map (λ (x : processes.Start State). x.state) (ground_starts g)) t) found.2
            (Contains-map (λ (x : processes.Start State). x.state) (ground_starts g) (start_of found.0) (Contains-map start_of g.starts found.0 found.1))),
      )

  starts_apart : IsGroundProblem g → AllPairs (λ (s t : State). s ≢ t) (start_states g)
  starts_apart is i j d before within same =
      let x : Start = record { weight = 0; state = d } in
      let count : length (start_states g) ≡ length g.starts = length-map g.starts (λ (y : Start). y.state) in
      let inside : j < length g.starts = subst (λ n. j < n) count within in
      let first = get_or-map (λ (y : Start). y.state) g.starts i x d (omega arith) in
      let second = get_or-map (λ (y : Start). y.state) g.starts j x d inside in
      is.starts_differ i j x before inside (sym first ∙ same ∙ second)

  pub begun_is_sound : IsGroundProblem g → Sound g (begun g)
  begun_is_sound is = first_is_sound g (start_states g) (starts_apart is) start_reached
