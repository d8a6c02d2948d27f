-- The search for the states that a policy reaches finds them breadth first.
use Rattle.std.proofs.Common.{◌≡◌, inl, inr, ℕ, suc, zero, ◌+◌, ◌<◌, ◌≤◌, false, cond, ◌||◌, Bool, List, [], ◌∷◌, ◌++◌, Option, Some, length, take, get_or, sym, ap, subst, ◌∙◌, arith}
use Rattle.std.specs.Prelude.{Contains, nat_le, AllPairs, min, ◌≢◌}
use Rattle.std.specs.List.{list_any, slice_get}
use Rattle.std.proofs.lemmas.Bool.{cases_Bool, cases_lt, le-leb, lt-leb}
use Rattle.std.proofs.lemmas.List.{get_or-map, get_or-take, length-append, length-map, length-take-le}
use Rattle.std.proofs.lemmas.List.Elements.{Contains-append_left, Contains-append_right, Contains-append_cases}
use Rattle.std.proofs.lemmas.Option.{get_or_from_slice_get, slice_get_within, slice_get-get_or}
use Rattle.plain_list.specs.weighted.Chances.{IsExact}
use Rattle.plain_list.proofs.Members.{Contains-first, Contains-later, Contains-cons_cases, Contains-nil, Contains-map, Contains-map_cases}
use Rattle.decision_process.specs.Process.{Process, Outcome, Start}
use Rattle.policy_graph.specs.Reached.{followed, Leads, IsReachedIn, IsReached, IsNoFarther}
use Rattle.policy_graph.specs.Graph.{HasStartsFirst, IsDrawn}
use Rattle.policy_graph.specs.Search.{noted, noted_all, nexts, start_states, first_states, IsSearched}
use Rattle.policy_graph.proofs.Growing.{at_left, at_end, differ_more, not_before, any_in, none_in, in_or_out}

module _ {S A : Type 0} (p : Process S A) (policy : S → Option A) (starts : List (Start S)) (most : ℕ) where
  abbrev Found : List S → ℕ → Type 0
  Found states done = IsSearched p policy starts most states done

  -- each start is found while there is room
  start_in : (states : List S) → HasStartsFirst p policy starts most states → length states < most
      → (start : Start S) → Contains starts start → Contains states start.state
  start_in states first room start (i, within, is) =
      let at : slice_get starts i ≡ Some start = slice_get-get_or starts i start within ∙ ap Some is in
      elim (cases_lt i most) [
        | inl below ↦
            let there : slice_get states i ≡ Some start.state = first i start below at in
            (i, slice_get_within states i start.state there, get_or_from_slice_get states i start.state start.state there)
        | inr past ↦
            let n = length states in
            let inside : n < length starts = omega (arith, past, room, within) in
            let other = get_or starts n start in
            let there : slice_get states n ≡ Some other.state = first n other room (slice_get-get_or starts n start inside) in
            let wrong : n < length states = slice_get_within states n other.state there in
            absurd (omega (arith, wrong))
      ]

  module _ (same : S → S → Bool) (exact : IsExact same) where
    -- whatever is not found yet lies behind the first state whose next ones are not all found
    module _ (states : List S) (k : ℕ) (r : S) (found : Found states k) (at : slice_get states k ≡ Some r) (room : length states < most) where
      behind : (n : ℕ) (t : S) → IsReachedIn p policy starts n t → (Contains states t → ⊥)
          → (m : ℕ) × (suc m ≤ n) × IsReachedIn p policy starts m r
      behind zero t (start, inside, likely, is) out =
          absurd (out (subst (Contains states) is (start_in states found.starts_first room start inside)))
      behind (suc n) t (u, reached, leads) out = elim (in_or_out same exact states u) [
        | inl inside ↦
            let i = inside.0 in let within = inside.1 in let here = inside.2 in
            let there : slice_get states i ≡ Some u = slice_get-get_or states i u within ∙ ap Some here in
            elim (cases_lt i k) [
              | inl below ↦ absurd (out (found.closed room i u t below there leads))
              | inr past ↦
                  let near : (m : ℕ) × (m ≤ n) × IsReachedIn p policy starts m r
                  = found.breadth_first k r u at (not_before states found.distinct k i u past within here) n reached in
                  (near.0, omega (arith, near.1), near.2)
            ]
        | inr outside ↦
            let rest : (m : ℕ) × (suc m ≤ n) × IsReachedIn p policy starts m r = behind n u reached outside in
            (rest.0, omega (arith, rest.1), rest.2)
      ]

      next_near : (s : S) → Leads p policy r s → (t : S) → (Contains states t → ⊥) → IsNoFarther p policy starts s t
      next_near s leads t out = λ n reached.
          let near : (m : ℕ) × (suc m ≤ n) × IsReachedIn p policy starts m r = behind n t reached out in
          (suc near.0, near.1, (r, near.2, leads))

    -- ---- one state more

    record IsGrown (states states' : List S) (done : ℕ) : Type 0 where
      found : Found states' done
      keeps : (i : ℕ) (x : S) → slice_get states i ≡ Some x → slice_get states' i ≡ Some x
      holds : (x : S) → Contains states x → Contains states' x
      longer : length states ≤ length states'

    module _ (states : List S) (done : ℕ) (found : Found states done) (within : done ≤ length states) (s : S) where
      longer_one : length (states ++ s ∷ []) ≡ length states + 1
      longer_one = length-append states (s ∷ [])

      pushed : length states < most → (Contains states s → ⊥) → IsReached p policy starts s
          → ((t : S) → (Contains states t → ⊥) → IsNoFarther p policy starts s t) → Found (states ++ s ∷ []) done
      pushed room new reached near = record {
        distinct = differ_more states s found.distinct new;
        few = omega (arith, room, longer_one);
        reached = λ x inside. elim (Contains-append_cases states (s ∷ []) x inside) [
          | inl before ↦ found.reached x before
          | inr last ↦ elim (Contains-cons_cases s [] x last) [
            | inl here ↦ subst (IsReached p policy starts) here reached
            | inr later ↦ absurd (Contains-nil x later)
          ]
        ];
        starts_first = λ i start below at. at_left states (s ∷ []) i start.state (found.starts_first i start below at);
        breadth_first = λ i x t at out. elim (at_end states s i x at) [
          | inl before ↦ found.breadth_first i x t before.0 (λ inside. out (subst (λ l. Contains l t) (sym before.1) inside))
          | inr last ↦
              subst (λ y. IsNoFarther p policy starts y t) last.1
              (near t (λ inside. out (subst (λ l. Contains l t) (sym last.2) inside)))
        ];
        closed = λ room' i x t below at leads. elim (at_end states s i x at) [
          | inl before ↦ Contains-append_left states (s ∷ []) t (found.closed room i x t below before.0 leads)
          | inr last ↦ absurd (omega (arith, below, within, last.0))
        ];
      }

      grown_same : IsGrown states states done
      grown_same = record { found = found; keeps = λ i x at. at; holds = λ x inside. inside; longer = omega arith }

      noted_keeps : IsReached p policy starts s
          → (length states < most → (t : S) → (Contains states t → ⊥) → IsNoFarther p policy starts s t)
          → IsGrown states (noted same most states s) done × (length (noted same most states s) < most → Contains (noted same most states s) s)
      noted_keeps reached near = elim (cases_lt (length states) most) [
        | inl room ↦
            let free : nat_le most (length states) ≡ false = lt-leb most (length states) room in
            elim (cases_Bool (list_any (same s) states)) [
              | inl some ↦
                  let is : noted same most states s ≡ states
                  = (λ j. cond (free j || some j) states (states ++ s ∷ [])) in
                  subst (λ l. IsGrown states l done × (length l < most → Contains l s)) (sym is)
                  (grown_same, λ _. any_in same exact states s some)
              | inr none ↦
                  let is : noted same most states s ≡ states ++ s ∷ []
                  = (λ j. cond (free j || none j) states (states ++ s ∷ [])) in
                  subst (λ l. IsGrown states l done × (length l < most → Contains l s)) (sym is) (
                    record {
                      found = pushed room (none_in same exact states s none) reached (near room);
                      keeps = at_left states (s ∷ []);
                      holds = Contains-append_left states (s ∷ []);
                      longer = omega (arith, longer_one);
                    },
                    λ _. Contains-append_right states (s ∷ []) s (Contains-first s []),
                  )
            ]
        | inr full ↦
            let is : noted same most states s ≡ states
            = ap (λ b. cond (b || list_any (same s) states) states (states ++ s ∷ [])) (le-leb most (length states) full) in
            subst (λ l. IsGrown states l done × (length l < most → Contains l s)) (sym is)
            (grown_same, λ room. absurd (omega (arith, room, full)))
      ]

    -- ---- the next states of one more

    module _ (k : ℕ) (r : S) where
      expanded : (more states : List S) → Found states k → slice_get states k ≡ Some r
          → ((s : S) → Contains more s → Leads p policy r s)
          → IsGrown states (noted_all same most states more) k
          × (length (noted_all same most states more) < most → (s : S) → Contains more s → Contains (noted_all same most states more) s)
      expanded [] states found at lead =
          (grown_same states k found (omega (arith, slice_get_within states k r at)) r, λ room s inside. absurd (Contains-nil s inside))
      expanded (s ∷ more) states found at lead =
          let within : k < length states = slice_get_within states k r at in
          let inside : Contains states r = (k, within, get_or_from_slice_get states k r r at) in
          let leads : Leads p policy r s = lead s (Contains-first s more) in
          let reached : IsReached p policy starts r = found.reached r inside in
          let one = noted_keeps states k found (omega (arith, within)) s (suc reached.0, (r, reached.1, leads))
          (λ room. next_near states k r found at room s leads) in
          let rest = expanded more (noted same most states s) one.0.found (one.0.keeps k r at) (λ x later. lead x (Contains-later s more x later)) in (
            record {
              found = rest.0.found;
              keeps = λ i x there. rest.0.keeps i x (one.0.keeps i x there);
              holds = λ x there. rest.0.holds x (one.0.holds x there);
              longer = omega (arith, one.0.longer, rest.0.longer);
            },
            λ room x there. elim (Contains-cons_cases s more x there) [
              | inl here ↦ subst (Contains (noted_all same most (noted same most states s) more)) here
                  (rest.0.holds s (one.1 (omega (arith, room, rest.0.longer))))
              | inr later ↦ rest.1 room x later
            ],
          )

      pub next_found : (states : List S) → Found states k → slice_get states k ≡ Some r
          → ((o : Outcome S) → Contains (followed p policy r) o → 0 < o.weight)
          → Found (noted_all same most states (nexts p policy r)) (k + 1)
          × (k + 1 ≤ length (noted_all same most states (nexts p policy r)))
      next_found states found at likely =
          let more = nexts p policy r in
          let outcome_next = (λ (o : Outcome S). o.next) in
          let all = expanded more states found at (λ s inside.
          let from : (o : Outcome S) × Contains (followed p policy r) o × (o.next ≡ s)
          = Contains-map_cases outcome_next (followed p policy r) s inside in
          record { outcome = from.0; taken = from.1; likely = likely from.0 from.1; there = from.2 }) in
          let states' = noted_all same most states more in
          let there : slice_get states' k ≡ Some r = all.0.keeps k r at in
          let searched : Found states' k = all.0.found in (
            record {
              distinct = searched.distinct;
              few = searched.few;
              reached = searched.reached;
              starts_first = searched.starts_first;
              breadth_first = searched.breadth_first;
              closed = λ room i x t below here leads. elim (cases_lt i k) [
                | inl before ↦ searched.closed room i x t before here leads
                | inr past ↦
                    let now : i ≡ k = omega (arith, below, past) in
                    let is : x ≡ r = sym (get_or_from_slice_get states' i x r here)
                    ∙ ap (λ j. get_or states' j r) now ∙ get_or_from_slice_get states' k r r there in
                    let mine : Leads p policy r t = subst (λ y. Leads p policy y t) is leads in
                    all.1 room t (subst (Contains more) mine.there
                    (Contains-map outcome_next (followed p policy r) mine.outcome mine.taken))
              ];
            },
            omega (arith, slice_get_within states' k r there),
          )

  -- ---- the starts

  pub starts_found : AllPairs (λ s t. s ≢ t) (start_states starts) → ((start : Start S) → Contains starts start → 0 < start.weight)
      → Found (first_states starts most) 0
  starts_found apart likely =
      let n = min (length starts) most in
      let all = start_states starts in
      let long : length all ≡ length starts = length-map starts (λ (start : Start S). start.state) in
      let few : length (take n all) ≡ n = length-take-le n all (omega (arith, long)) in
      let first : (s : S) → Contains (take n all) s → IsReachedIn p policy starts 0 s
      = (λ s inside.
      let below : inside.0 < n = omega (arith, inside.1, few) in
      let from : (start : Start S) × Contains starts start × (start.state ≡ s)
      = Contains-map_cases (λ (start : Start S). start.state) starts s
      (inside.0, omega (arith, below, long), sym (get_or-take n all inside.0 s below) ∙ inside.2) in
      (from.0, from.1, likely from.0 from.1, from.2)) in
      record {
        distinct = λ i j d below within same.
            let before : j < n = omega (arith, within, few) in
            apart i j d below (omega (arith, before, long))
            (sym (get_or-take n all i d (omega (arith, below, before))) ∙ same ∙ get_or-take n all j d before);
        few = omega (arith, few);
        reached = λ s inside. (0, first s inside);
        starts_first = λ i start below at.
            let within : i < length starts = slice_get_within starts i start at in
            let before : i < n = omega (arith, below, within) in
            slice_get-get_or (take n all) i start.state (omega (arith, before, few))
            ∙ ap Some (get_or-take n all i start.state before
            ∙ get_or-map (λ (x : Start S). x.state) starts i start start.state within
            ∙ ap (λ (x : Start S). x.state) (get_or_from_slice_get starts i start start at));
        breadth_first = λ i s t at out m reached.
            (0, omega arith, first s (i, slice_get_within (take n all) i s at, get_or_from_slice_get (take n all) i s s at));
        closed = λ room i s t below at leads. absurd (omega (arith, below));
      }

  -- ---- the end

  reached_in : (states : List S) → Found states (length states) → length states < most
      → (n : ℕ) (s : S) → IsReachedIn p policy starts n s → Contains states s
  reached_in states found room zero s (start, inside, likely, is) =
      subst (Contains states) is (start_in states found.starts_first room start inside)
  reached_in states found room (suc n) s (r, reached, leads) =
      let before : Contains states r = reached_in states found room n r reached in
      found.closed room before.0 r s before.1 (slice_get-get_or states before.0 r before.1 ∙ ap Some before.2) leads

  pub all_drawn : (states : List S) → Found states (length states) → IsDrawn p policy starts most states
  all_drawn states found = record {
    distinct = found.distinct;
    few = found.few;
    reached = found.reached;
    all = λ room s reached. reached_in states found room reached.0 s reached.1;
    starts_first = found.starts_first;
    breadth_first = found.breadth_first;
  }
