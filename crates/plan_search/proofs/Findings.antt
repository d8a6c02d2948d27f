-- What a solver left, with its certificate, is what a search finds.
use Rattle.std.proofs.Common.{◌≡◌, ◌↔◌, ℕ, ◌+◌, ◌<◌, ◌≤◌, Bool, true, false, ◌∙◌, ap, refl, subst, sym, inl, inr, arith}
use Rattle.std.specs.Prelude.{◌≢◌, List, [], ◌∷◌, map, Contains, AllPairs, nat_le, if◌then◌else◌}
use Rattle.std.proofs.lemmas.Bool.{cases_Bool, leb-true, leb-false, le-leb}
use Rattle.std.proofs.lemmas.List.{length-map}
use Rattle.std.proofs.lemmas.List.Elements.{All-weaker, All-contains_itself}
use Rattle.std.proofs.lemmas.List.Kept.{AllPairs-cons}
use Rattle.plain_list.proofs.Members.{Contains-map, Contains-map_cases}
use Rattle.plain_list.proofs.Related.{AllPairs-head, AllPairs-tail}
use Rattle.decision_process.specs.Levels.{IsReachable}
use Rattle.decision_process.specs.Readings.{Row, HasDistinctStates}
use Rattle.decision_process.specs.Rounded.{plain_low, plain_high}
use Rattle.decision_process.specs.sweeps.Sweeps.{rounds_at}
use Rattle.ground_model.specs.Packed.{State}
use Rattle.ground_model.specs.Ground.{Ground}
use Rattle.ground_model.specs.Steps.{ground_process, ground_starts}
use Rattle.bound_core.specs.declared.image.ImageRow.{ImageRow}
use Rattle.certificate.specs.Content.{Content, IsCertificate}
use Rattle.bound_core.specs.ends.Closing.{closing_row, closing_rows}
use Rattle.bound_core.specs.ends.Ends.{closing_low, closing_high}
use Rattle.plan_report.specs.certificates.Certificates.{IsCertificateOf}
use Rattle.plan_search.specs.declared.solver.closing.Closing.{Closing}
use Rattle.plan_search.specs.solver.Solved.{IsSolved}
use Rattle.plan_request.specs.declared.effort.Effort.{Effort}
use Rattle.plan_request.specs.declared.sizes.Sizes.{Sizes}
use Rattle.plan_report.specs.declared.ending.Ending.{Ending}
use Rattle.plan_report.specs.declared.ending.Ending.TheVariants.{Converged, Budget, TableFull}
use Rattle.plan_report.specs.Solved.{ending_of}
use Rattle.plan_search.specs.Solving.{solver_effort, solver_sizes, all_ids, told_of}
use Rattle.plan_search.specs.Found.{IsFound}

-- ---- how a search ends

abbrev full_or_not : Bool → Ending
full_or_not full = if full then TableFull else Budget

-- by the places of the endings
abbrev place : Ending → ℕ
place Converged = 0
place Budget = 1
place TableFull = 2

apart : (e f : Ending) → (place e ≡ place f → ⊥) → e ≡ f → ⊥
apart e f differ is = differ (ap place is)

never_converged : (full : Bool) → full_or_not full ≡ Converged → ⊥
never_converged true is = apart TableFull Converged (λ e. omega (arith, e)) is
never_converged false is = apart Budget Converged (λ e. omega (arith, e)) is

not_full : Converged ≡ TableFull → ⊥
not_full is = apart Converged TableFull (λ e. omega (arith, e)) is

not_room : Converged ≡ Budget → ⊥
not_room is = apart Converged Budget (λ e. omega (arith, e)) is

room_is_not_full : Budget ≡ TableFull → ⊥
room_is_not_full is = apart Budget TableFull (λ e. omega (arith, e)) is

module _ (gap lower upper given ids : ℕ) where
  ends_narrow : nat_le upper (lower + gap) ≡ true → ending_of gap lower upper given ids ≡ Converged
  ends_narrow on = ap (λ b. if b then Converged else full_or_not (nat_le ids given)) on

  ends_wide : nat_le upper (lower + gap) ≡ false → ending_of gap lower upper given ids ≡ full_or_not (nat_le ids given)
  ends_wide off = ap (λ b. if b then Converged else full_or_not (nat_le ids given)) off

  pub converges : (ending_of gap lower upper given ids ≡ Converged) ↔ (upper ≤ lower + gap)
  converges = (
    λ is. elim (cases_Bool (nat_le upper (lower + gap))) [
      | inl on ↦ leb-true upper (lower + gap) on
      | inr off ↦ absurd (never_converged (nat_le ids given) (sym (ends_wide off) ∙ is))
    ],
    λ narrow. ends_narrow (le-leb upper (lower + gap) narrow),
  )

  when_full : ending_of gap lower upper given ids ≡ TableFull → nat_le ids given ≡ true
  when_full is = elim (cases_Bool (nat_le upper (lower + gap))) [
    | inl on ↦ absurd (not_full (sym (ends_narrow on) ∙ is))
    | inr off ↦ elim (cases_Bool (nat_le ids given)) [
      | inl full ↦ full
      | inr room ↦ absurd (room_is_not_full (sym (ap full_or_not room) ∙ sym (ends_wide off) ∙ is))
    ]
  ]

  when_room : ending_of gap lower upper given ids ≡ Budget → nat_le ids given ≡ false
  when_room is = elim (cases_Bool (nat_le upper (lower + gap))) [
    | inl on ↦ absurd (not_room (sym (ends_narrow on) ∙ is))
    | inr off ↦ elim (cases_Bool (nat_le ids given)) [
      | inl full ↦ absurd (room_is_not_full (sym is ∙ ends_wide off ∙ ap full_or_not full))
      | inr room ↦ room
    ]
  ]

  pub full_table : ending_of gap lower upper given ids ≡ TableFull → ids ≤ given
  full_table is = leb-true ids given (when_full is)

  pub table_with_room : ending_of gap lower upper given ids ≡ Budget → given < ids
  table_with_room is = leb-false ids given (when_room is)

-- ---- states

module _ {X Y Z : Type 0} (R : Y → Y → Type 0) (S : Z → Z → Type 0) (f : X → Y) (h : X → Z) where
  pairs_carried : ((x y : X) → R (f x) (f y) → S (h x) (h y)) → (xs : List X) → AllPairs R (map f xs) → AllPairs S (map h xs)
  pairs_carried carries [] pairs = λ i j d before within. absurd (omega arith)
  pairs_carried carries (x ∷ xs) pairs =
      AllPairs-cons S (h x) (map h xs)
      (All-weaker (Contains (map h xs)) (S (h x)) (λ z inside.
      let found = Contains-map_cases h xs z inside in
      subst (S (h x)) found.2 (carries x found.0 (AllPairs-head R (f x) (map f xs) pairs (f found.0) (Contains-map f xs found.0 found.1))))
      (map h xs) (All-contains_itself (map h xs)))
      (pairs_carried carries xs (AllPairs-tail R (f x) (map f xs) pairs))

abbrev state_of : ImageRow → State
state_of row = row.state

states_differ : (rows : List ImageRow) → HasDistinctStates (closing_rows rows)
    → AllPairs (λ (s t : State). s ≢ t) (map state_of rows)
states_differ rows distinct =
    pairs_carried (λ (a b : Row State ℕ). a.state ≢ b.state) (λ (s t : State). s ≢ t) closing_row state_of (λ a b apart. apart) rows distinct

has_state : (rows : List ImageRow) (row : ImageRow) (s : State) → Contains rows row → row.state ≡ s → Contains (map state_of rows) s
has_state rows row s held is = subst (Contains (map state_of rows)) is (Contains-map state_of rows row held)

-- ---- what is found

module _ (g : Ground) (effort : Effort) (sizes : Sizes) (left : Closing) (c : Content)
    (solved : IsSolved g (solver_sizes sizes) (solver_effort effort) left) (certified : IsCertificateOf g left.image.rows c) (is : IsCertificate c) where
  abbrev rows : List ImageRow
  rows = left.image.rows

  abbrev lower : ℕ
  lower = closing_low g rows

  abbrev upper : ℕ
  upper = closing_high g rows

  abbrev ids : ℕ
  ids = all_ids sizes

  states_reached : (t : State) → Contains (map state_of rows) t → IsReachable (ground_process g) (ground_starts g) t
  states_reached t inside =
      let found = Contains-map_cases state_of rows t inside in
      subst (IsReachable (ground_process g) (ground_starts g)) found.2 (solved.closing.reached found.0 found.1)

  pub found_is : IsFound g effort sizes c (told_of g effort sizes left)
  found_is = record {
    version = certified.version;
    certificate = is;
    balanced = certified.balanced;
    lower = sym certified.lower;
    upper = sym certified.upper;
    converged = (
      λ e. rw (certified.lower, certified.upper) ((converges effort.gap lower upper left.image.given_out ids).0 e),
      λ narrow. (converges effort.gap lower upper left.image.given_out ids).1 (omega (arith, narrow, certified.lower, certified.upper)),
    );
    rounds = solved.rounds;
    all_rounds = λ not. elim solved.end [
      | inl narrow ↦ absurd (not ((converges effort.gap lower upper left.image.given_out ids).1 narrow))
      | inr all ↦ all
    ];
    depth = solved.depth;
    fits = solved.fits;
    low = subst (λ n. plain_low (ground_process g) (ground_starts g) g.start_den (rounds_at solved.depth left.rounds 1) ≤ n) (sym certified.lower) solved.low;
    high = subst (λ n. n ≤ plain_high (ground_process g) (ground_starts g) g.start_den (rounds_at solved.depth left.rounds 1)) (sym certified.upper) solved.high;
    early = solved.early;
    states = map state_of rows;
    count = sym (length-map rows state_of);
    distinct = states_differ rows solved.closing.distinct;
    reached = states_reached;
    near = λ t is_near. let has = solved.near t is_near in has_state rows has.row t has.held has.of_state;
    of_rows = λ row inside.
        let (other, held, of_state, _) = (certified.exact row.state).0 (row, inside, refl) in
        has_state rows other row.state held of_state;
    few = omega (arith, solved.few, solved.given);
    full = λ e. omega (arith, full_table effort.gap lower upper left.image.given_out ids e, solved.spares);
    room = λ e. omega (arith, table_with_room effort.gap lower upper left.image.given_out ids e, solved.few);
  }
