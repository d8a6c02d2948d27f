-- What is built says of each state what the rows say, so that it is balanced as they are.
use Rattle.std.proofs.Common.{◌≡◌, ◌≢◌, ◌⊎◌, inl, inr, ℕ, Bool, true, false, cond, List, [], ◌∷◌, Option, Some, None, refl, sym, ap, subst, ◌∙◌, arith}
use Rattle.std.specs.Prelude.{Contains, is_some, nat_eq, filter}
use Rattle.std.proofs.lemmas.Bool.{cases_Bool, true≢false}
use Rattle.std.proofs.lemmas.Option.{none-some}
use Rattle.fixed_round.specs.Words.{value_of, code_of}
use Rattle.plain_list.proofs.Members.{Contains-first, Contains-later, Contains-map, Contains-map_cases}
use Rattle.decision_process.specs.Process.{at_starts}
use Rattle.decision_process.specs.Backup.{floor, ceiling}
use Rattle.decision_process.specs.Balanced.{IsBalancedAt}
use Rattle.decision_process.specs.Readings as readings
use Rattle.decision_process.specs.Readings.{HasDistinctStates, action_of, row_at, low, high, act, AtGoal, GivesUp, IsMarked, IsBalancedIn}
use Rattle.decision_process.proofs.Readings.{row_is_read}
use Rattle.ground_model.specs.Packed.{State, same_state}
use Rattle.ground_model.specs.Ground.{Ground}
use Rattle.ground_model.specs.Steps.{ground_process, ground_starts}
use Rattle.bound_core.specs.declared.image.ImageRow.{ImageRow}
use Rattle.bound_core.specs.declared.codes.TheConstants.{AT_GOAL, GIVE_UP}
use Rattle.bound_core.specs.Numbers.{first_word}
use Rattle.certificate.specs.Rows.{Row}
use Rattle.certificate.specs.Content.{Content, IsCertificate}
use Rattle.certificate_check.specs.Claims.{knows, row_of, rows_of, act_of, IsBalancedFor}
use Rattle.certificate_check.proofs.Distinct as cert
use Rattle.bound_core.specs.ends.Closing.{act_in, closing_row, closing_rows, differs}
use Rattle.bound_core.proofs.lemmas.ends.Reading.{states_exact, row_read, first_at_goal, first_off_goal}
use Rattle.plan_report.specs.certificates.RowsKept.{KeptRow}
use Rattle.plan_report.specs.certificates.Kept.{kept_of}
use Rattle.plan_report.specs.certificates.Tables.{numbered_row}
use Rattle.plan_report.specs.certificates.Certificates.{ReadAlike, HasRow, HasDiffering, IsCertificateOf}
use Rattle.plan_report.proofs.lemmas.certificates.Lists.{Contains-filter, Contains-filter_cases, one_of_key}
use Rattle.plan_report.proofs.lemmas.certificates.KeptRows.{kept_from, kept_there, first_parts, states_differ}
use Rattle.plan_report.proofs.lemmas.certificates.Form.{IsBuilt, acts, content, row_known, row_back, act_named}

-- a state has no row, or is the state of one
row_found : {A : Type 0} (rows : List (readings.Row State A)) (s : State)
    → (row_at same_state rows s ≡ None) ⊎ ((row : readings.Row State A) × Contains rows row × (row.state ≡ s))
row_found [] s = inl refl
row_found {A} (row ∷ rows) s = elim (cases_Bool (same_state row.state s)) [
  | inl on ↦ inr (row, Contains-first row rows, (states_exact row.state s).0 on)
  | inr off ↦ elim (row_found rows s) [
    | inl none ↦ inl (ap (λ b. elim b [ true ↦ Some row | false ↦ row_at same_state rows s ]) off ∙ none)
    | inr found ↦ inr (found.0, Contains-later row rows found.0 found.1, found.2)
  ]
]

module _ (g : Ground) where
  abbrev Line : Type 0
  Line = readings.Row State ℕ

  low_of : Option Line → ℕ
  low_of o = elim o [ None ↦ 0 | Some row ↦ row.lower ]

  high_of : Bool → Option Line → ℕ
  high_of goal o = cond goal 0 (elim o [ None ↦ g.penalty | Some row ↦ row.upper ])

  -- the readings of lists that have one row of the state, or none
  alike : (xs ys : List Line) (s : State) → row_at same_state xs s ≡ row_at same_state ys s → ReadAlike g xs ys s
  alike xs ys s same = record {
    low_same = ap (λ (o : Option Line). elim o [ None ↦ 0 | Some row ↦ row.lower ]) same;
    high_same = ap (λ (o : Option Line). cond ((ground_process g).goal s) 0 (elim o [ None ↦ g.penalty | Some row ↦ row.upper ])) same;
    act_same = ap (λ (o : Option Line). elim o [ None ↦ None | Some row ↦ action_of row.act ]) same;
  }

  -- a row that says no more than is known at first is read as no row is
  module _ (row : ImageRow) (lower : row.lower ≡ 0) (upper : row.upper ≡ first_word g row.state) where
    value_off_goal : (ground_process g).goal row.state ≡ false → value_of row.upper ≡ g.penalty
    value_off_goal off = (let first = first_off_goal g row.state off in omega arith)

    act_off_goal : (ground_process g).goal row.state ≡ false → action_of (act_in row.upper) ≡ None
    act_off_goal off =
        let code : code_of row.upper ≡ GIVE_UP = (let first = first_off_goal g row.state off in omega arith) in
        ap (λ k. action_of (cond (nat_eq k AT_GOAL) AtGoal (cond (nat_eq k GIVE_UP) GivesUp (readings.Takes k)))) code

    act_at_goal : (ground_process g).goal row.state ≡ true → action_of (act_in row.upper) ≡ None
    act_at_goal on =
        let code : code_of row.upper ≡ AT_GOAL = (let first = first_at_goal g row.state on in omega arith) in
        ap (λ k. action_of (cond (nat_eq k AT_GOAL) AtGoal (cond (nat_eq k GIVE_UP) GivesUp (readings.Takes k)))) code

    act_first : action_of (act_in row.upper) ≡ None
    act_first = elim (cases_Bool ((ground_process g).goal row.state)) [ inl on ↦ act_at_goal on | inr off ↦ act_off_goal off ]

    high_first : cond ((ground_process g).goal row.state) 0 g.penalty ≡ cond ((ground_process g).goal row.state) 0 (value_of row.upper)
    high_first = elim (cases_Bool ((ground_process g).goal row.state)) [
      | inl on ↦ (λ j. cond (on j) 0 g.penalty) ∙ sym (λ j. cond (on j) 0 (value_of row.upper))
      | inr off ↦ (λ j. cond (off j) 0 g.penalty) ∙ sym (value_off_goal off) ∙ sym (λ j. cond (off j) 0 (value_of row.upper))
    ]

    first_alike : (xs ys : List Line) → row_at same_state xs row.state ≡ None → row_at same_state ys row.state ≡ Some (closing_row row)
        → ReadAlike g xs ys row.state
    first_alike xs ys none some = record {
      low_same = ap (λ (o : Option Line). elim o [ None ↦ 0 | Some r ↦ r.lower ]) none ∙ sym lower
          ∙ sym (ap (λ (o : Option Line). elim o [ None ↦ 0 | Some r ↦ r.lower ]) some);
      high_same = ap (λ (o : Option Line). cond ((ground_process g).goal row.state) 0 (elim o [ None ↦ g.penalty | Some r ↦ r.upper ])) none ∙ high_first
          ∙ sym (ap (λ (o : Option Line). cond ((ground_process g).goal row.state) 0 (elim o [ None ↦ g.penalty | Some r ↦ r.upper ])) some);
      act_same = ap (λ (o : Option Line). elim o [ None ↦ None | Some r ↦ action_of r.act ]) none ∙ sym act_first
          ∙ sym (ap (λ (o : Option Line). elim o [ None ↦ None | Some r ↦ action_of r.act ]) some);
    }

module _ (g : Ground) (rows : List ImageRow) (places : List ℕ) (kept : List KeptRow) (is : IsBuilt g rows places kept) where
  abbrev c : Content
  c = content g rows places kept is

  abbrev line : KeptRow → Row
  line = numbered_row g places (acts g rows places kept is)

  abbrev lines : List (readings.Row State ℕ)
  lines = rows_of g c c.rows

  line_from : (x : readings.Row State ℕ) → Contains lines x → (row : ImageRow) × Contains rows row × (differs g row ≡ true) × (closing_row row ≡ x)
  line_from x inside =
      let a = Contains-map_cases (row_of g c) (filter (knows g c) c.rows) x inside in
      let b = Contains-filter_cases (knows g c) c.rows a.0 a.1 in
      let d = Contains-map_cases line kept a.0 b.0 in
      let k = kept_from g rows kept is.moved d.0 d.1 in (
        k.row,
        k.held,
        k.different,
        sym (row_back g rows places kept is d.0 d.1 k.row k.held k.different k.is) ∙ ap (row_of g c) d.2 ∙ a.2,
      )

  line_there : (row : ImageRow) → Contains rows row → differs g row ≡ true → Contains lines (closing_row row)
  line_there row held different =
      let there = kept_there g rows kept is.moved row held different in
      let r = line (kept_of row) in
      subst (Contains lines) (row_back g rows places kept is (kept_of row) there row held different refl)
      (Contains-map (row_of g c) (filter (knows g c) c.rows) r
      (Contains-filter (knows g c) c.rows r (Contains-map line kept (kept_of row) there)
      (row_known g rows places kept is (kept_of row) there row held different refl)))

  module _ (form : IsCertificate c) where
    distinct : HasDistinctStates lines
    distinct = cert.states_differ g c form

    line_read : (row : ImageRow) → Contains rows row → differs g row ≡ true → row_at same_state lines row.state ≡ Some (closing_row row)
    line_read row held different =
        row_is_read (ground_process g) same_state states_exact lines distinct (closing_row row) (line_there row held different)

    -- a state of which no row differs has no line
    none_from : (s : State) → ((row : ImageRow) → Contains rows row → differs g row ≡ true → row.state ≢ s) → row_at same_state lines s ≡ None
    none_from s apart = elim (row_found lines s) [
      | inl none ↦ none
      | inr found ↦
          let from = line_from found.0 found.1 in
          absurd (apart from.0 from.1 from.2 (ap (λ (x : readings.Row State ℕ). x.state) from.3 ∙ found.2))
    ]

    reading_at : (row : ImageRow) → Contains rows row → ReadAlike g lines (closing_rows rows) row.state
    reading_at row held = elim (cases_Bool (differs g row)) [
      | inl different ↦
          alike g lines (closing_rows rows) row.state
          (line_read row held different ∙ sym (row_read g rows is.closing row held))
      | inr same ↦
          let first = first_parts g row same in
          first_alike g row first.0 first.1 lines (closing_rows rows)
          (none_from row.state (λ other there different at.
          let one : other ≡ row = one_of_key (λ (x : ImageRow). x.state) rows (states_differ g rows kept is.moved is.valid is.closing) other row there held at in
          true≢false (sym different ∙ ap (differs g) one ∙ same)))
          (row_read g rows is.closing row held)
    ]

    pub reading : (s : State) → ReadAlike g lines (closing_rows rows) s
    reading s = elim (row_found (closing_rows rows) s) [
      | inl none ↦
          alike g lines (closing_rows rows) s
          (none_from s (λ row held different at.
          none-some (closing_row row) (sym none ∙ ap (row_at same_state (closing_rows rows)) (sym at) ∙ row_read g rows is.closing row held))
          ∙ sym none)
      | inr found ↦
          let from = Contains-map_cases closing_row rows found.0 found.1 in
          subst (ReadAlike g lines (closing_rows rows)) (ap (λ (x : readings.Row State ℕ). x.state) from.2 ∙ found.2) (reading_at from.0 from.1)
    ]

    lows : low same_state (closing_rows rows) ≡ low same_state lines
    lows = λ j s. sym (reading s).low_same j

    highs : high (ground_process g) same_state (closing_rows rows) ≡ high (ground_process g) same_state lines
    highs = λ j s. sym (reading s).high_same j

    acts_alike : act same_state (closing_rows rows) ≡ act same_state lines
    acts_alike = λ j s. sym (reading s).act_same j

    balanced_at : (s : State) → IsBalancedIn (ground_process g) same_state lines s
    balanced_at s =
        subst (λ (f : State → ℕ). IsBalancedAt (ground_process g) f (high (ground_process g) same_state lines) (act same_state lines) s) lows
        (subst (λ (f : State → ℕ). IsBalancedAt (ground_process g) (low same_state (closing_rows rows)) f (act same_state lines) s) highs
        (subst (λ (f : State → Option ℕ). IsBalancedAt (ground_process g) (low same_state (closing_rows rows)) (high (ground_process g) same_state (closing_rows rows)) f s) acts_alike
        (is.closing.balanced s)))

    line_of : (r : Row) → Contains c.rows r → (x : KeptRow) × Contains kept x × (line x ≡ r)
    line_of r inside = Contains-map_cases line kept r inside

    balanced : IsBalancedFor g c
    balanced = record {
      atoms_known = λ r inside.
          (let from = line_of r inside in let k = kept_from g rows kept is.moved from.0 from.1 in
          subst (λ (x : Row). knows g c x ≡ true) from.2 (row_known g rows places kept is from.0 from.1 k.row k.held k.different k.is));
      acts_named = λ r inside.
          (let from = line_of r inside in let k = kept_from g rows kept is.moved from.0 from.1 in
          subst (λ (x : Row). is_some (act_of g c x.act) ≡ true) from.2 (act_named g rows places kept is from.0 from.1 k.row k.held k.different k.is));
      balanced = record {
        penalty = refl;
        distinct = distinct;
        marked = λ x inside. (let from = line_from x inside in subst (IsMarked (ground_process g)) from.3 (is.closing.marked from.0 from.1));
        balanced = balanced_at;
        interval = record {
          floor_of_low = ap (λ (f : State → ℕ). floor (at_starts f (ground_starts g)) g.start_den) lows;
          ceiling_of_high = ap (λ (f : State → ℕ). ceiling (at_starts f (ground_starts g)) g.start_den) highs;
        };
      };
    }

    exact_from : (s : State) → HasRow lines s → HasDiffering g rows s
    exact_from s has =
        let from = line_from has.0 has.1 in
        (from.0, from.1, ap (λ (x : readings.Row State ℕ). x.state) from.3 ∙ has.2, from.2)

    exact_to : (s : State) → HasDiffering g rows s → HasRow lines s
    exact_to s has = (closing_row has.0, line_there has.0 has.1 has.3, has.2)

    pub is_certificate_of : IsCertificateOf g rows c
    is_certificate_of = record {
      version = refl;
      penalty = refl;
      lower = refl;
      upper = refl;
      balanced = balanced;
      readings = reading;
      exact = λ s. (exact_from s, exact_to s);
    }
