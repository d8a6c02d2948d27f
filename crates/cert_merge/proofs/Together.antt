-- What the rows of two balanced certificates say together of each state.
use Rattle.std.proofs.Common.{◌≡◌, ◌≢◌, ◌⊎◌, inl, inr, ℕ, ◌≤◌, Bool, true, false, cond, List, [], ◌∷◌, map, Option, Some, None, refl, sym, ap, subst, ◌∙◌, arith}
use Rattle.std.specs.Prelude.{Contains, max, min, nat_le}
use Rattle.std.specs.List.{AllByRecursion}
use Rattle.std.specs.Cmp.Lexicographic.{bytes_decides}
use Rattle.std.proofs.lemmas.Bool.{cases_Bool}
use Rattle.std.proofs.lemmas.Bool.Decides.{leb_tells}
use Rattle.std.proofs.lemmas.List.Kept.{AllPairs-cons}
use Rattle.std.proofs.lemmas.List.Elements.{All-contains_itself, All-weaker}
use Rattle.std.proofs.lemmas.Option.{none-some}
use Rattle.plain_list.specs.weighted.Chances.{IsExact}
use Rattle.plain_list.proofs.Members.{Contains-first, Contains-later, Contains-map, Contains-map_cases}
use Rattle.certificate.specs.declared.named.NamedAct.{NamedAct}
use Rattle.certificate.specs.declared.named.NamedAct.TheVariants as named
use Rattle.certificate.specs.declared.named.NamedRow.{NamedRow}
use Rattle.certificate.specs.Reading.{IsNamedAct}
use Rattle.certificate_check.specs.Claims.{taken}
use Rattle.decision_process.specs.Process.{Process}
use Rattle.decision_process.specs.Balanced.{IsBalanced}
use Rattle.decision_process.specs.Readings as readings
use Rattle.decision_process.specs.Readings.{RowAct, GivesUp, AtGoal, HasDistinctStates, action_of, row_at, low, high, act, IsMarked}
use Rattle.decision_process.proofs.Readings.{row_is_read}
use Rattle.ground_model.specs.Packed.{State, same_state}
use Rattle.ground_model.specs.Ground.{Ground}
use Rattle.ground_model.specs.Steps.{ground_process}
use Rattle.cert_merge.specs.Narrower.{greater, smaller, act_of_smaller}
use Rattle.cert_merge.specs.Grounded.{state_named, act_named, ground_row}
use Rattle.cert_merge.specs.Pairs.{untold, meet, first_alone, second_alone, merged}
use Rattle.cert_merge.proofs.Members.{all_member}
use Rattle.cert_merge.proofs.Narrower.{narrower_is_balanced, min_is_left}
use Rattle.cert_merge.proofs.Grounded.{IsFit, same_atoms}
use Rattle.cert_merge.proofs.MergedRows.{Before, InOrder, IsMade, apart, all_merged, merged_made, merged_order, first_there, second_there}

states_exact : IsExact same_state
states_exact x y = bytes_decides x y

abbrev Line : Type 0
Line = readings.Row State ℕ

-- a state has no row, or is the state of one
row_found : (rows : List Line) (s : State) → (row_at same_state rows s ≡ None) ⊎ ((row : Line) × Contains rows row × (row.state ≡ s))
row_found [] s = inl refl
row_found (row ∷ rows) s = elim (cases_Bool (same_state row.state s)) [
  | inl on ↦ inr (row, Contains-first row rows, (states_exact row.state s).0 on)
  | inr off ↦ elim (row_found rows s) [
    | inl none ↦ inl (ap (λ b. elim b [ true ↦ Some row | false ↦ row_at same_state rows s ]) off ∙ none)
    | inr found ↦ inr (found.0, Contains-later row rows found.0 found.1, found.2)
  ]
]

pub no_row : (rows : List Line) (s : State) → ((row : Line) → Contains rows row → row.state ≢ s) → row_at same_state rows s ≡ None
no_row rows s none = elim (row_found rows s) [
  | inl is ↦ is
  | inr found ↦ absurd (none found.0 found.1 found.2)
]

either : {A : Type 0} (P : A → Type 0) (t : Bool) (a b : A) → P a → P b → P (cond t a b)
either P true a b p q = p
either P false a b p q = q

pushed : {A B : Type 0} (f : A → B) (t : Bool) (a b : A) → f (cond t a b) ≡ cond t (f a) (f b)
pushed f true a b = refl
pushed f false a b = refl

module _ (g : Ground) where
  abbrev p : Process State ℕ
  p = ground_process g

  abbrev doing : NamedAct → RowAct ℕ
  doing a = taken (act_named g a)

  abbrev action : NamedAct → Option ℕ
  action a = action_of (doing a)

  abbrev lines : List NamedRow → List Line
  lines rows = map (ground_row g) rows

  -- ---- the reading of a state, as that of one row

  record ReadsAs (rows : List Line) (s : State) (r : NamedRow) : Type 0 where
    is_low : low same_state rows s ≡ r.lower
    is_high : high p same_state rows s ≡ cond (p.goal s) 0 r.upper
    is_act : act same_state rows s ≡ action r.act
    at_goal : p.goal s ≡ true → action r.act ≡ None

  reads_row : (rows : List Line) (s : State) (r : NamedRow) → row_at same_state rows s ≡ Some (ground_row g r)
      → (p.goal s ≡ true → action r.act ≡ None) → ReadsAs rows s r
  reads_row rows s r at goal = record {
    is_low = ap (λ (o : Option Line). elim o [ None ↦ 0 | Some x ↦ x.lower ]) at;
    is_high = ap (λ (o : Option Line). cond (p.goal s) 0 (elim o [ None ↦ g.penalty | Some x ↦ x.upper ])) at;
    is_act = ap (λ (o : Option Line). elim o [ None ↦ None | Some x ↦ action_of x.act ]) at;
    at_goal = goal;
  }

  reads_none : (rows : List Line) (s : State) (penalty : ℕ) (atoms : List (List ℕ)) → penalty ≡ g.penalty → row_at same_state rows s ≡ None
      → ReadsAs rows s (untold penalty atoms)
  reads_none rows s penalty atoms quit none = record {
    is_low = ap (λ (o : Option Line). elim o [ None ↦ 0 | Some x ↦ x.lower ]) none;
    is_high = ap (λ (o : Option Line). cond (p.goal s) 0 (elim o [ None ↦ g.penalty | Some x ↦ x.upper ])) none
        ∙ ap (λ n. cond (p.goal s) 0 n) (sym quit);
    is_act = ap (λ (o : Option Line). elim o [ None ↦ None | Some x ↦ action_of x.act ]) none;
    at_goal = λ on. refl;
  }

  -- the reading of z is the narrower of those of x and y
  pub record AreTogether (xs ys zs : List Line) (s : State) : Type 0 where
    pub low_is : low same_state zs s ≡ greater (low same_state xs) (low same_state ys) s
    pub high_is : high p same_state zs s ≡ smaller (high p same_state xs) (high p same_state ys) s
    pub act_is : act same_state zs s ≡ act_of_smaller (high p same_state xs) (high p same_state ys) (act same_state xs) (act same_state ys) s

  smaller_cond : (t : Bool) (a b : ℕ) → cond t 0 (min a b) ≡ min (cond t 0 a) (cond t 0 b)
  smaller_cond true a b = refl
  smaller_cond false a b = refl

  act_cond : (t : Bool) (a b : ℕ) (x y : Option ℕ) → (t ≡ true → x ≡ None) → (t ≡ true → y ≡ None)
      → cond (nat_le a b) x y ≡ cond (nat_le (cond t 0 a) (cond t 0 b)) x y
  act_cond false a b x y none none' = refl
  act_cond true a b x y none none' =
      (λ k. cond (nat_le a b) (none refl k) (none' refl k)) ∙ same (nat_le a b) ∙ sym (same (nat_le 0 0))
      ∙ (λ k. cond (nat_le 0 0) (sym (none refl) k) (sym (none' refl) k))
    where
      same : (b : Bool) → cond b (let o : Option ℕ = None in o) None ≡ None
      same true = refl
      same false = refl

  meet_reads : (xs ys zs : List Line) (s : State) (r t : NamedRow) → ReadsAs xs s r → ReadsAs ys s t → ReadsAs zs s (meet r t) → AreTogether xs ys zs s
  meet_reads xs ys zs s r t first second both = record {
    low_is = both.is_low ∙ (λ k. max (sym first.is_low k) (sym second.is_low k));
    high_is = both.is_high ∙ smaller_cond (p.goal s) r.upper t.upper ∙ (λ k. min (sym first.is_high k) (sym second.is_high k));
    act_is = both.is_act ∙ pushed action (nat_le r.upper t.upper) r.act t.act
        ∙ act_cond (p.goal s) r.upper t.upper (action r.act) (action t.act) first.at_goal second.at_goal
        ∙ (λ k. cond (nat_le (sym first.is_high k) (sym second.is_high k)) (sym first.is_act k) (sym second.is_act k));
  }

  none_together : (xs ys zs : List Line) (s : State) → row_at same_state xs s ≡ None → row_at same_state ys s ≡ None → row_at same_state zs s ≡ None
      → AreTogether xs ys zs s
  none_together xs ys zs s none none' none'' =
      let quit : ℕ = g.penalty in
      let first = reads_none xs s quit [] refl none in let second = reads_none ys s quit [] refl none' in let both = reads_none zs s quit [] refl none'' in
      meet_reads xs ys zs s (untold quit []) (untold quit []) first second
      (record {
        is_low = both.is_low;
        is_high = both.is_high ∙ ap (λ n. cond (p.goal s) 0 n) (sym (min_is_left quit quit (omega arith)));
        is_act = both.is_act ∙ sym (pushed action (nat_le quit quit) named.GiveUp named.GiveUp ∙ same (nat_le quit quit));
        at_goal = λ on. pushed action (nat_le quit quit) named.GiveUp named.GiveUp ∙ same (nat_le quit quit);
      })
    where
      same : (b : Bool) → cond b (let o : Option ℕ = None in o) None ≡ None
      same true = refl
      same false = refl

  -- ---- the rows of two certificates

  pub record AreTwo (penalty : ℕ) (rows others : List NamedRow) : Type 0 where
    pub quit : penalty ≡ g.penalty
    pub some : 1 ≤ penalty
    pub most : penalty ≤ 100000000000000
    pub order : InOrder rows
    pub order_too : InOrder others
    pub fit : AllByRecursion (IsFit g) rows
    pub fit_too : AllByRecursion (IsFit g) others
    pub marked : (row : Line) → Contains (lines rows) row → IsMarked p row
    pub marked_too : (row : Line) → Contains (lines others) row → IsMarked p row

  module _ (penalty : ℕ) (rows others : List NamedRow) (two : AreTwo penalty rows others) where
    abbrev pub both_rows : List NamedRow
    both_rows = merged penalty rows others

    read_in : (l : List NamedRow) → HasDistinctStates (lines l) → (r : NamedRow) → Contains l r → row_at same_state (lines l) (state_named g r) ≡ Some (ground_row g r)
    read_in l distinct r inside = row_is_read p same_state states_exact (lines l) distinct (ground_row g r) (Contains-map (ground_row g) l r inside)

    fit_in : (l : List NamedRow) → AllByRecursion (IsFit g) l → (r : NamedRow) → Contains l r → IsFit g r
    fit_in l fit r inside = all_member (IsFit g) l r fit inside

    goal_in : (l : List NamedRow) → ((row : Line) → Contains (lines l) row → IsMarked p row) → (r : NamedRow) → Contains l r
        → p.goal (state_named g r) ≡ true → action r.act ≡ None
    goal_in l marked r inside on = ap action_of ((marked (ground_row g r) (Contains-map (ground_row g) l r inside)).at_goal on).2

    none_in : (l : List NamedRow) → AllByRecursion (IsFit g) l → (r : NamedRow) → IsFit g r → ((t : NamedRow) → Contains l t → r.atoms ≢ t.atoms)
        → row_at same_state (lines l) (state_named g r) ≡ None
    none_in l fit r is alone =
        no_row (lines l) (state_named g r) (λ row inside same.
        let from = Contains-map_cases (ground_row g) l row inside in
        let state : state_named g from.0 ≡ state_named g r = ap (λ (x : Line). x.state) from.2 ∙ same in
        alone from.0 from.1 (same_atoms g r from.0 is (fit_in l fit from.0 from.1) (sym state)))

    state_alike : (r t : NamedRow) → r.atoms ≡ t.atoms → state_named g r ≡ state_named g t
    state_alike r t same = ap (λ a. state_named g (record { lower = 0; upper = 0; act = named.GiveUp; atoms = a })) same

    -- ---- the rows that are made are fit, and of different states

    fit_untold : (r : NamedRow) → IsFit g r → IsFit g (untold penalty r.atoms)
    fit_untold r fit = record {
      formed = record { lower = omega arith; upper = two.most; act = tt; atoms = fit.formed.atoms };
      rise = fit.rise;
      known = fit.known;
    }

    fit_meet : (r t : NamedRow) → IsFit g r → IsFit g t → IsFit g (meet r t)
    fit_meet r t fit fit' = record {
      formed = record {
        lower = (let a = fit.formed.lower in let b = fit'.formed.lower in omega arith);
        upper = (let a = fit.formed.upper in let b = fit'.formed.upper in omega arith);
        act = either IsNamedAct (nat_le r.upper t.upper) r.act t.act fit.formed.act fit'.formed.act;
        atoms = fit.formed.atoms;
      };
      rise = fit.rise;
      known = fit.known;
    }

    pub both_fit : AllByRecursion (IsFit g) both_rows
    both_fit =
        all_merged penalty (IsFit g) (λ r fit. fit_meet r (untold penalty r.atoms) fit (fit_untold r fit))
        (λ r fit. fit_meet (untold penalty r.atoms) r (fit_untold r fit) fit) fit_meet rows others two.fit two.fit_too

    lines_distinct : (l : List NamedRow) → AllByRecursion (IsFit g) l → InOrder l → HasDistinctStates (lines l)
    lines_distinct [] fit order = λ i j d before within. absurd (omega arith)
    lines_distinct (r ∷ l) fit order =
        AllPairs-cons (λ (x y : Line). x.state ≢ y.state) (ground_row g r) (lines l)
        (All-weaker (Contains (lines l)) (λ (x : Line). state_named g r ≢ x.state) (λ x inside same.
        let from = Contains-map_cases (ground_row g) l x inside in
        apart r from.0 (all_member (λ t. Before r t) l from.0 order.0 from.1)
        (same_atoms g r from.0 fit.0 (all_member (IsFit g) l from.0 fit.1 from.1) (same ∙ sym (ap (λ (y : Line). y.state) from.2)))) (lines l)
        (All-contains_itself (lines l)))
        (lines_distinct l fit.1 order.1)

    pub both_order : InOrder both_rows
    both_order = merged_order penalty rows others two.order two.order_too

    pub distinct : HasDistinctStates (lines both_rows)
    distinct = lines_distinct both_rows both_fit both_order

    abbrev Made : NamedRow → Type 0
    Made z = IsMade penalty rows others z

    made : (z : NamedRow) → Contains both_rows z → Made z
    made z inside = merged_made penalty rows others two.order two.order_too z inside

    -- ---- what is said of the state of a row that is made

    record IsReadBy (z : NamedRow) : Type 0 where
      row : NamedRow
      other : NamedRow
      first : ReadsAs (lines rows) (state_named g z) row
      second : ReadsAs (lines others) (state_named g z) other
      is : meet row other ≡ z

    found_first : (z r : NamedRow) → Contains rows r → r.atoms ≡ z.atoms → ReadsAs (lines rows) (state_named g z) r
    found_first z r there same =
        subst (λ u. ReadsAs (lines rows) u r) (state_alike r z same)
        (reads_row (lines rows) (state_named g r) r (read_in rows (lines_distinct rows two.fit two.order) r there) (goal_in rows two.marked r there))

    found_second : (z r : NamedRow) → Contains others r → r.atoms ≡ z.atoms → ReadsAs (lines others) (state_named g z) r
    found_second z r there same =
        subst (λ u. ReadsAs (lines others) u r) (state_alike r z same)
        (reads_row (lines others) (state_named g r) r (read_in others (lines_distinct others two.fit_too two.order_too) r there) (goal_in others two.marked_too r there))

    read_by : (z : NamedRow) → Made z → IsReadBy z
    read_by z (inl m) =
        let same : m.row.atoms ≡ z.atoms = ap (λ (x : NamedRow). x.atoms) m.is in record {
          row = m.row;
          other = untold penalty m.row.atoms;
          first = found_first z m.row m.inside same;
          second = subst (λ u. ReadsAs (lines others) u (untold penalty m.row.atoms)) (state_alike m.row z same)
              (reads_none (lines others) (state_named g m.row) penalty m.row.atoms two.quit
              (none_in others two.fit_too m.row (fit_in rows two.fit m.row m.inside) m.alone));
          is = m.is;
        }
    read_by z (inr (inl m)) =
        let same : m.row.atoms ≡ z.atoms = ap (λ (x : NamedRow). x.atoms) m.is in record {
          row = untold penalty m.row.atoms;
          other = m.row;
          first = subst (λ u. ReadsAs (lines rows) u (untold penalty m.row.atoms)) (state_alike m.row z same)
              (reads_none (lines rows) (state_named g m.row) penalty m.row.atoms two.quit
              (none_in rows two.fit m.row (fit_in others two.fit_too m.row m.inside) m.alone));
          second = found_second z m.row m.inside same;
          is = m.is;
        }
    read_by z (inr (inr m)) =
        let same : m.row.atoms ≡ z.atoms = ap (λ (x : NamedRow). x.atoms) m.is in record {
          row = m.row;
          other = m.other;
          first = found_first z m.row m.inside same;
          second = found_second z m.other m.inside_other (sym m.same ∙ same);
          is = m.is;
        }

    none_of : (b : Bool) (x y : Option ℕ) → x ≡ None → y ≡ None → cond b x y ≡ None
    none_of true x y none none' = none
    none_of false x y none none' = none'

    read_both : (z : NamedRow) → Contains both_rows z → row_at same_state (lines both_rows) (state_named g z) ≡ Some (ground_row g z)
    read_both z inside = read_in both_rows distinct z inside

    together_at : (z : NamedRow) → Contains both_rows z → AreTogether (lines rows) (lines others) (lines both_rows) (state_named g z)
    together_at z inside =
        let m = read_by z (made z inside) in
        let goal : p.goal (state_named g z) ≡ true → action (meet m.row m.other).act ≡ None
        = λ on. pushed action (nat_le m.row.upper m.other.upper) m.row.act m.other.act
        ∙ none_of (nat_le m.row.upper m.other.upper) (action m.row.act) (action m.other.act) (m.first.at_goal on) (m.second.at_goal on) in
        meet_reads (lines rows) (lines others) (lines both_rows) (state_named g z) m.row m.other m.first m.second
        (reads_row (lines both_rows) (state_named g z) (meet m.row m.other)
        (read_both z inside ∙ ap (λ (x : NamedRow). Some (ground_row g x)) (sym m.is)) goal)

    -- a row of either is of a state of which a row is made
    abbrev HasMade : State → Type 0
    HasMade s = (z : NamedRow) × Contains both_rows z × (state_named g z ≡ s)

    made_first : (r : NamedRow) → Contains rows r → HasMade (state_named g r)
    made_first r inside = let z = first_there penalty rows others r inside in (z.0, z.1, state_alike z.0 r z.2)

    made_second : (r : NamedRow) → Contains others r → HasMade (state_named g r)
    made_second r inside = let z = second_there penalty rows others r inside in (z.0, z.1, state_alike z.0 r z.2)

    unmade : (s : State) → row_at same_state (lines both_rows) s ≡ None → (l : List NamedRow)
        → ((r : NamedRow) → Contains l r → HasMade (state_named g r)) → row_at same_state (lines l) s ≡ None
    unmade s none l each =
        no_row (lines l) s (λ row inside same.
        let from = Contains-map_cases (ground_row g) l row inside in
        let z = each from.0 from.1 in
        let state : state_named g z.0 ≡ s = z.2 ∙ ap (λ (x : Line). x.state) from.2 ∙ same in
        none-some (ground_row g z.0) (sym none ∙ ap (row_at same_state (lines both_rows)) (sym state) ∙ read_both z.0 z.1))

    pub together : (s : State) → AreTogether (lines rows) (lines others) (lines both_rows) s
    together s = elim (row_found (lines both_rows) s) [
      | inl none ↦
          none_together (lines rows) (lines others) (lines both_rows) s (unmade s none rows made_first) (unmade s none others made_second) none
      | inr found ↦
          let from = Contains-map_cases (ground_row g) both_rows found.0 found.1 in
          subst (AreTogether (lines rows) (lines others) (lines both_rows)) (ap (λ (x : Line). x.state) from.2 ∙ found.2) (together_at from.0 from.1)
    ]

    -- ---- it is balanced

    pub both_balanced : IsBalanced p (low same_state (lines rows)) (high p same_state (lines rows)) (act same_state (lines rows))
        → IsBalanced p (low same_state (lines others)) (high p same_state (lines others)) (act same_state (lines others))
        → IsBalanced p (low same_state (lines both_rows)) (high p same_state (lines both_rows)) (act same_state (lines both_rows))
    both_balanced one other =
        let narrow = narrower_is_balanced p (low same_state (lines rows)) (high p same_state (lines rows)) (low same_state (lines others))
        (high p same_state (lines others)) (act same_state (lines rows)) (act same_state (lines others)) one other in
        subst (λ (f : State → ℕ). IsBalanced p f (high p same_state (lines both_rows)) (act same_state (lines both_rows))) lows
        (subst (λ (f : State → ℕ). IsBalanced p (greater (low same_state (lines rows)) (low same_state (lines others))) f (act same_state (lines both_rows))) highs
        (subst (λ (f : State → Option ℕ). IsBalanced p (greater (low same_state (lines rows)) (low same_state (lines others)))
        (smaller (high p same_state (lines rows)) (high p same_state (lines others))) f) acts_alike narrow))
      where
        lows : greater (low same_state (lines rows)) (low same_state (lines others)) ≡ low same_state (lines both_rows)
        lows = λ j s. sym (together s).low_is j

        highs : smaller (high p same_state (lines rows)) (high p same_state (lines others)) ≡ high p same_state (lines both_rows)
        highs = λ j s. sym (together s).high_is j

        acts_alike : act_of_smaller (high p same_state (lines rows)) (high p same_state (lines others)) (act same_state (lines rows)) (act same_state (lines others))
            ≡ act same_state (lines both_rows)
        acts_alike = λ j s. sym (together s).act_is j

    -- ---- its goals are marked

    abbrev MarksGoals : NamedRow → Type 0
    MarksGoals r = IsMarked p (ground_row g r)

    never_marks : (b : Bool) (x y : RowAct ℕ) → x ≢ AtGoal → y ≢ AtGoal → cond b x y ≢ AtGoal
    never_marks true x y no_x no_y = no_x
    never_marks false x y no_x no_y = no_y

    gives_up : ◌≡◌ {A = RowAct ℕ} GivesUp AtGoal → ⊥
    gives_up e = cc

    marks_first : (r : NamedRow) → MarksGoals r → MarksGoals (first_alone penalty r)
    marks_first r is = record {
      at_goal = λ on. let at = is.at_goal on in (
        (let a = at.0 in omega arith),
        (let a = at.1 in omega arith),
        pushed doing (nat_le r.upper penalty) r.act named.GiveUp
            ∙ (λ k. cond (below_all (at.1) k) (doing r.act) (doing named.GiveUp)) ∙ at.2,
      );
      elsewhere = λ off same.
          never_marks (nat_le r.upper penalty) (doing r.act) (doing named.GiveUp) (is.elsewhere off) gives_up
          (sym (pushed doing (nat_le r.upper penalty) r.act named.GiveUp) ∙ same);
    }
      where
        below_all : r.upper ≡ 0 → nat_le r.upper penalty ≡ true
        below_all zero = elim (leb_tells r.upper penalty) [
          | inl on ↦ on.0
          | inr off ↦ absurd (let a = off.1 in omega arith)
        ]

    marks_second : (r : NamedRow) → MarksGoals r → MarksGoals (second_alone penalty r)
    marks_second r is = record {
      at_goal = λ on. let at = is.at_goal on in (
        (let a = at.0 in omega arith),
        (let a = at.1 in omega arith),
        pushed doing (nat_le penalty r.upper) named.GiveUp r.act
            ∙ (λ k. cond (above_none (at.1) k) (doing named.GiveUp) (doing r.act)) ∙ at.2,
      );
      elsewhere = λ off same.
          never_marks (nat_le penalty r.upper) (doing named.GiveUp) (doing r.act) gives_up (is.elsewhere off)
          (sym (pushed doing (nat_le penalty r.upper) named.GiveUp r.act) ∙ same);
    }
      where
        above_none : r.upper ≡ 0 → nat_le penalty r.upper ≡ false
        above_none zero = elim (leb_tells penalty r.upper) [
          | inl on ↦ absurd (let a = on.1 in let b = two.some in omega arith)
          | inr off ↦ off.0
        ]

    marks_both : (r t : NamedRow) → state_named g r ≡ state_named g t → MarksGoals r → MarksGoals t → MarksGoals (meet r t)
    marks_both r t state is is' = record {
      at_goal = λ on. let at = is.at_goal on in let at' = is'.at_goal (subst (λ s. p.goal s ≡ true) state on) in (
        (let a = at.0 in let b = at'.0 in omega arith),
        (let a = at.1 in let b = at'.1 in omega arith),
        pushed doing (nat_le r.upper t.upper) r.act t.act ∙ same_goal (nat_le r.upper t.upper) (doing r.act) (doing t.act) at.2 at'.2,
      );
      elsewhere = λ off same.
          never_marks (nat_le r.upper t.upper) (doing r.act) (doing t.act) (is.elsewhere off) (is'.elsewhere (subst (λ s. p.goal s ≡ false) state off))
          (sym (pushed doing (nat_le r.upper t.upper) r.act t.act) ∙ same);
    }
      where
        same_goal : (b : Bool) (x y : RowAct ℕ) → x ≡ AtGoal → y ≡ AtGoal → cond b x y ≡ AtGoal
        same_goal true x y e f = e
        same_goal false x y e f = f

    marks : (l : List NamedRow) → ((row : Line) → Contains (lines l) row → IsMarked p row) → (r : NamedRow) → Contains l r → MarksGoals r
    marks l marked r inside = marked (ground_row g r) (Contains-map (ground_row g) l r inside)

    marks_made : (z : NamedRow) → Made z → MarksGoals z
    marks_made z (inl m) = subst MarksGoals m.is (marks_first m.row (marks rows two.marked m.row m.inside))
    marks_made z (inr (inl m)) = subst MarksGoals m.is (marks_second m.row (marks others two.marked_too m.row m.inside))
    marks_made z (inr (inr m)) =
        subst MarksGoals m.is
        (marks_both m.row m.other (state_alike m.row m.other m.same) (marks rows two.marked m.row m.inside) (marks others two.marked_too m.other m.inside_other))

    pub both_marked : (row : Line) → Contains (lines both_rows) row → IsMarked p row
    both_marked row inside =
        let from = Contains-map_cases (ground_row g) both_rows row inside in
        subst (IsMarked p) from.2 (marks_made from.0 (made from.0 from.1))

    -- ---- it has a row of exactly the states that have one in either

    abbrev pub HasLine : List NamedRow → State → Type 0
    HasLine l s = (row : Line) × Contains (lines l) row × (row.state ≡ s)

    line_of : (l : List NamedRow) (r : NamedRow) (s : State) → Contains l r → state_named g r ≡ s → HasLine l s
    line_of l r s inside same = (ground_row g r, Contains-map (ground_row g) l r inside, same)

    line_made : (z : NamedRow) → Made z → HasLine rows (state_named g z) ⊎ HasLine others (state_named g z)
    line_made z (inl m) = inl (line_of rows m.row (state_named g z) m.inside (state_alike m.row z (ap (λ (x : NamedRow). x.atoms) m.is)))
    line_made z (inr (inl m)) = inr (line_of others m.row (state_named g z) m.inside (state_alike m.row z (ap (λ (x : NamedRow). x.atoms) m.is)))
    line_made z (inr (inr m)) = inl (line_of rows m.row (state_named g z) m.inside (state_alike m.row z (ap (λ (x : NamedRow). x.atoms) m.is)))

    pub line_from : (s : State) → HasLine both_rows s → HasLine rows s ⊎ HasLine others s
    line_from s has =
        let from = Contains-map_cases (ground_row g) both_rows has.0 has.1 in
        subst (λ u. HasLine rows u ⊎ HasLine others u) (ap (λ (x : Line). x.state) from.2 ∙ has.2) (line_made from.0 (made from.0 from.1))

    pub line_to : (s : State) → HasLine rows s ⊎ HasLine others s → HasLine both_rows s
    line_to s (inl has) =
        let from = Contains-map_cases (ground_row g) rows has.0 has.1 in let z = made_first from.0 from.1 in
        line_of both_rows z.0 s z.1 (z.2 ∙ ap (λ (x : Line). x.state) from.2 ∙ has.2)
    line_to s (inr has) =
        let from = Contains-map_cases (ground_row g) others has.0 has.1 in let z = made_second from.0 from.1 in
        line_of both_rows z.0 s z.1 (z.2 ∙ ap (λ (x : Line). x.state) from.2 ∙ has.2)
