-- A certificate whose rows are those of two that are balanced is balanced, and says of each state the narrower of both.
use Rattle.std.proofs.Common.{◌≡◌, ◌≢◌, ◌⊎◌, inl, inr, ℕ, ◌<◌, ◌≤◌, Bool, true, false, cond, List, [], ◌∷◌, length, map, Err, refl, sym, ap, subst, ◌∙◌, arith}
use Rattle.std.specs.Prelude.{Contains, AllPairs, IsTrue, is_some, nat_le}
use Rattle.std.specs.List.{AllByRecursion}
use Rattle.std.proofs.lemmas.List.{length-map}
use Rattle.std.proofs.lemmas.List.Kept.{AllPairs-cons}
use Rattle.std.proofs.lemmas.List.Elements.{All-contains_itself, All-weaker}
use Rattle.plain_list.specs.Texts.{compare_texts, rises}
use Rattle.plain_list.proofs.Members.{Contains-map, Contains-map_cases}
use Rattle.plain_list.proofs.Related.{AllPairs-head, AllPairs-tail}
use Rattle.certificate.specs.declared.limits.TheConstants.{MOST_COUNT}
use Rattle.certificate.specs.declared.named.NamedRow.{NamedRow}
use Rattle.certificate.specs.Rows.{Row}
use Rattle.certificate.specs.Content.{Content, IsCertificate, IsRow, named_row, named_rows}
use Rattle.certificate.specs.Reading.{IsNamedRow}
use Rattle.certificate.proofs.NumberedIs.{named_are}
use Rattle.certificate_check.specs.Claims.{knows, act_of, rows_of, low_in, high_in, IsBalancedFor}
use Rattle.decision_process.specs.Balanced.{IsBalanced, IsInterval}
use Rattle.decision_process.specs.Readings as readings
use Rattle.decision_process.specs.Readings.{HasDistinctStates, low, high, act, IsMarked, IsBalancedIn}
use Rattle.ground_model.specs.Packed.{State, same_state}
use Rattle.ground_model.specs.Ground.{Ground}
use Rattle.ground_model.specs.Invariant.{IsGroundProblem}
use Rattle.ground_model.specs.Steps.{ground_process, ground_starts}
use Rattle.cert_merge.specs.declared.draft.Draft.{Draft}
use Rattle.cert_merge.specs.declared.ends.Ends.{Ends}
use Rattle.cert_merge.specs.Narrower.{greater, smaller}
use Rattle.cert_merge.specs.Laws.{LiesIn}
use Rattle.cert_merge.specs.declared.refusal.MergeRefusal.{MergeRefusal}
use Rattle.cert_merge.specs.declared.refusal.MergeRefusal.TheVariants.{Rows, Memory}
use Rattle.cert_merge.specs.Merged.{HasRow, HasRowIn, HasMoreStates, IsMergeOf, Merges}
use Rattle.cert_merge.specs.Grounded.{known_named, state_named, act_named, ground_row}
use Rattle.cert_merge.specs.Pairs.{untold, merged_of}
use Rattle.cert_merge.specs.Tables.{joined}
use Rattle.cert_merge.specs.Drafts.{drafted, own, Drafts, IsDraftOf, IsEndsOf}
use Rattle.cert_merge.proofs.Members.{all_member, members_all, different_within}
use Rattle.cert_merge.proofs.MergedRows.{in_order, all_merged}
use Rattle.cert_merge.proofs.Narrower.{narrower_interval_within}
use Rattle.cert_merge.proofs.Grounded.{IsFit, known_is, act_is, ground_rows}
use Rattle.cert_merge.proofs.Form.{table_few}
use Rattle.cert_merge.proofs.Together.{AreTwo, AreTogether, both_fit, distinct, together, both_balanced, both_marked, line_from, line_to}

abbrev Line : Type 0
Line = readings.Row State ℕ

module _ (g : Ground) where
  abbrev lines : List NamedRow → List Line
  lines l = map (ground_row g) l

  -- ---- one certificate

  module _ (c : Content) (is : IsCertificate c) (for : IsBalancedFor g c) where
    row_from : (x : NamedRow) → Contains (named_rows c) x → (r : Row) × Contains c.rows r × (named_row c.atoms c.acts r ≡ x)
    row_from x inside = Contains-map_cases (named_row c.atoms c.acts) c.rows x inside

    form : (r : Row) → Contains c.rows r → IsRow (length c.atoms) (length c.acts) r
    form r inside = all_member (IsRow (length c.atoms) (length c.acts)) c.rows r is.rows inside

    known_row : (x : NamedRow) → Contains (named_rows c) x → known_named g x ≡ true
    known_row x inside =
        let r = row_from x inside in
        subst (λ (y : NamedRow). known_named g y ≡ true) r.2 (sym (known_is g c r.0 (form r.0 r.1)) ∙ for.atoms_known r.0 r.1)

    fit : AllByRecursion (IsFit g) (named_rows c)
    fit =
        let are = named_are c is in
        members_all (IsFit g) (named_rows c) (λ x inside. record {
          formed = all_member IsNamedRow (named_rows c) x are.formed inside;
          rise = all_member (λ (r : NamedRow). IsTrue (rises compare_texts r.atoms)) (named_rows c) x are.atoms_rise inside;
          known = known_row x inside;
        })

    acts_are_named : AllByRecursion (λ (x : NamedRow). is_some (act_named g x.act) ≡ true) (named_rows c)
    acts_are_named =
        members_all (λ (x : NamedRow). is_some (act_named g x.act) ≡ true) (named_rows c) (λ x inside.
        let r = row_from x inside in
        subst (λ (y : NamedRow). is_some (act_named g y.act) ≡ true) r.2
        (ap is_some (sym (act_is g c r.0.act (form r.0 r.1).act)) ∙ for.acts_named r.0 r.1))

    lines_are : rows_of g c c.rows ≡ lines (named_rows c)
    lines_are = ground_rows g c is for.atoms_known

    marked : (row : Line) → Contains (lines (named_rows c)) row → IsMarked (ground_process g) row
    marked row inside = for.balanced.marked row (subst (λ (l : List Line). Contains l row) (sym lines_are) inside)

    balanced : IsBalanced (ground_process g) (low same_state (lines (named_rows c))) (high (ground_process g) same_state (lines (named_rows c)))
        (act same_state (lines (named_rows c)))
    balanced s = subst (λ (l : List Line). IsBalancedIn (ground_process g) same_state l s) lines_are (for.balanced.balanced s)

  -- ---- two certificates

  module _ (valid : IsGroundProblem g) (c d : Content) (is : IsCertificate c) (is' : IsCertificate d) (for : IsBalancedFor g c) (for' : IsBalancedFor g d) where
    abbrev rows : List NamedRow
    rows = merged_of c d

    pub quit : c.penalty ≡ g.penalty
    quit = for.balanced.penalty

    two : AreTwo g c.penalty (named_rows c) (named_rows d)
    two = record {
      quit = quit;
      some = is.penalty.0;
      most = is.penalty.1;
      order = in_order (named_rows c) (named_are c is).rows_rise;
      order_too = in_order (named_rows d) (named_are d is').rows_rise;
      fit = fit c is for;
      fit_too = fit d is' for';
      marked = marked c is for;
      marked_too = marked d is' for';
    }

    pub few_atoms : length (joined c d) ≤ 1000000
    few_atoms =
        let few = table_few c d is is' g (known_row c is for) (known_row d is' for') in
        let most = valid.atoms_count in omega arith

    lines_fit : AllByRecursion (IsFit g) rows
    lines_fit = both_fit g c.penalty (named_rows c) (named_rows d) two

    states_apart : (l : List NamedRow) → HasDistinctStates (lines l) → AllPairs (λ s t. s ≢ t) (map (state_named g) l)
    states_apart [] pairs = λ i j e before within. absurd (omega arith)
    states_apart (r ∷ l) pairs =
        AllPairs-cons (λ (s t : State). s ≢ t) (state_named g r) (map (state_named g) l)
        (All-weaker (Contains (map (state_named g) l)) (λ (t : State). state_named g r ≢ t) (λ t inside same.
        let from = Contains-map_cases (state_named g) l t inside in
        AllPairs-head (λ (x y : Line). x.state ≢ y.state) (ground_row g r) (lines l) pairs (ground_row g from.0) (Contains-map (ground_row g) l from.0 from.1)
        (same ∙ sym from.2)) (map (state_named g) l) (All-contains_itself (map (state_named g) l)))
        (states_apart l (AllPairs-tail (λ (x y : Line). x.state ≢ y.state) (ground_row g r) (lines l) pairs))

    abbrev Lined : List NamedRow → State → Type 0
    Lined l s = (row : Line) × Contains (lines l) row × (row.state ≡ s)

    row_in_first : (s : State) → HasRow g c s → Lined (named_rows c) s
    row_in_first s has = (has.0, subst (λ (l : List Line). Contains l has.0) (lines_are c is for) has.1, has.2)

    row_in_second : (s : State) → HasRow g d s → Lined (named_rows d) s
    row_in_second s has = (has.0, subst (λ (l : List Line). Contains l has.0) (lines_are d is' for') has.1, has.2)

    first_row : (s : State) → Lined (named_rows c) s → HasRow g c s
    first_row s has = (has.0, subst (λ (l : List Line). Contains l has.0) (sym (lines_are c is for)) has.1, has.2)

    second_row : (s : State) → Lined (named_rows d) s → HasRow g d s
    second_row s has = (has.0, subst (λ (l : List Line). Contains l has.0) (sym (lines_are d is' for')) has.1, has.2)

    to_either : (s : State) → Lined (named_rows c) s ⊎ Lined (named_rows d) s → HasRowIn g c d s
    to_either s (inl has) = inl (first_row s has)
    to_either s (inr has) = inr (second_row s has)

    from_either : (s : State) → HasRowIn g c d s → Lined (named_rows c) s ⊎ Lined (named_rows d) s
    from_either s (inl has) = inl (row_in_first s has)
    from_either s (inr has) = inr (row_in_second s has)

    pub lined_from : (s : State) → Lined rows s → HasRowIn g c d s
    lined_from s has = to_either s (line_from g c.penalty (named_rows c) (named_rows d) two s has)

    pub lined_to : (s : State) → HasRowIn g c d s → Lined rows s
    lined_to s has = line_to g c.penalty (named_rows c) (named_rows d) two s (from_either s has)

    pub more_states : (n : ℕ) → n < length rows → HasMoreStates n g c d
    more_states n more = record {
      states = map (state_named g) rows;
      distinct = states_apart rows (distinct g c.penalty (named_rows c) (named_rows d) two);
      have = λ s inside.
          (let from = Contains-map_cases (state_named g) rows s inside in
          lined_from s (ground_row g from.0, Contains-map (ground_row g) rows from.0 from.1, from.2));
      more = (let long = length-map rows (state_named g) in omega arith);
    }

    pub more_rows : (n : ℕ) → HasMoreStates n g c d → n < length rows
    more_rows n has =
        let within : length has.states ≤ length (map (state_named g) rows)
        = different_within has.states (map (state_named g) rows) has.distinct (λ s inside.
        let line = lined_to s (has.have s inside) in
        let from = Contains-map_cases (ground_row g) rows line.0 line.1 in
        subst (Contains (map (state_named g) rows)) (ap (λ (x : Line). x.state) from.2 ∙ line.2) (Contains-map (state_named g) rows from.0 from.1)) in
        let long = length-map rows (state_named g) in let more = has.more in omega arith

    -- ---- a certificate that has their rows

    module _ (m : Content) (formed : IsCertificate m) (named : named_rows m ≡ rows) where
      row_named : (r : Row) → Contains m.rows r → Contains rows (named_row m.atoms m.acts r)
      row_named r inside =
          subst (λ (l : List NamedRow). Contains l (named_row m.atoms m.acts r)) named (Contains-map (named_row m.atoms m.acts) m.rows r inside)

      row_formed : (r : Row) → Contains m.rows r → IsRow (length m.atoms) (length m.acts) r
      row_formed r inside = all_member (IsRow (length m.atoms) (length m.acts)) m.rows r formed.rows inside

      pub rows_known : (r : Row) → Contains m.rows r → knows g m r ≡ true
      rows_known r inside =
          known_is g m r (row_formed r inside)
          ∙ (all_member (IsFit g) rows (named_row m.atoms m.acts r) lines_fit (row_named r inside)).known

      either : {A : Type 0} (P : A → Type 0) (t : Bool) (a b : A) → P a → P b → P (cond t a b)
      either P true a b p q = p
      either P false a b p q = q

      acts_named : (r : Row) → Contains m.rows r → is_some (act_of g m r.act) ≡ true
      acts_named r inside =
          ap is_some (act_is g m r.act (row_formed r inside).act)
          ∙ all_member (λ (x : NamedRow). is_some (act_named g x.act) ≡ true) rows (named_row m.atoms m.acts r)
          (all_merged c.penalty (λ (x : NamedRow). is_some (act_named g x.act) ≡ true)
          (λ x on. either (λ a. is_some (act_named g a) ≡ true) (nat_le x.upper c.penalty) x.act (untold c.penalty x.atoms).act on refl)
          (λ x on. either (λ a. is_some (act_named g a) ≡ true) (nat_le c.penalty x.upper) (untold c.penalty x.atoms).act x.act refl on)
          (λ x y on on'. either (λ a. is_some (act_named g a) ≡ true) (nat_le x.upper y.upper) x.act y.act on on')
          (named_rows c) (named_rows d) (acts_are_named c is for) (acts_are_named d is' for'))
          (row_named r inside)

      lines_of : rows_of g m m.rows ≡ lines rows
      lines_of = ground_rows g m formed rows_known ∙ ap lines named

      at_state : (s : State) → AreTogether g (rows_of g c c.rows) (rows_of g d d.rows) (rows_of g m m.rows) s
      at_state s =
          subst (λ (l : List Line). AreTogether g l (rows_of g d d.rows) (rows_of g m m.rows) s) (sym (lines_are c is for))
          (subst (λ (l : List Line). AreTogether g (lines (named_rows c)) l (rows_of g m m.rows) s) (sym (lines_are d is' for'))
          (subst (λ (l : List Line). AreTogether g (lines (named_rows c)) (lines (named_rows d)) l s) (sym lines_of)
          (together g c.penalty (named_rows c) (named_rows d) two s)))

      all_marked : (row : Line) → Contains (rows_of g m m.rows) row → IsMarked (ground_process g) row
      all_marked row inside =
          both_marked g c.penalty (named_rows c) (named_rows d) two row (subst (λ (l : List Line). Contains l row) lines_of inside)

      module _ (penalty : m.penalty ≡ g.penalty) (version : m.version ≡ 2)
          (interval : IsInterval (low_in g m) (high_in g m) (ground_starts g) g.start_den m.lower m.upper) where
        is_balanced : IsBalancedFor g m
        is_balanced = record {
          atoms_known = rows_known;
          acts_named = acts_named;
          balanced = record {
            penalty = penalty;
            distinct = subst HasDistinctStates (sym lines_of) (distinct g c.penalty (named_rows c) (named_rows d) two);
            marked = all_marked;
            balanced = λ s.
                subst (λ (l : List Line). IsBalancedIn (ground_process g) same_state l s) (sym lines_of)
                (both_balanced g c.penalty (named_rows c) (named_rows d) two (balanced c is for) (balanced d is' for') s);
            interval = interval;
          };
        }

        lows : low_in g m ≡ greater (low_in g c) (low_in g d)
        lows = λ j s. (at_state s).low_is j

        highs : high_in g m ≡ smaller (high_in g c) (high_in g d)
        highs = λ j s. (at_state s).high_is j

        narrow : IsInterval (greater (low_in g c) (low_in g d)) (smaller (high_in g c) (high_in g d)) (ground_starts g) g.start_den m.lower m.upper
        narrow =
            subst (λ (f : State → ℕ). IsInterval f (smaller (high_in g c) (high_in g d)) (ground_starts g) g.start_den m.lower m.upper) lows
            (subst (λ (f : State → ℕ). IsInterval (low_in g m) f (ground_starts g) g.start_den m.lower m.upper) highs interval)

        within : LiesIn m.lower m.upper c.lower c.upper × LiesIn m.lower m.upper d.lower d.upper
        within =
            narrower_interval_within (low_in g c) (high_in g c) (low_in g d) (high_in g d) (ground_starts g) g.start_den valid.starts_weights.den_above
            c.lower c.upper d.lower d.upper m.lower m.upper for.balanced.interval for'.balanced.interval narrow

        lined : (s : State) → HasRow g m s → Lined rows s
        lined s has = (has.0, subst (λ (l : List Line). Contains l has.0) lines_of has.1, has.2)

        unlined : (s : State) → Lined rows s → HasRow g m s
        unlined s has = (has.0, subst (λ (l : List Line). Contains l has.0) (sym lines_of) has.1, has.2)

        pub is_merge : IsMergeOf g c d m
        is_merge = record {
          form = formed;
          version = version;
          balanced = is_balanced;
          rows = λ s. (λ has. lined_from s (lined s has), λ has. unlined s (lined_to s has));
          low = λ s. (at_state s).low_is;
          high = λ s. (at_state s).high_is;
          act = λ s. (at_state s).act_is;
          goal = λ row inside on. ((all_marked row inside).at_goal on).2;
          in_first = within.0;
          in_second = within.1;
          named = named;
        }

    -- ---- the certificate of a draft

    module _ (draft : Draft) (drafts : IsDraftOf c d draft) where
      pub own_formed : IsCertificate (own g draft)
      own_formed = subst (λ n. IsCertificate (drafted n 0 0 draft)) quit drafts.form

      own_rows : named_rows (own g draft) ≡ rows
      own_rows = drafts.rows

      pub own_known : (r : Row) → Contains draft.rows r → knows g (own g draft) r ≡ true
      own_known = rows_known (own g draft) own_formed own_rows

      pub too_few : HasMoreStates MOST_COUNT g c d → ⊥
      too_few has =
          let more = more_rows MOST_COUNT has in
          let long : length rows ≡ length draft.rows
          = ap length (sym own_rows) ∙ length-map draft.rows (named_row draft.atoms draft.acts) in
          let count = own_formed.count in absurd (omega arith)

      module _ (ends : Ends) (are : IsEndsOf g (own g draft) ends) where
        pub whole_formed : IsCertificate (drafted g.penalty ends.lower ends.upper draft)
        whole_formed = let is = own_formed in record {
          version = is.version;
          penalty = is.penalty;
          lower = are.lower_in;
          upper = are.upper_in;
          count = is.count;
          atoms = is.atoms;
          acts = is.acts;
          atoms_rise = is.atoms_rise;
          acts_rise = is.acts_rise;
          few_atoms = is.few_atoms;
          few_acts = is.few_acts;
          atoms_used = is.atoms_used;
          acts_used = is.acts_used;
          rows = is.rows;
          numbers_rise = is.numbers_rise;
          rows_rise = is.rows_rise;
        }

        pub whole_merges : IsMergeOf g c d (drafted g.penalty ends.lower ends.upper draft)
        whole_merges = is_merge (drafted g.penalty ends.lower ends.upper draft) whole_formed own_rows refl refl are.interval

-- what is said where there is no draft
pub refused : (g : Ground) (valid : IsGroundProblem g) (c d : Content) (is : IsCertificate c) (is' : IsCertificate d) (for : IsBalancedFor g c)
    (for' : IsBalancedFor g d) (refusal : MergeRefusal) → Drafts c d (Err refusal) → Merges g c d (Err refusal)
refused g valid c d is is' for for' Rows more = more_states g valid c d is is' for for' MOST_COUNT more
refused g valid c d is is' for for' Memory none = tt
