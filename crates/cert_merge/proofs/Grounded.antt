-- The rows of a certificate as rows of the process, by their names; rows of names whose atoms differ are of different states.
use Rattle.std.proofs.Common.{◌≡◌, ◌≢◌, ℕ, ◌<◌, ◌≤◌, true, cond, ◌&&◌, List, [], ◌∷◌, ◌++◌, length, map, None, refl, sym, ap, subst, ◌∙◌, arith, Ordering}
use Rattle.std.specs.Prelude.{Contains, IsTrue, filter, is_some}
use Rattle.std.specs.List.{AllByRecursion, list_all}
use Rattle.std.specs.declared.cmp.Ordering.TheVariants.{Less, Equal, Greater}
use Rattle.std.proofs.lemmas.List.{get_or-map}
use Rattle.std.proofs.lemmas.List.Concat.{flat_map-cons}
use Rattle.plain_list.specs.Texts.{compare_texts, rises}
use Rattle.plain_list.proofs.Members.{Contains-first, Contains-later, Contains-map}
use Rattle.plain_list.proofs.Related.{AllPairs-head}
use Rattle.certificate.specs.declared.act.Act.{Act}
use Rattle.certificate.specs.declared.act.Act.TheVariants as acts
use Rattle.certificate.specs.declared.named.NamedRow.{NamedRow}
use Rattle.certificate.specs.Rows.{Row}
use Rattle.certificate.specs.Content.{Content, IsCertificate, IsAct, IsRow, name_at, named_act, named_row, named_rows}
use Rattle.certificate.specs.Numbering.{numbered}
use Rattle.certificate.specs.Reading.{IsNamedRow, compare_named_rows}
use Rattle.certificate.proofs.Numbered.{named_again}
use Rattle.certificate.proofs.NumberedIs.{numbered_is}
use Rattle.certificate_check.specs.Claims.{listed, doing, taken, number_at, numbers_of, are_known, atom_numbers, knows, act_of, row_of, rows_of}
use Rattle.certificate_check.proofs.Distinct.{states_differ}
use Rattle.decision_process.specs.Readings as readings
use Rattle.decision_process.specs.Readings.{HasDistinctStates}
use Rattle.ground_model.specs.Packed.{State, words_for}
use Rattle.ground_model.specs.Ground.{Ground}
use Rattle.ground_step.specs.Atoms.{state_of}
use Rattle.ground_step.specs.Names.{place_of, action_names}
use Rattle.cert_merge.specs.Grounded.{known_named, numbers_named, state_named, act_named, ground_row}
use Rattle.cert_merge.proofs.Members.{all_member}
use Rattle.cert_merge.proofs.MergedRows.{Before, tied_is, turned}

module _ (g : Ground) (c : Content) where
  number_is : (i : ℕ) → i < length c.atoms → number_at (atom_numbers g c) i ≡ place_of g.atoms (name_at c.atoms i)
  number_is i within = get_or-map (place_of g.atoms) c.atoms i [] None within

  numbers_are : (atoms : List ℕ) → AllByRecursion (λ n. n < length c.atoms) atoms
      → numbers_of (atom_numbers g c) atoms ≡ numbers_named g (map (name_at c.atoms) atoms)
  numbers_are [] within = refl
  numbers_are (n ∷ atoms) within =
      flat_map-cons (λ i. listed (number_at (atom_numbers g c) i)) n atoms
      ∙ (λ k. listed (number_is n within.0 k) ++ numbers_are atoms within.1 k)
      ∙ sym (flat_map-cons (λ name. listed (place_of g.atoms name)) (name_at c.atoms n) (map (name_at c.atoms) atoms))

  known_are : (atoms : List ℕ) → AllByRecursion (λ n. n < length c.atoms) atoms
      → are_known (atom_numbers g c) atoms ≡ list_all (λ name. is_some (place_of g.atoms name)) (map (name_at c.atoms) atoms)
  known_are [] within = refl
  known_are (n ∷ atoms) within = λ k. is_some (number_is n within.0 k) && known_are atoms within.1 k

  pub act_is : (act : Act) → IsAct (length c.acts) act → act_of g c act ≡ act_named g (named_act c.acts act)
  act_is acts.GiveUp is = refl
  act_is acts.Goal is = refl
  act_is (acts.Do i) is = ap doing (get_or-map (place_of (action_names g)) c.acts i [] None is)

  pub known_is : (r : Row) → IsRow (length c.atoms) (length c.acts) r → knows g c r ≡ known_named g (named_row c.atoms c.acts r)
  known_is r is = known_are r.atoms is.atoms

  row_is : (r : Row) → IsRow (length c.atoms) (length c.acts) r → row_of g c r ≡ ground_row g (named_row c.atoms c.acts r)
  row_is r is = λ k. record {
    state = state_of (numbers_are r.atoms is.atoms k) (words_for (length g.atoms));
    lower = r.lower;
    upper = r.upper;
    act = taken (act_is r.act is.act k);
  }

  rows_are : (rows : List Row) → AllByRecursion (IsRow (length c.atoms) (length c.acts)) rows → ((r : Row) → Contains rows r → knows g c r ≡ true)
      → rows_of g c rows ≡ map (ground_row g) (map (named_row c.atoms c.acts) rows)
  rows_are [] are known = refl
  rows_are (r ∷ rows) are known =
      ap (λ b. map (row_of g c) (cond b (r ∷ filter (knows g c) rows) (filter (knows g c) rows))) (known r (Contains-first r rows))
      ∙ (λ k. row_is r are.0 k ∷ rows_are rows are.1 (λ s inside. known s (Contains-later r rows s inside)) k)

  pub ground_rows : IsCertificate c → ((r : Row) → Contains c.rows r → knows g c r ≡ true) → rows_of g c c.rows ≡ map (ground_row g) (named_rows c)
  ground_rows is known = rows_are c.rows is.rows known

-- ---- rows of names

pub record IsFit (g : Ground) (r : NamedRow) : Type 0 where
  pub formed : IsNamedRow r
  pub rise : rises compare_texts r.atoms ≡ true
  pub known : known_named g r ≡ true

module _ (g : Ground) where
  -- a list of fit rows in order, whose certificate has them by number
  module _ (rows : List NamedRow) (fit : AllByRecursion (IsFit g) rows) (few : length rows ≤ 1000000) (order : rises compare_named_rows rows ≡ true) where
    abbrev c : Content
    c = numbered 1 0 0 rows

    all_formed : (l : List NamedRow) → AllByRecursion (IsFit g) l → AllByRecursion IsNamedRow l
    all_formed [] are = tt
    all_formed (r ∷ l) are = (are.0.formed, all_formed l are.1)

    all_rise : (l : List NamedRow) → AllByRecursion (IsFit g) l → AllByRecursion (λ r. IsTrue (rises compare_texts r.atoms)) l
    all_rise [] are = tt
    all_rise (r ∷ l) are = (are.0.rise, all_rise l are.1)

    is : IsCertificate c
    is = numbered_is 1 0 0 rows (omega arith, omega arith) (omega arith) (omega arith) few
        (record { formed = all_formed rows fit; atoms_rise = all_rise rows fit; rows_rise = order })

    named : named_rows c ≡ rows
    named = named_again 1 0 0 rows

    known : (r : Row) → Contains c.rows r → knows g c r ≡ true
    known r inside =
        let row : NamedRow = named_row c.atoms c.acts r in
        known_is g c r (all_member (IsRow (length c.atoms) (length c.acts)) c.rows r is.rows inside)
        ∙ (all_member (IsFit g) rows row fit (subst (λ (l : List NamedRow). Contains l row) named (named_in c.rows r inside))).known
      where
        named_in : (l : List Row) (r : Row) → Contains l r → Contains (map (named_row c.atoms c.acts) l) (named_row c.atoms c.acts r)
        named_in l r inside = Contains-map (named_row c.atoms c.acts) l r inside

    pub distinct_fit : HasDistinctStates (map (ground_row g) rows)
    distinct_fit =
        subst (λ (l : List NamedRow). HasDistinctStates (map (ground_row g) l)) named
        (subst HasDistinctStates (ground_rows g c is known) (states_differ g c is))

  before_apart : (r s : NamedRow) → IsFit g r → IsFit g s → Before r s → state_named g r ≢ state_named g s
  before_apart r s fit fit' less =
      let pairs = distinct_fit (r ∷ s ∷ []) (fit, (fit', tt)) (omega arith) (rw less refl) in
      AllPairs-head (λ (x y : readings.Row State ℕ). x.state ≢ y.state) (ground_row g r) (ground_row g s ∷ []) pairs (ground_row g s)
      (Contains-first (ground_row g s) [])

  -- fit rows of one state have the same atoms
  pub same_atoms : (r s : NamedRow) → IsFit g r → IsFit g s → state_named g r ≡ state_named g s → r.atoms ≡ s.atoms
  same_atoms r s fit fit' same = by (compare_named_rows r s) refl
    where
      by : (o : Ordering) → compare_named_rows r s ≡ o → r.atoms ≡ s.atoms
      by Less is = absurd (before_apart r s fit fit' is same)
      by Equal is = tied_is r.atoms s.atoms is
      by Greater is = absurd (before_apart s r fit' fit (turned r s is) (sym same))
