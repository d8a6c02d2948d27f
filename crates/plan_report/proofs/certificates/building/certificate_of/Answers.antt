-- Each step has what it asks for, and what is built is the certificate.
use Rattle.std.proofs.Common.{◌≡◌, ℕ, ◌<◌, ◌≤◌, List, length, map, sym, ap, subst, ◌∙◌, arith}
use Rattle.std.specs.Prelude.{All, AllPairs}
use Rattle.std.specs.List.Sorted.{IsPermutation}
use Rattle.plain_list.specs.Texts.{compare_texts, rises}
use Rattle.ground_model.specs.Ground.{Ground}
use Rattle.bound_core.specs.declared.image.ImageRow.{ImageRow}
use Rattle.certificate.specs.Content.{content_of, name_at, IsCertificate}
use Rattle.certificate.specs.Numbering.{table_of}
use Rattle.bound_core.specs.ends.Ends.{closing_low, closing_high}
use Rattle.plan_report.specs.certificates.RowsKept.{KeptRow}
use Rattle.plan_report.specs.certificates.Kept.{IsShort, kept_rows, used_atoms, act_names, HaveAtomsBelow}
use Rattle.plan_report.specs.certificates.Tables.{ArePlaces, HaveActsIn, numbered_row}
use Rattle.plan_report.specs.certificates.Certificates.{IsCertificateOf}
use Rattle.plan_report.proofs.lemmas.certificates.Order.{row_order, atoms_decide}
use Rattle.plan_report.proofs.lemmas.certificates.Used.{used_rise, used_few}
use Rattle.plan_report.proofs.lemmas.certificates.ActTable.{acts_rise, acts_few, acts_have}
use Rattle.plan_report.proofs.lemmas.certificates.KeptRows.{kept_few}
use Rattle.plan_report.proofs.lemmas.certificates.Steps.{rows_short, used_below, atoms_below}
use Rattle.plan_report.proofs.lemmas.certificates.Form.{IsBuilt, built, has_form}
use Rattle.plan_report.proofs.lemmas.certificates.Readings.{is_certificate_of}
use Rattle.plan_report.proofs.certificates.building.certificate_of.Goals as goal

permuted : (g : Ground) (rows rows' : List ImageRow) (xs kept : List KeptRow) → rows' ≡ rows → xs ≡ kept_rows g rows' → IsPermutation xs kept
    → IsPermutation (kept_rows g rows) kept
permuted g rows rows' xs kept same is moved = subst (λ l. IsPermutation l kept) (is ∙ ap (kept_rows g) same) moved

few_used : (g : Ground) (kept : List KeptRow) → length g.atoms ≤ 1024 → length (used_atoms g kept) < 4294967296
few_used g kept few = (let a = used_few g kept few in omega arith)

few_acts : (g : Ground) (rows : List ImageRow) (kept : List KeptRow) → IsPermutation (kept_rows g rows) kept → length rows ≤ 1000000
    → length (table_of (act_names g kept)) ≤ 1000000
few_acts g rows kept moved few = (let a = acts_few g kept in let b = kept_few g rows kept moved in omega arith)

pub kept_rows-requires : goal.kept_rows-requires
kept_rows-requires c =
    subst (All IsShort) (sym c.as_slice-rows.ensures) (rows_short c.args.problem.now c.args.image.now.rows c.ends_of-ends.ensures.valid c.requires.closing)

pub texts_of-requires : goal.texts_of-requires
texts_of-requires c =
    let g = c.args.problem.now in let rows = c.args.image.now.rows in let kept = c.sort.new.self.items in
    let moved = permuted g rows c.as_slice-rows.result.now c.in_ok-kept.kept.items kept c.as_slice-rows.ensures c.in_ok-kept.ensures c.in_ok-sort.ensures.permutation in
    let used : c.as_slice.result.now ≡ used_atoms g kept = c.as_slice.ensures ∙ c.in_ok-used.ensures ∙ ap (used_atoms g) c.deref.ensures.value in
    subst (All (λ q. q < length c.atoms.result.now)) (sym used)
    (subst (λ (l : List (List ℕ)). All (λ q. q < length l) (used_atoms g kept)) (sym c.atoms.ensures.value) (used_below g rows c.ends_of-ends.ensures.valid c.requires.closing kept moved))

pub places_of-requires-clause-within : goal.places_of-requires-clause-within
places_of-requires-clause-within c =
    let g = c.args.problem.now in let rows = c.args.image.now.rows in let kept = c.sort.new.self.items in
    let moved = permuted g rows c.as_slice-rows.result.now c.in_ok-kept.kept.items kept c.as_slice-rows.ensures c.in_ok-kept.ensures c.in_ok-sort.ensures.permutation in
    let used : c.as_slice-2.result.now ≡ used_atoms g kept = c.as_slice-2.ensures ∙ c.in_ok-used.ensures ∙ ap (used_atoms g) c.deref.ensures.value in
    subst (All (λ q. q < length c.atoms-3.result.now)) (sym used)
    (subst (λ (l : List (List ℕ)). All (λ q. q < length l) (used_atoms g kept)) (sym c.atoms-3.ensures.value) (used_below g rows c.ends_of-ends.ensures.valid c.requires.closing kept moved))

pub places_of-requires-clause-differ : goal.places_of-requires-clause-differ
places_of-requires-clause-differ c =
    let g = c.args.problem.now in let kept = c.sort.new.self.items in
    let used : c.as_slice-2.result.now ≡ used_atoms g kept = c.as_slice-2.ensures ∙ c.in_ok-used.ensures ∙ ap (used_atoms g) c.deref.ensures.value in
    subst (AllPairs (λ p q. p < q)) (sym used) (used_rise g kept)

pub places_of-requires-clause-few : goal.places_of-requires-clause-few
places_of-requires-clause-few c =
    let g = c.args.problem.now in let kept = c.sort.new.self.items in
    let used : c.as_slice-2.result.now ≡ used_atoms g kept = c.as_slice-2.ensures ∙ c.in_ok-used.ensures ∙ ap (used_atoms g) c.deref.ensures.value in
    let most = c.ends_of-ends.ensures.valid.atoms_count in
    subst (λ (l : List ℕ). length l < 4294967296) (sym used) (few_used g kept (omega arith))

pub numbered_rows-requires-clause-atoms : goal.numbered_rows-requires-clause-atoms
numbered_rows-requires-clause-atoms c =
    let g = c.args.problem.now in let rows = c.args.image.now.rows in let kept = c.sort.new.self.items in
    let moved = permuted g rows c.as_slice-rows.result.now c.in_ok-kept.kept.items kept c.as_slice-rows.ensures c.in_ok-kept.ensures c.in_ok-sort.ensures.permutation in
    let long : length c.deref-3.result.now ≡ length g.atoms = ap length c.deref-3.ensures.value ∙ c.in_ok-places.ensures.count ∙ ap length c.atoms-3.ensures.value in
    subst (HaveAtomsBelow (length c.deref-3.result.now)) (sym c.deref-4.ensures.value)
    (subst (λ n. HaveAtomsBelow n kept) (sym long) (atoms_below g rows c.ends_of-ends.ensures.valid c.requires.closing kept moved))

pub numbered_rows-requires-clause-rises : goal.numbered_rows-requires-clause-rises
numbered_rows-requires-clause-rises c =
    let g = c.args.problem.now in let kept = c.sort.new.self.items in
    let acts : c.as_slice-3.result.now ≡ table_of (act_names g kept) = c.as_slice-3.ensures ∙ c.in_ok-acts.ensures ∙ ap (λ l. table_of (act_names g l)) c.deref-2.ensures.value in
    ap (rises compare_texts) acts ∙ acts_rise g kept

pub numbered_rows-requires-clause-few : goal.numbered_rows-requires-clause-few
numbered_rows-requires-clause-few c =
    let g = c.args.problem.now in let rows = c.args.image.now.rows in let kept = c.sort.new.self.items in
    let moved = permuted g rows c.as_slice-rows.result.now c.in_ok-kept.kept.items kept c.as_slice-rows.ensures c.in_ok-kept.ensures c.in_ok-sort.ensures.permutation in
    let acts : c.as_slice-3.result.now ≡ table_of (act_names g kept) = c.as_slice-3.ensures ∙ c.in_ok-acts.ensures ∙ ap (λ l. table_of (act_names g l)) c.deref-2.ensures.value in
    subst (λ (l : List (List ℕ)). length l ≤ 1000000) (sym acts) (few_acts g rows kept moved c.requires.few)

pub numbered_rows-requires-clause-has : goal.numbered_rows-requires-clause-has
numbered_rows-requires-clause-has c =
    let g = c.args.problem.now in let kept = c.sort.new.self.items in
    let acts : c.as_slice-3.result.now ≡ table_of (act_names g kept) = c.as_slice-3.ensures ∙ c.in_ok-acts.ensures ∙ ap (λ l. table_of (act_names g l)) c.deref-2.ensures.value in
    subst (λ (l : List (List ℕ)). HaveActsIn g l c.deref-4.result.now) (sym acts)
    (subst (HaveActsIn g (table_of (act_names g kept))) (sym c.deref-4.ensures.value) (acts_have g kept))

pub new-requires : goal.new-requires
new-requires c =
    let g = c.args.problem.now in let rows = c.args.image.now.rows in let kept = c.sort.new.self.items in let places = c.in_ok-places.places.items in
    let moved = permuted g rows c.as_slice-rows.result.now c.in_ok-kept.kept.items kept c.as_slice-rows.ensures c.in_ok-kept.ensures c.in_ok-sort.ensures.permutation in
    let used : c.as_slice.result.now ≡ used_atoms g kept = c.as_slice.ensures ∙ c.in_ok-used.ensures ∙ ap (used_atoms g) c.deref.ensures.value in
    let used' : c.as_slice-2.result.now ≡ used_atoms g kept = c.as_slice-2.ensures ∙ c.in_ok-used.ensures ∙ ap (used_atoms g) c.deref.ensures.value in
    let acts : c.in_ok-acts.acts ≡ table_of (act_names g kept) = c.in_ok-acts.ensures ∙ ap (λ l. table_of (act_names g l)) c.deref-2.ensures.value in
    let is : IsBuilt g rows places kept = record {
      valid = c.ends_of-ends.ensures.valid;
      closing = c.requires.closing;
      names = c.requires.names;
      few = c.requires.few;
      moved = moved;
      placed = subst (λ (l : List ℕ). ArePlaces l places) used' c.in_ok-places.ensures.places;
    } in
    let low : c.ends_of-ends.result.lower ≡ closing_low g rows = c.ends_of-ends.ensures.ends.0 ∙ ap (closing_low g) c.as_slice-rows.ensures in
    let high : c.ends_of-ends.result.upper ≡ closing_high g rows = c.ends_of-ends.ensures.ends.1 ∙ ap (closing_high g) c.as_slice-rows.ensures in
    let same : content_of 2 c.penalty.result c.ends_of-ends.result.lower c.ends_of-ends.result.upper c.in_ok-atoms.atoms c.in_ok-acts.acts c.in_ok-rows.rows
    ≡ built g rows (used_atoms g kept) places (table_of (act_names g kept)) kept
    = λ j. content_of 2 (c.penalty.ensures.value j) (low j) (high j)
    ((c.in_ok-atoms.ensures ∙ (λ i. map (name_at (c.atoms.ensures.value i)) (used i))) j) (acts j)
    ((c.in_ok-rows.ensures ∙ (λ i. map (numbered_row g (c.deref-3.ensures.value i) ((c.as_slice-3.ensures ∙ acts) i)) (c.deref-4.ensures.value i))) j) in
    subst IsCertificate (sym same) (has_form g rows places kept is row_order atoms_decide c.in_ok-sort.ensures.sorted
    (subst (λ n. n ≤ g.penalty) low c.ends_of-ends.ensures.within_quit.0) (subst (λ n. n ≤ g.penalty) high c.ends_of-ends.ensures.within_quit.1))

pub returns : goal.returns
returns c =
    let g = c.args.problem.now in let rows = c.args.image.now.rows in let kept = c.sort.new.self.items in let places = c.in_ok-places.places.items in
    let moved = permuted g rows c.as_slice-rows.result.now c.in_ok-kept.kept.items kept c.as_slice-rows.ensures c.in_ok-kept.ensures c.in_ok-sort.ensures.permutation in
    let used : c.as_slice.result.now ≡ used_atoms g kept = c.as_slice.ensures ∙ c.in_ok-used.ensures ∙ ap (used_atoms g) c.deref.ensures.value in
    let used' : c.as_slice-2.result.now ≡ used_atoms g kept = c.as_slice-2.ensures ∙ c.in_ok-used.ensures ∙ ap (used_atoms g) c.deref.ensures.value in
    let acts : c.in_ok-acts.acts ≡ table_of (act_names g kept) = c.in_ok-acts.ensures ∙ ap (λ l. table_of (act_names g l)) c.deref-2.ensures.value in
    let is : IsBuilt g rows places kept = record {
      valid = c.ends_of-ends.ensures.valid;
      closing = c.requires.closing;
      names = c.requires.names;
      few = c.requires.few;
      moved = moved;
      placed = subst (λ (l : List ℕ). ArePlaces l places) used' c.in_ok-places.ensures.places;
    } in
    let low : c.ends_of-ends.result.lower ≡ closing_low g rows = c.ends_of-ends.ensures.ends.0 ∙ ap (closing_low g) c.as_slice-rows.ensures in
    let high : c.ends_of-ends.result.upper ≡ closing_high g rows = c.ends_of-ends.ensures.ends.1 ∙ ap (closing_high g) c.as_slice-rows.ensures in
    let same : content_of 2 c.penalty.result c.ends_of-ends.result.lower c.ends_of-ends.result.upper c.in_ok-atoms.atoms c.in_ok-acts.acts c.in_ok-rows.rows
    ≡ built g rows (used_atoms g kept) places (table_of (act_names g kept)) kept
    = λ j. content_of 2 (c.penalty.ensures.value j) (low j) (high j)
    ((c.in_ok-atoms.ensures ∙ (λ i. map (name_at (c.atoms.ensures.value i)) (used i))) j) (acts j)
    ((c.in_ok-rows.ensures ∙ (λ i. map (numbered_row g (c.deref-3.ensures.value i) ((c.as_slice-3.ensures ∙ acts) i)) (c.deref-4.ensures.value i))) j) in
    let form = has_form g rows places kept is row_order atoms_decide c.in_ok-sort.ensures.sorted
    (subst (λ n. n ≤ g.penalty) low c.ends_of-ends.ensures.within_quit.0) (subst (λ n. n ≤ g.penalty) high c.ends_of-ends.ensures.within_quit.1) in
    subst (IsCertificateOf g rows) (sym (c.new.ensures ∙ same)) (is_certificate_of g rows places kept is form)
