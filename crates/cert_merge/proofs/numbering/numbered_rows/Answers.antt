-- A row is by its places what the row made of its origin is by its names.
use Rattle.std.proofs.Common.{◌≡◌, ◌++◌, ◌∷◌, [], ℕ, List, map, take, get_or, sym, ap, subst, ◌∙◌}
use Rattle.std.specs.Prelude.{Contains}
use Rattle.std.proofs.lemmas.List.{map_more}
use Rattle.std.proofs.lemmas.List.Elements.{All-contains, Contains-get_or}
use mathlib.Core.List.{map-append}
use Rattle.plain_list.specs.Texts.{compare_texts, rises}
use Rattle.certificate.specs.Rows.{Row}
use Rattle.certificate.specs.Numbering.{acts_table, atoms_table, numbered_row}
use Rattle.certificate.proofs.Sorted.{sorted_rises, table_sorted}
use Rattle.certificate.proofs.Numbered.{atoms_in, acts_in, HasNames}
use Rattle.cert_merge.specs.declared.origin.Origin.{Origin}
use Rattle.cert_merge.specs.declared.origin.Origin.TheVariants.{First}
use Rattle.cert_merge.specs.Pairs.{merged_of, row_of, IsOriginOf}
use Rattle.cert_merge.proofs.Placed.{pushed, row_placed, has_names}
use Rattle.cert_merge.proofs.numbering.numbered_rows.Goals as goal

pub new-requires-clause-atoms : goal.new-requires-clause-atoms
new-requires-clause-atoms c =
    let rows = merged_of c.args.first.now c.args.second.now in
    ap (rises compare_texts) c.requires.atoms ∙ sorted_rises (atoms_table rows) (table_sorted (atoms_in rows))

pub new-requires-clause-acts : goal.new-requires-clause-acts
new-requires-clause-acts c =
    let rows = merged_of c.args.first.now c.args.second.now in
    ap (rises compare_texts) c.requires.acts ∙ sorted_rises (acts_table rows) (table_sorted (acts_in rows))

pub loop-origin-preserved : goal.loop-origin-preserved
loop-origin-preserved c =
    let first = c.args.first.now in let second = c.args.second.now in
    let atoms = c.args.atoms.now in let acts = c.args.acts.now in
    let origins = c.args.origins.now in let i = c.loop-origin.origin-index in let o : Origin = get_or origins i (First 0) in
    let places = c.in_ok-places.places in
    let inside : Contains origins o = Contains-get_or origins i (First 0) c.loop-origin-test.true in
    let within : IsOriginOf first second o = All-contains (IsOriginOf first second) origins o c.requires.origins.within inside in
    let has : HasNames atoms acts (row_of first second o)
    = subst (λ (t : List (List ℕ)). HasNames t acts (row_of first second o)) (sym c.requires.atoms)
    (subst (λ (t : List (List ℕ)). HasNames (atoms_table (merged_of first second)) t (row_of first second o)) (sym c.requires.acts)
    (has_names first second origins c.requires.origins o inside)) in
    let row : pushed atoms acts first second places c.in_ok-places.ensures o c.claim_of-claim.result
    ≡ numbered_row atoms acts (row_of first second o)
    = row_placed atoms acts first second places c.in_ok-places.ensures o within has c.claim_of-claim.result c.claim_of-claim.ensures in
    let numbers = c.deref.ensures.value ∙ c.in_ok-take_atoms.ensures in
    c.in_ok-push.ensures.pushed
    ∙ (λ j. c.loop-origin.invariant j ++ record { lower = c.claim_of-claim.result.lower; upper = c.claim_of-claim.result.upper; act = c.act.ensures j; atoms = numbers j } ∷ [])
    ∙ ap (λ (r : Row). map (numbered_row atoms acts) (map (row_of first second) (take i origins)) ++ r ∷ []) row
    ∙ sym (ap (map (numbered_row atoms acts)) (map_more (row_of first second) origins i (First 0) c.loop-origin-test.true)
    ∙ map-append (numbered_row atoms acts) (map (row_of first second) (take i origins)) (row_of first second o ∷ []))
