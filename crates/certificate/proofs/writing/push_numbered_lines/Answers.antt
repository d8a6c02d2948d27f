use Rattle.std.proofs.Common.{◌≡◌, ◌<◌, ◌++◌, length, map, List, ℕ, Err, refl, subst}
use Rattle.std.specs.List.{flat_map}
use Rattle.std.proofs.lemmas.Result.{err_from_is_err_and}
use Rattle.certificate.specs.declared.limits.TheConstants.{MOST_BYTES}
use Rattle.certificate.specs.Spelling.{atoms_line, acts_line, states_line, row_line}
use Rattle.certificate.specs.Content.{ended}
use Rattle.certificate.specs.Rows.{Row}
use Rattle.certificate.specs.Answers.{Appends}
use Rattle.certificate.proofs.Appended.{so_far, lines, lines_pushed, lines_too_long, Appends-err}
use Rattle.certificate.proofs.writing.push_numbered_lines.Goals as goal

pub returns-in_err-push_rows : goal.returns-in_err-push_rows
returns-in_err-push_rows c =
    let p = err_from_is_err_and c.from_residual-in_err-push_rows.result c.from_residual-in_err-push_rows.ensures.1 in
    let it = c.args.certificate.now in
    let old : List ℕ = c.args.out.now.items in
    let k : List ℕ = atoms_line (length it.atoms) in
    let j : List ℕ = acts_line (length it.acts) in
    let n : List ℕ = states_line (length it.rows) in
    let rows : List (List ℕ) = map row_line it.rows in
    let now : c.push_named-3.new.out.items ≡ so_far old k j n it.atoms it.acts rows = rw (c.in_ok-push_named-3.ensures, c.in_ok-push_entries-2.ensures, c.in_ok-push_named-2.ensures, c.in_ok-push_entries.ensures, c.in_ok-push_named.ensures, c.atoms.ensures.value, c.atoms-2.ensures.value, c.acts.ensures.value, c.acts-2.ensures.value, c.len.ensures, c.rows.ensures.value) refl in
    let refused : Appends MOST_BYTES (flat_map ended rows) c.push_named-3.new.out.items c.push_rows.new.out.items (Err c.in_err-push_rows.field-0.0) =
    subst (λ (rs : List Row). Appends MOST_BYTES (flat_map ended (map row_line rs)) c.push_named-3.new.out.items c.push_rows.new.out.items (Err c.in_err-push_rows.field-0.0)) c.rows-2.ensures.value c.in_err-push_rows.ensures in
    rw (p.1, p.2) (
    Appends-err MOST_BYTES (flat_map ended rows) (lines old k j n it.atoms it.acts rows) c.push_named-3.new.out.items c.push_rows.new.out.items old c.push_rows.new.out.items c.in_err-push_rows.field-0.0 refused
    (λ above. lines_too_long old k j n it.atoms it.acts rows MOST_BYTES (subst (λ (x : List ℕ). MOST_BYTES < length (x ++ flat_map ended rows)) now above))
    )

pub returns : goal.returns
returns c =
    let it = c.args.certificate.now in
    rw (c.in_ok-extend_from_slice.ensures.items, c.in_ok-push_rows.ensures, c.in_ok-push_named-3.ensures, c.in_ok-push_entries-2.ensures, c.in_ok-push_named-2.ensures, c.in_ok-push_entries.ensures, c.in_ok-push_named.ensures, c.atoms.ensures.value, c.atoms-2.ensures.value, c.acts.ensures.value, c.acts-2.ensures.value, c.len.ensures, c.rows.ensures.value, c.rows-2.ensures.value)
    (lines_pushed c.args.out.now.items (atoms_line (length it.atoms)) (acts_line (length it.acts)) (states_line (length it.rows)) it.atoms it.acts (map row_line it.rows))
