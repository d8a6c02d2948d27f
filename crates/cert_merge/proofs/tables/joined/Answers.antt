-- The atoms of the second are put behind those of the first.
use Rattle.std.proofs.Common.{◌≡◌, [], ℕ, List, sym, subst, ◌∙◌}
use Rattle.std.specs.Prelude.{IfOk}
use Rattle.certificate.specs.Numbering.{filled}
use Rattle.cert_merge.specs.Tables.{joined}
use Rattle.cert_merge.proofs.Joined.{filled-append}
use Rattle.cert_merge.proofs.tables.joined.Goals as goal

pub returns-clause-table : goal.returns-clause-table
returns-clause-table c =
    let first = c.args.first.now in let second = c.args.second.now in
    let keys : c.insert_all-2.new.names.keys ≡ joined first second
    = c.in_ok-insert_all-2.ensures
    ∙ (λ k. filled ((c.in_ok-insert_all.ensures ∙ (λ i. filled (c.new-names.ensures.empty i) (c.atoms-atoms.ensures.value i))) k) (c.atoms-others.ensures.value k))
    ∙ sym (filled-append [] first.atoms second.atoms) in
    subst (λ (t : List (List ℕ)). IfOk c.entries_of.result (λ table. table ≡ t)) keys c.entries_of.ensures
