-- Two certificates make one: its rows by names give its tables and its numbers, and its readings give its interval.
use Rattle.std.proofs.Common.{◌≡◌, ℕ, List, map, refl, sym, ap, ◌∙◌}
use Rattle.certificate.specs.declared.named.NamedRow.{NamedRow}
use Rattle.certificate.specs.Rows.{Row}
use Rattle.certificate.specs.Content.{Content, content_of, IsCertificate, named_rows}
use Rattle.certificate.specs.Numbering.{atoms_table, acts_table, numbered_row, numbered}
use Rattle.certificate.proofs.Numbered.{numbered_again}
use Rattle.certificate_check.specs.Claims.{low_in, high_in}
use Rattle.decision_process.specs.Backup.{floor, ceiling}
use Rattle.decision_process.specs.Process.{at_starts}
use Rattle.ground_model.specs.Packed.{State}
use Rattle.ground_model.specs.Ground.{Ground}
use Rattle.ground_model.specs.Steps.{ground_starts}
use Rattle.cert_merge.specs.Narrower.{greater, smaller}
use Rattle.cert_merge.specs.Merged.{IsMergeOf, MergeIsOne}
use Rattle.cert_merge.proofs.Form.{first_is}

-- the rows by numbers, of rows by names
abbrev rows_for : List NamedRow → List Row
rows_for rows = map (numbered_row (atoms_table rows) (acts_table rows)) rows

module _ (c : Content) (is : IsCertificate c) where
  again : numbered c.penalty c.lower c.upper (named_rows c) ≡ content_of 1 c.penalty c.lower c.upper c.atoms c.acts c.rows
  again = numbered_again (content_of 1 c.penalty c.lower c.upper c.atoms c.acts c.rows) refl (first_is c is)

  own_atoms : atoms_table (named_rows c) ≡ c.atoms
  own_atoms = ap (λ (x : Content). x.atoms) again

  own_acts : acts_table (named_rows c) ≡ c.acts
  own_acts = ap (λ (x : Content). x.acts) again

  own_rows : rows_for (named_rows c) ≡ c.rows
  own_rows = ap (λ (x : Content). x.rows) again

module _ (g : Ground) (c d m : Content) (merge : IsMergeOf g c d m) where
  lows : low_in g m ≡ greater (low_in g c) (low_in g d)
  lows = λ j s. merge.low s j

  highs : high_in g m ≡ smaller (high_in g c) (high_in g d)
  highs = λ j s. merge.high s j

  lower_is : m.lower ≡ floor (at_starts (greater (low_in g c) (low_in g d)) (ground_starts g)) g.start_den
  lower_is = merge.balanced.balanced.interval.floor_of_low ∙ ap (λ (f : State → ℕ). floor (at_starts f (ground_starts g)) g.start_den) lows

  upper_is : m.upper ≡ ceiling (at_starts (smaller (high_in g c) (high_in g d)) (ground_starts g)) g.start_den
  upper_is = merge.balanced.balanced.interval.ceiling_of_high ∙ ap (λ (f : State → ℕ). ceiling (at_starts f (ground_starts g)) g.start_den) highs

pub merge_is_one : MergeIsOne
merge_is_one g c d m m' merge merge' =
    let rows : named_rows m ≡ named_rows m' = merge.named ∙ sym merge'.named in
    let version : m.version ≡ m'.version = merge.version ∙ sym merge'.version in
    let penalty : m.penalty ≡ m'.penalty = merge.balanced.balanced.penalty ∙ sym merge'.balanced.balanced.penalty in
    let lower : m.lower ≡ m'.lower = lower_is g c d m merge ∙ sym (lower_is g c d m' merge') in
    let upper : m.upper ≡ m'.upper = upper_is g c d m merge ∙ sym (upper_is g c d m' merge') in
    let atoms : m.atoms ≡ m'.atoms = sym (own_atoms m merge.form) ∙ ap atoms_table rows ∙ own_atoms m' merge'.form in
    let acts : m.acts ≡ m'.acts = sym (own_acts m merge.form) ∙ ap acts_table rows ∙ own_acts m' merge'.form in
    let numbers : m.rows ≡ m'.rows = sym (own_rows m merge.form) ∙ ap rows_for rows ∙ own_rows m' merge'.form in
    λ j. content_of (version j) (penalty j) (lower j) (upper j) (atoms j) (acts j) (numbers j)
