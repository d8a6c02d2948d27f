use Rattle.std.proofs.Common.{ap, ◌∙◌}
use Rattle.certificate.specs.Decoding.{header_of, penalty_of, interval_of, count_of, list_of, named_row_of, row_of}
use Rattle.certificate.proofs.HeadLaws.{header_is, header_again, penalty_is, penalty_again, interval_is, interval_again, count_is, count_again}
use Rattle.certificate.proofs.Long.{is_long, long_is_refused}
use Rattle.certificate.proofs.NamedRowLaws.{named_row_is, named_row_again, entry_is, entry_again}
use Rattle.certificate.proofs.RowLaws.{row_is, row_again}
use Rattle.certificate.proofs.Numbering.{names_rise, names_compare}
use Rattle.certificate.proofs.Sorted.{sorted_is}
use Rattle.certificate.proofs.TextLaws.{read_is_text, text_is_read, texts_differ}
use Rattle.certificate.proofs.laws.text_laws.Goals as goal

pub returns-clause-header : goal.returns-clause-header
returns-clause-header c = λ line v. (header_is line v, λ is. ap header_of is.0 ∙ header_again v is.1)

pub returns-clause-penalty : goal.returns-clause-penalty
returns-clause-penalty c = λ line v. (penalty_is line v, λ is. ap penalty_of is.0 ∙ penalty_again v is.1 is.2)

pub returns-clause-interval : goal.returns-clause-interval
returns-clause-interval c = λ line lower upper. (interval_is line lower upper, λ is. ap interval_of is.0 ∙ interval_again lower upper is.1 is.2)

pub returns-clause-count : goal.returns-clause-count
returns-clause-count c = λ word line n. (count_is word line n, λ is. ap (count_of word) is.0 ∙ count_again word n is.1)

pub returns-clause-entry : goal.returns-clause-entry
returns-clause-entry c = λ line entry. (entry_is line entry, λ is. ap list_of is.0 ∙ entry_again entry is.1)

pub returns-clause-named_row : goal.returns-clause-named_row
returns-clause-named_row c = λ line r. (named_row_is line r, λ is. ap named_row_of is.0 ∙ named_row_again r is.1)

pub returns-clause-row : goal.returns-clause-row
returns-clause-row c = λ atoms acts line r few_atoms few_acts. (row_is atoms acts line r, λ is. ap (row_of atoms acts) is.0 ∙ row_again atoms acts r few_atoms few_acts is.1)

pub returns-clause-reads : goal.returns-clause-reads
returns-clause-reads c = λ bytes d. (read_is_text bytes d, λ is. text_is_read bytes d is.1 is.0)

pub returns-clause-refuses_long : goal.returns-clause-refuses_long
returns-clause-refuses_long c = λ bytes. (is_long bytes, long_is_refused bytes)

pub returns-clause-texts_differ : goal.returns-clause-texts_differ
returns-clause-texts_differ c = texts_differ

pub returns-clause-names_rise : goal.returns-clause-names_rise
returns-clause-names_rise c = λ table numbers rise are. names_rise table (sorted_is table rise) numbers are

pub returns-clause-rows_rise : goal.returns-clause-rows_rise
returns-clause-rows_rise c = λ table a b rise are_a are_b. names_compare table (sorted_is table rise) a b are_a are_b
