-- The laws of totals, by their lemmas.
use Rattle.plain_list.proofs.lemmas.weighted.Totals.{total-append, total-map, total-add, total-times, total-same, total-le}
use Rattle.plain_list.proofs.weighted.total_laws.Goals as goal

pub returns-clause-append : goal.returns-clause-append
returns-clause-append g c = total-append

pub returns-clause-map : goal.returns-clause-map
returns-clause-map g c = total-map

pub returns-clause-sum : goal.returns-clause-sum
returns-clause-sum g c = total-add

pub returns-clause-multiple : goal.returns-clause-multiple
returns-clause-multiple g c = total-times

pub returns-clause-same : goal.returns-clause-same
returns-clause-same g c = total-same

pub returns-clause-smaller : goal.returns-clause-smaller
returns-clause-smaller g c = total-le
