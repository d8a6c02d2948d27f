-- By the rows of both, which are all that a certificate has but for its interval.
use Rattle.cert_merge.proofs.OneMerge.{merge_is_one}
use Rattle.cert_merge.proofs.laws.merged_laws.Goals as goal

pub returns : goal.returns
returns c = merge_is_one
