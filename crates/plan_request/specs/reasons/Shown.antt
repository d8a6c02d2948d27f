-- What contracts see of the names of a request, and of a fault of values.
use Rattle.plan_request.specs.declared.reasons.names.Names.{Names}
use Rattle.plan_request.specs.reasons.Reasons as reasons
use Rattle.plan_request.specs.reasons.Values as values
use Rattle.plan_request.specs.declared.reasons.value_fault.ValueFault.{ValueFault}
use Rattle.plan_request.specs.declared.reasons.value_fault.ValueFault.TheVariants as code

abbrev pub shown_names : Names → reasons.Names
shown_names n = record {
  domain = n.domain.now;
  problem = n.problem.now;
  certificate = n.certificate.now;
  second = n.second.now;
  written = n.written.now;
}

abbrev pub shown_value : ValueFault → values.ValueFault
shown_value (code.Lacking n) = values.lacking n.now
shown_value (code.Unfit kind n v) = values.unfit kind n.now v.now
shown_value code.Swept = values.swept
