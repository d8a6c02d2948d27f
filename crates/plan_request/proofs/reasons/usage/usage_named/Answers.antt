-- The long lines, computed.
use Rattle.std.proofs.Common.{◌≡◌, refl, rules, true, false}
use Rattle.std.specs.Prelude.{codes}
use Rattle.std.specs.Str.{bytes_eq}
use Rattle.plan_request.specs.reasons.Usage.{usage_of}
use Rattle.plan_request.proofs.reasons.usage.usage_named.Goals as goal

pub returns-then-eq : goal.returns-then-eq
unfolding usage_of
returns-then-eq c =
    let is : bytes_eq (codes "solve") c.args.name.now ≡ true = search rules in
    rw is refl

pub returns-then-eq-3 : goal.returns-then-eq-3
unfolding usage_of
returns-then-eq-3 c =
    let first : bytes_eq (codes "solve") c.args.name.now ≡ false = search rules in
    let second : bytes_eq (codes "check") c.args.name.now ≡ false = search rules in
    let third : bytes_eq (codes "serve") c.args.name.now ≡ true = search rules in
    rw (first, second, third) refl
