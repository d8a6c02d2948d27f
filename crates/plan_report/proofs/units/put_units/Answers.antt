use Rattle.std.proofs.Common.{rules, ◌<◌, ◌≤◌, ◌/◌, refl, length, subst, sym, ◌∙◌, arith}
use Rattle.std.specs.Prelude.{List, ℕ}
use Rattle.std.proofs.lemmas.Fmt.{length-decimal-le}
use Rattle.plan_report.proofs.units.put_units.Goals as goal

pub loop-byte-init : goal.loop-byte-init
loop-byte-init c =
    let v = c.args.value in
    let small : v < 18446744073709551616 = search rules in
    record {
      place = refl;
      written = refl;
      short =
          subst (λ (l : List ℕ). length l ≤ 14) (sym (c.as_bytes-whole.ensures.value ∙ c.format.ensures.text))
          (length-decimal-le 14 (v / 1000000) (omega arith) (omega (arith, small)) (omega (arith, small)));
    }
