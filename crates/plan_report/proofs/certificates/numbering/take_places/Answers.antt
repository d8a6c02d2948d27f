-- The places of the atoms so far, and those from the next one on.
use Rattle.std.proofs.Common.{◌<◌, ◌++◌, ◌∷◌, [], suc, length, map, sym, ap, subst, ◌∙◌, arith}
use Rattle.std.specs.List.{All}
use Rattle.std.proofs.lemmas.List.{append_assoc}
use Rattle.plan_report.specs.certificates.Tables.{place_in}
use Rattle.plan_report.proofs.certificates.numbering.take_places.Goals as goal

pub loop-atom-preserved : goal.loop-atom-preserved
loop-atom-preserved c =
    let places = c.args.places.now in let rest = c.next.new.self in let numbers = c.loop-atom.numbers.items in
    let atom = c.in-Some.atom in
    let within = subst (All (λ q. q < length places)) c.in-Some.ensures.steps c.loop-atom.invariant.within in
    record {
      callable = tt;
      finite = tt;
      within = λ k d below. within (suc k) d (omega (arith, below));
      taken = ap (λ l. l ++ map (place_in places) rest) c.in_ok-push.ensures.items
          ∙ append_assoc numbers (place_in places atom ∷ []) (map (place_in places) rest)
          ∙ ap (λ l. numbers ++ map (place_in places) l) (sym c.in-Some.ensures.steps)
          ∙ c.loop-atom.invariant.taken;
    }
