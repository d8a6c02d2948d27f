-- One more row, and what is left.
use Rattle.std.proofs.Common.{◌+◌, ◌++◌, ◌∷◌, [], ℕ, List, map, sym, ap, subst, ◌∙◌, arith}
use Rattle.std.specs.List.{All}
use Rattle.std.proofs.lemmas.List.{append_assoc}
use Rattle.std.proofs.lemmas.List.Elements.{All-append}
use mathlib.Core.List.{map-append}
use Rattle.plain_list.specs.Texts.{compare_texts, rises}
use Rattle.certificate.specs.declared.named.NamedRow.{NamedRow}
use Rattle.cert_merge.specs.Tables.{ArePlaces}
use Rattle.cert_merge.specs.Pairs.{row_of, left, IsOriginOf, PlacesAgree, taken_first, taken_second}
use Rattle.cert_merge.proofs.Joined.{joined_rises, places_agree}
use Rattle.cert_merge.proofs.NextRow.{one_all}
use Rattle.cert_merge.proofs.pairing.origins_of.Goals as goal

pub places_of-requires-clause-rises : goal.places_of-requires-clause-rises
places_of-requires-clause-rises c = ap (rises compare_texts) c.requires.atoms ∙ joined_rises c.args.first.now c.args.second.now

pub places_of-requires-2-clause-rises : goal.places_of-requires-2-clause-rises
places_of-requires-2-clause-rises c = ap (rises compare_texts) c.requires.atoms ∙ joined_rises c.args.first.now c.args.second.now

pub next_origin-origin-requires-clause-agree : goal.next_origin-origin-requires-clause-agree
next_origin-origin-requires-clause-agree c =
    let first = c.args.first.now in let second = c.args.second.now in
    let ours : ArePlaces c.args.atoms.now c.atoms.result.now c.in_ok-ours.ours.items = c.in_ok-ours.ensures in
    let theirs : ArePlaces c.args.atoms.now c.atoms-2.result.now c.in_ok-theirs.theirs.items = c.in_ok-theirs.ensures in
    let agree : PlacesAgree first second c.in_ok-ours.ours.items c.in_ok-theirs.theirs.items
    = places_agree first second c.in_ok-ours.ours.items c.in_ok-theirs.theirs.items
    (subst (λ (t : List (List ℕ)). ArePlaces t first.atoms c.in_ok-ours.ours.items) c.requires.atoms
    (subst (λ (t : List (List ℕ)). ArePlaces c.args.atoms.now t c.in_ok-ours.ours.items) c.atoms.ensures.value ours))
    (subst (λ (t : List (List ℕ)). ArePlaces t second.atoms c.in_ok-theirs.theirs.items) c.requires.atoms
    (subst (λ (t : List (List ℕ)). ArePlaces c.args.atoms.now t c.in_ok-theirs.theirs.items) c.atoms-2.ensures.value theirs)) in
    subst (λ (l : List ℕ). PlacesAgree first second l c.deref-in-loop-i.result.now) (sym c.deref.ensures.value)
    (subst (PlacesAgree first second c.in_ok-ours.ours.items) (sym c.deref-in-loop-i.ensures.value) agree)

pub loop-i-preserved : goal.loop-i-preserved
loop-i-preserved c =
    let first = c.args.first.now in let second = c.args.second.now in
    let origins = c.loop-i.origins.items in let o = c.next_origin-origin.result in let next = c.next_origin-origin.ensures in
    let i = c.taken_first-i.ensures in let j = c.taken_second-j.ensures in
    let row = row_of first second in
    record {
      first = omega (arith, next.first_within, i);
      second = omega (arith, next.second_within, j);
      rows = (λ k. map row (c.in_ok-push.ensures.items k) ++ left first second (c.loop-i.i + i k) (c.loop-i.j + j k))
          ∙ ap (λ (l : List NamedRow). l ++ left first second (c.loop-i.i + taken_first o) (c.loop-i.j + taken_second o)) (map-append row origins (o ∷ []))
          ∙ append_assoc (map row origins) (row o ∷ []) (left first second (c.loop-i.i + taken_first o) (c.loop-i.j + taken_second o))
          ∙ ap (λ (l : List NamedRow). map row origins ++ l) (sym next.next)
          ∙ c.loop-i.invariant.rows;
      within = subst (All (IsOriginOf first second)) (sym c.in_ok-push.ensures.items)
          (All-append (IsOriginOf first second) origins (o ∷ []) c.loop-i.invariant.within (one_all (IsOriginOf first second) o next.within));
    }
