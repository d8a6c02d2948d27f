-- What `run` says of the words that it is lent, said of the words; and a shelf that is left alone is left as any request may leave it.
use Rattle.std.proofs.Common.{inl, inr, rules}
use Rattle.std.specs.Prelude.{◌≡◌, map, string_bytes, Some}
use Rattle.plan_request.specs.Asked.{to_solve, to_serve, to_merge, to_draw, request_as_read}
use Rattle.plan_app.proofs.Flow.{unchanged}
use Rattle.ppddl_plan.proofs.run_with.Goals as goal

pub returns-in-Ok-clause-write_failed : goal.returns-in-Ok-clause-write_failed
returns-in-Ok-clause-write_failed g c = λ four.
    elim (c.run.ensures.write_failed four) [
      | inl rose ↦ inl rose
      | inr (inl (s, inl solves), rose) ↦
          let is : request_as_read (map string_bytes c.args.words.now) ≡ Some (to_solve s) = search (rules, solves, c.in-Ok.ensures, c.as_slice.ensures.value) in
          inr (inl (s, inl is), rose)
      | inr (inl (s, inr serves), rose) ↦
          let is : request_as_read (map string_bytes c.args.words.now) ≡ Some (to_serve s) = search (rules, serves, c.in-Ok.ensures, c.as_slice.ensures.value) in
          inr (inl (s, inr is), rose)
      | inr (inr (inl (m, merges)), rose) ↦
          let is : request_as_read (map string_bytes c.args.words.now) ≡ Some (to_merge m) = search (rules, merges, c.in-Ok.ensures, c.as_slice.ensures.value) in
          inr (inr (inl (m, is)), rose)
      | inr (inr (inr (d, draws)), rose) ↦
          let is : request_as_read (map string_bytes c.args.words.now) ≡ Some (to_draw d) = search (rules, draws, c.in-Ok.ensures, c.as_slice.ensures.value) in
          inr (inr (inr (d, is)), rose)
    ]

pub returns-in-Err-clause-shelf : goal.returns-in-Err-clause-shelf
returns-in-Err-clause-shelf g c =
    unchanged g.S.Shelf.held g.S.Shelf.read_faults g.S.Shelf.write_faults c.args.shelf.now (request_as_read (map string_bytes c.args.words.now))
