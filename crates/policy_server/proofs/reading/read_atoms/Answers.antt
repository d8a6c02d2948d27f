-- One atom more.
use Rattle.std.proofs.Common.{ℕ, Bool, false, ◌&&◌, List, length, sym, ap, ◌∙◌, subst}
use Rattle.ground_model.proofs.Packed.{length-packed}
use Rattle.ground_step.specs.Names.{place_of}
use Rattle.policy_server.specs.Parts.{AddsAtom}
use Rattle.policy_server.proofs.Spelled.{Reading, wide_more, reading_begins, reading_more, reading_ends, query_is}
use Rattle.policy_server.proofs.reading.read_atoms.Goals as goal

pub loop-behind-init : goal.loop-behind-init
loop-behind-init c = record {
  reading = reading_begins c.args.problem.now c.args.line.now c.args.place c.make_all_false.new.state (length c.args.state.now) c.make_all_false.ensures c.requires.state;
  at = c.requires.at;
  room = c.requires.room;
  wide = ap length c.make_all_false.ensures ∙ (length-packed (λ _. false) (length c.args.state.now) ∙ c.requires.state);
}

pub loop-behind-preserved-then-known : goal.loop-behind-preserved-then-known
loop-behind-preserved-then-known c =
    let g = c.args.problem.now in let line = c.args.line.now in let v = c.loop-behind.invariant in let atom = c.in-Some.ensures.told in
    let text = c.read_atom.new.text.bytes in let is = c.add_atom-is_atom.result in let s = c.loop-behind.state in let t = c.add_atom-is_atom.new.state in
    let adds : AddsAtom (place_of g.atoms text) is s t = subst (λ (l : List ℕ). AddsAtom (place_of g.atoms l) is s t) c.bytes.ensures.value c.add_atom-is_atom.ensures in record {
      reading = subst (λ (k : Bool). Reading g line c.args.place c.in-Some.after (k && is) t) c.if-known.true
          (reading_more g line c.args.place c.loop-behind.place c.in-Left.behind c.in-Some.after c.loop-behind.known is s t text v.reading c.in-Left.ensures atom adds);
      at = atom.at;
      room = c.in-Some.ensures.room;
      wide = wide_more (place_of g.atoms text) is s t adds ∙ v.wide;
    }

pub loop-behind-preserved : goal.loop-behind-preserved
loop-behind-preserved c =
    let g = c.args.problem.now in let line = c.args.line.now in let v = c.loop-behind.invariant in let atom = c.in-Some.ensures.told in
    let text = c.read_atom.new.text.bytes in let is = c.add_atom-is_atom.result in let s = c.loop-behind.state in let t = c.add_atom-is_atom.new.state in
    let adds : AddsAtom (place_of g.atoms text) is s t = subst (λ (l : List ℕ). AddsAtom (place_of g.atoms l) is s t) c.bytes.ensures.value c.add_atom-is_atom.ensures in record {
      reading = subst (λ (x : Bool). Reading g line c.args.place c.in-Some.after x t) (ap (λ k. k && is) c.if-known.false ∙ sym c.if-known.false)
          (reading_more g line c.args.place c.loop-behind.place c.in-Left.behind c.in-Some.after c.loop-behind.known is s t text v.reading c.in-Left.ensures atom adds);
      at = atom.at;
      room = c.in-Some.ensures.room;
      wide = wide_more (place_of g.atoms text) is s t adds ∙ v.wide;
    }

pub returns-in-End-clause-told : goal.returns-in-End-clause-told
returns-in-End-clause-told c =
    let g = c.args.problem.now in let so = c.loop-behind.invariant.reading in
    reading_ends g c.args.line.now c.args.place c.loop-behind.place c.loop-behind.known c.loop-behind.state so c.in-End.ensures
    ∙ query_is g so.found c.loop-behind.known c.loop-behind.state so.has_read c.if-known-2.true
