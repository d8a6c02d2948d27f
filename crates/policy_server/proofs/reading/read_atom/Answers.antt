-- One name more.
use Rattle.std.proofs.Common.{rules, ◌≡◌, ℕ, ◌-◌, ◌≤◌, true, List, [], ◌∷◌, ◌++◌, length, sym, ap, ◌∙◌, arith}
use Rattle.std.specs.Prelude.{slice_range}
use Rattle.std.proofs.lemmas.Grind.{common_steps}
use Rattle.ppddl_lex.specs.Words.{lowered, is_name}
use Rattle.policy_server.specs.Queries.{first_in, names_in}
use Rattle.policy_server.specs.Parts.{ahead, in_pieces}
use Rattle.policy_server.proofs.Spelled.{first_name, next_name, closes, opened_more}
use Rattle.policy_server.proofs.reading.read_atom.Goals as goal

slice_long : (xs : List ℕ) (i j : ℕ) → i ≤ j → j ≤ length xs → length (slice_range xs i j) ≡ j - i
slice_long xs i j a b = first_of (search rules, grind (arith, common_steps))

pub loop-behind-init : goal.loop-behind-init
loop-behind-init c =
    let line = c.args.line.now in let q = c.in-Word.place in let w : List ℕ = slice_range line c.in-Word.from q.offset in
    let passed = c.in-Word.ensures in
    let is : is_name w ≡ true = sym c.is_name.ensures ∙ c.if-not-is_name.false in
    let wide = slice_long line c.in-Word.from q.offset (let a = passed.nonempty in omega arith) passed.at.within in record {
      naming = record {
        name = lowered w;
        names = [];
        spelled = ap (in_pieces first_in) passed.next ∙ first_name (ahead line q) w is;
        text_is = c.extend_lowered.ensures.bytes ∙ ap (λ l. l ++ lowered w) (c.push.ensures.bytes ∙ ap (λ l. l ++ 40 ∷ []) c.clear.ensures.bytes);
      };
      at = passed.at;
      room = c.extend_lowered.ensures.room ∙ (c.push.ensures.room ∙ (c.clear.ensures.room ∙ c.requires.room));
      long = (let a = c.extend_lowered.ensures.long in let b = c.push.ensures.long in let d = c.clear.ensures.long in let e = passed.nonempty in omega arith);
      behind = (let a = passed.behind in let e = passed.nonempty in omega arith);
    }

pub returns-in-Right-clause-told : goal.returns-in-Right-clause-told
returns-in-Right-clause-told c =
    let line = c.args.line.now in let n = c.loop-behind.invariant.naming in let passed = c.in-Right.ensures in record {
      names = n.name ∷ n.names;
      atom = n.spelled ∙ (ap (in_pieces (names_in (n.name ∷ n.names))) passed.next ∙ closes (n.name ∷ n.names) (ahead line c.in-Right.behind));
      text_is = c.push-in-Right.ensures.bytes ∙ ap (λ l. l ++ 41 ∷ []) n.text_is;
      at = passed.at;
      behind = (let a = c.loop-behind.invariant.behind in let e = passed.nonempty in omega arith);
    }

pub loop-behind-preserved : goal.loop-behind-preserved
loop-behind-preserved c =
    let line = c.args.line.now in let v = c.loop-behind.invariant in let n = v.naming in let q = c.in-Word-read_next.behind in
    let w : List ℕ = slice_range line c.in-Word-read_next.from q.offset in let passed = c.in-Word-read_next.ensures in
    let is : is_name w ≡ true = sym c.is_name-in-Word-read_next.ensures ∙ c.if-not-is_name-2.false in
    let wide = slice_long line c.in-Word-read_next.from q.offset (let a = passed.nonempty in omega arith) passed.at.within in record {
      naming = record {
        name = n.name;
        names = n.names ++ lowered w ∷ [];
        spelled = n.spelled ∙ (ap (in_pieces (names_in (n.name ∷ n.names))) passed.next ∙ next_name (n.name ∷ n.names) (ahead line q) w is);
        text_is = c.extend_lowered-in-Word-read_next.ensures.bytes
            ∙ (ap (λ l. l ++ lowered w) (c.push-in-Word-read_next.ensures.bytes ∙ ap (λ l. l ++ 32 ∷ []) n.text_is) ∙ sym (opened_more n.name n.names (lowered w)));
      };
      at = passed.at;
      room = c.extend_lowered-in-Word-read_next.ensures.room ∙ (c.push-in-Word-read_next.ensures.room ∙ v.room);
      long = (let a = c.extend_lowered-in-Word-read_next.ensures.long in let b = c.push-in-Word-read_next.ensures.long in let d = v.long in
          let e = passed.nonempty in let f = passed.behind in omega arith);
      behind = (let a = v.behind in let e = passed.nonempty in let f = passed.behind in omega arith);
    }
