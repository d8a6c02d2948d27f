use Rattle.std.proofs.Common.{◌≡◌, sym, ap, ◌∙◌, List, Option, Some, None, option_map}
use Rattle.clap.specs.Walk.{Row, first_of, rows_of}
use Rattle.clap.specs.Matches.{found_of}
use Rattle.clap.specs.Simple.{subcommand_rows_of}
use Rattle.clap.proofs.WalkLemmas.{first_value-rows}
use Rattle.plan_request.specs.words.Words.{Text}
use Rattle.plan_request.specs.words.Parses.{first_in}
use Rattle.plan_request.proofs.words.parsing.Parsed.value.Goals as goal

first_among : (name : Text) (rows : List Row) (found : Option (Text × List Row)) → Some rows ≡ option_map (λ p. p.1) found → first_in name found ≡ first_of name rows
first_among name rows None e = absurd (cc)
first_among name rows (Some p) e = ap (first_of name) (let same : rows ≡ p.1 = cc in sym same)

pub returns : goal.returns
returns c =
    let m = c.args.self.now.matches in
    let found = found_of c.in_ok-found.found.now in
    let name = c.args.name.now in
    c.get_str.ensures ∙ first_value-rows found name ∙ sym (first_among name (rows_of found) (subcommand_rows_of m) c.in_ok-found.ensures.rows)
