-- The fault of words in form, by what their parse answers.
use Rattle.std.proofs.Common.{◌≡◌, refl, sym, ap, ap₂, subst, ◌∙◌, List, [], ◌∷◌, Some, None, lit<}
use Rattle.std.specs.Prelude.{codes, unwrap_or}
use Rattle.plan_request.specs.words.Words.{Text, Item}
use Rattle.plan_request.specs.words.Table.{Form, solve_form, check_form, serve_form, ground_form, bench_form, merge_form, walk_form, draw_form}
use Rattle.plan_request.specs.words.Faults.{or_else}
use Rattle.plan_request.specs.words.Parses.{Answers, HasValues}
use Rattle.plan_request.specs.words.Shown.{shown_form}
use Rattle.plan_request.specs.declared.words.parsing.Parsed.{Parsed}
use Rattle.plan_request.specs.declared.command.Command.{Command}
use Rattle.plan_request.specs.declared.command.Command.TheVariants.{Solve, Check, Serve, Ground, Bench, Merge, Walk, Draw}
use Rattle.plan_request.specs.Asked.{Given, given_in}
use Rattle.plan_request.specs.Shown.{given_by}
use Rattle.plan_request.specs.reasons.Values.{swept, fault_under, kind_of, first_fault, fault_in, fault_formed, fault_of_values}
use Rattle.plan_request.proofs.Found.{form_of, command_of}

-- the same is given under these names
infixr 5 ◌also◌
data AreSame (g h : Given) : List Text → Type 0 where
  no_more : AreSame g h []
  ◌also◌ : {n : Text} {ns : List Text} → g n ≡ h n → AreSame g h ns → AreSame g h (n ∷ ns)

first_same : (command : Text) (g h : Given) (names : List Text) → AreSame g h names → first_fault command g names ≡ first_fault command h names
first_same command g h [] no_more = refl
first_same command g h (n ∷ ns) (one also same) = ap₂ or_else (ap (fault_under (kind_of command n) n) one) (first_same command g h ns same)

fault_same : (f : Form) (g h : Given) → AreSame g h f.options → AreSame g h f.words → fault_in f g ≡ fault_in f h
fault_same f g h options words = ap (λ o. unwrap_or o swept) (ap₂ or_else (first_same f.name g h f.options options) (first_same f.name g h f.words words))

values_found : (c : Command) (items : List Item) (p : Parsed) → HasValues (form_of c) items p → fault_in (form_of c) (given_by p) ≡ fault_in (form_of c) (given_in (form_of c) items)
values_found Solve items p v =
    fault_same solve_form (given_by p) (given_in solve_form items)
    (v.options (codes "lower") refl also v.options (codes "cert") refl also v.options (codes "problem") refl also v.options (codes "penalty") refl also v.options (codes "step-cost") refl also v.options (codes "gap") refl also v.options (codes "rounds") refl also v.options (codes "trials") refl also v.options (codes "depth") refl also v.options (codes "tau") refl also v.options (codes "workers") refl also v.options (codes "states") refl also v.options (codes "sweep-states") refl also v.options (codes "seed") refl also v.options (codes "ends") refl also v.options (codes "progress") refl also no_more)
    (v.words 0 (lit< tt) also no_more)
values_found Check items p v =
    fault_same check_form (given_by p) (given_in check_form items)
    (v.options (codes "cert") refl also v.options (codes "problem") refl also v.options (codes "penalty") refl also v.options (codes "step-cost") refl also no_more)
    (v.words 0 (lit< tt) also no_more)
values_found Serve items p v =
    fault_same serve_form (given_by p) (given_in serve_form items)
    (v.options (codes "cert") refl also v.options (codes "problem") refl also v.options (codes "penalty") refl also v.options (codes "step-cost") refl also v.options (codes "gap") refl also v.options (codes "rounds") refl also v.options (codes "trials") refl also v.options (codes "depth") refl also v.options (codes "tau") refl also v.options (codes "workers") refl also v.options (codes "states") refl also v.options (codes "sweep-states") refl also v.options (codes "seed") refl also v.options (codes "ends") refl also v.options (codes "progress") refl also no_more)
    (v.words 0 (lit< tt) also no_more)
values_found Ground items p v =
    fault_same ground_form (given_by p) (given_in ground_form items)
    (v.options (codes "problem") refl also v.options (codes "penalty") refl also v.options (codes "step-cost") refl also no_more)
    (v.words 0 (lit< tt) also no_more)
values_found Bench items p v =
    fault_same bench_form (given_by p) (given_in bench_form items)
    no_more
    (v.words 0 (lit< tt) also v.words 1 (lit< tt) also no_more)
values_found Merge items p v =
    fault_same merge_form (given_by p) (given_in merge_form items)
    (v.options (codes "with") refl also v.options (codes "into") refl also v.options (codes "cert") refl also v.options (codes "problem") refl also v.options (codes "penalty") refl also v.options (codes "step-cost") refl also no_more)
    (v.words 0 (lit< tt) also no_more)
values_found Walk items p v =
    fault_same walk_form (given_by p) (given_in walk_form items)
    (v.options (codes "seed") refl also v.options (codes "walks") refl also v.options (codes "steps") refl also v.options (codes "cert") refl also v.options (codes "problem") refl also v.options (codes "penalty") refl also v.options (codes "step-cost") refl also no_more)
    (v.words 0 (lit< tt) also no_more)
values_found Draw items p v =
    fault_same draw_form (given_by p) (given_in draw_form items)
    (v.options (codes "into") refl also v.options (codes "states") refl also v.options (codes "cert") refl also v.options (codes "problem") refl also v.options (codes "penalty") refl also v.options (codes "step-cost") refl also no_more)
    (v.words 0 (lit< tt) also no_more)

pub no_values : (words : List Text) → Answers words None → fault_of_values words ≡ swept
no_values words none = ap fault_formed none

pub values_of : (words : List Text) (p : Parsed) → Answers words (Some p) → fault_in (shown_form p.form) (given_by p) ≡ fault_of_values words
values_of words p (items, is, values) =
    let f = shown_form p.form in
    let c = command_of words f items is in
    let Same : Form → Type 0 = λ f. HasValues f items p → fault_in f (given_by p) ≡ fault_in f (given_in f items) in
    subst Same c.1 (values_found c.0 items p) values ∙ sym (ap fault_formed is)
