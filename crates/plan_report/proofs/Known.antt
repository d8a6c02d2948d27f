-- What the rows that are handed out say of the starts.
use Rattle.std.proofs.Common.{◌≡◌, ℕ, Bool, true, false, cond, ◌∙◌, ap, refl, subst, sym, ◌<◌, get_or, length}
use Rattle.std.specs.Prelude.{List, [], ◌∷◌, ◌++◌, Option, Some, None, codes, Contains}
use Rattle.std.specs.List.{flat_map}
use Rattle.std.proofs.lemmas.Option.{slice_get_within}
use Rattle.plain_list.proofs.Members.{Contains-first, Contains-later}
use Rattle.fixed_round.specs.Words.{value_of}
use Rattle.decision_process.specs.Readings.{Row, RowAct, GivesUp, AtGoal, Takes, action_of, low, high, IsMarked}
use Rattle.ground_model.specs.declared.action.GroundAction.{GroundAction}
use Rattle.ground_model.specs.declared.start.Start.{Start}
use Rattle.ground_model.specs.Packed.{State, same_state}
use Rattle.ground_model.specs.Ground.{Ground}
use Rattle.ground_model.specs.Steps.{ground_process}
use Rattle.bound_core.specs.declared.image.ImageRow.{ImageRow}
use Rattle.bound_core.specs.ends.Closing.{IsClosing, IsRowAt, HasStartsFirst, act_in, closing_row, closing_rows}
use Rattle.bound_core.proofs.lemmas.ends.Reading.{row_read, low_read, high_read}
use Rattle.bound_core.proofs.lemmas.ends.Adding.{first_row, row_there}
use Rattle.plan_report.specs.Reports.{counted_line, interval_line}
use Rattle.plan_report.specs.Solved.{ending_line, act_text, known_line, shown_act, solved_line}
use Rattle.plan_report.specs.Laws.{AgreeAt, ReportsAgree}
use Rattle.plan_report.specs.StartRows.{row_act_text, row_line}

-- what a marked row says to do is what is shown
shown : (actions : List GroundAction) (goal : Bool) (a : RowAct ℕ) → (goal ≡ true → a ≡ AtGoal) → (goal ≡ false → a ≡ AtGoal → ⊥)
    → row_act_text actions a ≡ cond goal (codes "goal") (act_text actions (action_of a))
shown actions true a at_goal elsewhere = ap (row_act_text actions) (at_goal refl)
shown actions false GivesUp at_goal elsewhere = refl
shown actions false AtGoal at_goal elsewhere = absurd (elsewhere refl refl)
shown actions false (Takes k) at_goal elsewhere = refl

-- what is read of the state of a row is what the row says
module _ (g : Ground) (rows : List ImageRow) (closing : IsClosing g rows) (row : ImageRow) (held : Contains rows row) where
  marked : IsMarked (ground_process g) (closing_row row)
  marked = closing.marked row held

  act_is : shown_act g (closing_rows rows) row.state ≡ row_act_text g.actions (act_in row.upper)
  act_is =
      let goal = (ground_process g).goal row.state in
      ap (λ (o : Option (Row State ℕ)). cond goal (codes "goal") (act_text g.actions (elim o [ None ↦ None | Some r ↦ action_of r.act ]))) (row_read g rows closing row held)
      ∙ sym (shown g.actions goal (act_in row.upper) (λ on. (marked.at_goal on).2) marked.elsewhere)

  line_of_row : (x : Start) → row.state ≡ x.state → row_line g x row ≡ solved_line g (closing_rows rows) x
  line_of_row x is =
      subst (λ (s : State). row_line g x row ≡ known_line g x (low same_state (closing_rows rows) s) (high (ground_process g) same_state (closing_rows rows) s) (shown_act g (closing_rows rows) s)) is
      (ap (λ n. known_line g x n (value_of row.upper) (row_act_text g.actions (act_in row.upper))) (sym (low_read g rows closing row held))
      ∙ ap (λ n. known_line g x (low same_state (closing_rows rows) row.state) n (row_act_text g.actions (act_in row.upper))) (sym (high_read g rows closing row held))
      ∙ ap (known_line g x (low same_state (closing_rows rows) row.state) (high (ground_process g) same_state (closing_rows rows) row.state)) (sym act_is))

-- the row in the place of a start is of its state
module _ (g : Ground) (rows : List ImageRow) (closing : IsClosing g rows) (first : HasStartsFirst g rows)
    (xs : List Start) (xs_are : xs ≡ g.starts) (k : ℕ) (x : Start) (inside : k < length xs) (is : x ≡ get_or xs k x) where
  there : IsRowAt rows k x.state
  there = first_row g rows first xs xs_are k x inside is

  pub has_row : k < length rows
  has_row = slice_get_within rows k there.row there.here

  pub line_is : (row : ImageRow) → row ≡ get_or rows k row → row_line g x row ≡ solved_line g (closing_rows rows) x
  line_is row row_is = let at = row_there rows k x there row row_is in line_of_row g rows closing row at.0 x at.1

-- ---- two lists of rows

same_pieces : {X : Type 0} (f h : X → List ℕ) (xs : List X) → ((x : X) → Contains xs x → f x ≡ h x) → flat_map f xs ≡ flat_map h xs
same_pieces f h [] same = refl
same_pieces f h (x ∷ xs) same =
    ap (λ l. l ++ flat_map f xs) (same x (Contains-first x xs))
    ∙ ap (λ l. h x ++ l) (same_pieces f h xs (λ y inside. same y (Contains-later x xs y inside)))

agreeing_lines : (g : Ground) (rows others : List (Row State ℕ)) (x : Start) → AgreeAt g rows others x.state → solved_line g rows x ≡ solved_line g others x
agreeing_lines g rows others x agree =
    let goal = (ground_process g).goal x.state in
    ap (λ n. known_line g x n (high (ground_process g) same_state rows x.state) (shown_act g rows x.state)) agree.low_same
    ∙ ap (λ n. known_line g x (low same_state others x.state) n (shown_act g rows x.state)) agree.high_same
    ∙ ap (λ (a : Option ℕ). known_line g x (low same_state others x.state) (high (ground_process g) same_state others x.state) (cond goal (codes "goal") (act_text g.actions a))) agree.act_same

pub reports_agree : ReportsAgree
reports_agree g rows others agree s =
    ap (λ l. ending_line s.ending ++ interval_line s.lower s.upper
    ++ counted_line (codes "states ") s.states ++ counted_line (codes "rounds ") s.rounds ++ l)
    (same_pieces (solved_line g rows) (solved_line g others) g.starts (λ x inside. agreeing_lines g rows others x (agree x inside)))
