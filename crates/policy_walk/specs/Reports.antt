-- The report of walks. Each line ends with a line feed.
--     end_word end           the word of an end
--     walk_line i w          a walk: its number, its end, how many steps it made, and its cost in units
--     walk_lines i walks     those of some walks, which are numbered from i
--     total_cost walks       what all walks cost together, those that stayed open too
--     walks_text walks       the report: each walk, how many there are, and what they cost together
use Rattle.std.specs.Prelude.{ℕ, ◌+◌, List, [], ◌∷◌, ◌++◌, length, codes, decimal}
use Rattle.plain_list.specs.weighted.Mean.{total}
use Rattle.plan_report.specs.Units.{units}
use Rattle.plan_report.specs.Reports.{line, counted_line}
use Rattle.policy_walk.specs.declared.ends.Walk.{Walk}
use Rattle.policy_walk.specs.declared.ends.WalkEnd.{WalkEnd}
use Rattle.policy_walk.specs.declared.ends.WalkEnd.TheVariants.{Goal, GaveUp, Open}

abbrev pub end_word : WalkEnd → List ℕ
end_word Goal = codes "goal"
end_word GaveUp = codes "gave-up"
end_word Open = codes "open"

abbrev pub walk_line : ℕ → Walk → List ℕ
walk_line i w =
    line (codes "walk " ++ decimal i ++ codes " " ++ end_word w.end ++ codes " " ++ decimal w.steps
    ++ codes " " ++ units w.cost)

abbrev pub walk_lines : ℕ → List Walk → List ℕ
walk_lines i [] = []
walk_lines i (w ∷ more) = walk_line i w ++ walk_lines (i + 1) more

abbrev pub total_cost : List Walk → ℕ
total_cost walks = total (λ (w : Walk). w.cost) walks

abbrev pub walks_text : List Walk → List ℕ
walks_text walks =
    walk_lines 0 walks ++ counted_line (codes "walks ") (length walks)
    ++ line (codes "total " ++ units (total_cost walks))
