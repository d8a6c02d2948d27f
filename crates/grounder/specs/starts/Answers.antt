-- The initial states of a task, or why it has none within the limits.
--     starts_or_refusal n init   the initial states, or the first limit that is exceeded: that on the denominator, then that on
--                                their number
--     Answers result answer      the result is the answer, or want of memory
use Rattle.std.specs.Prelude.{◌≡◌, List, Result, Ok, Err}
use Rattle.plain_list.specs.Results.{◌>>=◌}
use Rattle.ppddl_model.specs.declared.tree.InitItem.{InitItem}
use Rattle.ground_meaning.specs.choices.Numbering.{Numbering}
use Rattle.ground_meaning.specs.declared.refusals.limits.LimitCode.{LimitCode}
use Rattle.ground_meaning.specs.declared.refusals.limits.LimitCode.TheVariants as limit
use Rattle.ground_meaning.specs.declared.refusals.refusal.GroundRefusal.{GroundRefusal}
use Rattle.ground_meaning.specs.declared.refusals.refusal.GroundRefusal.TheVariants.{Limit, Memory}
use Rattle.ground_meaning.specs.refusals.Limits.{within}
use Rattle.ground_meaning.specs.refusals.Starts.{Starts, starts_den, widest_start, starts_of}
use Rattle.grounder.specs.declared.starts.states.InitialStates.{InitialStates}

abbrev pub starts_or_refusal : Numbering → List InitItem → Result Starts LimitCode
starts_or_refusal n init =
    within (starts_den init) limit.Denominator
    >>= λ _. within (widest_start n init) limit.Starts
    >>= λ _. Ok (starts_of n init)

abbrev pub Answers : Result InitialStates GroundRefusal → Result Starts LimitCode → Type 0
Answers (Ok x) answer = answer ≡ Ok (record { list = x.list; den = x.den })
Answers (Err (Limit code)) answer = answer ≡ Err code
Answers (Err Memory) answer = Unit {0}
Answers (Err _) answer = ⊥
