-- Values within limits, one behind another.
use Rattle.std.proofs.Common.{◌≡◌, sym, ap, subst, ◌∙◌}
use Rattle.std.specs.Prelude.{Result, Ok, Err}
use Rattle.plain_list.specs.Results.{◌>>=◌}
use Rattle.ground_meaning.specs.declared.refusals.limits.LimitCode.{LimitCode}
use Rattle.ground_meaning.specs.declared.refusals.refusal.GroundRefusal.{GroundRefusal}
use Rattle.ground_meaning.specs.declared.refusals.refusal.GroundRefusal.TheVariants.{CostNotPositive, NoPenalty, Limit, Memory}
use Rattle.grounder.specs.Limited.{Limited}

pub refused_on : {A B : Type 0} (IsA : A → Type 0) (IsB : B → Type 0) (e : GroundRefusal) (first : Result (Unit {0}) LimitCode)
    (next : Unit {0} → Result (Unit {0}) LimitCode) → Limited IsA (Err e) first → Limited IsB (Err e) (first >>= next)
refused_on IsA IsB (CostNotPositive line) first next is = absurd is
refused_on IsA IsB (NoPenalty line) first next is = absurd is
refused_on IsA IsB (Limit code) first next is = ap (λ r. r >>= next) is
refused_on IsA IsB Memory first next is = tt

pub refused_as : {A B : Type 0} (IsA : A → Type 0) (IsB : B → Type 0) (e : GroundRefusal) (answer : Result (Unit {0}) LimitCode)
    → Limited IsA (Err e) answer → Limited IsB (Err e) answer
refused_as IsA IsB (CostNotPositive line) answer is = absurd is
refused_as IsA IsB (NoPenalty line) answer is = absurd is
refused_as IsA IsB (Limit code) answer is = is
refused_as IsA IsB Memory answer is = tt

pub passed_on : {B : Type 0} (IsB : B → Type 0) (r : Result B GroundRefusal) (first : Result (Unit {0}) LimitCode)
    (next : Unit {0} → Result (Unit {0}) LimitCode) → first ≡ Ok tt → Limited IsB r (next tt) → Limited IsB r (first >>= next)
passed_on IsB r first next is holds = subst (λ x. Limited IsB r (x >>= next)) (sym is) holds

-- an error that is handed on is the same
pub handed_on : {A : Type 0} (P : Result A GroundRefusal → Type 0) (r : Result A GroundRefusal) (e x : GroundRefusal) → r ≡ Err x → x ≡ e → P (Err e) → P r
handed_on P r e x is same holds = subst P (sym (is ∙ ap Err same)) holds
