-- Worked examples, which compute.
use Rattle.std.specs.Prelude.{◌≡◌, [], ◌∷◌, codes}
use Rattle.std.proofs.Common.{refl}
use Rattle.plan_request.specs.Numbers.{whole, amount}
use Rattle.plan_request.specs.reasons.Values.{kind_of, states_kind, whole_kind, fits, lacking, unfit, swept, fault_of_values}
use Rattle.plan_request.specs.declared.reasons.value_kind.ValueKind.TheVariants as kinds

-- the order is that of the table of forms, and not of the words
no-certificate : fault_of_values (codes "solve" ∷ codes "coin" ∷ codes "--gap" ∷ codes "x" ∷ []) ≡ lacking (codes "cert")
unfolding kind_of states_kind whole_kind fits whole amount
no-certificate = refl

many-states : fault_of_values (codes "solve" ∷ codes "coin" ∷ codes "--cert" ∷ codes "c" ∷ codes "--states=70000000" ∷ []) ≡ unfit (kinds.Whole 65 262144) (codes "states") (codes "70000000")
unfolding kind_of states_kind whole_kind fits whole amount
many-states = refl

one-place : fault_of_values (codes "bench" ∷ codes "1" ∷ codes "1" ∷ []) ≡ unfit (kinds.Whole 2 1000) (codes "N") (codes "1")
unfolding kind_of states_kind whole_kind fits whole amount
one-place = refl

all-swept : fault_of_values (codes "serve" ∷ codes "coin" ∷ codes "--cert=c" ∷ codes "--states=65" ∷ codes "--sweep-states=65" ∷ []) ≡ swept
unfolding kind_of states_kind whole_kind fits whole amount
all-swept = refl
