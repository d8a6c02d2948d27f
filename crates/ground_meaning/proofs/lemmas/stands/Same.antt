-- What a homomorphism carries, read at a ground problem and the task for which it stands.
use Rattle.std.specs.Cmp.Lexicographic.{bytes_decides}
use Rattle.plain_list.specs.weighted.Chances.{IsExact}
use Rattle.decision_process.proofs.lemmas.homomorphism.Costs.{least_is_carried, spend_is_carried, still_is_carried}
use Rattle.decision_process.proofs.lemmas.homomorphism.Plans.{plans_are_carried, plans_are_found}
use Rattle.decision_process.proofs.lemmas.homomorphism.Following.{down_is_carried, up_is_carried, balance_is_carried}
use Rattle.decision_process.proofs.lemmas.homomorphism.Starts.{plain_is_carried}
use Rattle.decision_process.proofs.lemmas.homomorphism.Certificates.{certificate_is_carried}
use Rattle.decision_process.proofs.lemmas.homomorphism.Levels.{near_is_carried, near_is_found, depth_is_carried}
use Rattle.ppddl_model.specs.State.{same_state}
use Rattle.ppddl_model.specs.Steps.{starts, start_den, process}
use Rattle.ppddl_model.proofs.States.{same_state-Decides}
use Rattle.ground_model.specs.Packed as packed
use Rattle.ground_model.specs.Steps.{ground_process, ground_starts}
use Rattle.ground_meaning.specs.stands.Stands.{packed_of, by_atoms}
use Rattle.ground_meaning.specs.stands.Laws as laws
use Rattle.ground_meaning.proofs.lemmas.stands.Standing.{is_carried, starts_are_carried, weights_are_positive, states_are_found}

states_are_exact : IsExact same_state
states_are_exact x y = same_state-Decides x y

packed_states_are_exact : IsExact packed.same_state
packed_states_are_exact x y = bytes_decides x y

pub same_least : laws.SameLeast
same_least g task charges is = least_is_carried (ground_process g) (process task charges) (by_atoms g task) (is_carried g task charges is)

pub same_spend : laws.SameSpend
same_spend g task charges is = spend_is_carried (ground_process g) (process task charges) (by_atoms g task) (is_carried g task charges is)

pub same_still : laws.SameStill
same_still g task charges is = still_is_carried (ground_process g) (process task charges) (by_atoms g task) (is_carried g task charges is)

pub plans_carried : laws.PlansAreCarried
plans_carried g task charges is = plans_are_carried (ground_process g) (process task charges) (by_atoms g task) (is_carried g task charges is) same_state states_are_exact

pub plans_found : laws.PlansAreFound
plans_found g task charges is = plans_are_found (ground_process g) (process task charges) (by_atoms g task) (is_carried g task charges is) same_state states_are_exact

pub same_down : laws.SameDown
same_down g task charges is = down_is_carried (ground_process g) (process task charges) (by_atoms g task) (is_carried g task charges is)

pub same_up : laws.SameUp
same_up g task charges is = up_is_carried (ground_process g) (process task charges) (by_atoms g task) (is_carried g task charges is)

pub same_plain : laws.SamePlain
same_plain g task charges is =
    plain_is_carried (ground_process g) (process task charges) (by_atoms g task) (is_carried g task charges is)
    (ground_starts g) g.start_den (starts task) (start_den task) (starts_are_carried g task charges is)

pub same_balance : laws.SameBalance
same_balance g task charges is = balance_is_carried (ground_process g) (process task charges) (by_atoms g task) (is_carried g task charges is)

pub same_certificate : laws.SameCertificate
same_certificate g task charges is =
    certificate_is_carried (ground_process g) (process task charges) (by_atoms g task) (is_carried g task charges is)
    packed.same_state packed_states_are_exact same_state states_are_exact (packed_of g task) (states_are_found g task charges is)
    (ground_starts g) g.start_den (starts task) (start_den task) (starts_are_carried g task charges is)

pub near_carried : laws.NearIsCarried
near_carried g task charges is =
    near_is_carried (ground_process g) (process task charges) (by_atoms g task) (is_carried g task charges is) same_state states_are_exact
    (ground_starts g) g.start_den (starts task) (start_den task) (starts_are_carried g task charges is) (weights_are_positive g task charges is)

pub near_found : laws.NearIsFound
near_found g task charges is =
    near_is_found (ground_process g) (process task charges) (by_atoms g task) (is_carried g task charges is) same_state states_are_exact
    (ground_starts g) g.start_den (starts task) (start_den task) (starts_are_carried g task charges is) (weights_are_positive g task charges is)

pub same_depth : laws.SameDepth
same_depth g task charges is =
    depth_is_carried (ground_process g) (process task charges) (by_atoms g task) (is_carried g task charges is) same_state states_are_exact
    (ground_starts g) g.start_den (starts task) (start_den task) (starts_are_carried g task charges is) (weights_are_positive g task charges is)
    (packed_of g task) (states_are_found g task charges is)
