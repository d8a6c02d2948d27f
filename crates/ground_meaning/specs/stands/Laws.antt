-- What a ground problem has in common with the task for which it stands, as statements; each scaled value is over the powers of both
-- denominators. A packed state inside is spoken of, with the state for which it stands.
--     ChangingByBits         a changing atom is true in the state for which a packed state stands where a bit of its text is set
--     OthersByFacts          each other atom is true there where it is a fact
--     IsCarried              the process of the task is that for which the process of the problem stands
--     StartsAreCarried       so are the starts
--     OutcomesHaveWeight     no outcome and no start of either has weight 0
--     StatesAreFound         each packed state is found again from the state for which it stands
--     SameLeast, SameSpend, SameStill
--                            least costs, what a policy spends, the chance that it goes on
--     PlansAreCarried, PlansAreFound
--                            a plan on the one side has one on the other that is no deeper and costs no more
--     SameDown, SameUp, SamePlain
--                            plain rounded iteration, and its interval of the starts
--     SameBalance            readings are balanced at a state
--     SameCertificate        a certificate is balanced exactly where that for which it stands is
--     NearIsCarried, NearIsFound
--                            the packed states near the starts stand for those near the task's starts, all of them
--     SameDepth              the depth within which there are at most k states
use Rattle.std.specs.Prelude.{◌≡◌, ◌↔◌, ℕ, ◌*◌, ◌^◌, ◌<◌, true, false, [], length, get_or, Option, Contains}
use Rattle.plain_list.specs.Texts.{list_text}
use Rattle.decision_process.specs.Plans.{Plan, Fits}
use Rattle.decision_process.specs.Policies.{spend, still}
use Rattle.decision_process.specs.Least.{least}
use Rattle.decision_process.specs.Rounded.{down, up, plain_low, plain_high}
use Rattle.decision_process.specs.Balanced.{IsBalancedAt}
use Rattle.decision_process.specs.Readings.{Certificate, IsBalancedCertificate}
use Rattle.decision_process.specs.Levels.{near, IsDepthWithin}
use Rattle.decision_process.specs.homomorphism.Homomorphism.{IsHomomorphism, AreStartsOf, HasPositiveWeights, IsInverse, AreReadingsOf, IsActOf, IsPolicyOf}
use Rattle.decision_process.specs.homomorphism.Counterparts.{IsAsGood, IsCertificateOf}
use Rattle.ppddl_model.specs.declared.tree.Task.{Task}
use Rattle.ppddl_model.specs.State.{GroundAtom, State, has, same_state}
use Rattle.ppddl_model.specs.Changing.{changing_atoms, is_changing, is_fact}
use Rattle.ppddl_model.specs.Steps.{Instance, Charges, step_den, starts, start_den, process}
use Rattle.ground_model.specs.Packed as packed
use Rattle.ground_model.specs.Packed.{has_bit}
use Rattle.ground_model.specs.Ground.{Ground}
use Rattle.ground_model.specs.Steps.{den_of, ground_process, ground_starts}
use Rattle.ground_meaning.specs.stands.Stands.{IsInside, state_of, packed_of, by_atoms, IsGroundOf}

abbrev pub ChangingByBits : Type 0
ChangingByBits = (g : Ground) (task : Task) (s : packed.State) (a : GroundAtom) → Contains (changing_atoms task) a
    → (has (state_of g task s) a ≡ true)
    ↔ ((q : ℕ) × (q < length g.atoms) × (has_bit s q ≡ true) × (get_or g.atoms q [] ≡ list_text a))

abbrev pub OthersByFacts : Type 0
OthersByFacts = (g : Ground) (task : Task) (s : packed.State) (a : GroundAtom) → is_changing task a ≡ false
    → has (state_of g task s) a ≡ is_fact task a

-- ---- the process

abbrev pub IsCarried : Type 0
IsCarried = (g : Ground) (task : Task) (charges : Charges) → IsGroundOf g task charges → IsHomomorphism (ground_process g) (process task charges) (by_atoms g task)

abbrev pub StartsAreCarried : Type 0
StartsAreCarried = (g : Ground) (task : Task) (charges : Charges) → IsGroundOf g task charges
    → AreStartsOf (by_atoms g task) (ground_starts g) g.start_den (starts task) (start_den task)

abbrev pub OutcomesHaveWeight : Type 0
OutcomesHaveWeight = (g : Ground) (task : Task) (charges : Charges) → IsGroundOf g task charges
    → HasPositiveWeights (ground_process g) (process task charges) (by_atoms g task) (ground_starts g) (starts task)

abbrev pub StatesAreFound : Type 0
StatesAreFound = (g : Ground) (task : Task) (charges : Charges) → IsGroundOf g task charges → IsInverse (by_atoms g task) (packed_of g task)

-- ---- costs

abbrev pub SameLeast : Type 0
SameLeast = (g : Ground) (task : Task) (charges : Charges) → IsGroundOf g task charges → (n : ℕ) (s : packed.State) → IsInside g task s
    → least (ground_process g) n s * step_den task ^ n
    ≡ least (process task charges) n (state_of g task s) * den_of g.actions ^ n

abbrev pub SameSpend : Type 0
SameSpend = (g : Ground) (task : Task) (charges : Charges) → IsGroundOf g task charges → (policy : packed.State → Option ℕ) (policy' : State → Option Instance)
    → IsPolicyOf (ground_process g) (by_atoms g task) policy policy'
    → (n : ℕ) (s : packed.State) → IsInside g task s
    → spend (ground_process g) policy n s * step_den task ^ n
    ≡ spend (process task charges) policy' n (state_of g task s) * den_of g.actions ^ n

abbrev pub SameStill : Type 0
SameStill = (g : Ground) (task : Task) (charges : Charges) → IsGroundOf g task charges → (policy : packed.State → Option ℕ) (policy' : State → Option Instance)
    → IsPolicyOf (ground_process g) (by_atoms g task) policy policy'
    → (n : ℕ) (s : packed.State) → IsInside g task s
    → still (ground_process g) policy n s * step_den task ^ n
    ≡ still (process task charges) policy' n (state_of g task s) * den_of g.actions ^ n

abbrev pub PlansAreCarried : Type 0
PlansAreCarried = (g : Ground) (task : Task) (charges : Charges) → IsGroundOf g task charges
    → (plan : Plan ℕ) (s : packed.State) → IsInside g task s → Fits (ground_process g) plan s
    → (plan' : Plan Instance) × IsAsGood (ground_process g) plan s (process task charges) plan' (state_of g task s)

abbrev pub PlansAreFound : Type 0
PlansAreFound = (g : Ground) (task : Task) (charges : Charges) → IsGroundOf g task charges
    → (plan' : Plan Instance) (s : packed.State) → IsInside g task s → Fits (process task charges) plan' (state_of g task s)
    → (plan : Plan ℕ) × IsAsGood (process task charges) plan' (state_of g task s) (ground_process g) plan s

-- ---- values

abbrev pub SameDown : Type 0
SameDown = (g : Ground) (task : Task) (charges : Charges) → IsGroundOf g task charges → (k : ℕ) (s : packed.State) → IsInside g task s
    → down (ground_process g) k s ≡ down (process task charges) k (state_of g task s)

abbrev pub SameUp : Type 0
SameUp = (g : Ground) (task : Task) (charges : Charges) → IsGroundOf g task charges → (k : ℕ) (s : packed.State) → IsInside g task s
    → up (ground_process g) k s ≡ up (process task charges) k (state_of g task s)

abbrev pub SamePlain : Type 0
SamePlain = (g : Ground) (task : Task) (charges : Charges) → IsGroundOf g task charges → (k : ℕ)
    → (plain_low (ground_process g) (ground_starts g) g.start_den k
    ≡ plain_low (process task charges) (starts task) (start_den task) k)
    × (plain_high (ground_process g) (ground_starts g) g.start_den k
    ≡ plain_high (process task charges) (starts task) (start_den task) k)

abbrev pub SameBalance : Type 0
SameBalance = (g : Ground) (task : Task) (charges : Charges) → IsGroundOf g task charges
    → (low high : packed.State → ℕ) (act : packed.State → Option ℕ) (low' high' : State → ℕ) (act' : State → Option Instance)
    → AreReadingsOf (by_atoms g task) low low' → AreReadingsOf (by_atoms g task) high high'
    → (s : packed.State) → IsInside g task s
    → ((ground_process g).goal s ≡ false → IsActOf (by_atoms g task) (act s) (act' (state_of g task s)))
    → IsBalancedAt (ground_process g) low high act s ↔ IsBalancedAt (process task charges) low' high' act' (state_of g task s)

abbrev pub SameCertificate : Type 0
SameCertificate = (g : Ground) (task : Task) (charges : Charges) → IsGroundOf g task charges
    → (c : Certificate packed.State ℕ) (c' : Certificate State Instance) → IsCertificateOf (by_atoms g task) c c'
    → IsBalancedCertificate (ground_process g) packed.same_state (ground_starts g) g.start_den c
    ↔ IsBalancedCertificate (process task charges) same_state (starts task) (start_den task) c'

-- ---- levels

abbrev pub NearIsCarried : Type 0
NearIsCarried = (g : Ground) (task : Task) (charges : Charges) → IsGroundOf g task charges → (d : ℕ) (s : packed.State) → Contains (near (ground_process g) (ground_starts g) d) s
    → IsInside g task s × Contains (near (process task charges) (starts task) d) (state_of g task s)

abbrev pub NearIsFound : Type 0
NearIsFound = (g : Ground) (task : Task) (charges : Charges) → IsGroundOf g task charges → (d : ℕ) (t : State) → Contains (near (process task charges) (starts task) d) t
    → (s : packed.State) × Contains (near (ground_process g) (ground_starts g) d) s × (state_of g task s ≡ t)

abbrev pub SameDepth : Type 0
SameDepth = (g : Ground) (task : Task) (charges : Charges) → IsGroundOf g task charges → (k : ℕ) (d : Option ℕ)
    → IsDepthWithin (ground_process g) (ground_starts g) k d ↔ IsDepthWithin (process task charges) (starts task) k d
