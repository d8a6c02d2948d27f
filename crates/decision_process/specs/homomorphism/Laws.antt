-- What a homomorphism carries between a process and that for which it stands, as statements; each scaled value is over the powers of
-- both denominators.
--     LeastIsCarried, SpendIsCarried, StillIsCarried
--                          least costs, what a policy spends, the chance that it goes on
--     LowerIsCarried, UpperIsCarried
--                          a value follows from readings on the one side exactly where it does on the other
--     LowerBackupIsCarried, UpperBackupIsCarried, DownIsCarried, UpIsCarried
--                          rounded backups, and plain rounded iteration
--     BalanceIsCarried     readings are balanced at a valid state exactly where they are at that for which it stands
--     PlainIsCarried, IntervalIsCarried
--                          the interval of the starts: of plain rounded iteration, and of readings
--     CertificateIsCarried a certificate is balanced exactly where that for which it stands is
--     NearIsCarried, NearIsFound
--                          the states near the starts stand for those near the other side's starts, all of them
--     DepthIsCarried       the depth within which there are at most k states is one
--     PlansAreCarried, PlansAreFound
--                          a plan on the one side has one on the other that is no deeper and costs no more
use Rattle.std.specs.Prelude.{◌≡◌, ◌↔◌, ℕ, ◌*◌, ◌^◌, Bool, false, List, Option, Contains}
use Rattle.plain_list.specs.weighted.Chances.{IsExact}
use Rattle.decision_process.specs.Process.{Process, Start}
use Rattle.decision_process.specs.Plans.{Plan, Fits}
use Rattle.decision_process.specs.Policies.{spend, still}
use Rattle.decision_process.specs.Least.{least}
use Rattle.decision_process.specs.Backup.{lower_backup, upper_backup}
use Rattle.decision_process.specs.Following.{IsLowerFrom, IsUpperFrom}
use Rattle.decision_process.specs.Rounded.{down, up, plain_low, plain_high}
use Rattle.decision_process.specs.Balanced.{IsBalancedAt, IsInterval}
use Rattle.decision_process.specs.Readings.{Certificate, IsBalancedCertificate}
use Rattle.decision_process.specs.Levels.{near, IsDepthWithin}
use Rattle.decision_process.specs.homomorphism.Homomorphism.{Mapping, IsValid, IsHomomorphism, AreStartsOf, HasPositiveWeights, IsInverse, AreReadingsOf, IsActOf, IsPolicyOf}
use Rattle.decision_process.specs.homomorphism.Counterparts.{IsAsGood, IsCertificateOf}

module _ (S T A B : Type 0) where
  -- ---- costs

  abbrev pub LeastIsCarried : Type 0
  LeastIsCarried = (p : Process S A) (q : Process T B) (m : Mapping S T A B)
      → IsHomomorphism p q m
      → (n : ℕ) (s : S) → IsValid m s
      → least p n s * q.den ^ n ≡ least q n (m.state s) * p.den ^ n

  abbrev pub SpendIsCarried : Type 0
  SpendIsCarried = (p : Process S A) (q : Process T B) (m : Mapping S T A B)
      → IsHomomorphism p q m
      → (policy : S → Option A) (policy' : T → Option B)
      → IsPolicyOf p m policy policy' → (n : ℕ) (s : S) → IsValid m s
      → spend p policy n s * q.den ^ n ≡ spend q policy' n (m.state s) * p.den ^ n

  abbrev pub StillIsCarried : Type 0
  StillIsCarried = (p : Process S A) (q : Process T B) (m : Mapping S T A B)
      → IsHomomorphism p q m
      → (policy : S → Option A) (policy' : T → Option B)
      → IsPolicyOf p m policy policy' → (n : ℕ) (s : S) → IsValid m s
      → still p policy n s * q.den ^ n ≡ still q policy' n (m.state s) * p.den ^ n

  -- ---- readings

  abbrev pub LowerIsCarried : Type 0
  LowerIsCarried = (p : Process S A) (q : Process T B) (m : Mapping S T A B)
      → IsHomomorphism p q m
      → (low : S → ℕ) (low' : T → ℕ) → AreReadingsOf m low low'
      → (s : S) → IsValid m s → (value : ℕ)
      → IsLowerFrom p low s value ↔ IsLowerFrom q low' (m.state s) value

  abbrev pub UpperIsCarried : Type 0
  UpperIsCarried = (p : Process S A) (q : Process T B) (m : Mapping S T A B)
      → IsHomomorphism p q m
      → (high : S → ℕ) (high' : T → ℕ) → AreReadingsOf m high high'
      → (act : Option A) (act' : Option B) (s : S) → IsValid m s
      → (p.goal s ≡ false → IsActOf m act act') → (value : ℕ)
      → IsUpperFrom p high s act value ↔ IsUpperFrom q high' (m.state s) act' value

  abbrev pub LowerBackupIsCarried : Type 0
  LowerBackupIsCarried = (p : Process S A) (q : Process T B) (m : Mapping S T A B)
      → IsHomomorphism p q m
      → (low : S → ℕ) (low' : T → ℕ) → AreReadingsOf m low low' → (s : S) → IsValid m s
      → lower_backup p low s ≡ lower_backup q low' (m.state s)

  abbrev pub UpperBackupIsCarried : Type 0
  UpperBackupIsCarried = (p : Process S A) (q : Process T B) (m : Mapping S T A B)
      → IsHomomorphism p q m
      → (high : S → ℕ) (high' : T → ℕ) → AreReadingsOf m high high' → (s : S) → IsValid m s
      → upper_backup p high s ≡ upper_backup q high' (m.state s)

  abbrev pub DownIsCarried : Type 0
  DownIsCarried = (p : Process S A) (q : Process T B) (m : Mapping S T A B)
      → IsHomomorphism p q m
      → (k : ℕ) (s : S) → IsValid m s
      → down p k s ≡ down q k (m.state s)

  abbrev pub UpIsCarried : Type 0
  UpIsCarried = (p : Process S A) (q : Process T B) (m : Mapping S T A B)
      → IsHomomorphism p q m
      → (k : ℕ) (s : S) → IsValid m s
      → up p k s ≡ up q k (m.state s)

  abbrev pub BalanceIsCarried : Type 0
  BalanceIsCarried = (p : Process S A) (q : Process T B) (m : Mapping S T A B)
      → IsHomomorphism p q m
      → (low high : S → ℕ) (act : S → Option A) (low' high' : T → ℕ) (act' : T → Option B)
      → AreReadingsOf m low low' → AreReadingsOf m high high'
      → (s : S) → IsValid m s → (p.goal s ≡ false → IsActOf m (act s) (act' (m.state s)))
      → IsBalancedAt p low high act s ↔ IsBalancedAt q low' high' act' (m.state s)

  -- ---- starts

  abbrev pub PlainIsCarried : Type 0
  PlainIsCarried = (p : Process S A) (q : Process T B) (m : Mapping S T A B)
      → IsHomomorphism p q m
      → (starts : List (Start S)) (den : ℕ) (starts' : List (Start T)) (den' : ℕ)
      → AreStartsOf m starts den starts' den' → (k : ℕ)
      → (plain_low p starts den k ≡ plain_low q starts' den' k)
      × (plain_high p starts den k ≡ plain_high q starts' den' k)

  abbrev pub IntervalIsCarried : Type 0
  IntervalIsCarried = (m : Mapping S T A B)
      → (starts : List (Start S)) (den : ℕ) (starts' : List (Start T)) (den' : ℕ)
      → AreStartsOf m starts den starts' den' → (low high : S → ℕ) (low' high' : T → ℕ)
      → AreReadingsOf m low low' → AreReadingsOf m high high' → (lower upper : ℕ)
      → IsInterval low high starts den lower upper
      ↔ IsInterval low' high' starts' den' lower upper

  abbrev pub NearIsCarried : Type 0
  NearIsCarried = (p : Process S A) (q : Process T B) (m : Mapping S T A B)
      → IsHomomorphism p q m
      → (same : T → T → Bool) → IsExact same
      → (starts : List (Start S)) (den : ℕ) (starts' : List (Start T)) (den' : ℕ)
      → AreStartsOf m starts den starts' den' → HasPositiveWeights p q m starts starts'
      → (d : ℕ) (s : S) → Contains (near p starts d) s
      → IsValid m s × Contains (near q starts' d) (m.state s)

  abbrev pub NearIsFound : Type 0
  NearIsFound = (p : Process S A) (q : Process T B) (m : Mapping S T A B)
      → IsHomomorphism p q m
      → (same : T → T → Bool) → IsExact same
      → (starts : List (Start S)) (den : ℕ) (starts' : List (Start T)) (den' : ℕ)
      → AreStartsOf m starts den starts' den' → HasPositiveWeights p q m starts starts'
      → (d : ℕ) (t : T) → Contains (near q starts' d) t
      → (s : S) × Contains (near p starts d) s × (m.state s ≡ t)

  abbrev pub DepthIsCarried : Type 0
  DepthIsCarried = (p : Process S A) (q : Process T B) (m : Mapping S T A B)
      → IsHomomorphism p q m
      → (same : T → T → Bool) → IsExact same
      → (starts : List (Start S)) (den : ℕ) (starts' : List (Start T)) (den' : ℕ)
      → AreStartsOf m starts den starts' den' → HasPositiveWeights p q m starts starts'
      → (back : T → S) → IsInverse m back → (k : ℕ) (d : Option ℕ)
      → IsDepthWithin p starts k d ↔ IsDepthWithin q starts' k d

  -- ---- certificates and plans

  abbrev pub CertificateIsCarried : Type 0
  CertificateIsCarried = (p : Process S A) (q : Process T B) (m : Mapping S T A B)
      → IsHomomorphism p q m
      → (same : S → S → Bool) → IsExact same → (same' : T → T → Bool) → IsExact same'
      → (back : T → S) → IsInverse m back
      → (starts : List (Start S)) (den : ℕ) (starts' : List (Start T)) (den' : ℕ)
      → AreStartsOf m starts den starts' den'
      → (c : Certificate S A) (c' : Certificate T B) → IsCertificateOf m c c'
      → IsBalancedCertificate p same starts den c ↔ IsBalancedCertificate q same' starts' den' c'

  abbrev pub PlansAreCarried : Type 0
  PlansAreCarried = (p : Process S A) (q : Process T B) (m : Mapping S T A B)
      → IsHomomorphism p q m
      → (same : T → T → Bool) → IsExact same
      → (plan : Plan A) (s : S) → IsValid m s → Fits p plan s
      → (plan' : Plan B) × IsAsGood p plan s q plan' (m.state s)

  abbrev pub PlansAreFound : Type 0
  PlansAreFound = (p : Process S A) (q : Process T B) (m : Mapping S T A B)
      → IsHomomorphism p q m
      → (same : T → T → Bool) → IsExact same
      → (plan' : Plan B) (s : S) → IsValid m s → Fits q plan' (m.state s)
      → (plan : Plan A) × IsAsGood q plan' (m.state s) p plan s
