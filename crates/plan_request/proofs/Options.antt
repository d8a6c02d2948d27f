-- Options in a row.
use Rattle.std.proofs.Common.{◌≡◌, refl, subst, Bool, true, false, cond, ◌⊎◌, inl, inr, Option, Some, None}
use Rattle.std.specs.Prelude.{IfSome, option_and_then, option_map}
use Rattle.std.specs.Bool.{then_some}

-- what is chosen is the first, or among the rest
pub chosen : {X : Type 0} (b : Bool) (x y : X) (o : Option X) → cond b (Some x) o ≡ Some y → (x ≡ y) ⊎ (o ≡ Some y)
chosen true x y o e = inl (let s : Some x ≡ Some y = e in cc)
chosen false x y o e = inr e

-- what holds of a value wherever there is one
pub of_some : {X : Type 0} (P : X → Type 0) (o : Option X) (x : X) → IfSome o P → o ≡ Some x → P x
of_some P None x holds e = absurd (cc)
of_some P (Some y) x holds e = subst P (let s : Some y ≡ Some x = e in let t : y ≡ x = cc in t) holds

pub if_then_some : {X : Type 0} (P : X → Type 0) (b : Bool) (x : X) → (b ≡ true → P x) → IfSome (then_some b x) P
if_then_some P true x holds = holds refl
if_then_some P false x holds = tt

pub if_mapped : {X Y : Type 0} (P : X → Type 0) (Q : Y → Type 0) (f : X → Y) (o : Option X) → IfSome o P → ((x : X) → P x → Q (f x)) → IfSome (option_map f o) Q
if_mapped P Q f None holds then = tt
if_mapped P Q f (Some x) holds then = then x holds

-- a row of two, of three
pub if_bound : {X Y : Type 0} (P : X → Type 0) (Q : Y → Type 0) (o : Option X) (f : X → Option Y) → IfSome o P → ((x : X) → P x → IfSome (f x) Q) → IfSome (option_and_then f o) Q
if_bound P Q None f holds then = tt
if_bound P Q (Some x) f holds then = then x holds

pub if_any : {X : Type 0} (o : Option X) → IfSome o (λ x. Unit {0})
if_any None = tt
if_any (Some x) = tt
