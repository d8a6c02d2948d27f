-- Steps that did not fail.
use Rattle.std.proofs.Common.{◌≡◌, Bool, true, false, cond, ◌||◌, Option, Some, None, option_map, refl}
use Rattle.std.proofs.Common.{◌⊎◌, inl, inr}
use Rattle.std.specs.Prelude.{option_and_then}
use Rattle.std.specs.Option.{option_or}

pub some_is : {A : Type 0} (x y : A) → Some x ≡ Some y → x ≡ y
some_is x y e = cc

pub kept : {A : Type 0} (test : Bool) (o : Option A) (y : A) → cond test o None ≡ Some y → (test ≡ true) × (o ≡ Some y)
kept true o y e = (refl, e)
kept false o y e = absurd cc

pub mapped : {A B : Type 0} (f : A → B) (o : Option A) (y : B) → option_map f o ≡ Some y → (x : A) × (o ≡ Some x) × (f x ≡ y)
mapped f None y e = absurd cc
mapped f (Some x) y e = (x, refl, some_is (f x) y e)

pub chained : {A B : Type 0} (o : Option A) (f : A → Option B) (y : B) → option_and_then f o ≡ Some y → (x : A) × (o ≡ Some x) × (f x ≡ Some y)
chained None f y e = absurd cc
chained (Some x) f y e = (x, refl, e)

pub or_parts : (a b : Bool) → (a || b) ≡ false → (a ≡ false) × (b ≡ false)
or_parts true b e = absurd cc
or_parts false b e = (refl, e)

pub unmapped : {A B : Type 0} (f : A → B) (o : Option A) → option_map f o ≡ None → o ≡ None
unmapped f None e = refl
unmapped f (Some x) e = absurd cc

pub either : {A : Type 0} (o p : Option A) (x : A) → option_or o p ≡ Some x → (o ≡ Some x) ⊎ (p ≡ Some x)
either None p x e = inr e
either (Some y) p x e = inl e
