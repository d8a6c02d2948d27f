-- What holds of each member of a list that is made from others.
use Rattle.std.proofs.Common.{List, [], ◌∷◌, ◌++◌, map}
use Rattle.std.specs.Prelude.{All, Contains, flat_map, slice_index_or}
use Rattle.std.proofs.lemmas.List.Elements.{All-nil, All-cons, All-head, All-tail, All-weaker}
use Rattle.std.proofs.lemmas.List.Elements.{All-contains, All-contains_itself}
use Rattle.std.proofs.lemmas.List.Elements.{Contains-append_left, Contains-append_right}

pub All-both : {X : Type 0} (P Q R : X → Type 0) → ((x : X) → P x → Q x → R x)
    → (xs : List X) → All P xs → All Q xs → All R xs
All-both P Q R joins xs left right k x below =
    joins (slice_index_or xs k x) (left k x below) (right k x below)

pub All-append_left : {X : Type 0} (P : X → Type 0) (xs ys : List X) → All P (xs ++ ys) → All P xs
All-append_left P xs ys each =
    All-weaker (Contains xs) P
    (λ x inside. All-contains P (xs ++ ys) x each (Contains-append_left xs ys x inside)) xs
    (All-contains_itself xs)

pub All-append_right : {X : Type 0} (P : X → Type 0) (xs ys : List X) → All P (xs ++ ys) → All P ys
All-append_right P xs ys each =
    All-weaker (Contains ys) P
    (λ y inside. All-contains P (xs ++ ys) y each (Contains-append_right xs ys y inside)) ys
    (All-contains_itself ys)

pub All-from_map : {X Y : Type 0} (P : Y → Type 0) (f : X → Y) (xs : List X)
    → All P (map f xs) → All (λ x. P (f x)) xs
All-from_map P f [] each = All-nil (λ x. P (f x))
All-from_map P f (x ∷ xs) each =
    All-cons (λ z. P (f z)) x xs (All-head P (f x) (map f xs) each)
    (All-from_map P f xs (All-tail P (f x) (map f xs) each))

pub All-from_flat_map : {X Y : Type 0} (P : Y → Type 0) (f : X → List Y) (xs : List X)
    → All P (flat_map f xs) → All (λ x. All P (f x)) xs
All-from_flat_map P f [] each = All-nil (λ x. All P (f x))
All-from_flat_map P f (x ∷ xs) each =
    All-cons (λ z. All P (f z)) x xs (All-append_left P (f x) (flat_map f xs) each)
    (All-from_flat_map P f xs (All-append_right P (f x) (flat_map f xs) each))
