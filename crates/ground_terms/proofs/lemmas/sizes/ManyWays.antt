-- In how many ways variables can be bound.
use Rattle.std.proofs.Common.{◌≡◌, ℕ, ◌+◌, ◌*◌, List, [], ◌∷◌, length, length-append, take, drop, get_or, drop-cons, add-one, zero, suc, ◌<◌, ◌≤◌, refl, sym, ap, ◌∙◌, arith}
use Rattle.std.specs.Prelude.{flat_map}
use Rattle.std.proofs.Math.Nat.{mul_assoc}
use Rattle.ppddl_model.specs.declared.tree.Param.{Param}
use Rattle.ppddl_model.specs.Objects.{World, Binding, objects_of, bindings}
use Rattle.ground_terms.specs.sizes.Counted.{counted}
use Rattle.ground_terms.proofs.lemmas.sizes.Stopping.{counted-times}

pub drop-all : {X : Type 0} (i : ℕ) (xs : List X) → length xs ≤ i → drop i xs ≡ []
drop-all zero [] short = refl
drop-all (suc i) [] short = refl
drop-all zero (x ∷ xs) short = absurd (omega arith)
drop-all (suc i) (x ∷ xs) short = drop-all i xs (omega arith)

pub take_whole : {X : Type 0} (i : ℕ) (xs : List X) → length xs ≤ i → take i xs ≡ xs
take_whole zero [] short = refl
take_whole (suc i) [] short = refl
take_whole zero (x ∷ xs) short = absurd (omega arith)
take_whole (suc i) (x ∷ xs) short = ap (λ l. x ∷ l) (take_whole i xs (omega arith))

length-flat_map : {X Y : Type 0} (f : X → List Y) (n : ℕ) → ((x : X) → length (f x) ≡ n) → (xs : List X) → length (flat_map f xs) ≡ length xs * n
length-flat_map f n each [] = omega arith
length-flat_map f n each (x ∷ xs) =
    let here = each x in
    let later = length-flat_map f n each xs in
    length-append (f x) (flat_map f xs) ∙ grind (arith, here, later)

pub length-bindings : (w : World) (params : List Param) (b c : Binding) → length (bindings w params b) ≡ length (bindings w params c)
length-bindings w [] b c = refl
length-bindings w (p ∷ params) b c =
    length-flat_map (λ o. bindings w params ((p.name, o) ∷ b)) (length (bindings w params [])) (λ o. length-bindings w params ((p.name, o) ∷ b) []) (objects_of w p)
    ∙ sym (length-flat_map (λ o. bindings w params ((p.name, o) ∷ c)) (length (bindings w params [])) (λ o. length-bindings w params ((p.name, o) ∷ c) []) (objects_of w p))

pub bindings-cons : (w : World) (p : Param) (params : List Param)
    → length (bindings w (p ∷ params) []) ≡ length (objects_of w p) * length (bindings w params [])
bindings-cons w p params =
    length-flat_map (λ o. bindings w params ((p.name, o) ∷ [])) (length (bindings w params [])) (λ o. length-bindings w params ((p.name, o) ∷ []) []) (objects_of w p)

pub bindings-drop : (w : World) (params : List Param) (i : ℕ) (d : Param) → i < length params
    → length (bindings w (drop i params) []) ≡ length (objects_of w (get_or params i d)) * length (bindings w (drop (i + 1) params) [])
bindings-drop w params i d within =
    ap (λ ps. length (bindings w ps [])) (drop-cons params i d within)
    ∙ bindings-cons w (get_or params i d) (drop (suc i) params)
    ∙ ap (λ k. length (objects_of w (get_or params i d)) * length (bindings w (drop k params) [])) (sym (add-one i))

pub ways_more : (w : World) (params : List Param) (i count objects all : ℕ) (p : Param) → i < length params
    → p ≡ get_or params i p → objects ≡ length (objects_of w p)
    → counted (count * length (bindings w (drop i params) [])) ≡ all
    → counted (counted (count * objects) * length (bindings w (drop (i + 1) params) [])) ≡ all
ways_more w params i count objects all p within is many so_far =
    let rest : ℕ = length (bindings w (drop (i + 1) params) []) in
    let here : length (bindings w (drop i params) []) ≡ objects * rest
    = bindings-drop w params i p within ∙ ap (λ k. k * rest) (ap (λ q. length (objects_of w q)) (sym is) ∙ sym many) in
    counted-times (count * objects) rest
    ∙ ap counted (mul_assoc count objects rest ∙ ap (λ k. count * k) (sym here))
    ∙ so_far
