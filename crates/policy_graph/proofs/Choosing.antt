-- The choices of an action, one by one.
use Rattle.std.proofs.Common.{◌≡◌, ℕ, ◌+◌, ◌<◌, List, [], ◌∷◌, ◌++◌, Bool, length, map, take, get_or, refl, sym, ap, subst, ◌∙◌}
use Rattle.std.proofs.lemmas.List.{map-append, take_more}
use Rattle.std.proofs.lemmas.List.Elements.{All-get_or}
use Rattle.ground_model.specs.declared.action.Choice.{Choice}
use Rattle.ground_model.specs.declared.action.GroundAction.{GroundAction}
use Rattle.ground_model.specs.Invariant.{IsAction, IsChoice}
use Rattle.policy_graph.specs.Search.{noted, noted_all}

pub choice_is : (n : ℕ) (a : GroundAction) → IsAction n a → (items : List Choice) → items ≡ a.choices → (i : ℕ) (c : Choice)
    → i < length items → c ≡ get_or items i c → IsChoice n c
choice_is n a valid items same i c within is =
    subst (IsChoice n) (sym (is ∙ ap (λ (l : List Choice). get_or l i c) same))
    (All-get_or (IsChoice n) a.choices i c (subst (λ (l : List Choice). i < length l) same within) valid.choices)

-- one item more
pub map_more : {X Y : Type 0} (f : X → Y) (xs : List X) (i : ℕ) (x : X) → i < length xs → x ≡ get_or xs i x
    → map f (take (i + 1) xs) ≡ map f (take i xs) ++ f x ∷ []
map_more f xs i x within is =
    ap (map f) (take_more xs i x within ∙ ap (λ y. take i xs ++ y ∷ []) (sym is)) ∙ map-append f (take i xs) (x ∷ [])

pub noted_more : {S : Type 0} (same : S → S → Bool) (most : ℕ) (states more : List S) (s : S)
    → noted_all same most states (more ++ s ∷ []) ≡ noted same most (noted_all same most states more) s
noted_more same most states [] s = refl
noted_more same most states (x ∷ more) s = noted_more same most (noted same most states x) more s
