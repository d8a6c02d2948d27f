-- What an insert into a set of states adds.
use Rattle.std.proofs.Common.{◌≡◌, Bool, true, false, List, [], ◌∷◌, ◌++◌, if◌then◌else◌, refl, sym, ap, ◌∙◌, subst, inl, inr, true≢false}
use Rattle.std.specs.Prelude.{Contains}
use Rattle.std.specs.List.{list_any}
use Rattle.std.specs.Cmp.Lexicographic.{bytes_decides, nat_list_eq_equiv}
use Rattle.std.proofs.lemmas.Map.Views.{Contains-from_any, list_any-from_Contains}
use Rattle.indexmap.specs.IndexSet.{insert_key}
use Rattle.ground_model.specs.Packed.{State, same_state}
use Rattle.trial_workers.specs.explorer.Found.{IsAdded}

same_is : (s t : State) → same_state s t ≡ true → s ≡ t
same_is s t test = (bytes_decides s t).0 test

by_test : (b : Bool) (P : Type 0) → (b ≡ true → P) → (b ≡ false → P) → P
by_test true P on off = on refl
by_test false P on off = off refl

pub listed_is : (ks : List State) (s : State) (test : Bool) → test ≡ list_any (same_state s) ks → test ≡ true → Contains ks s
listed_is ks s test is on = Contains-from_any same_is s ks (sym is ∙ on)

pub inserted : (ks : List State) (s copy : State) → copy ≡ s → IsAdded ks (insert_key same_state ks copy) s
inserted ks s copy same = subst (λ x. IsAdded ks (insert_key same_state ks copy) x) same
    (by_test (list_any (same_state copy) ks) (IsAdded ks (insert_key same_state ks copy) copy)
    (λ e. inl (ap (λ c. if c then ks else ks ++ copy ∷ []) e, Contains-from_any same_is copy ks e))
    (λ e. inr (
      ap (λ c. if c then ks else ks ++ copy ∷ []) e,
      λ h. true≢false (sym (list_any-from_Contains nat_list_eq_equiv copy ks h) ∙ e),
    )))
