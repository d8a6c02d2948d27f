-- Rows of names and rows of numbers over tables that rise: they are in the same order.
use Rattle.std.proofs.Common.{◌≡◌, ℕ, ◌<◌, List, [], ◌∷◌, length, map, refl}
use Rattle.std.specs.List.{AllByRecursion}
use Rattle.std.specs.Ordering.{nat_cmp}
use Rattle.std.specs.Cmp.Lexicographic.{slice_cmp}
use Rattle.plain_list.specs.Texts.{compare_texts, rises, rises_behind}
use Rattle.certificate.specs.Content.{name_at}
use Rattle.certificate.proofs.Sorted.{Sorted, order_of_places}

module _ (table : List (List ℕ)) (sorted : Sorted table) where
  abbrev InRange : List ℕ → Type 0
  InRange numbers = AllByRecursion (λ n. n < length table) numbers

  same_behind : (n : ℕ) (numbers : List ℕ) → n < length table → InRange numbers → rises_behind compare_texts (name_at table n) (map (name_at table) numbers) ≡ rises_behind nat_cmp n numbers
  same_behind n [] lt are = refl
  same_behind n (m ∷ numbers) lt are = rw (order_of_places table n m sorted lt are.0, same_behind m numbers are.0 are.1) refl

  pub names_rise : (numbers : List ℕ) → InRange numbers → rises compare_texts (map (name_at table) numbers) ≡ rises nat_cmp numbers
  names_rise [] are = refl
  names_rise (n ∷ numbers) are = same_behind n numbers are.0 are.1

  pub names_compare : (a b : List ℕ) → InRange a → InRange b → slice_cmp compare_texts (map (name_at table) a) (map (name_at table) b) ≡ slice_cmp nat_cmp a b
  names_compare [] [] are_a are_b = refl
  names_compare [] (m ∷ b) are_a are_b = refl
  names_compare (n ∷ a) [] are_a are_b = refl
  names_compare (n ∷ a) (m ∷ b) are_a are_b = rw (order_of_places table n m sorted are_a.0 are_b.0, names_compare a b are_a.1 are_b.1) refl
