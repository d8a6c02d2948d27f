-- The table of the atoms of two certificates.
use Rattle.std.proofs.Common.{◌≡◌, inl, inr, ℕ, true, List, [], ◌∷◌, ◌++◌, refl, sym, ◌∙◌}
use Rattle.std.specs.BTreeSet.{insert_key}
use Rattle.std.specs.Ordering.{nat_cmp}
use Rattle.plain_list.specs.Texts.{compare_texts, rises}
use Rattle.certificate.specs.Content.{Content, name_at}
use Rattle.certificate.specs.Numbering.{Among, filled, place_of}
use Rattle.certificate.proofs.Sorted.{Sorted, table_sorted, table_has, sorted_rises, name_among, place_found, order_of_places}
use Rattle.cert_merge.specs.Tables.{joined, ArePlaces}
use Rattle.cert_merge.specs.Pairs.{PlacesAgree}

pub filled-append : (table xs ys : List (List ℕ)) → filled table (xs ++ ys) ≡ filled (filled table xs) ys
filled-append table [] ys = refl
filled-append table (x ∷ xs) ys = filled-append (insert_key compare_texts table x) xs ys

pub among_front : (xs ys : List (List ℕ)) (text : List ℕ) → Among xs text → Among (xs ++ ys) text
among_front [] ys text among = absurd among
among_front (x ∷ xs) ys text (inl is) = inl is
among_front (x ∷ xs) ys text (inr among) = inr (among_front xs ys text among)

pub among_rest : (xs ys : List (List ℕ)) (text : List ℕ) → Among ys text → Among (xs ++ ys) text
among_rest [] ys text among = among
among_rest (x ∷ xs) ys text among = inr (among_rest xs ys text among)

module _ (c d : Content) where
  pub joined_sorted : Sorted (joined c d)
  joined_sorted = table_sorted (c.atoms ++ d.atoms)

  pub joined_rises : rises compare_texts (joined c d) ≡ true
  joined_rises = sorted_rises (joined c d) joined_sorted

  pub joined_first : (text : List ℕ) → Among c.atoms text → Among (joined c d) text
  joined_first text among = table_has (c.atoms ++ d.atoms) text (among_front c.atoms d.atoms text among)

  pub joined_second : (text : List ℕ) → Among d.atoms text → Among (joined c d) text
  joined_second text among = table_has (c.atoms ++ d.atoms) text (among_rest c.atoms d.atoms text among)

  pub places_agree : (ours theirs : List ℕ) → ArePlaces (joined c d) c.atoms ours → ArePlaces (joined c d) d.atoms theirs
      → PlacesAgree c d ours theirs
  places_agree ours theirs are are' i j within within' =
      let table = joined c d in
      let x = name_at c.atoms i in let y = name_at d.atoms j in
      let among : Among table x = joined_first x (name_among c.atoms i within) in
      let among' : Among table y = joined_second y (name_among d.atoms j within') in
      let here = place_found table x among in let there = place_found table y among' in
      (λ k. compare_texts (sym here.1 k) (sym there.1 k))
      ∙ order_of_places table (place_of table x) (place_of table y) joined_sorted here.0 there.0
      ∙ (λ k. nat_cmp (sym (are.placed i within among) k) (sym (are'.placed j within' among') k))
