-- Names that are compared byte by byte.
use Rattle.std.proofs.Common.{◌≡◌, ℕ, Bool, true, false, List, Some, None, refl, sym, ◌∙◌}
use Rattle.std.specs.Prelude.{nat_eq}
use Rattle.std.specs.Cmp.Lexicographic.{pointwise, texts_ties}
use Rattle.std.specs.List.{list_any, position_or_len}
use Rattle.ppddl_model.specs.State.{Name, same_name}
use Rattle.type_table.specs.Numbered.{number_of}
use Rattle.type_table.proofs.Lists.{placed, position_at}
use Rattle.type_table.proofs.Numbered.{has_number}

pub told : (x y : Name) (test answer : Bool) → test ≡ pointwise nat_eq x y → test ≡ answer → same_name x y ≡ answer
told x y test answer is so = sym (texts_ties x y) ∙ sym is ∙ so

pub no_name : (names : List Name) (name : Name) → None ≡ number_of names name → list_any (same_name name) names ≡ false
no_name names name is = here (list_any (same_name name) names) (λ found. position_at (same_name name) names (placed (same_name name) names found))
  where
    here : (b : Bool) → (b ≡ true → number_of names name ≡ Some (position_or_len (same_name name) names)) → b ≡ false
    here true found = let both : None ≡ Some (position_or_len (same_name name) names) = is ∙ found refl in absurd (cc)
    here false found = refl

pub has_name : (names : List Name) (name : Name) (k : ℕ) → Some k ≡ number_of names name → list_any (same_name name) names ≡ true
has_name names name k is = has_number names name k (sym is)

-- ---- keys
