-- Facts and what comes by chance, put together and apart.
use Rattle.std.proofs.Common.{◌≡◌, All, List, [], ◌∷◌, ◌++◌, refl, sym, ap, append_assoc}
use Rattle.std.proofs.lemmas.List.Elements.{All-head, All-tail, All-nil, All-push}
use Rattle.ppddl_model.specs.declared.tree.Atom.{Atom}
use Rattle.ppddl_model.specs.declared.tree.InitBranch.{InitBranch}
use Rattle.ppddl_model.specs.declared.tree.InitItem.{InitItem}
use Rattle.ppddl_model.specs.declared.tree.InitItem.TheVariants as tree
use Rattle.ppddl_reader.specs.sections.Apart.{IsFact, IsByChance, AreApart}
use Rattle.ppddl_reader.specs.sections.Starts.{behind_facts}

pub none_apart : AreApart [] []
none_apart = record { are_facts = All-nil IsFact; by_chance = All-nil IsByChance }

-- a fact stands behind the facts
front : (i : InitItem) (chances : List InitItem) → All IsByChance chances → behind_facts i chances ≡ i ∷ chances
front i [] all = refl
front i (tree.Fact x ∷ l) all = absurd (All-head IsByChance (tree.Fact x) l all)
front i (tree.Chance branches ∷ l) all = refl
front i (tree.Value v ∷ l) all = refl

fact_stands : (i : InitItem) (facts chances : List InitItem) → All IsFact facts → All IsByChance chances
    → behind_facts i (facts ++ chances) ≡ (facts ++ i ∷ []) ++ chances
fact_stands i [] chances are by_chance = front i chances by_chance
fact_stands i (tree.Fact x ∷ l) chances are by_chance =
    ap (λ m. tree.Fact x ∷ m) (fact_stands i l chances (All-tail IsFact (tree.Fact x) l are) by_chance)
fact_stands i (tree.Chance branches ∷ l) chances are by_chance = absurd (All-head IsFact (tree.Chance branches) l are)
fact_stands i (tree.Value v ∷ l) chances are by_chance = absurd (All-head IsFact (tree.Value v) l are)

pub fact_put : (x : Atom) (facts chances : List InitItem) → AreApart facts chances
    → ((facts ++ tree.Fact x ∷ []) ++ chances ≡ behind_facts (tree.Fact x) (facts ++ chances)) × AreApart (facts ++ tree.Fact x ∷ []) chances
fact_put x facts chances apart = (
  sym (fact_stands (tree.Fact x) facts chances apart.are_facts apart.by_chance),
  record { are_facts = All-push IsFact facts (tree.Fact x) apart.are_facts tt; by_chance = apart.by_chance },
)

pub chance_put : (branches : List InitBranch) (facts chances : List InitItem) → AreApart facts chances
    → (facts ++ (chances ++ tree.Chance branches ∷ []) ≡ (facts ++ chances) ++ tree.Chance branches ∷ []) × AreApart facts (chances ++ tree.Chance branches ∷ [])
chance_put branches facts chances apart = (
  sym (append_assoc facts chances (tree.Chance branches ∷ [])),
  record { are_facts = apart.are_facts; by_chance = All-push IsByChance chances (tree.Chance branches) apart.by_chance tt },
)
