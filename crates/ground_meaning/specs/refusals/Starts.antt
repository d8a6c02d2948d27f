-- The initial states of a ground problem: all ways in which the `probabilistic` items of `:init` may go, merged where they are equal.
-- They are joint choices that only add; what they add is what is true at first.
-- Source: PPDDL 1.0 (Younes and Littman 2004), `probabilistic` in `:init`.
--     numbers_of n atoms      the numbers of those of the atoms that have one, rising
--     true_choice n k atoms   the choice of weight k that makes these atoms true
--     item_den i              the least common multiple of the denominators of an item
--     item_choices n i        the choices of an item; a fact has one, a `probabilistic` those of its branches and the rest
--     start_choices n init    their products from the left, merged after each
--     starts_den init         the product of the denominators
--     widest_start n init     the length of the longest merged list on the way
--     packed_start count c    the packed state of the atoms that a choice makes true
--     Starts, starts_of n init
--                             the initial states with their denominator, in lowest terms
use Rattle.std.specs.Prelude.{ℕ, ◌*◌, ◌/◌, List, [], ◌∷◌, map, flat_map, length}
use Rattle.exact_fraction.specs.Divisors.{common_multiple}
use Rattle.ppddl_model.specs.declared.tree.Atom.{Atom}
use Rattle.ppddl_model.specs.declared.tree.InitBranch.{InitBranch}
use Rattle.ppddl_model.specs.declared.tree.InitItem.{InitItem}
use Rattle.ppddl_model.specs.declared.tree.InitItem.TheVariants.{Fact, Chance, Value}
use Rattle.ppddl_model.specs.Objects.{ground_atom}
use Rattle.ppddl_model.specs.Denominator.{item_denominators, share}
use Rattle.ground_model.specs.declared.action.Choice.{Choice}
use Rattle.ground_model.specs.declared.start.Start.{Start}
use Rattle.ground_model.specs.Packed.{packed, words_for}
use Rattle.ground_model.specs.Choices.{is_member}
use Rattle.ground_meaning.specs.choices.Rising.{rising}
use Rattle.ground_meaning.specs.choices.Numbering.{Numbering, number_of}
use Rattle.ground_meaning.specs.choices.Joint.{literal, idle, with_weight, with_rest, product_of, numbers, common_divisor}
use Rattle.ground_meaning.specs.choices.Limits.{widest_product}

abbrev pub item_den : InitItem → ℕ
item_den i = common_multiple (item_denominators i)

module _ (n : Numbering) where
  abbrev pub numbers_of : List Atom → List ℕ
  numbers_of atoms = rising (flat_map (λ (a : Atom). numbers (number_of n (ground_atom [] a))) atoms)

  abbrev pub true_choice : ℕ → List Atom → Choice
  true_choice weight atoms = with_weight weight (literal (numbers_of atoms) [])

  abbrev pub item_choices : InitItem → List Choice
  item_choices (Fact a) = true_choice 1 (a ∷ []) ∷ []
  item_choices (Chance branches) =
      with_rest (item_den (Chance branches))
      (map (λ (branch : InitBranch). true_choice (share (item_den (Chance branches)) branch.chance) branch.atoms) branches)
  item_choices (Value v) = idle 1 ∷ []

  abbrev pub start_choices : List InitItem → List Choice
  start_choices init = product_of (map item_choices init)

  abbrev pub widest_start : List InitItem → ℕ
  widest_start init = widest_product (map item_choices init)

abbrev pub starts_den : List InitItem → ℕ
starts_den [] = 1
starts_den (i ∷ init) = item_den i * starts_den init

pub record Starts : Type 0 where
  pub list : List Start
  pub den : ℕ

abbrev pub packed_start : ℕ → ℕ → Choice → Start
packed_start count divisor c = record { weight = c.weight / divisor; state = packed (is_member c.adds) (words_for count) }

module _ (n : Numbering) (init : List InitItem) where
  abbrev pub start_divisor : ℕ
  start_divisor = common_divisor (starts_den init) (start_choices n init)

  abbrev pub starts_of : Starts
  starts_of = record {
    list = map (packed_start (length n.atoms) start_divisor) (start_choices n init);
    den = starts_den init / start_divisor;
  }
