-- The choices of initial states while the items of `:init` are put in one after another.
--     adding atoms          the choice that makes these atoms true
--     grown done sure       the choices of a list, in each of which more atoms are true
--     numbers_each n atoms  the numbers of those of the atoms that have one, in order
--     chance_choice n den x the choice of a branch, with its share of a denominator
--     dens_of branches      the denominators of the chances of branches
--     start_of count c      the initial state of a choice
--     IsTooMany e k         e is want of memory, or the refusal of too many initial states, and k is too many
use Rattle.std.specs.Prelude.{◌≡◌, ℕ, ◌<◌, ◌⊎◌, List, [], ◌∷◌, map, flat_map}
use Rattle.ppddl_model.specs.declared.tree.Atom.{Atom}
use Rattle.ppddl_model.specs.declared.tree.InitBranch.{InitBranch}
use Rattle.ppddl_model.specs.Objects.{ground_atom}
use Rattle.ppddl_model.specs.Denominator.{share}
use Rattle.ground_model.specs.declared.action.Choice.{Choice}
use Rattle.ground_model.specs.declared.start.Start.{Start}
use Rattle.ground_model.specs.declared.limits.TheConstants.{MOST_STARTS}
use Rattle.ground_model.specs.Packed.{packed, words_for}
use Rattle.ground_model.specs.Choices.{is_member}
use Rattle.ground_meaning.specs.choices.Numbering.{Numbering, number_of}
use Rattle.ground_meaning.specs.choices.Joint.{literal, numbers, with_factor}
use Rattle.ground_meaning.specs.declared.refusals.limits.LimitCode.TheVariants as limit
use Rattle.ground_meaning.specs.declared.refusals.refusal.GroundRefusal.{GroundRefusal}
use Rattle.ground_meaning.specs.declared.refusals.refusal.GroundRefusal.TheVariants as refusal
use Rattle.ground_meaning.specs.refusals.Starts.{true_choice}

abbrev pub adding : List ℕ → Choice
adding atoms = literal atoms []

abbrev pub grown : List Choice → List ℕ → List Choice
grown done sure = with_factor done (adding sure ∷ [])

module _ (n : Numbering) where
  abbrev pub numbers_each : List Atom → List ℕ
  numbers_each atoms = flat_map (λ (a : Atom). numbers (number_of n (ground_atom [] a))) atoms

  abbrev pub chance_choice : ℕ → InitBranch → Choice
  chance_choice den x = true_choice n (share den x.chance) x.atoms

abbrev pub dens_of : List InitBranch → List ℕ
dens_of branches = map (λ (x : InitBranch). x.chance.den) branches

abbrev pub start_of : ℕ → Choice → Start
start_of count c = record { weight = c.weight; state = packed (is_member c.adds) (words_for count) }

abbrev pub IsTooMany : GroundRefusal → ℕ → Type 0
IsTooMany e k = (e ≡ refusal.Memory) ⊎ ((e ≡ refusal.Limit limit.Starts) × (MOST_STARTS < k))
