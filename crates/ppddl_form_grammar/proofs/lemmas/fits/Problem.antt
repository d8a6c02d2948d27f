-- Items of `:init`, values of functions and the reward, where more is declared.
use Rattle.std.proofs.Common.{◌≡◌, ℕ, Bool, true, ◌&&◌, List, [], nat_le, nat_lt, Result, Ok, Err, ap, subst, ltb-false, le-leb}
use Rattle.std.specs.List.{list_all}
use Rattle.std.proofs.lemmas.Bool.{and_parts, and_from}
use Rattle.plain_list.proofs.Results.{ok_is, test_fails}
use Rattle.exact_fraction.specs.declared.refusal.NumberRefusal.{NumberRefusal}
use Rattle.exact_fraction.specs.Numbers.{amount_of}
use Rattle.ppddl_model.specs.declared.limits.TheConstants.{MOST_COST, MOST_PENALTY}
use Rattle.ppddl_model.specs.declared.tree.Atom.{Atom}
use Rattle.ppddl_model.specs.declared.tree.Domain.{Domain}
use Rattle.ppddl_model.specs.declared.tree.InitBranch.{InitBranch}
use Rattle.ppddl_model.specs.declared.tree.InitItem.{InitItem}
use Rattle.ppddl_model.specs.declared.tree.InitItem.TheVariants as item
use Rattle.ppddl_model.specs.declared.tree.ValueItem.{ValueItem}
use Rattle.ppddl_model.specs.Objects.{World}
use Rattle.ppddl_model.specs.WellFormed.{atom_fits, item_fits, has_one_value, values_fit}
use Rattle.ppddl_cursor.specs.declared.place.Place.{Place}
use Rattle.ppddl_cursor.specs.Forms.{lone, group}
use Rattle.ppddl_cursor.specs.Reading.{Fault}
use Rattle.ppddl_cursor.specs.Sequences.{of_word}
use Rattle.ppddl_forms.specs.Words.{amount_by, amount}
use Rattle.ppddl_form_grammar.specs.fits.Laws.{RewardFits}
use Rattle.ppddl_form_grammar.proofs.lemmas.fits.Tests.{all-weaker}
use Rattle.ppddl_form_grammar.proofs.lemmas.fits.Atoms.{IsLater, atom_fits-grows}
use Rattle.ppddl_form_grammar.proofs.lemmas.fits.Effects.{amount_within}

module _ (w v : World) (domain other : Domain) (later : IsLater w v domain other) where
  abbrev are_added : World → Domain → InitBranch → Bool
  are_added u d branch = list_all (atom_fits u [] d.predicates) branch.atoms

  fact-grows : (a : Atom) → atom_fits w [] domain.predicates a ≡ true → atom_fits v [] other.predicates a ≡ true
  fact-grows = atom_fits-grows w v domain other later domain.predicates other.predicates later.predicates []

  pub item-grows : (i : InitItem) → item_fits w domain i ≡ true → item_fits v other i ≡ true
  item-grows (item.Fact a) fit = fact-grows a fit
  item-grows (item.Chance branches) fit =
      all-weaker (are_added w domain) (are_added v other)
      (λ branch. all-weaker (atom_fits w [] domain.predicates) (atom_fits v [] other.predicates) fact-grows branch.atoms) branches fit
  item-grows (item.Value x) fit = fit

  abbrev value_fits : World → Domain → List ValueItem → ValueItem → Bool
  value_fits u d values x = atom_fits u [] d.functions x.function && nat_le x.value MOST_COST && has_one_value u d values x

  pub values-grow : (values : List ValueItem) → values_fit w domain values ≡ true → values_fit v other values ≡ true
  values-grow values = all-weaker (value_fits w domain values) (value_fits v other values)
      (λ x fit.
      let first = and_parts (atom_fits w [] domain.functions x.function && nat_le x.value MOST_COST) (has_one_value w domain values x) fit in
      let second = and_parts (atom_fits w [] domain.functions x.function) (nat_le x.value MOST_COST) first.0 in
      let function = atom_fits-grows w v domain other later domain.functions other.functions later.functions [] x.function second.0 in
      and_from (atom_fits v [] other.functions x.function && nat_le x.value MOST_COST) (has_one_value v other values x)
      (and_from (atom_fits v [] other.functions x.function) (nat_le x.value MOST_COST) function second.1) first.1) values

reward_by : (a : Place) (r : Result ℕ NumberRefusal) (n : ℕ) → amount_by 1 a r ≡ Ok n → (r ≡ Ok n) × (nat_le 1 n ≡ true)
reward_by a (Ok m) n is =
    let t = test_fails (nat_lt m 1) _ (Ok m) n is in
    let e : m ≡ n = ok_is {E = Fault} m n t.1 in
    (ap (λ k. Ok k) e, subst (λ k. nat_le 1 k ≡ true) e (le-leb 1 m (ltb-false m 1 t.0)))
reward_by a (Err e) n is = absurd cc

pub reward_fit : RewardFits
unfolding amount of_word
reward_fit (lone w a) n is =
    let r = reward_by a (amount_of w MOST_PENALTY) n is in and_from (nat_le 1 n) (nat_le n MOST_PENALTY) r.1 (amount_within w MOST_PENALTY n r.0)
reward_fit (group a fs b) n is = absurd cc
