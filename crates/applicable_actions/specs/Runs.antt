-- Entries by the atoms that they require.
--     Runs                   the entries that no atom leads to, and a run of them for each atom
--     run_at runs a          the run of atom a; empty where a has none
--     put atom e runs        with e behind the others of the atom, or of those that no atom leads to
--     no_entries n           n runs with nothing in them
use Rattle.std.specs.Prelude.{ℕ, cond, nat_lt, Option, Some, None, List, [], ◌∷◌, ◌++◌, length, map, slice_index_or, slice_set, Vec}
use Rattle.std.specs.List.{range_with_len}
use Rattle.applicable_actions.specs.declared.entry.Entry.{Entry}

pub record Runs : Type 0 where
  pub always : List Entry
  pub by_atom : List (List Entry)

abbrev pub items_of : {X A : Type 0} → Vec X A → List X
items_of v = v.items

abbrev pub run_at : Runs → ℕ → List Entry
run_at runs a = slice_index_or runs.by_atom a []

abbrev pub with_always : Entry → Runs → Runs
with_always e runs = record { always = runs.always ++ e ∷ []; by_atom = runs.by_atom }

abbrev pub with_entry : ℕ → Entry → Runs → Runs
with_entry a e runs = record { always = runs.always; by_atom = slice_set runs.by_atom a (run_at runs a ++ e ∷ []) }

abbrev pub put : Option ℕ → Entry → Runs → Runs
put None e runs = with_always e runs
put (Some a) e runs = cond (nat_lt a (length runs.by_atom)) (with_entry a e runs) (with_always e runs)

abbrev pub no_entries : ℕ → Runs
no_entries n = record { always = []; by_atom = map (λ _. []) (range_with_len 0 n) }
