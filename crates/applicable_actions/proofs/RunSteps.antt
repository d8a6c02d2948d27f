-- Runs with one more entry.
use Rattle.std.proofs.Common.{◌≡◌, ℕ, suc, zero, ◌<◌, cond, List, [], ◌∷◌, ◌++◌, length, map, Some, refl, sym, ap, ◌∙◌, arith, get_or, Vec}
use Rattle.std.specs.Prelude.{slice_set}
use Rattle.std.proofs.lemmas.Bool.{lt-ltb}
use Rattle.std.proofs.lemmas.List.{map-set}
use Rattle.applicable_actions.specs.declared.entry.Entry.{Entry}
use Rattle.applicable_actions.specs.Runs.{Runs, items_of, run_at, put, with_entry}

pub length-map_items : {X A : Type 0} (vs : List (Vec X A)) → length vs ≡ length (map items_of vs)
length-map_items [] = refl
length-map_items (v ∷ vs) = ap suc (length-map_items vs)

pub row_of : {X A : Type 0} (vs : List (Vec X A)) (k : ℕ) (v : Vec X A) → k < length vs → v ≡ get_or vs k v
    → get_or (map items_of vs) k [] ≡ v.items
row_of [] k v within is = absurd (omega arith)
row_of (u ∷ vs) zero v within is = ap items_of (sym is)
row_of (u ∷ vs) (suc k) v within is = row_of vs k v (omega arith) is

pub entry_put : {A : Type 0} (always : List Entry) (vs : List (Vec Entry A)) (k : ℕ) (e : Entry) (v new : Vec Entry A)
    → k < length vs → v ≡ get_or vs k v → new.items ≡ v.items ++ e ∷ []
    → let runs : Runs = record { always = always; by_atom = map items_of vs } in
    let changed : Runs = record { always = always; by_atom = map items_of (slice_set vs k new) } in
    changed ≡ put (Some k) e runs
entry_put always vs k e v new within is more =
    let runs : Runs = record { always = always; by_atom = map items_of vs } in
    let rows : map items_of (slice_set vs k new) ≡ slice_set (map items_of vs) k (run_at runs k ++ e ∷ [])
    = map-set items_of vs k new
    ∙ ap (slice_set (map items_of vs) k) (more ∙ ap (λ row. row ++ e ∷ []) (sym (row_of vs k v within is))) in
    (λ i. let there : Runs = record { always = always; by_atom = rows i } in there)
    ∙ sym (ap (λ b. cond b (with_entry k e runs) (record { always = always ++ e ∷ []; by_atom = map items_of vs }))
    (lt-ltb k (length (map items_of vs)) (omega (arith, within, length-map_items vs))))
