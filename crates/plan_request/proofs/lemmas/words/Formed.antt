-- Words in form and out of form, and what clap finds in them.
use Rattle.std.proofs.Common.{◌≡◌, refl, sym, ap, ◌∙◌, ℕ, ◌+◌, ◌<◌, ◌≤◌, true, false, List, [], ◌∷◌, length, Option, Some, None, true≢false, arith, zero-add}
use Rattle.std.specs.Prelude.{find, nat_eq, option_and_then, slice_get}
use Rattle.std.specs.Str.{bytes_eq}
use Rattle.std.proofs.lemmas.Bool.{eqb-true, eq-eqb}
use Rattle.clap.specs.Simple.{subcommand_of}
use Rattle.clap.specs.Takes.{takes}
use Rattle.plan_request.specs.words.Words.{Text, Item, is_among, positionals_of, read, value_of}
use Rattle.plan_request.specs.words.Table.{Form, built_sub, forms, name_at, plan_app, rows_from}
use Rattle.plan_request.specs.words.Scans.{behind_name, formed, if_counted, is_formed, makes}
use Rattle.plan_request.specs.words.Parses.{first_in}
use Rattle.plan_request.proofs.lemmas.words.Finds.{find_option, find_positional, read_among}
use Rattle.plan_request.proofs.lemmas.words.Taken.{known_of, words_taken}

pub record Yes (w : Text) (ws : List Text) (f : Form) : Type 0 where
  pub items : List Item
  pub reads : read f.options [] None ws ≡ Some items
  pub count : length (positionals_of items) ≡ length f.words
  pub is : formed (w ∷ ws) ≡ Some (f, items)

made : (total : ℕ) (o : Option (List Item)) → makes total 0 o ≡ true → (items : List Item) × (o ≡ Some items) × (length (positionals_of items) ≡ total)
made total None e = absurd (true≢false (sym e))
made total (Some is) e = (is, refl, let s : 0 + length (positionals_of is) ≡ total = eqb-true _ total e in omega arith)

unmade : (f : Form) (o : Option (List Item)) → makes (length f.words) 0 o ≡ false → option_and_then (if_counted f) o ≡ None
unmade f None e = refl
unmade f (Some is) e =
    let no : nat_eq (length (positionals_of is)) (length f.words) ≡ false = ap (λ n. nat_eq n (length f.words)) (sym (zero-add (length (positionals_of is)))) ∙ e in
    rw no refl

module _ (w : Text) (ws : List Text) (f : Form) (found : find (λ f. bytes_eq f.name w) forms ≡ Some f) where
  pub formed_yes : is_formed f ws ≡ true → Yes w ws f
  formed_yes e =
      let m = made (length f.words) (read f.options [] None ws) e in
      let counted : if_counted f m.0 ≡ Some (f, m.0) = let same : nat_eq (length (positionals_of m.0)) (length f.words) ≡ true = eq-eqb _ _ m.2 in rw same refl in
      record { items = m.0; reads = m.1; count = m.2; is = ap (behind_name ws) found ∙ ap (option_and_then (if_counted f)) m.1 ∙ counted }

  pub formed_no : is_formed f ws ≡ false → formed (w ∷ ws) ≡ None
  formed_no e = ap (behind_name ws) found ∙ unmade f (read f.options [] None ws) e

  -- what clap finds under the names of the command
  pub option_is : (y : Yes w ws f) (n : Text) → is_among n f.options ≡ true → first_in n (Some (f.name, rows_from f.words 0 y.items)) ≡ value_of n y.items
  option_is y n among =
      let k = known_of w f found in
      let fits : 0 + length (positionals_of y.items) ≤ length f.words = let c = y.count in omega arith in
      find_option (built_sub f) f.options f.words k.0.table n among y.items 0 (read_among f.options ws [] y.items y.reads) fits

  pub word_is : (y : Yes w ws f) (i : ℕ) → i < length f.words → first_in (name_at f.words i) (Some (f.name, rows_from f.words 0 y.items)) ≡ slice_get (positionals_of y.items) i
  word_is y i lt =
      let k = known_of w f found in
      let fits : 0 + length (positionals_of y.items) ≤ length f.words = let c = y.count in omega arith in
      find_positional (built_sub f) f.options f.words k.0.table y.items i 0 i (omega arith) (read_among f.options ws [] y.items y.reads) fits (let c = y.count in omega arith)

  pub taken : (y : Yes w ws f) → takes (plan_app forms) (w ∷ ws) ≡ true
  taken y = (words_taken w ws f y.items found y.reads y.count).0

  pub found_is : (y : Yes w ws f) → subcommand_of (plan_app forms) (w ∷ ws) ≡ Some (f.name, rows_from f.words 0 y.items)
  found_is y = (words_taken w ws f y.items found y.reads y.count).1
