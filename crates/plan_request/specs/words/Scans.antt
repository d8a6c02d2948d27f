-- The test of forms, word by word.
--     is_formed f ws          the words behind the command's name are in form
--     leaves os total s ws    the words that are left are in form behind those that were scanned
--     Takes f w s t ok        a scan that stands at s stands at t behind the word w, or w is out of form
--     formed ws               the command and the items of words in form
use Rattle.std.specs.Prelude.{◌≡◌, ℕ, ◌+◌, ◌&&◌, Bool, false, nat_eq, List, [], ◌∷◌, length, find, Option, Some, None, option_map, option_and_then, cond}
use Rattle.std.specs.Option.{option_map_or}
use Rattle.std.specs.Str.{bytes_eq}
use Rattle.plan_request.specs.words.Words.{Text, Item, read, positionals_of}
use Rattle.plan_request.specs.words.Table.{Form, forms}
use Rattle.plan_request.specs.words.Shown.{texts_of}
use Rattle.plan_request.specs.declared.words.scanning.Scan.{Scan}

-- there are items, with so many positional words behind `plain` earlier ones
abbrev pub makes : ℕ → ℕ → Option (List Item) → Bool
makes total plain o = option_map_or (λ is. nat_eq (plain + length (positionals_of is)) total) o false

abbrev pub is_formed : Form → List Text → Bool
is_formed f ws = makes (length f.words) 0 (read f.options [] None ws)

abbrev pub leaves : List Text → ℕ → Scan → List Text → Bool
leaves os total s ws = makes total s.plain (read os (texts_of s.seen.items) (option_map (λ n. n.now) s.waiting) ws)

abbrev pub Takes : Form → Text → Scan → Scan → Bool → Type 0
Takes f w s t ok = (rest : List Text)
    → leaves f.options (length f.words) s (w ∷ rest) ≡ (ok && leaves f.options (length f.words) t rest)

-- what words in form give: the command and the items
abbrev pub if_counted : Form → List Item → Option (Form × List Item)
if_counted f is = cond (nat_eq (length (positionals_of is)) (length f.words)) (Some (f, is)) None

abbrev pub behind_name : List Text → Option Form → Option (Form × List Item)
behind_name ws None = None
behind_name ws (Some f) = option_and_then (if_counted f) (read f.options [] None ws)

abbrev pub formed : List Text → Option (Form × List Item)
formed [] = None
formed (w ∷ ws) = behind_name ws (find (λ f. bytes_eq f.name w) forms)
