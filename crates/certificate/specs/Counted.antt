-- Counted lists of lines: tables and rows.
--     Counted X Y               the form of a list's lines and of the line behind it, and the order
--     items_at list n before k lines    the lines from k on in the places of n lines of the list
--     stop_at list k lines      line k in the place behind the list
--
-- Lines count from 1. The line feeds cut the bytes into lines and what stands behind the last line
-- feed. A place wants a line of its form with its line feed; where the bytes end before that, the
-- place has an empty line without line feed.
use Rattle.std.specs.Prelude.{ℕ, zero, suc, ◌+◌, Bool, true, cond, ◌&&◌}
use Rattle.std.specs.Prelude.{List, [], ◌∷◌, Option, Some, None, Result, Ok, Err}
use Rattle.std.specs.declared.cmp.Ordering.{Ordering}
use Rattle.std.specs.Ordering.{is_lt}
use Rattle.plain_list.specs.Results.{◌>>=◌}
use Rattle.certificate.specs.declared.refusal.CertRefusal.{CertRefusal}
use Rattle.certificate.specs.declared.refusal.CertRefusal.TheVariants.{Syntax, Order, Count}

-- what line k says, or that it is wrong
abbrev pub or_syntax : {A : Type 0} → ℕ → Option A → Result A CertRefusal
or_syntax k None = Err (Syntax k)
or_syntax k (Some x) = Ok x

-- line k with its line feed, and what stands behind it
abbrev pub line_at : ℕ → List (List ℕ) → Result (List ℕ × List (List ℕ)) CertRefusal
line_at k [] = Err (Syntax k)
line_at k (line ∷ []) = Err (Syntax k)
line_at k (line ∷ next ∷ more) = Ok (line, next ∷ more)

-- what line k says in a place of this form
unfoldable pub said_at : {A : Type 0} → (List ℕ → Option A) → ℕ → List (List ℕ)
    → Result (A × List (List ℕ)) CertRefusal
said_at form k lines = do
  line ← line_at k lines
  x ← or_syntax k (form line.0)
  Ok (x, line.1)

pub record Counted (X Y : Type 0) : Type 0 where
  -- what a line of the list says
  pub item : List ℕ → Option X
  -- what the line behind the list says
  pub stop : List ℕ → Option Y
  -- an item that is in order by itself, and the order of items
  pub own : X → Bool
  pub order : X → X → Ordering

-- the item may stand behind the one before, if there is one
abbrev pub follows : {X : Type 0} → (X → X → Ordering) → Option X → X → Bool
follows order None x = true
follows order (Some before) x = is_lt (order before x)

-- line k in the place of an item, if it does not stop the list
abbrev pub item_or : {X Y : Type 0} → Counted X Y → Option X → ℕ → List ℕ → Option Y
    → Result X CertRefusal
item_or list before k line (Some y) = Err (Count k)
item_or list before k line None =
    or_syntax k (list.item line) >>= λ x.
    cond (list.own x && follows list.order before x) (Ok x) (Err (Order k))

-- line k in the place of an item
unfoldable pub item_at : {X Y : Type 0} → Counted X Y → Option X → ℕ → List ℕ → Result X CertRefusal
item_at list before k line = item_or list before k line (list.stop line)

-- the lines from k on in the places of n items
unfoldable pub items_at : {X Y : Type 0} → Counted X Y → ℕ → Option X → ℕ → List (List ℕ)
    → Result (List X × List (List ℕ)) CertRefusal
items_at list zero before k lines = Ok ([], lines)
items_at list (suc n) before k lines = do
  line ← line_at k lines
  x ← item_at list before k line.0
  others ← items_at list n (Some x) (k + 1) line.1
  Ok (x ∷ others.0, others.1)

-- line k, which is what stops the list, or an item too many, or wrong
abbrev pub stop_or : {X Y : Type 0} → Counted X Y → ℕ → List ℕ → Option Y → Result Y CertRefusal
stop_or list k line (Some y) = Ok y
stop_or list k line None = or_syntax k (list.item line) >>= λ x. Err (Count k)

-- line k in the place behind the items, and what stands behind it
unfoldable pub stop_at : {X Y : Type 0} → Counted X Y → ℕ → List (List ℕ)
    → Result (Y × List (List ℕ)) CertRefusal
stop_at list k lines = do
  line ← line_at k lines
  y ← stop_or list k line.0 (list.stop line.0)
  Ok (y, line.1)
