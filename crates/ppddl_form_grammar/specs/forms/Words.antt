-- Which forms spell which words and numbers, and groups, without an order of reading and without refusals.
--     forms fs                the forms of a list
--     headed a c w fs b       a group that begins with the word w
--     Each Spells fs xs       each form spells the item in its place
--     IsName f w              f is the name w; `IsVariable` the same of a variable
--     IsChance f p            f spells a probability
--     IsReward f              `( reward )` or `reward`
use Rattle.std.specs.Prelude.{◌≡◌, ℕ, List, [], ◌∷◌, true, Ok}
use Rattle.exact_fraction.specs.declared.fraction.Fraction.{Fraction}
use Rattle.exact_fraction.specs.Numbers.{probability_of}
use Rattle.ppddl_lex.specs.declared.keywords.TheConstants.{REWARD}
use Rattle.ppddl_lex.specs.Words.{is_name, is_variable}
use Rattle.ppddl_cursor.specs.declared.place.Place.{Place}
use Rattle.ppddl_cursor.specs.Forms.{Form, Forms, lone, group, none, more}

abbrev pub forms : List Form → Forms
forms [] = none
forms (f ∷ fs) = more f (forms fs)

abbrev pub headed : Place → Place → List ℕ → Forms → Place → Form
headed a c w fs b = group a (more (lone w c) fs) b

pub data Each {A : Type 0} (Spells : Form → A → Type 0) : Forms → List A → Type 0 where
  no_form : Each Spells none []
  one_more : {f : Form} {fs : Forms} {x : A} {xs : List A} → Spells f x → Each Spells fs xs → Each Spells (more f fs) (x ∷ xs)

pub data IsName : Form → List ℕ → Type 0 where
  name : {w : List ℕ} {a : Place} → is_name w ≡ true → IsName (lone w a) w

pub data IsVariable : Form → List ℕ → Type 0 where
  variable : {w : List ℕ} {a : Place} → is_variable w ≡ true → IsVariable (lone w a) w

pub data IsChance : Form → Fraction → Type 0 where
  chance : {w : List ℕ} {a : Place} {p : Fraction} → probability_of w ≡ Ok p → IsChance (lone w a) p

pub data IsReward : Form → Type 0 where
  bare : {a : Place} → IsReward (lone REWARD.now a)
  grouped : {a c b : Place} → IsReward (headed a c REWARD.now none b)
