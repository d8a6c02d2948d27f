-- What a section of a problem says of its goal, its metric and its domain; and requirements.
-- Sources: PPDDL 1.0 for `:goal-reward` and `:metric`, PDDL 1.2 (McDermott et al. 1998) for the others.
--     flags               FLAG*
--     domain_name known   the name of the domain
--     goal d              CONDITION, with no variable in sight
--     goal_reward         an amount of at least 1 micro-unit
--     sense               `maximize`
--     metric              `maximize REWARD`
use Rattle.std.specs.Prelude.{ℕ, List, [], if◌then◌else◌, Result, Ok}
use Rattle.ppddl_lex.specs.declared.keywords.TheConstants.{MAXIMIZE}
use Rattle.ppddl_model.specs.declared.limits.TheConstants.{MOST_PENALTY}
use Rattle.ppddl_model.specs.declared.refusal.TextCode.TheVariants.{Expected, Unsupported, DomainName}
use Rattle.ppddl_model.specs.declared.tree.Condition.{Condition}
use Rattle.ppddl_forms.specs.names.Declarations.{Declared}
use Rattle.ppddl_cursor.specs.declared.place.Place.{Place}
use Rattle.ppddl_cursor.specs.Ahead.{same}
use Rattle.ppddl_cursor.specs.Forms.{Form, Forms}
use Rattle.ppddl_cursor.specs.Reading.{Fault, fails}
use Rattle.ppddl_cursor.specs.Sequences.{of_word, checking, one_then, last, each}
use Rattle.ppddl_forms.specs.declared.name.Name.{Name}
use Rattle.ppddl_forms.specs.Conditions.{condition}
use Rattle.ppddl_forms.specs.Words.{name, flag, amount, reward}
use Rattle.ppddl_reader.specs.declared.sections.symbols.TheConstants.{MINIMIZE}
use Rattle.ppddl_reader.specs.sections.Sequences.{whole_or}

unfoldable pub flags : Forms → Place → Result (Unit {0}) Fault
flags = each (λ u. flag) tt

abbrev pub known_domain : List ℕ → Name → Result (Unit {0}) Fault
known_domain known n = if same n.text known then Ok tt else fails DomainName n.place

unfoldable pub domain_name : List ℕ → Forms → Place → Result (Unit {0}) Fault
domain_name known = one_then (checking (known_domain known) name) last

unfoldable pub goal : Declared → Forms → Place → Result Condition Fault
goal d = one_then (condition d []) last

unfoldable pub goal_reward : Forms → Place → Result ℕ Fault
goal_reward = one_then (amount 1 MOST_PENALTY) last

unfoldable pub sense : Form → Result (Unit {0}) Fault
sense = of_word (λ w a. if same w MAXIMIZE.now then Ok tt else if same w MINIMIZE.now then fails Unsupported a else fails Expected a)

unfoldable pub metric_value : Form → Result (Unit {0}) Fault
metric_value = whole_or Unsupported reward

unfoldable pub metric : Forms → Place → Result (Unit {0}) Fault
metric = one_then sense (λ u. one_then metric_value last)
