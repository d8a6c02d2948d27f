-- Terms and atoms.
-- Source: PDDL 2.1 (Fox and Long 2003) for types and `either`: an argument fits where each of its types is, or is under, one of the
-- parameter's.
--     term_kinds d scope t    the types of a term, None where it is not in sight
--     plain_term              a variable or a name
--     term d scope            a term in sight
--     arguments d scope ps    one term for each parameter, which fits it
--     applied n ps            an atom of the predicate or the function n with these parameters, from its arguments on
--     application n p         the same, where n may not be declared
--     atom_in d scope         `NAME term* )` of a declared predicate
--     atom d scope            `( NAME term* )` of one
use Rattle.std.specs.Prelude.{ℕ, List, [], ◌∷◌, ◌++◌, length, ◌==◌, if◌then◌else◌, slice_get, is_some, Option, Some, None, Result, Ok}
use Rattle.std.specs.Option.{option_map}
use Rattle.ppddl_lex.specs.Words.{is_name, is_variable}
use Rattle.ppddl_model.specs.declared.refusal.TextCode.TheVariants.{Expected, UnknownName, Arity, TypeMismatch}
use Rattle.ppddl_model.specs.declared.tree.Atom.{Atom}
use Rattle.ppddl_model.specs.declared.tree.Param.{Param}
use Rattle.ppddl_model.specs.declared.tree.PredicateDecl.{PredicateDecl}
use Rattle.ppddl_model.specs.declared.tree.Term.{Term}
use Rattle.ppddl_model.specs.declared.tree.Term.TheVariants.{Variable, Object}
use Rattle.ppddl_forms.specs.names.Declarations.{Declared, world_of, kind_named, predicate_named, kinds_fit}
use Rattle.ppddl_forms.specs.names.Sight.{kinds_in}
use Rattle.ppddl_cursor.specs.declared.place.Place.{Place}
use Rattle.ppddl_cursor.specs.Forms.{Form, Forms}
use Rattle.ppddl_cursor.specs.Reading.{Fault, fails}
use Rattle.ppddl_cursor.specs.Sequences.{of_word, in_group, one_then, giving, checking, located}
use Rattle.ppddl_forms.specs.declared.name.Name.{Name}
use Rattle.ppddl_forms.specs.Sequences.{refused, each_to}
use Rattle.ppddl_forms.specs.Words.{name}

-- the lists of variables in sight, the innermost first
abbrev pub Scope : Type 0
Scope = List (List Param)

abbrev pub term_kinds : Declared → Scope → Term → Option (List (List ℕ))
term_kinds d scope (Variable v) = kinds_in scope v
term_kinds d scope (Object o) = option_map (λ kind. kind ∷ []) (kind_named d.objects o)

unfoldable pub plain_term : Form → Result Term Fault
plain_term = of_word (λ w a. if is_variable w then Ok (Variable w) else if is_name w then Ok (Object w) else fails Expected a)

-- a term of these types, in the place of a parameter
abbrev pub fitted : Declared → Term × Place → List (List ℕ) → Option Param → Result Term Fault
fitted d t kinds None = fails Arity t.1
fitted d t kinds (Some p) = if kinds_fit (world_of d) kinds p then Ok t.0 else fails TypeMismatch t.1

abbrev pub all_given : List Param → List Term → Place → Result (List Term) Fault
all_given params seen b = if length seen == length params then Ok seen else fails Arity b

abbrev pub atom_of : Name → List Term → Atom
atom_of n args = record { predicate = n.text; args = args }

module _ (d : Declared) (scope : Scope) where
  abbrev pub seen_term : Term × Place → Result Term Fault
  seen_term t = if is_some (term_kinds d scope t.0) then Ok t.0 else fails UnknownName t.1

  unfoldable pub term : Form → Result Term Fault
  term = checking seen_term (located plain_term)

  abbrev pub argued : Term × Place → Option (List (List ℕ)) → Option Param → Result Term Fault
  argued t None p = fails UnknownName t.1
  argued t (Some kinds) p = fitted d t kinds p

  -- the argument of the parameter p, None behind the last one
  unfoldable pub argument : Option Param → Form → Result Term Fault
  argument p = checking (λ t. argued t (term_kinds d scope t.0) p) (located plain_term)

  -- behind the arguments seen
  unfoldable pub next_argument : List Param → List Term → Form → Result (List Term) Fault
  next_argument params seen = checking (λ t. Ok (seen ++ t ∷ [])) (argument (slice_get params (length seen)))

  unfoldable pub arguments : List Param → Forms → Place → Result (List Term) Fault
  arguments params = each_to (next_argument params) (all_given params) []

  unfoldable pub applied : Name → List Param → Forms → Place → Result Atom Fault
  applied n params = giving (atom_of n) (arguments params)

  unfoldable pub application : Name → Option PredicateDecl → Forms → Place → Result Atom Fault
  application n None = refused UnknownName n.place
  application n (Some p) = applied n p.params

  unfoldable pub atom_in : Forms → Place → Result Atom Fault
  atom_in = one_then name (λ n. application n (predicate_named d.predicates n.text))

  unfoldable pub atom : Form → Result Atom Fault
  atom = in_group atom_in
