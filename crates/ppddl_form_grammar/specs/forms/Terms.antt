-- Which forms spell which terms, atoms and functions.
-- Source: PDDL 2.1 (Fox and Long 2003) for types: an argument fits where each of its types is, or is under, one of the parameter's.
--     IsTerm d s f t kinds        f is the variable or object t of these types
--     Arguments d s fs ps ts      one term for each parameter, which fits it
--     Application d s ds fs x     `NAME TERM*` of one of the predicates or functions ds
--     IsAtom d s f x              `( NAME TERM* )` of a declared predicate
--     IsFunction d s f x          `( NAME TERM* )` of a declared function, or the NAME of one without parameters
use Rattle.std.specs.Prelude.{◌≡◌, ℕ, List, [], ◌∷◌, true, Some}
use Rattle.ppddl_lex.specs.Words.{is_name, is_variable}
use Rattle.ppddl_model.specs.declared.tree.Atom.{Atom}
use Rattle.ppddl_model.specs.declared.tree.Param.{Param}
use Rattle.ppddl_model.specs.declared.tree.PredicateDecl.{PredicateDecl}
use Rattle.ppddl_model.specs.declared.tree.Term.{Term}
use Rattle.ppddl_model.specs.declared.tree.Term.TheVariants.{Variable, Object}
use Rattle.ppddl_forms.specs.names.Declarations.{Declared, world_of, kind_named, predicate_named, kinds_fit}
use Rattle.ppddl_forms.specs.names.Sight.{kinds_in}
use Rattle.ppddl_cursor.specs.declared.place.Place.{Place}
use Rattle.ppddl_cursor.specs.Forms.{Form, Forms, lone, group, none, more}
use Rattle.ppddl_forms.specs.Terms.{Scope}

abbrev pub applied_to : List ℕ → List Term → Atom
applied_to w ts = record { predicate = w; args = ts }

module _ (d : Declared) (s : Scope) where
  pub data IsTerm : Form → Term → List (List ℕ) → Type 0 where
    variable : {w : List ℕ} {a : Place} {kinds : List (List ℕ)} → is_variable w ≡ true → kinds_in s w ≡ Some kinds → IsTerm (lone w a) (Variable w) kinds
    object : {w : List ℕ} {a : Place} {kind : List ℕ} → is_name w ≡ true → kind_named d.objects w ≡ Some kind → IsTerm (lone w a) (Object w) (kind ∷ [])

  pub data Arguments : Forms → List Param → List Term → Type 0 where
    no_argument : Arguments none [] []
    argument : {f : Form} {fs : Forms} {p : Param} {ps : List Param} {t : Term} {ts : List Term} {kinds : List (List ℕ)}
        → IsTerm f t kinds → kinds_fit (world_of d) kinds p ≡ true → Arguments fs ps ts → Arguments (more f fs) (p ∷ ps) (t ∷ ts)

  pub data Application (ds : List PredicateDecl) : Forms → Atom → Type 0 where
    application : {w : List ℕ} {a : Place} {fs : Forms} {p : PredicateDecl} {ts : List Term}
        → is_name w ≡ true → predicate_named ds w ≡ Some p → Arguments fs p.params ts → Application ds (more (lone w a) fs) (applied_to w ts)

  pub data IsAtom : Form → Atom → Type 0 where
    atom : {a b : Place} {fs : Forms} {x : Atom} → Application d.predicates fs x → IsAtom (group a fs b) x

  pub data IsFunction : Form → Atom → Type 0 where
    applied : {a b : Place} {fs : Forms} {x : Atom} → Application d.functions fs x → IsFunction (group a fs b) x
    bare : {w : List ℕ} {a : Place} {x : Atom} → Application d.functions (more (lone w a) none) x → IsFunction (lone w a) x
