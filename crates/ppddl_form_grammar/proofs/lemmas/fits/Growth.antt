-- What was declared so far, in what is declared later.
--     later_from            where what was declared is declared, all that fits stays so
--     now, kept             what was declared is declared now, and wherever what was declared later is
--     kept-..               each way to declare more
use Rattle.std.proofs.Common.{◌≡◌, Bool, true, List, [], ◌∷◌, ◌++◌, Option, Some, None, refl, sym, ap, subst, ◌∙◌, append_assoc, append-nil, length, inl, inr, codes}
use Rattle.std.specs.List.{find, list_any}
use Rattle.std.specs.Option.{option_map}
use Rattle.std.proofs.lemmas.Bool.{or_cases, or_left, or_right}
use Rattle.ppddl_model.specs.declared.tree.Domain.{Domain}
use Rattle.ppddl_model.specs.declared.tree.ObjectDecl.{ObjectDecl}
use Rattle.ppddl_model.specs.declared.tree.Param.{Param}
use Rattle.ppddl_model.specs.declared.tree.PredicateDecl.{PredicateDecl}
use Rattle.ppddl_model.specs.declared.tree.Term.{Term}
use Rattle.ppddl_model.specs.declared.tree.Term.TheVariants.{Variable, Object}
use Rattle.ppddl_model.specs.declared.tree.TypeDecl.{TypeDecl}
use Rattle.ppddl_model.specs.Objects.{World, once, upward, is_under}
use Rattle.ppddl_model.specs.State.{Name, same_name}
use Rattle.ppddl_model.specs.WellFormed.{is_type, kinds_of}
use Rattle.ppddl_forms.proofs.lemmas.names.Once.{kinds-once}
use Rattle.ppddl_forms.specs.names.Declarations.{Declared, with_types, with_objects, world_of, predicate_named}
use Rattle.ppddl_form_grammar.specs.fits.Growth.{Begins, AreKept, domain_of, AreDeclaredIn}
use Rattle.ppddl_form_grammar.proofs.lemmas.fits.Tests.{find-left}
use Rattle.ppddl_form_grammar.proofs.lemmas.fits.Under.{type-grows, above-grows}
use Rattle.ppddl_form_grammar.proofs.lemmas.fits.Atoms.{IsLater}

-- ---- lists with more behind them

pub begins-same : {A : Type 0} (xs : List A) → Begins xs xs
begins-same xs = ([], sym (append-nil xs))

pub begins-more : {A : Type 0} (xs ys : List A) → Begins xs (xs ++ ys)
begins-more xs ys = (ys, refl)

pub begins-on : {A : Type 0} (xs ys zs : List A) → Begins xs ys → Begins ys zs → Begins xs zs
begins-on xs ys zs first second = (first.0 ++ second.0, second.1 ∙ ap (λ l. l ++ second.0) first.1 ∙ append_assoc xs first.0 second.0)

named-on : (ds es : List PredicateDecl) → Begins ds es → (name : Name) (p : PredicateDecl) → predicate_named ds name ≡ Some p → predicate_named es name ≡ Some p
named-on ds es begins name p found = ap (λ l. predicate_named l name) begins.1 ∙ find-left (λ (x : PredicateDecl). same_name x.name name) ds begins.0 p found

kind_from : (o : Option ObjectDecl) (kinds : List Name) → option_map (λ kind. kind ∷ []) (option_map (λ (x : ObjectDecl). x.kind) o) ≡ Some kinds
    → (x : ObjectDecl) × (o ≡ Some x) × (x.kind ∷ [] ≡ kinds)
kind_from None kinds is = absurd cc
kind_from (Some x) kinds is = (x, refl, cc)

-- the types of an object, of which more declarations stand behind the first
object-on : (d : Declared) (more : List ObjectDecl) (w : World) → w.objects ≡ once (d.objects ++ more)
    → (scope : List Param) (o : Name) (kinds : List Name) → kinds_of (world_of d) scope (Object o) ≡ Some kinds → kinds_of w scope (Object o) ≡ Some kinds
object-on d more w all scope o kinds is =
    let named : ObjectDecl → Bool = λ (x : ObjectDecl). same_name x.name o in
    let was = kind_from (find named d.objects) kinds (sym (kinds-once o d.objects) ∙ is) in
    let found : find named (d.objects ++ more) ≡ Some was.0 = find-left named d.objects more was.0 was.1 in
    ap (λ l. option_map (λ (x : ObjectDecl). x.kind ∷ []) (find named l)) all
    ∙ kinds-once o (d.objects ++ more)
    ∙ ap (λ r. option_map (λ kind. kind ∷ []) (option_map (λ (x : ObjectDecl). x.kind) r)) found
    ∙ ap (λ (ks : List Name). Some ks) was.2

kinds-on : (d : Declared) (more : List ObjectDecl) (w : World) → w.objects ≡ once (d.objects ++ more)
    → (scope : List Param) (t : Term) (kinds : List Name) → kinds_of (world_of d) scope t ≡ Some kinds → kinds_of w scope t ≡ Some kinds
kinds-on d more w all scope (Variable v) kinds is = is
kinds-on d more w all scope (Object o) kinds is = object-on d more w all scope o kinds is

abbrev Above : Name → Name → List TypeDecl → Type 0
Above kind above types = list_any (same_name above) (upward (length types) types kind) ≡ true

under-on : (types more : List TypeDecl) (w v : World) → w.types ≡ types → v.types ≡ types ++ more → (kind above : Name) → is_under w kind above ≡ true → is_under v kind above ≡ true
under-on types more w v was is kind above under =
    let top : Bool = same_name above (codes "object") in
    let higher : List TypeDecl → Bool = λ l. list_any (same_name above) (upward (length l) l kind) in
    elim (or_cases top (higher w.types) under) [
      | inl here ↦ or_left top (higher v.types) here
      | inr there ↦ or_right top (higher v.types) (subst (Above kind above) (sym is) (above-grows types more (same_name above) kind (subst (Above kind above) was there)))
    ]

pub later_from : (d : Declared) (w : World) (domain : Domain) → AreDeclaredIn d w domain → IsLater (world_of d) w (domain_of d) domain
later_from d w domain declared = record {
  types = λ kind is. subst (λ l. is_type l kind ≡ true) (sym declared.types.1) (type-grows d.types declared.types.0 kind is);
  under = under-on d.types declared.types.0 (world_of d) w refl declared.types.1;
  kinds = kinds-on d declared.objects.0 w declared.objects.1;
  predicates = named-on d.predicates domain.predicates declared.predicates;
  functions = named-on d.functions domain.functions declared.functions;
}

-- ---- declared now, and later

pub now : (d : Declared) → AreDeclaredIn d (world_of d) (domain_of d)
now d = record {
  types = begins-same d.types;
  objects = ([], ap once (sym (append-nil d.objects)));
  predicates = begins-same d.predicates;
  functions = begins-same d.functions;
}

pub kept : (d e : Declared) → AreKept d e → (w : World) (domain : Domain) → AreDeclaredIn e w domain → AreDeclaredIn d w domain
kept d e more w domain declared = record {
  types = begins-on d.types e.types w.types more.types declared.types;
  objects = (
    more.objects.0 ++ declared.objects.0,
    declared.objects.1 ∙ ap (λ l. once (l ++ declared.objects.0)) more.objects.1 ∙ ap once (append_assoc d.objects more.objects.0 declared.objects.0),
  );
  predicates = begins-on d.predicates e.predicates domain.predicates more.predicates declared.predicates;
  functions = begins-on d.functions e.functions domain.functions more.functions declared.functions;
}

-- ---- ways to declare more

pub kept-types : (d : Declared) (types : List TypeDecl) → AreKept d (with_types d types)
kept-types d types = record {
  types = begins-more d.types types;
  objects = begins-same d.objects;
  predicates = begins-same d.predicates;
  functions = begins-same d.functions;
}

pub kept-objects : (d : Declared) (objects : List ObjectDecl) → AreKept d (with_objects d objects)
kept-objects d objects = record {
  types = begins-same d.types;
  objects = begins-more d.objects objects;
  predicates = begins-same d.predicates;
  functions = begins-same d.functions;
}
