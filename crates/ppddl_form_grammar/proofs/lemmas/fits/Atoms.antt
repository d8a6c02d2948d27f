-- Terms and atoms where more is declared.
use Rattle.std.proofs.Common.{◌≡◌, Bool, true, false, List, [], ◌∷◌, Option, Some, None, refl, ap, ◌∙◌, is_some}
use Rattle.std.specs.List.{list_any, list_all}
use Rattle.std.proofs.lemmas.Bool.{and_parts, and_from}
use Rattle.ppddl_model.specs.declared.tree.Atom.{Atom}
use Rattle.ppddl_model.specs.declared.tree.Domain.{Domain}
use Rattle.ppddl_model.specs.declared.tree.Param.{Param}
use Rattle.ppddl_model.specs.declared.tree.PredicateDecl.{PredicateDecl}
use Rattle.ppddl_model.specs.declared.tree.Term.{Term}
use Rattle.ppddl_model.specs.declared.tree.TypeDecl.{TypeDecl}
use Rattle.ppddl_model.specs.Objects.{World, is_under}
use Rattle.ppddl_model.specs.State.{Name}
use Rattle.ppddl_model.specs.WellFormed.{is_type, has_types, params_fit, kinds_of, fits, args_fit, atom_fits}
use Rattle.ppddl_forms.specs.names.Declarations.{predicate_named}
use Rattle.ppddl_form_grammar.proofs.lemmas.fits.Tests.{all-weaker, any-weaker}

-- what a later world and domain keep of earlier ones, as far as fitting goes
pub record IsLater (w v : World) (domain other : Domain) : Type 0 where
  pub types : (kind : Name) → is_type w.types kind ≡ true → is_type v.types kind ≡ true
  pub under : (kind above : Name) → is_under w kind above ≡ true → is_under v kind above ≡ true
  pub kinds : (scope : List Param) (t : Term) (kinds : List Name) → kinds_of w scope t ≡ Some kinds → kinds_of v scope t ≡ Some kinds
  pub predicates : (name : Name) (p : PredicateDecl) → predicate_named domain.predicates name ≡ Some p → predicate_named other.predicates name ≡ Some p
  pub functions : (name : Name) (p : PredicateDecl) → predicate_named domain.functions name ≡ Some p → predicate_named other.functions name ≡ Some p

pub some_of : {A : Type 0} (o : Option A) → is_some o ≡ true → (x : A) × (o ≡ Some x)
some_of None is = absurd cc
some_of (Some x) is = (x, refl)

-- ---- variables

pub has_types-grows : (types others : List TypeDecl) → ((kind : Name) → is_type types kind ≡ true → is_type others kind ≡ true)
    → (p : Param) → has_types types p ≡ true → has_types others p ≡ true
has_types-grows types others later p has =
    let parts = and_parts _ (list_all (is_type types) p.kinds) has in
    and_from _ (list_all (is_type others) p.kinds) parts.0 (all-weaker (is_type types) (is_type others) later p.kinds parts.1)

pub params_fit-grows : (types others : List TypeDecl) → ((kind : Name) → is_type types kind ≡ true → is_type others kind ≡ true)
    → (ps : List Param) → params_fit types ps ≡ true → params_fit others ps ≡ true
params_fit-grows types others later ps fit =
    let parts = and_parts _ (list_all (has_types types) ps) fit in
    and_from _ (list_all (has_types others) ps) parts.0 (all-weaker (has_types types) (has_types others) (has_types-grows types others later) ps parts.1)

module _ (w v : World) (domain other : Domain) (later : IsLater w v domain other) where
  -- ---- terms

  abbrev Fit : World → List Name → Param → Bool
  Fit u kinds p = list_all (λ kind. list_any (is_under u kind) p.kinds) kinds

  kinds_fit-grows : (kinds : List Name) (p : Param) → Fit w kinds p ≡ true → Fit v kinds p ≡ true
  kinds_fit-grows kinds p fit =
      all-weaker (λ kind. list_any (is_under w kind) p.kinds) (λ kind. list_any (is_under v kind) p.kinds)
      (λ kind. any-weaker (is_under w kind) (is_under v kind) (later.under kind) p.kinds) kinds fit

  abbrev FitOf : World → Option (List Name) → Param → Bool
  FitOf u r p = elim r [ None ↦ false | Some kinds ↦ Fit u kinds p ]

  fits_from : (scope : List Param) (t : Term) (p : Param) (r : Option (List Name)) → kinds_of w scope t ≡ r → FitOf w r p ≡ true → fits v scope t p ≡ true
  fits_from scope t p None is fit = absurd cc
  fits_from scope t p (Some kinds) is fit = ap (λ r. FitOf v r p) (later.kinds scope t kinds is) ∙ kinds_fit-grows kinds p fit

  fits-grows : (scope : List Param) (t : Term) (p : Param) → fits w scope t p ≡ true → fits v scope t p ≡ true
  fits-grows scope t p fit = fits_from scope t p (kinds_of w scope t) refl fit

  pub in_sight-grows : (scope : List Param) (t : Term) → is_some (kinds_of w scope t) ≡ true → is_some (kinds_of v scope t) ≡ true
  in_sight-grows scope t sight = let r = some_of (kinds_of w scope t) sight in ap is_some (later.kinds scope t r.0 r.1)

  -- ---- atoms

  args_fit-grows : (scope : List Param) (ts : List Term) (ps : List Param) → args_fit w scope ts ps ≡ true → args_fit v scope ts ps ≡ true
  args_fit-grows scope [] [] fit = refl
  args_fit-grows scope [] (p ∷ ps) fit = absurd cc
  args_fit-grows scope (t ∷ ts) [] fit = absurd cc
  args_fit-grows scope (t ∷ ts) (p ∷ ps) fit =
      let parts = and_parts (fits w scope t p) (args_fit w scope ts ps) fit in
      and_from (fits v scope t p) (args_fit v scope ts ps) (fits-grows scope t p parts.0) (args_fit-grows scope ts ps parts.1)

  abbrev ArgsFit : World → List Param → Atom → Option PredicateDecl → Bool
  ArgsFit u scope a r = elim r [ None ↦ false | Some d ↦ args_fit u scope a.args d.params ]

  module _ (ds es : List PredicateDecl) (kept : (name : Name) (p : PredicateDecl) → predicate_named ds name ≡ Some p → predicate_named es name ≡ Some p) where
    atom_from : (scope : List Param) (a : Atom) (r : Option PredicateDecl) → predicate_named ds a.predicate ≡ r → ArgsFit w scope a r ≡ true → atom_fits v scope es a ≡ true
    atom_from scope a None is fit = absurd cc
    atom_from scope a (Some p) is fit = ap (ArgsFit v scope a) (kept a.predicate p is) ∙ args_fit-grows scope a.args p.params fit

    pub atom_fits-grows : (scope : List Param) (a : Atom) → atom_fits w scope ds a ≡ true → atom_fits v scope es a ≡ true
    atom_fits-grows scope a fit = atom_from scope a (predicate_named ds a.predicate) refl fit
