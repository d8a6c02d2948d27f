-- Forms, and others behind them.
--     joined             both
--     each-joined, each-apart
--                        forms that are read by what is known before each are read in two parts, and the other way
--     spelled-once       forms are known by what they spell
use Rattle.std.proofs.Common.{◌≡◌, List, ◌++◌, Result, Ok, refl, sym, ap, subst, ◌∙◌, append_assoc}
use Rattle.plain_list.specs.Results.{◌>>=◌}
use Rattle.plain_list.proofs.Results.{bind_ok, ok_is}
use Rattle.ppddl_cursor.specs.declared.place.Place.{Place}
use Rattle.ppddl_cursor.specs.Ahead.{top, ahead_of}
use Rattle.ppddl_cursor.specs.Forms.{Piece, Form, Forms, none, more, spell, spell_all, lowered_form, lowered_forms}
use Rattle.ppddl_cursor.specs.Reading.{Fault}
use Rattle.ppddl_cursor.specs.Sequences.{each}
use Rattle.ppddl_cursor.specs.Stored.{ahead-pieces}

abbrev pub joined : Forms → Forms → Forms
joined none gs = gs
joined (more f fs) gs = more f (joined fs gs)

pub spell-joined : (fs gs : Forms) → spell_all (joined fs gs) ≡ spell_all fs ++ spell_all gs
spell-joined none gs = refl
spell-joined (more f fs) gs = ap (λ (ps : List Piece). spell f ++ ps) (spell-joined fs gs) ∙ sym (append_assoc (spell f) (spell_all fs) (spell_all gs))

pub lowered-joined : (fs gs : Forms) → lowered_forms (joined fs gs) ≡ joined (lowered_forms fs) (lowered_forms gs)
lowered-joined none gs = refl
lowered-joined (more f fs) gs = ap (more (lowered_form f)) (lowered-joined fs gs)

module _ {S : Type 0} (one : S → Form → Result S Fault) where
  pub each-joined : (s : S) (fs gs : Forms) (b c : Place) (t u : S) → each one s fs b ≡ Ok t → each one t gs c ≡ Ok u → each one s (joined fs gs) c ≡ Ok u
  unfolding each
  each-joined s none gs b c t u is rest = subst (λ x. each one x gs c ≡ Ok u) (sym (ok_is {E = Fault} s t is)) rest
  each-joined s (more f fs) gs b c t u is rest =
      let r = bind_ok (one s f) (λ v. each one v fs b) t is in
      ap (λ q. q >>= λ v. each one v (joined fs gs) c) r.1 ∙ each-joined r.0 fs gs b c t u r.2 rest

  pub each-apart : (s : S) (fs gs : Forms) (b c : Place) (u : S) → each one s (joined fs gs) c ≡ Ok u → (t : S) × (each one s fs b ≡ Ok t) × (each one t gs c ≡ Ok u)
  unfolding each
  each-apart s none gs b c u is = (s, refl, is)
  each-apart s (more f fs) gs b c u is =
      let r = bind_ok (one s f) (λ v. each one v (joined fs gs) c) u is in
      let q = each-apart r.0 fs gs b c u r.2 in
      (q.0, ap (λ p. p >>= λ v. each one v fs b) r.1 ∙ q.1, q.2)

anywhere : Place
anywhere = record { file = 0; line = 0 }

forms-are : (fs gs : Forms) (e : Place) → top fs e ≡ top gs e → fs ≡ gs
forms-are fs gs e same = cc

pub spelled-once : (fs gs : Forms) → spell_all fs ≡ spell_all gs → fs ≡ gs
spelled-once fs gs same =
    forms-are fs gs anywhere (sym (ahead-pieces (top fs anywhere)) ∙ ap (ahead_of anywhere) same ∙ ahead-pieces (top gs anywhere))
