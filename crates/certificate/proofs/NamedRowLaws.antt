-- A row of version 1, an entry of a table, and their lines: what was read is spelled so, and what is spelled so is read.
use Rattle.std.proofs.Common.{◌≡◌, ℕ, eqb, List, [], ◌∷◌, ◌++◌, length, Some, None, option_map, refl, ap, sym, subst, ◌∙◌, inl, inr, arith, append_assoc}
use Rattle.std.specs.Prelude.{codes, decimal}
use Rattle.std.specs.Option.{option_or}
use Rattle.std.specs.List.{join_with_byte, flat_map, AllByRecursion}
use Rattle.std.proofs.lemmas.Bool.{eqb-true}
use Rattle.std.proofs.lemmas.List.{nil_from_length, append-nil}
use Rattle.std.proofs.lemmas.List.Splits.{join_with_byte-slice_split}
use Rattle.certificate.specs.declared.named.NamedAct.{NamedAct}
use Rattle.certificate.specs.declared.named.NamedAct.TheVariants.{GiveUp, Goal, Do}
use Rattle.certificate.specs.declared.named.NamedRow.{NamedRow}
use Rattle.certificate.specs.Names.{IsNameList}
use Rattle.certificate.specs.Spelling.{spaced, named_act_text, atoms_text, named_row_line}
use Rattle.certificate.specs.Reading.{IsNamedAct, IsNamedRow}
use Rattle.certificate.specs.Decoding.{◌>>=◌, only_if, behind, cut, parts, are_names, enclosed, list_at, list_of, word_at, named_act_at, atom_of, atom_at, atoms_of, field_at, named_row_of}
use Rattle.certificate.proofs.Steps.{some_is, kept, chained, mapped, either}
use Rattle.certificate.proofs.Cuts.{behind_is_rest, cut_is_parts, cut_again}
use Rattle.certificate.proofs.Decimals.{decimal_lacks}
use Rattle.certificate.proofs.Numbers.{field_is, field_again}
use Rattle.certificate.proofs.Names.{Lacks, Lacks-append, list_inner, enclosed_is_list, list_lacks_feed}
use Rattle.certificate.proofs.Atoms.{atoms_more}

-- ---- an act

list_is_text : (text list rest : List ℕ) → list_at text ≡ Some (list, rest) → (text ≡ list ++ rest) × IsNameList list
unfolding list_at
list_is_text text list rest e =
    let opened = chained (behind (codes "(") text) (λ o. cut 41 o >>= λ p. only_if (are_names p.0) (enclosed p.0, p.1)) (list, rest) e in
    let closed = chained (cut 41 opened.0) (λ p. only_if (are_names p.0) (enclosed p.0, p.1)) (list, rest) opened.2 in
    let named = kept (are_names closed.0.0) (Some (enclosed closed.0.0, closed.0.1)) (list, rest) closed.2 in
    let is = some_is (enclosed closed.0.0, closed.0.1) (list, rest) named.1 in
    let whole : text ≡ enclosed closed.0.0 ++ closed.0.1 =
    behind_is_rest (codes "(") text opened.0 opened.1 ∙ ap (λ (x : List ℕ). 40 ∷ x) (cut_is_parts 41 opened.0 closed.0.0 closed.0.1 closed.1 ∙ sym (append_assoc closed.0.0 (41 ∷ []) closed.0.1)) in
    (whole ∙ ap (λ (p : List ℕ × List ℕ). p.0 ++ p.1) is, subst IsNameList (ap (λ (p : List ℕ × List ℕ). p.0) is) (enclosed_is_list closed.0.0 named.0))

list_again : (list rest : List ℕ) → IsNameList list → list_at (list ++ rest) ≡ Some (list, rest)
unfolding list_at
list_again list rest is =
    let inner = list_inner list is in
    let names : List ℕ = join_with_byte 32 is.names in
    let regrouped : enclosed names ++ rest ≡ 40 ∷ (names ++ 41 ∷ rest) = ap (λ (x : List ℕ). 40 ∷ x) (append_assoc names (41 ∷ []) rest) in
    let found : list_at (40 ∷ (names ++ 41 ∷ rest)) ≡ Some (enclosed names, rest) = rw (cut_again 41 names rest inner.lacks_close, inner.named) refl in
    subst (λ (x : List ℕ). list_at (x ++ rest) ≡ Some (x, rest)) (sym inner.spelled) (ap list_at regrouped ∙ found)

abbrev done : NamedAct → List ℕ → NamedAct × List ℕ
done act rest = (act, rest)

abbrev listed : List ℕ × List ℕ → NamedAct × List ℕ
listed list = (Do list.0, list.1)

abbrev joined : NamedAct × List ℕ → List ℕ
joined p = named_act_text p.0 ++ p.1

pub word_is : {A : Type 0} (word : List ℕ) (act : A) (text : List ℕ) (x : A × List ℕ) → word_at word act text ≡ Some x → (text ≡ word ++ x.1) × (act ≡ x.0)
word_is {A} word act text x e =
    let found = mapped (λ (rest : List ℕ). (act, rest)) (behind word text) x e in
    (behind_is_rest word text found.0 found.1 ∙ ap (λ (p : A × List ℕ). word ++ p.1) found.2, ap (λ (p : A × List ℕ). p.0) found.2)

pub act_is : (text : List ℕ) (act : NamedAct) (rest : List ℕ) → named_act_at text ≡ Some (act, rest) → (text ≡ named_act_text act ++ rest) × IsNamedAct act
unfolding named_act_at
act_is text act rest e =
    elim (either (word_at (codes "give-up") GiveUp text) (option_or (word_at (codes "goal") Goal text) (option_map listed (list_at text))) (act, rest) e) [
      | inl give_up ↦ (
          let word = word_is (codes "give-up") GiveUp text (act, rest) give_up in
          (word.0 ∙ ap (λ (a : NamedAct). named_act_text a ++ rest) word.1, subst IsNamedAct word.1 tt)
          )
      | inr others ↦ elim (either (word_at (codes "goal") Goal text) (option_map listed (list_at text)) (act, rest) others) [
        | inl goal ↦ (
            let word = word_is (codes "goal") Goal text (act, rest) goal in
            (word.0 ∙ ap (λ (a : NamedAct). named_act_text a ++ rest) word.1, subst IsNamedAct word.1 tt)
            )
        | inr name ↦ (
            let found = mapped listed (list_at text) (act, rest) name in
            let spelled = list_is_text text found.0.0 found.0.1 found.1 in
            (spelled.0 ∙ ap joined found.2, subst IsNamedAct (ap (λ (p : NamedAct × List ℕ). p.0) found.2) spelled.1)
            )
      ]
    ]

pub act_again : (act : NamedAct) (rest : List ℕ) → IsNamedAct act → named_act_at (named_act_text act ++ rest) ≡ Some (act, rest)
unfolding named_act_at
act_again GiveUp rest is = refl
act_again Goal rest is = refl
act_again (Do name) rest is =
    let inner = list_inner name is in
    let no_give_up : behind (codes "give-up") (name ++ rest) ≡ None = rw inner.spelled refl in
    let no_goal : behind (codes "goal") (name ++ rest) ≡ None = rw inner.spelled refl in
    rw (no_give_up, no_goal, list_again name rest is) refl

-- ---- atoms

atom_is_list : (part atom : List ℕ) → atom_of part ≡ Some atom → ((rest : List ℕ) → part ++ 41 ∷ rest ≡ 32 ∷ (atom ++ rest)) × IsNameList atom
unfolding atom_of
atom_is_list part atom e =
    let opened = chained (behind (codes " (") part) (λ names. only_if (are_names names) (enclosed names)) atom e in
    let named = kept (are_names opened.0) (Some (enclosed opened.0)) atom opened.2 in
    let same = some_is (enclosed opened.0) atom named.1 in
    let is : part ≡ 32 ∷ 40 ∷ opened.0 = behind_is_rest (codes " (") part opened.0 opened.1 in (
      λ rest. ap (λ (x : List ℕ). x ++ 41 ∷ rest) is ∙ ap (λ (x : List ℕ). 32 ∷ 40 ∷ x) (sym (append_assoc opened.0 (41 ∷ []) rest)) ∙ ap (λ (x : List ℕ). 32 ∷ (x ++ rest)) same,
      subst IsNameList same (enclosed_is_list opened.0 named.0),
    )

-- the parts of the atoms, joined
pub atoms_are : (texts : List (List ℕ)) (atoms : List (List ℕ)) → atoms_of texts ≡ Some atoms → (join_with_byte 41 texts ≡ flat_map (λ atom. 32 ∷ atom) atoms) × AllByRecursion IsNameList atoms
atoms_are [] atoms e = absurd cc
atoms_are (part ∷ []) atoms e =
    let empty = kept (eqb (length part) 0) (Some []) atoms e in
    let none : [] ≡ atoms = some_is [] atoms empty.1 in
    let nil : part ≡ [] = nil_from_length part (eqb-true (length part) 0 empty.0) in
    subst (λ (all : List (List ℕ)). (part ≡ flat_map (λ atom. 32 ∷ atom) all) × AllByRecursion IsNameList all) none (nil, tt)
atoms_are (part ∷ next ∷ more) atoms e =
    let first = chained (atom_of part) (λ atom. atoms_of (next ∷ more) >>= λ others. Some (atom ∷ others)) atoms e in
    let rest = chained (atoms_of (next ∷ more)) (λ others. Some (first.0 ∷ others)) atoms first.2 in
    let same : first.0 ∷ rest.0 ≡ atoms = some_is (first.0 ∷ rest.0) atoms rest.2 in
    let one = atom_is_list part first.0 first.1 in
    let others = atoms_are (next ∷ more) rest.0 rest.1 in
    subst (λ (all : List (List ℕ)). (join_with_byte 41 (part ∷ next ∷ more) ≡ flat_map (λ atom. 32 ∷ atom) all) × AllByRecursion IsNameList all) same (
      ap (λ (x : List ℕ). part ++ 41 ∷ x) others.0 ∙ one.0 (flat_map (λ atom. 32 ∷ atom) rest.0),
      (one.1, others.1),
    )

atom_again : (atom rest : List ℕ) → IsNameList atom → atom_at (32 ∷ (atom ++ rest)) ≡ Some (atom, rest)
unfolding atom_at atom_of
atom_again atom rest is =
    let inner = list_inner atom is in
    let names : List ℕ = join_with_byte 32 is.names in
    let regrouped : 32 ∷ (enclosed names ++ rest) ≡ (32 ∷ 40 ∷ names) ++ 41 ∷ rest = ap (λ (x : List ℕ). 32 ∷ 40 ∷ x) (append_assoc names (41 ∷ []) rest) in
    let lacks : Lacks 41 (32 ∷ 40 ∷ names) = inner.lacks_close in
    let found : atom_at ((32 ∷ 40 ∷ names) ++ 41 ∷ rest) ≡ Some (enclosed names, rest) = rw (cut_again 41 (32 ∷ 40 ∷ names) rest lacks, inner.named) refl in
    subst (λ (x : List ℕ). atom_at (32 ∷ (x ++ rest)) ≡ Some (x, rest)) (sym inner.spelled) (ap atom_at regrouped ∙ found)

pub atoms_again : (atoms : List (List ℕ)) → AllByRecursion IsNameList atoms → atoms_of (parts 41 (flat_map (λ atom. 32 ∷ atom) atoms)) ≡ Some atoms
atoms_again [] are = refl
atoms_again (atom ∷ atoms) are =
    let rest : List ℕ = flat_map (λ a. 32 ∷ a) atoms in
    atoms_more (32 ∷ (atom ++ rest)) atom rest (atom_again atom rest are.0) ∙ rw (atoms_again atoms are.1) refl

-- ---- a row

pub named_row_is : (line : List ℕ) (r : NamedRow) → named_row_of line ≡ Some r → (line ≡ named_row_line r) × IsNamedRow r
unfolding named_row_of
named_row_is line r e =
    let lower = chained (field_at line) (λ l. field_at l.1 >>= λ u. named_act_at u.1 >>= λ a. behind (codes " :") a.1 >>= λ list. atoms_of (parts 41 list) >>= λ atoms. Some (record { lower = l.0; upper = u.0; act = a.0; atoms = atoms })) r e in
    let upper = chained (field_at lower.0.1) (λ u. named_act_at u.1 >>= λ a. behind (codes " :") a.1 >>= λ list. atoms_of (parts 41 list) >>= λ atoms. Some (record { lower = lower.0.0; upper = u.0; act = a.0; atoms = atoms })) r lower.2 in
    let act = chained (named_act_at upper.0.1) (λ a. behind (codes " :") a.1 >>= λ list. atoms_of (parts 41 list) >>= λ atoms. Some (record { lower = lower.0.0; upper = upper.0.0; act = a.0; atoms = atoms })) r upper.2 in
    let list = chained (behind (codes " :") act.0.1) (λ list. atoms_of (parts 41 list) >>= λ atoms. Some (record { lower = lower.0.0; upper = upper.0.0; act = act.0.0; atoms = atoms })) r act.2 in
    let atoms = chained (atoms_of (parts 41 list.0)) (λ atoms. Some (record { lower = lower.0.0; upper = upper.0.0; act = act.0.0; atoms = atoms })) r list.2 in
    let made : NamedRow = record { lower = lower.0.0; upper = upper.0.0; act = act.0.0; atoms = atoms.0 } in
    let same : made ≡ r = some_is made r atoms.2 in
    let l = field_is line lower.0.0 lower.0.1 lower.1 in
    let u = field_is lower.0.1 upper.0.0 upper.0.1 upper.1 in
    let a = act_is upper.0.1 act.0.0 act.0.1 act.1 in
    let behind_act : act.0.1 ≡ 32 ∷ 58 ∷ list.0 = behind_is_rest (codes " :") act.0.1 list.0 list.1 in
    let found = atoms_are (parts 41 list.0) atoms.0 atoms.1 in
    let listed : list.0 ≡ flat_map (λ atom. 32 ∷ atom) atoms.0 = sym (join_with_byte-slice_split 41 list.0) ∙ found.0 in
    let tail : upper.0.1 ≡ spaced (named_act_text act.0.0) (atoms_text atoms.0) = a.0 ∙ ap (λ (x : List ℕ). named_act_text act.0.0 ++ x) (behind_act ∙ ap (λ (x : List ℕ). 32 ∷ 58 ∷ x) listed) in
    let whole : line ≡ named_row_line made = l.0 ∙ ap (spaced (decimal lower.0.0)) (u.0 ∙ ap (spaced (decimal upper.0.0)) tail) in
    subst (λ (x : NamedRow). (line ≡ named_row_line x) × IsNamedRow x) same (whole, record { lower = l.1; upper = u.1; act = a.1; atoms = found.1 })

pub named_row_again : (r : NamedRow) → IsNamedRow r → named_row_of (named_row_line r) ≡ Some r
unfolding named_row_of
named_row_again r is =
    let tail : List ℕ = 32 ∷ atoms_text r.atoms in
    let list : List ℕ = flat_map (λ atom. 32 ∷ atom) r.atoms in
    rw (field_again r.lower (spaced (decimal r.upper) (named_act_text r.act ++ tail)) is.lower, field_again r.upper (named_act_text r.act ++ tail) is.upper, act_again r.act tail is.act, atoms_again r.atoms is.atoms) refl

-- no line feed stands in a row's line
atoms_lack_feed : (atoms : List (List ℕ)) → AllByRecursion IsNameList atoms → Lacks 10 (flat_map (λ atom. 32 ∷ atom) atoms)
atoms_lack_feed [] are = refl
atoms_lack_feed (atom ∷ atoms) are = Lacks-append 10 atom (flat_map (λ a. 32 ∷ a) atoms) (list_lacks_feed atom are.0) (atoms_lack_feed atoms are.1)

act_lacks_feed : (act : NamedAct) → IsNamedAct act → Lacks 10 (named_act_text act)
act_lacks_feed GiveUp is = refl
act_lacks_feed Goal is = refl
act_lacks_feed (Do name) is = list_lacks_feed name is

pub named_row_lacks_feed : (r : NamedRow) → IsNamedRow r → Lacks 10 (named_row_line r)
named_row_lacks_feed r is =
    Lacks-append 10 (decimal r.lower) _ (decimal_lacks 10 r.lower (omega arith) is.lower) (
    Lacks-append 10 (decimal r.upper) _ (decimal_lacks 10 r.upper (omega arith) is.upper) (
    Lacks-append 10 (named_act_text r.act) _ (act_lacks_feed r.act is.act) (atoms_lack_feed r.atoms is.atoms)
    )
    )

-- ---- an entry of a table

pub entry_is : (line entry : List ℕ) → list_of line ≡ Some entry → (line ≡ entry) × IsNameList entry
unfolding list_of
entry_is line entry e =
    let found = chained (list_at line) (λ f. only_if (eqb (length f.1) 0) f.0) entry e in
    let whole = kept (eqb (length found.0.1) 0) (Some found.0.0) entry found.2 in
    let same : found.0.0 ≡ entry = some_is found.0.0 entry whole.1 in
    let nil : found.0.1 ≡ [] = nil_from_length found.0.1 (eqb-true (length found.0.1) 0 whole.0) in
    let list = list_is_text line found.0.0 found.0.1 found.1 in
    (list.0 ∙ ap (λ (x : List ℕ). found.0.0 ++ x) nil ∙ append-nil found.0.0 ∙ same, subst IsNameList same list.1)

pub entry_again : (entry : List ℕ) → IsNameList entry → list_of entry ≡ Some entry
unfolding list_of
entry_again entry is =
    let again : list_at entry ≡ Some (entry, []) = ap list_at (sym (append-nil entry)) ∙ list_again entry [] is in
    rw again refl
