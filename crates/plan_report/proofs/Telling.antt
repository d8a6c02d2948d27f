-- The texts of atoms up to so many bytes, and the row of a verdict.
use Rattle.std.proofs.Common.{◌≡◌, ℕ, ◌+◌, ◌-◌, ◌<◌, ◌≤◌, List, [], ◌∷◌, ◌++◌, length, drop, cond, Option, Some, None, get_or, sym, ap, subst, ◌∙◌, codes, inl, inr, length-append, append_assoc, append-nil, arith}
use Rattle.std.specs.Prelude.{unwrap_or, OnOk}
use Rattle.std.specs.declared.result.Result.{Result}
use Rattle.std.specs.List.{slice_get}
use Rattle.std.proofs.lemmas.Bool.{cases_lt, lt-ltb, le-ltb}
use Rattle.std.proofs.lemmas.List.{drop_more, drop_all}
use Rattle.std.proofs.lemmas.Option.{slice_get_within, same_Some}
use Rattle.std.proofs.lemmas.Result.{on_ok_weaker}
use Rattle.certificate.specs.Rows.{Row}
use Rattle.certificate.specs.Content.{Content, name_at}
use Rattle.ground_model.specs.Ground.{Ground}
use Rattle.ground_model.specs.Packed.{State}
use Rattle.certificate_check.specs.declared.row_check.act.Act.{Act}
use Rattle.certificate_check.specs.Claims.{low_in, high_in, row_state, act_of}
use Rattle.certificate_check.specs.Sides.{least_upper, least_upper_by, IsLeastUpperIn}
use Rattle.certificate_check.specs.Verdicts.{IsRightIn, ActIsRight, IsVerdict}
use Rattle.certificate_check.specs.declared.verdict.Verdict.TheVariants as verdict
use Rattle.certificate_check.specs.declared.verdict.Verdict.TheVariants.{UnknownAtom, Upper}
use Rattle.plan_report.specs.declared.accounts.TheConstants.{MOST_STATE_BYTES}
use Rattle.plan_report.specs.Laws.{StateTextIsShort}
use Rattle.plan_report.specs.Account.{atoms_up_to, state_text, placed, HasRightAct}

module _ (atoms : List (List ℕ)) (most : ℕ) (numbers before : List ℕ) where
  -- what is written, before what is left to be
  abbrev pub IsUpTo : ℕ → ℕ → List ℕ → Type 0
  IsUpTo i left out = out ++ atoms_up_to atoms left (drop i numbers) ≡ before ++ atoms_up_to atoms most numbers

  module _ (i left : ℕ) (out name : List ℕ) (n : ℕ) (within : i < length numbers) (read : n ≡ get_or numbers i 0)
      (is : name ≡ name_at atoms n) (so_far : IsUpTo i left out) where
    next : atoms_up_to atoms left (drop i numbers) ≡ atoms_up_to atoms left (n ∷ drop (i + 1) numbers)
    next = ap (atoms_up_to atoms left) (drop_more numbers i 0 within ∙ ap (λ k. k ∷ drop (i + 1) numbers) (sym read))

    pub up_to_cut : left ≤ length name → out ++ codes " .." ≡ before ++ atoms_up_to atoms most numbers
    up_to_cut past =
        sym (ap (λ (l : List ℕ). out ++ l)
        (next
        ∙ ap (λ b. cond b (32 ∷ name_at atoms n ++ atoms_up_to atoms (left - (length (name_at atoms n) + 1)) (drop (i + 1) numbers)) (codes " .."))
        (le-ltb (length (name_at atoms n)) left (subst (λ (l : List ℕ). left ≤ length l) is past))))
        ∙ so_far

    pub up_to_more : length name < left → IsUpTo (i + 1) (left - (length name + 1)) ((out ++ 32 ∷ []) ++ name)
    up_to_more fits =
        let rest : List ℕ = atoms_up_to atoms (left - (length name + 1)) (drop (i + 1) numbers) in
        append_assoc (out ++ 32 ∷ []) name rest
        ∙ append_assoc out (32 ∷ []) (name ++ rest)
        ∙ sym (ap (λ (l : List ℕ). out ++ l)
        (next
        ∙ ap (λ b. cond b (32 ∷ name_at atoms n ++ atoms_up_to atoms (left - (length (name_at atoms n) + 1)) (drop (i + 1) numbers)) (codes " .."))
        (lt-ltb (length (name_at atoms n)) left (subst (λ (l : List ℕ). length l < left) is fits))
        ∙ ap (λ (l : List ℕ). 32 ∷ l ++ atoms_up_to atoms (left - (length l + 1)) (drop (i + 1) numbers)) (sym is)))
        ∙ so_far

  pub up_to_all : (i left : ℕ) (out : List ℕ) → length numbers ≤ i → IsUpTo i left out → out ≡ before ++ atoms_up_to atoms most numbers
  up_to_all i left out past so_far =
      sym (append-nil out) ∙ sym (ap (λ (l : List ℕ). out ++ atoms_up_to atoms left l) (drop_all i numbers past)) ∙ so_far

-- ---- how long they are

up_to_short : (atoms : List (List ℕ)) (left : ℕ) (ns : List ℕ) → length (atoms_up_to atoms left ns) ≤ left + 3
up_to_short atoms left [] = omega arith
up_to_short atoms left (n ∷ ns) =
    let rest : List ℕ = atoms_up_to atoms (left - (length (name_at atoms n) + 1)) ns in
    let more : List ℕ = 32 ∷ name_at atoms n ++ rest in
    elim (cases_lt (length (name_at atoms n)) left) [
      | inl fits ↦
          (let is : length (atoms_up_to atoms left (n ∷ ns)) ≡ length more
          = ap (λ b. length (cond b more (codes " .."))) (lt-ltb (length (name_at atoms n)) left fits) in
          let sum = length-append (name_at atoms n) rest in
          let short = up_to_short atoms (left - (length (name_at atoms n) + 1)) ns in
          omega (arith, is, sum, short, fits))
      | inr past ↦
          (let is : length (atoms_up_to atoms left (n ∷ ns)) ≡ 3
          = ap (λ b. length (cond b more (codes " .."))) (le-ltb (length (name_at atoms n)) left past) in
          omega (arith, is))
    ]

pub state_text_is_short : StateTextIsShort
state_text_is_short c r =
    let sum = length-append (codes "state :") (atoms_up_to c.atoms MOST_STATE_BYTES r.atoms) in
    let short = up_to_short c.atoms MOST_STATE_BYTES r.atoms in
    omega (arith, sum, short)

pub put_behind : {T E : Type 0} (r : Result T E) (out mid new what state text : List ℕ) → mid ≡ out ++ what → text ≡ what ++ state
    → OnOk r (new ≡ mid ++ state) → OnOk r (new ≡ out ++ text)
put_behind r out mid new what state text told is put =
    on_ok_weaker r
    (λ e. e ∙ ap (λ l. l ++ state) told ∙ append_assoc out what state ∙ ap (λ l. out ++ l) (sym is))
    put

-- ---- the row in its place

module _ (g : Ground) (c : Content) where
  pub placed_is : (text : Row → List ℕ) (place : ℕ) (r : Row) → slice_get c.rows place ≡ Some r → placed g c text place ≡ text r ++ state_text c r
  placed_is text place r at = ap (λ (o : Option Row). elim o [ None ↦ [] | Some x ↦ text x ++ state_text c x ]) at

  least_by : (s : State) (act : Option Act) (o : Option ℕ) → IsRightIn g c (low_in g c) (high_in g c) s act → IsLeastUpperIn g c s act o
      → unwrap_or o 0 ≡ least_upper_by g c s act
  least_by s act None right found = absurd (found right)
  least_by s act (Some n) right found = found.1

  pub least_found : (r : Row) (o : Option ℕ) → ActIsRight g c (low_in g c) (high_in g c) r
      → IsLeastUpperIn g c (row_state g c r) (act_of g c r.act) o → unwrap_or o 0 ≡ least_upper g c r
  least_found r o right found = least_by (row_state g c r) (act_of g c r.act) o right found

  pub place_within : (place row : ℕ) (r : Row) → slice_get c.rows place ≡ Some r → row ≡ place + 1 → row - 1 < length c.rows
  place_within place row r at is = let inside = slice_get_within c.rows place r at in omega (arith, inside, is)

  pub unknown_within : (row : ℕ) → IsVerdict g c (UnknownAtom row) → row - 1 < length c.rows
  unknown_within row told = place_within told.1.place row told.1.row told.1.at told.1.fails.0

  pub act_within : (row : ℕ) → IsVerdict g c (verdict.Act row) → row - 1 < length c.rows
  act_within row told = place_within told.1.place row told.1.row told.1.at told.1.fails.0

  pub right_in : (row : ℕ) → IsVerdict g c (Upper row) → HasRightAct g c (row - 1)
  right_in row told = λ r at.
      let first = told.1 in
      let place : row - 1 ≡ first.place = let is = first.fails.0 in omega (arith, is) in
      subst (λ x. ActIsRight g c (low_in g c) (high_in g c) x)
      (same_Some first.row r (sym first.at ∙ ap (slice_get c.rows) (sym place) ∙ at)) first.fails.2
