-- What is put of rounds, one line behind another, and of which search it is told.
use Rattle.std.proofs.Common.{◌≡◌, ◌≢◌, ℕ, ◌+◌, ◌≤◌, Bool, true, false, if◌then◌else◌, List, [], ◌∷◌, ◌++◌, length, take, flat_map, length-append, append-nil, append_assoc, Option, Some, None, Result, Ok, Err, refl, sym, ap, subst, ◌∙◌, inl, inr, arith}
use Rattle.std.specs.Prelude.{AllPairs, IfOk, codes}
use Rattle.std.specs.Io.KnownBytes.{Appends}
use Rattle.std.proofs.lemmas.List.{take-append-le}
use Rattle.std.proofs.KnownBytes.{Appends-trans}
use Rattle.shelf_io.specs.Causes.{Rose}
use Rattle.shelf_io.specs.Shelf.{Told, Untold, written}
use Rattle.shelf_io.specs.Streams.{PutsPrefix}
use Rattle.ground_model.specs.Ground.{Ground}
use Rattle.trial_workers.specs.declared.reading.Reading.{Reading}
use Rattle.trial_workers.specs.Watching.{HasBeenTold, IsBefore}
use Rattle.plan_request.specs.Asked.{Solving, Asked, to_solve, to_check, to_serve, to_ground, to_bench, to_merge, to_walk, to_draw}
use Rattle.plan_request.specs.declared.stop.Stop.{Stop}
use Rattle.plan_request.specs.declared.stop.Stop.TheVariants.{BadWords, ReadFailed, WriteFailed, NoMemory, Refused, NotAccepted, SecondNotAccepted, Limit}
use Rattle.plan_request.specs.stop.Stop.{Ending, ending_status, status_of}
use Rattle.plan_sources.specs.declared.texts.Texts.{Texts}
use Rattle.plan_sources.specs.Sources.{MayGiveProblem}
use Rattle.plan_sources.specs.Laws.{HoldsTexts, OneProblemIsTold}
use Rattle.plan_search.specs.declared.answer.Answer.{Answer}
use Rattle.plan_search.specs.Telling.{AreToldBefore}
use Rattle.plan_search.specs.solver.Told.{HasTold}
use Rattle.plan_app.specs.declared.progress_lines.ProgressLines.{ProgressLines}
use Rattle.plan_app.specs.Putting.{IsSaid, SaysPut}
use Rattle.plan_app.specs.Verdicts.{HasReport}
use Rattle.plan_app.specs.Progress.{progress_line, progress_lines, PutsLines, TellsWhile, TellsLine, TellsAsked, rounds_of, rounds_in, IsToTell, AreToldOf, AreRoundsOf}
use Rattle.plan_app.proofs.Exchanges.{prefix_behind}
use Rattle.plan_app.proofs.Solved.{told_written}

-- ---- one line behind another

pub none_rise : AllPairs IsBefore []
none_rise = λ i j d before below. absurd (omega arith)

pub appends_none : (a : Option (List ℕ)) → Appends a a []
appends_none None = tt
appends_none (Some xs) = sym (append-nil xs)

-- nine texts, one behind another
behind_each : (p a q b r c s d t : List ℕ) → p ++ (a ++ (q ++ (b ++ (r ++ (c ++ (s ++ (d ++ t))))))) ≡ p ++ a ++ q ++ b ++ r ++ c ++ s ++ d ++ t
behind_each p a q b r c s d t =
    sym (append_assoc p a _) ∙ sym (append_assoc (p ++ a) q _) ∙ sym (append_assoc (p ++ a ++ q) b _) ∙ sym (append_assoc (p ++ a ++ q ++ b) r _)
    ∙ sym (append_assoc (p ++ a ++ q ++ b ++ r) c _) ∙ sym (append_assoc (p ++ a ++ q ++ b ++ r ++ c) s _)
    ∙ sym (append_assoc (p ++ a ++ q ++ b ++ r ++ c ++ s) d t)

-- the pieces of a line
abbrev line : List ℕ → List ℕ → List ℕ → List ℕ → List ℕ
line rounds lower upper states =
    codes "round " ++ rounds ++ codes " interval " ++ lower ++ codes " " ++ upper ++ codes " states " ++ states ++ codes "\n"

abbrev line_pieces : List ℕ → List ℕ → List ℕ → List ℕ → List ℕ
line_pieces rounds lower upper states =
    codes "round " ++ (rounds ++ (codes " interval " ++ (lower ++ (codes " " ++ (upper ++ (codes " states " ++ (states ++ codes "\n")))))))

pub line_same : {a b c d a' b' c' d' : List ℕ} → a ≡ a' → b ≡ b' → c ≡ c' → d ≡ d' → line_pieces a b c d ≡ line a' b' c' d'
line_same {a = a} {b = b} {c = c} {d = d} {a' = a'} {b' = b'} {c' = c'} {d' = d'} is_a is_b is_c is_d =
    behind_each (codes "round ") a (codes " interval ") b (codes " ") c (codes " states ") d (codes "\n")
    ∙ ap (λ x. line x b c d) is_a ∙ ap (λ x. line a' x c d) is_b ∙ ap (λ x. line a' b' x d) is_c ∙ ap (λ x. line a' b' c' x) is_d

-- a first part of a text is one of the text and more
pub prefix_more : (a b : Option (List ℕ)) (xs ys : List ℕ) → PutsPrefix a b xs → PutsPrefix a b (xs ++ ys)
prefix_more a b xs ys (n, few, part) = (
  n,
  omega (arith, few, length-append xs ys),
  subst (Appends a b) (sym (take-append-le n xs ys (omega (arith, few)))) part,
)

-- pieces, of which the first ones were put
pub pieces_more : {X : Type 0} (text : X → List ℕ) (a b c : Option (List ℕ)) (front : List ℕ) (all : List ℕ) (x : X) (rest : List X)
    → Appends a b front → all ≡ front ++ (text x ++ flat_map text rest) → Appends b c (text x)
    → (more : List ℕ) × Appends a c more × (all ≡ more ++ flat_map text rest)
pieces_more text a b c front all x rest put is piece = (
  front ++ text x,
  Appends-trans a b c front (text x) put piece,
  is ∙ sym (append_assoc front (text x) (flat_map text rest)),
)

pub pieces_part : {X : Type 0} (text : X → List ℕ) (a b c : Option (List ℕ)) (front : List ℕ) (all : List ℕ) (x : X) (rest : List X)
    → Appends a b front → all ≡ front ++ (text x ++ flat_map text rest) → PutsPrefix b c (text x) → PutsPrefix a c all
pieces_part text a b c front all x rest put is part =
    subst (PutsPrefix a c) (sym is)
    (prefix_behind a b c front (text x ++ flat_map text rest) put (prefix_more b c (text x) (flat_map text rest) part))

module _ {P : Type 0} (taken : P → Option (List ℕ)) (faults : P → ℕ) where
  closed_stay : (rs : List Reading) (a b : ProgressLines P) → a.live ≡ false → HasBeenTold (TellsLine taken faults) rs a b → b ≡ a
  closed_stay [] a b closed same = same
  closed_stay (r ∷ rs) a b closed (mid, told, been) =
      let same : mid ≡ a = subst (λ o. TellsWhile taken faults o a r mid) closed told in
      closed_stay rs mid b (ap (λ (l : ProgressLines P). l.live) same ∙ closed) been ∙ same

  pub put_lines : (rs : List Reading) (a b : ProgressLines P) → a.live ≡ true → HasBeenTold (TellsLine taken faults) rs a b
      → PutsLines (faults a.sink) (faults b.sink) (taken a.sink) (taken b.sink) rs
  put_lines [] a b live same = inl (subst (λ (l : ProgressLines P). Appends (taken a.sink) (taken l.sink) []) (sym same) (appends_none (taken a.sink)))
  put_lines (r ∷ rs) a b live (mid, told, been) = elim (subst (λ o. TellsWhile taken faults o a r mid) live told) [
    | inl line ↦ elim (put_lines rs mid b line.still been) [
      | inl all ↦ inl (Appends-trans (taken a.sink) (taken mid.sink) (taken b.sink) (progress_line r) (progress_lines rs) line.put all)
      | inr (rose, part) ↦ inr (
        subst (λ n. Rose n (faults b.sink)) line.no_fault rose,
        prefix_behind (taken a.sink) (taken mid.sink) (taken b.sink) (progress_line r) (progress_lines rs) line.put part,
      )
    ]
    | inr last ↦
        let same = closed_stay rs mid b last.closed been in
        inr (
          subst (λ (l : ProgressLines P). Rose (faults a.sink) (faults l.sink)) (sym same) last.fault,
          subst (λ (l : ProgressLines P). PutsPrefix (taken a.sink) (taken l.sink) (progress_lines (r ∷ rs))) (sym same)
              (prefix_more (taken a.sink) (taken mid.sink) (progress_line r) (progress_lines rs) last.part),
        )
  ]

  -- a reading that live lines were told of, by whether its line was put whole
  pub told_line : (a : ProgressLines P) (r : Reading) (p : P) (whole : Bool) → a.live ≡ true
      → (whole ≡ true → Appends (taken a.sink) (taken p) (progress_line r)) → (whole ≡ true → faults p ≡ faults a.sink)
      → (whole ≡ false → PutsPrefix (taken a.sink) (taken p) (progress_line r)) → (whole ≡ false → Rose (faults a.sink) (faults p))
      → TellsLine taken faults a r (record { sink = p; live = whole })
  told_line a r p true live all steady part rose =
      subst (λ o. TellsWhile taken faults o a r (record { sink = p; live = true })) (sym live)
      (inl (record { still = refl; no_fault = steady refl; put = all refl }))
  told_line a r p false live all steady part rose =
      subst (λ o. TellsWhile taken faults o a r (record { sink = p; live = false })) (sym live)
      (inr (record { closed = refl; fault = rose refl; part = part refl }))

  -- ---- where lines are asked for, and where not

  told_by : (s : Solving) (asked : Bool) (a b : ProgressLines P) (was : List Reading → Type 0) (fact : Solving → List Reading → Type 0)
      → HasTold (TellsLine taken faults) (record { sink = a.sink; live = asked }) b was
      → ((rs : List Reading) → was rs → fact s rs) → TellsAsked taken faults (if asked then Some s else None) a b fact
  told_by s true a b was fact (rs, been, rise, is) so = (rs, rise, put_lines rs (record { sink = a.sink; live = true }) b refl been, so rs is)
  told_by s false a b was fact (rs, been, rise, is) so =
      ap (λ (l : ProgressLines P). l.sink) (closed_stay rs (record { sink = a.sink; live = false }) b refl been)

  pub asked_told : (s : Solving) (a b : ProgressLines P) (was : List Reading → Type 0) (fact : Solving → List Reading → Type 0)
      → HasTold (TellsLine taken faults) (record { sink = a.sink; live = s.progress }) b was
      → ((rs : List Reading) → was rs → fact s rs) → TellsAsked taken faults (rounds_of s) a b fact
  asked_told s a b was fact told so = told_by s s.progress a b was fact told so

  pub nothing_told : (asked : Option Solving) (a : ProgressLines P) (fact : Solving → List Reading → Type 0) → ((s : Solving) → fact s [])
      → TellsAsked taken faults asked a a fact
  nothing_told None a fact so = refl
  nothing_told (Some s) a fact so = ([], none_rise, inl (appends_none (taken a.sink)), so s)

-- ---- which search is asked to tell

pub told_in : (asked : Option Asked) (s : Solving) → IsToTell asked s → rounds_in asked ≡ Some s
told_in asked s (inl solves, tells) = ap rounds_in solves ∙ ap (λ b. if b then Some s else None) tells
told_in asked s (inr serves, tells) = ap rounds_in serves ∙ ap (λ b. if b then Some s else None) tells

unasked : (s : Solving) (b : Bool) → (b ≡ true → ⊥) → (if b then Some s else None) ≡ None
unasked s true none = absurd (none refl)
unasked s false none = refl

pub none_in : (asked : Option Asked) → (((s : Solving) × IsToTell asked s) → ⊥) → rounds_in asked ≡ None
none_in None none = refl
none_in (Some (to_solve s)) none = unasked s s.progress (λ tells. none (s, (inl refl, tells)))
none_in (Some (to_check s name)) none = refl
none_in (Some (to_serve s)) none = unasked s s.progress (λ tells. none (s, (inr refl, tells)))
none_in (Some (to_ground s)) none = refl
none_in (Some (to_bench places seed)) none = refl
none_in (Some (to_merge m)) none = refl
none_in (Some (to_walk w)) none = refl
none_in (Some (to_draw d)) none = refl

-- ---- of which search it is told

module _ {S : Type 0} (held : S → List ℕ → Told) (old mid new : S) (same : held mid ≡ held old) (s : Solving) (g : Ground)
    (given : MayGiveProblem (held old) s.sources (Ok g)) (a : Answer) (rs : List Reading) (told : AreToldBefore g s.effort s.sizes a rs) where
  pub told_held : {T E : Type 0} (r : Result T E) → IfOk r (λ _. held new s.certificate ≡ written (held mid s.certificate) a.certificate)
      → IfOk r (λ _. AreToldOf held old new s rs)
  told_held (Ok report) holds = record {
    g = g;
    problem = given;
    answer = a;
    told = told;
    holds = holds ∙ ap (λ h. written (h s.certificate) a.certificate) same;
  }
  told_held (Err stop) holds = tt

-- a status of a report is one of an ending with a report
no_report : (n : ℕ) → 2 ≤ n → HasReport n → ⊥
no_report n more (inl zero) = omega (arith, more, zero)
no_report n more (inr one) = omega (arith, more, one)

stop_is_no_report : (stop : Stop) → HasReport (status_of stop) → ⊥
stop_is_no_report BadWords has = no_report 2 (omega arith) has
stop_is_no_report ReadFailed has = no_report 3 (omega arith) has
stop_is_no_report WriteFailed has = no_report 4 (omega arith) has
stop_is_no_report NoMemory has = no_report 5 (omega arith) has
stop_is_no_report (Refused code file line) has = no_report 6 (omega arith) has
stop_is_no_report (NotAccepted code row) has = no_report 7 (omega arith) has
stop_is_no_report (SecondNotAccepted code row) has = no_report 7 (omega arith) has
stop_is_no_report (Limit code most) has = no_report 8 (omega arith) has

ending_reported : (ending : Ending) → HasReport (ending_status ending) → (X : Type 0) → IfOk ending (λ _. X) → X
ending_reported (Ok report) has X x = x
ending_reported (Err stop) has X x = absurd (stop_is_no_report stop has)

said_reported : (ending said : Ending) → IsSaid ending said → HasReport (ending_status said) → (X : Type 0) → IfOk ending (λ _. X) → X
said_reported ending said (inl same) has X x = ending_reported ending (subst (λ e. HasReport (ending_status e)) same has) X x
said_reported ending said (inr none) has X x = absurd (no_report 5 (omega arith) (subst (λ e. HasReport (ending_status e)) none has))

pub reported : (ending : Ending) (status : ℕ) (old new : Option (List ℕ)) → SaysPut ending status old new → HasReport status
    → (X : Type 0) → IfOk ending (λ _. X) → X
reported ending status old new says has X x = said_reported ending says.said says.is_said (subst HasReport says.status_is has) X x

pub rounds_reported : {S : Type 0} (held : S → List ℕ → Told) (old new : S) → OneProblemIsTold → (s : Solving) (t : Texts)
    → HoldsTexts (held old) s.sources t → held old s.certificate ≢ Untold → (rs : List Reading) → AreToldOf held old new s rs
    → AreRoundsOf s t (held new s.certificate) rs
rounds_reported held old new law s t texts tells rs are = record {
  g = are.g;
  problem = law (held old) s.sources t texts (Ok are.g) are.problem;
  answer = are.answer;
  told = are.told;
  holds = are.holds ∙ told_written (held old s.certificate) are.answer.certificate tells;
}
