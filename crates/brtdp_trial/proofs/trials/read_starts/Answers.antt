use Rattle.std.proofs.Common.{◌≡◌, ℕ, ◌+◌, ◌<◌, subst, sym, ap, ◌∙◌, List, [], ◌∷◌, ◌++◌, length, take, arith, get_or}
use Rattle.std.specs.Prelude.{Some, slice_get, true}
use Rattle.std.proofs.lemmas.List.{take_more, map-append, length-map, length_push, take_all}
use Rattle.std.proofs.lemmas.List.Elements.{All-push, All-weaker}
use Rattle.std.proofs.lemmas.Option.{slice_get_within, get_or_from_slice_get}
use Rattle.brtdp_trial.specs.Meaning.{HasId, IsInterval, LeadsToKnown, Told, weights_of}
use Rattle.brtdp_trial.proofs.trials.read_starts.Invariants.{AreRead}
use Rattle.brtdp_trial.specs.declared.step.Step.{Step}
use Rattle.brtdp_trial.proofs.trials.read_starts.Goals as goal

taken_more : {X : Type 0} (xs ys : List X) (i : ℕ) (x : X) → ys ≡ take i xs → slice_get xs i ≡ Some x → ys ++ x ∷ [] ≡ take (i + 1) xs
taken_more xs ys i x e at =
    ap (λ l. l ++ x ∷ []) e ∙ ap (λ y. take i xs ++ y ∷ []) (sym (get_or_from_slice_get xs i x x at))
    ∙ sym (take_more xs i x (slice_get_within xs i x at))

weight_more : (ws : List ℕ) (steps : List Step) (s : Step) (i : ℕ) → weights_of steps ≡ take i ws → i < length ws → s.weight ≡ get_or ws i 0 → weights_of (steps ++ s ∷ []) ≡ take (i + 1) ws
weight_more ws steps s i e h w =
    map-append (λ (s : Step). s.weight) steps (s ∷ []) ∙ ap (λ l. l ++ s.weight ∷ []) e ∙ ap (λ n. take i ws ++ n ∷ []) w
    ∙ sym (take_more ws i 0 h)

module _ {S : Type 0} (knows : S → ℕ → Type 0) (later : S → S → Type 0) (weights : S → List ℕ) (told : Told S)
    (trans : (x y z : S) → later x y → later y z → later x z)
    (known_stays : (x y : S) (id : ℕ) → later x y → knows x id → knows y id)
    (weights_stay : (x y : S) → later x y → weights y ≡ weights x) where
  read_more : (s u v : S) (i : ℕ) (steps : List Step) (x : Step) → AreRead knows later weights told s u i steps
      → i < length (weights s) → later u v → x.weight ≡ get_or (weights u) i 0 → IsInterval x → HasId x → LeadsToKnown (knows v) x
      → (told.tells u ≡ true → (slice_get (told.starts u) i ≡ Some x) × (v ≡ u))
      → AreRead knows later weights told s v (i + 1) (steps ++ x ∷ [])
  read_more s u v i steps x r within on w interval placed known exact = record {
    since = trans s u v r.since on;
    by_weight = weight_more (weights s) steps x i r.by_weight within (w ∙ ap (λ ws. get_or ws i 0) (weights_stay s u r.since));
    count = let n = length_push steps x in let k = r.count in omega (arith, n, k);
    intervals = All-push IsInterval steps x r.intervals interval;
    placed = All-push HasId steps x r.placed placed;
    known = All-push (LeadsToKnown (knows v)) steps x (All-weaker (LeadsToKnown (knows u)) (LeadsToKnown (knows v)) (λ y k id e. known_stays u v id on (k id e)) steps r.known) known;
    exact = λ tells.
        let before = r.exact tells in
        let here = exact (subst (λ b. told.tells b ≡ true) (sym before.1) tells) in
        (taken_more (told.starts s) steps i x before.0 (subst (λ b. slice_get (told.starts b) i ≡ Some x) before.1 here.0), here.1 ∙ before.1);
  }

pub loop-i-preserved : goal.loop-i-preserved
loop-i-preserved g c =
    let s = c.args.bounds.now in
    let u = c.loop-i.bounds in
    let v = c.start-step.new.self in
    let m = g.met.B.Bounds in
    let within : c.loop-i.i < length (g.B.Bounds.weights s) = let t = c.loop-i-test.true in let n = c.start_count-count.ensures.count in omega arith in
    subst (AreRead g.B.Bounds.knows g.B.Bounds.later g.B.Bounds.weights g.B.Bounds.told s v (c.loop-i.i + 1)) (sym c.push.ensures)
    (read_more g.B.Bounds.knows g.B.Bounds.later g.B.Bounds.weights g.B.Bounds.told m.trans m.known_stays m.weights_stay
    s u v c.loop-i.i c.loop-i.starts c.start-step.result c.loop-i.invariant within c.start-step.ensures.later c.start-step.ensures.weight
    c.start-step.ensures.interval c.start-step.ensures.placed c.start-step.ensures.known c.start-step.ensures.told)

pub returns-clause-told : goal.returns-clause-told
returns-clause-told g c = λ tells.
    let r = c.loop-i.invariant.exact tells in
    let n = length-map (g.B.Bounds.told.starts c.args.bounds.now) (λ (s : Step). s.weight) in
    let w = ap length (c.start_count-count.ensures.told tells) in
    let e = c.start_count-count.ensures.count in
    let f = c.loop-i-test.false in
    (r.0 ∙ take_all c.loop-i.i (g.B.Bounds.told.starts c.args.bounds.now) (omega arith), r.1)
