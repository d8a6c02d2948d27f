-- The words of the line's forms are in lower case.
--     same_form            a form whose words are in lower case stays the same
--     domain_lower, problem_lower
use Rattle.std.proofs.Common.{◌≡◌, ℕ, zero, suc, ◌+◌, ◌^◌, ◌<◌, ◌++◌, codes, refl, ap, ◌∙◌, arith}
use Rattle.ppddl_cursor.specs.Forms.{Form, Forms, lone, group, none, more, lowered_form, lowered_forms}
use Rattle.ppddl_grammar.specs.fits.Names.{IsLower, AreLower}
use Rattle.plan_report.specs.Line.{tenths}
use Rattle.bench_line.proofs.lemmas.reading.Names.{digits_are_lower, place_is_lower, move_is_lower, line_is_lower}
use Rattle.bench_line.proofs.lemmas.reading.Spelling.{place_form, cost_form, step_form, chance_form, move_form, place_forms, move_forms, domain_form, problem_at}

mutual
  pub same_form : (f : Form) → IsLower f → lowered_form f ≡ f
  same_form (lone w a) h = ap (λ v. lone v a) h
  same_form (group a fs b) h = ap (λ gs. group a gs b) (same_forms fs h)

  pub same_forms : (fs : Forms) → AreLower fs → lowered_forms fs ≡ fs
  same_forms none h = refl
  same_forms (more f fs) h = ap (λ g. more g (lowered_forms fs)) (same_form f h.0) ∙ ap (λ gs. more f gs) (same_forms fs h.1)

place_lower : (l i : ℕ) → i < 2 ^ 64 → IsLower (place_form l i)
place_lower l i few = (place_is_lower i few, tt)

places_lower : (k a : ℕ) → a + k < 2 ^ 64 → AreLower (place_forms a k)
places_lower zero a few = tt
places_lower (suc k) a few = (place_lower 2 a (omega arith), places_lower k (a + 1) (omega arith))

cost_lower : (l : ℕ) → IsLower (cost_form l)
cost_lower l = (refl, ((refl, tt), (refl, tt)))

step_lower : (l i : ℕ) → i + 1 < 2 ^ 64 → IsLower (step_form l i)
step_lower l i few = (refl, ((refl, (place_lower l i (omega arith), tt)), (place_lower l (i + 1) few, tt)))

few_tenths : (seed i : ℕ) → tenths seed i < 2 ^ 64
few_tenths seed i = omega arith

chance_lower : (seed l i : ℕ) → i + 1 < 2 ^ 64 → IsLower (chance_form seed l i)
chance_lower seed l i few = (refl, (ap (λ ds. codes "0." ++ ds) (digits_are_lower (tenths seed i) (few_tenths seed i)), (step_lower l i few, tt)))

move_lower : (seed l i : ℕ) → i + 1 < 2 ^ 64 → IsLower (move_form seed l i)
move_lower seed l i few =
    (refl, (move_is_lower i (omega arith), (refl, (place_lower l i (omega arith), (refl, ((refl, (cost_lower l, (chance_lower seed l i few, tt))), tt))))))

moves_lower : (seed k a : ℕ) → a + k < 2 ^ 64 → AreLower (move_forms seed a k)
moves_lower seed zero a few = tt
moves_lower seed (suc k) a few = (move_lower seed (3 + a) a (omega arith), moves_lower seed k (a + 1) (omega arith))

pub domain_lower : (n m seed : ℕ) → n < 2 ^ 64 → m < 2 ^ 64 → IsLower (domain_form n m seed)
domain_lower n m seed few other =
    (refl, ((refl, (refl, tt)), ((refl, places_lower n 0 (omega arith)), moves_lower seed m 0 (omega arith))))

pub problem_lower : (l n m : ℕ) → n < 2 ^ 64 → m < 2 ^ 64 → IsLower (problem_at l n m)
problem_lower l n m few other = (
  refl,
  (
    (refl, (line_is_lower n few, tt)),
    (
      (refl, (refl, tt)),
      (
        (refl, (place_lower l 0 (omega arith), tt)),
        (
          (refl, (place_lower l m other, tt)),
          ((refl, (refl, tt)), ((refl, (refl, ((refl, tt), tt))), tt)),
        ),
      ),
    ),
  ),
)
