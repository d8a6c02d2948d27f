-- The effect of a move: it costs something, and by one draw it leaves an atom for another.
--     hop from to        one atom for another
--     draw p from to     that with some probability
--     leap p from to v   the draw, at a cost
use Rattle.std.proofs.Common.{◌≡◌, ℕ, ◌+◌, ◌-◌, ◌*◌, ◌/◌, ◌≤◌, List, [], ◌∷◌, ◌++◌, map, length, refl, ap, arith}
use Rattle.std.proofs.lemmas.List.{length-append, length-map}
use denote.Hole.Carrier.{hidden}
use Rattle.plain_list.specs.weighted.Mean.{total}
use Rattle.exact_fraction.specs.declared.fraction.Fraction.{Fraction}
use Rattle.ppddl_model.specs.declared.tree.Atom.{Atom}
use Rattle.ppddl_model.specs.declared.tree.Effect.{Effect, end_of-Branch, more_of-Branch}
use Rattle.ppddl_model.specs.declared.tree.Effect.TheVariants as effect
use Rattle.ppddl_model.specs.declared.tree.Effect.TheBlock.{shape-the_row-Effect-0, hidden-the_row-Effect-0, hidden-the_row-Effect-1, shape-the_row-Branch-2, hidden-the_row-Branch-2}
use Rattle.ppddl_model.specs.Objects.{World, Binding, ground_atom}
use Rattle.ppddl_model.specs.Changing.{literals}
use Rattle.ppddl_model.specs.Costs.{unconditional_cost}
use Rattle.ppddl_model.specs.Denominator.{share}
use Rattle.ground_model.specs.declared.action.Choice.{Choice}
use Rattle.ground_meaning.specs.choices.Numbering.{Numbering}
use Rattle.ground_meaning.specs.choices.Joint.{weight_of, idle, scaled, merged, with_rest, own_den, inner_den, den_of, choices}
use Rattle.ground_meaning.specs.choices.Limits.{widest, effect_size}
use Rattle.bench_line.proofs.lemmas.grounding.Widths.{length-merged, length-product, widest-product}
use Rattle.bench_line.proofs.lemmas.grounding.Prices.{dearest, dearest-append, dearest-merged, dearest-scaled, dearest-product}

module _ (p : Fraction) (from to : Atom) where
  abbrev pub hop : Effect
  hop = effect.Both (effect.Delete from ∷ effect.Add to ∷ [])

  abbrev pub draw : Effect
  draw = effect.Chance (record { chance = p; effect = hop } ∷ [])

  abbrev pub leap : ℕ → Effect
  leap v = effect.Both (effect.Cost v ∷ draw ∷ [])

-- ---- one branch and the rest

module _ (den k : ℕ) (cs : List Choice) where
  abbrev rested : List Choice
  rested = with_rest den (map (scaled k) cs ++ [])

  abbrev rest : List Choice
  rest = idle (den - total weight_of (map (scaled k) cs ++ [])) ∷ []

  length-rested : length (merged rested) ≤ length cs + 1
  length-rested =
      omega (arith, length-merged rested, length-append (map (scaled k) cs ++ []) rest, length-append {A = Choice} (map (scaled k) cs) [], length-map cs (scaled k))

  dearest-rested : dearest (merged rested) ≤ dearest cs
  dearest-rested =
      omega (arith, dearest-merged rested, dearest-append (map (scaled k) cs ++ []) rest, dearest-append (map (scaled k) cs) [], dearest-scaled k cs)

-- ---- a leap

module _ (w : World) (n : Numbering) (p : Fraction) (from to : Atom) (b : Binding) where
  abbrev own : ℕ
  own = own_den (more_of-Branch p (hop p from to) end_of-Branch)

  abbrev inner : ℕ
  inner = inner_den w (more_of-Branch p (hop p from to) end_of-Branch)

  abbrev factor : ℕ
  factor = share own p * (inner / den_of w (hop p from to))

  abbrev hops : List Choice
  hops = choices w n (hop p from to) b

  length-hop : length hops ≤ 1
  unfolding shape-the_row-Effect-0 hidden-the_row-Effect-0 hidden-the_row-Effect-1 shape-the_row-Branch-2 hidden-the_row-Branch-2 hidden
  length-hop = length-product 1 (choices w n (effect.Delete from) b) (choices w n (effect.Add to) b) (omega arith) (omega arith)

  widest-hop : widest w n (hop p from to) b ≤ 1
  unfolding shape-the_row-Effect-0 hidden-the_row-Effect-0 hidden-the_row-Effect-1 shape-the_row-Branch-2 hidden-the_row-Branch-2 hidden
  widest-hop =
      omega (arith, widest-product 1 (choices w n (effect.Delete from) b) (choices w n (effect.Add to) b) (omega arith) (omega arith) (omega arith))

  dearest-hop : dearest hops ≤ 0
  unfolding shape-the_row-Effect-0 hidden-the_row-Effect-0 hidden-the_row-Effect-1 shape-the_row-Branch-2 hidden-the_row-Branch-2 hidden
  dearest-hop = dearest-product (choices w n (effect.Delete from) b) (choices w n (effect.Add to) b)

  draw_is : choices w n (draw p from to) b ≡ merged (rested (own * inner) factor hops)
  unfolding shape-the_row-Effect-0 hidden-the_row-Effect-0 hidden-the_row-Effect-1 shape-the_row-Branch-2 hidden-the_row-Branch-2 hidden
  draw_is = refl

  abbrev draws : List Choice
  draws = choices w n (draw p from to) b

  length-draw : length draws ≤ 2
  length-draw = omega (arith, ap (λ (l : List Choice). length l) draw_is, length-rested (own * inner) factor hops, length-hop)

  dearest-draw : dearest draws ≤ 0
  dearest-draw = omega (arith, ap dearest draw_is, dearest-rested (own * inner) factor hops, dearest-hop)

  widest-draw : widest w n (draw p from to) b ≤ 2
  unfolding shape-the_row-Effect-0 hidden-the_row-Effect-0 hidden-the_row-Effect-1 shape-the_row-Branch-2 hidden-the_row-Branch-2 hidden
  widest-draw = omega (arith, length-draw, widest-hop)

  module _ (v : ℕ) where
    abbrev leaps : List Choice
    leaps = choices w n (leap p from to v) b

    pub length-leap : length leaps ≤ 2
    unfolding shape-the_row-Effect-0 hidden-the_row-Effect-0 hidden-the_row-Effect-1 shape-the_row-Branch-2 hidden-the_row-Branch-2 hidden
    length-leap = length-product 2 (choices w n (effect.Cost v) b) draws (omega arith) length-draw

    pub dearest-leap : dearest leaps ≤ v
    unfolding shape-the_row-Effect-0 hidden-the_row-Effect-0 hidden-the_row-Effect-1 shape-the_row-Branch-2 hidden-the_row-Branch-2 hidden
    dearest-leap = omega (arith, dearest-product (choices w n (effect.Cost v) b) draws, dearest-draw)

    pub widest-leap : widest w n (leap p from to v) b ≤ 2
    unfolding shape-the_row-Effect-0 hidden-the_row-Effect-0 hidden-the_row-Effect-1 shape-the_row-Branch-2 hidden-the_row-Branch-2 hidden
    widest-leap =
        omega (arith, widest-product 2 (choices w n (effect.Cost v) b) draws (omega arith) length-draw (omega arith), widest-draw)

    pub literals-leap : literals w (leap p from to v) b ≡ ground_atom b from ∷ ground_atom b to ∷ []
    unfolding shape-the_row-Effect-0 hidden-the_row-Effect-0 hidden-the_row-Effect-1 shape-the_row-Branch-2 hidden-the_row-Branch-2 hidden
    literals-leap = refl

module _ (w : World) (p : Fraction) (from to : Atom) (v : ℕ) where
  pub size-leap : effect_size w (leap p from to v) ≡ 7
  unfolding shape-the_row-Effect-0 hidden-the_row-Effect-0 hidden-the_row-Effect-1 shape-the_row-Branch-2 hidden-the_row-Branch-2 hidden
  size-leap = refl

  pub den-leap : den_of w (leap p from to v) ≤ p.den
  unfolding shape-the_row-Effect-0 hidden-the_row-Effect-0 hidden-the_row-Effect-1 shape-the_row-Branch-2 hidden-the_row-Branch-2 hidden
  den-leap = omega arith

  pub sure-leap : unconditional_cost w (leap p from to v) ≡ v
  unfolding shape-the_row-Effect-0 hidden-the_row-Effect-0 hidden-the_row-Effect-1 shape-the_row-Branch-2 hidden-the_row-Branch-2 hidden
  sure-leap = omega arith
