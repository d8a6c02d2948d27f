-- The atoms that hold in some row.
use Rattle.std.proofs.Common.{◌≡◌, ℕ, ◌*◌, ◌<◌, ◌≤◌, true, ◌&&◌, List, length, sym, ap, subst, ◌∙◌, arith}
use Rattle.std.specs.Prelude.{Contains, AllPairs, nat_lt}
use Rattle.std.specs.List.{range_with_len}
use Rattle.std.proofs.lemmas.Bool.{lt-ltb, and_parts}
use Rattle.std.proofs.lemmas.List.FromFn.{length-range_with_len}
use Rattle.plain_list.proofs.Members.{Contains-flat_map, Contains-flat_map_cases}
use Rattle.ground_model.specs.Packed.{State, has_bit, packed, words_for}
use Rattle.ground_model.specs.Choices.{is_member}
use Rattle.ground_model.specs.Ground.{Ground}
use Rattle.ground_model.proofs.Packed.{has_bit-packed, length-packed}
use Rattle.ground_step.specs.Edits.{with_atoms}
use Rattle.ground_step.proofs.Edits.{with_atoms-none}
use Rattle.plan_report.specs.certificates.RowsKept.{KeptRow}
use Rattle.plan_report.specs.certificates.Kept.{nothing, atoms_in, used_atoms}
use Rattle.plan_report.proofs.lemmas.certificates.Lists.{filter_at_most}
use Rattle.plan_report.proofs.lemmas.certificates.AtomSets.{member_is, is_member_of, atoms_rise, atom_holds, holding_atom, few_words}

module _ (g : Ground) (rows : List KeptRow) where
  abbrev pub width : ℕ
  width = words_for (length g.atoms)

  abbrev pub marks : State
  marks = with_atoms (nothing width) (atoms_in rows)

  marks_are : marks ≡ packed (is_member (atoms_in rows)) width
  marks_are = with_atoms-none width (atoms_in rows)

  bit_is : (q : ℕ) → has_bit marks q ≡ (nat_lt q (64 * width) && is_member (atoms_in rows) q)
  bit_is q = ap (λ s. has_bit s q) marks_are ∙ has_bit-packed (is_member (atoms_in rows)) width q

  pub marks_long : length marks ≡ width
  marks_long = ap length marks_are ∙ length-packed (is_member (atoms_in rows)) width

  pub used_rise : AllPairs (λ p q. p < q) (used_atoms g rows)
  used_rise = atoms_rise marks

  pub used_few : length g.atoms ≤ 1024 → length (used_atoms g rows) ≤ 1024
  used_few few =
      let a = filter_at_most (has_bit marks) (range_with_len 0 (64 * length marks)) in
      let b = length-range_with_len 0 (64 * length marks) in
      let c = marks_long in let d = few_words (length g.atoms) few in omega arith

  pub used_from : (q : ℕ) → Contains (used_atoms g rows) q → (r : KeptRow) × Contains rows r × Contains r.atoms q
  used_from q inside =
      let on : (nat_lt q (64 * width) && is_member (atoms_in rows) q) ≡ true = sym (bit_is q) ∙ atom_holds marks q inside in
      Contains-flat_map_cases (λ (x : KeptRow). x.atoms) rows q
      (is_member_of (atoms_in rows) q (and_parts (nat_lt q (64 * width)) (is_member (atoms_in rows) q) on).1)

  pub used_has : (r : KeptRow) → Contains rows r → (q : ℕ) → Contains r.atoms q → q < length g.atoms → Contains (used_atoms g rows) q
  used_has r there q inside small =
      let within : q < 64 * width = omega (arith, small) in
      let member : is_member (atoms_in rows) q ≡ true
      = member_is (atoms_in rows) q (Contains-flat_map (λ (x : KeptRow). x.atoms) rows r q there inside) in
      holding_atom marks q
      (bit_is q ∙ ap (λ b. b && is_member (atoms_in rows) q) (lt-ltb q (64 * width) within) ∙ member)
      (subst (λ k. q < 64 * k) (sym marks_long) within)
