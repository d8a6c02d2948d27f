-- A sweep, one id after another.
use Rattle.std.proofs.Common.{◌≡◌, ℕ, ◌+◌, ◌≤◌, [], refl, sym, subst, arith}
use mathlib.Core.Logic.{dite}
use native.Mathlib.Decide.{ℕ_discrete}
use Rattle.ground_model.specs.Ground.{Ground}
use Rattle.word_table.specs.declared.view.View.{View}
use Rattle.word_table.specs.view.Laws.{HasMore}
use Rattle.word_table.specs.Seen.{Board, Knowledge}
use Rattle.bellman_backup.specs.Scratches.{ScratchView, IsScratchOf}
use Rattle.bellman_backup.specs.Races.{has_all}
use Rattle.bellman_backup.specs.Backups.{Keeps, Narrows, PlacesNext}
use Rattle.bellman_backup.proofs.Placing.{places_between}
use Rattle.trial_workers.specs.Workers.{Stays, HasSwept, HasPlacedNext}
use Rattle.trial_workers.proofs.Passes.{stays_again, keeps_stays, narrows_wider}

pub record Sweeping (b : Board) (k l : Knowledge) (y : ScratchView) (id past : ℕ) : Type 0 where
  pub stays : Stays b k l
  pub of : IsScratchOf b y
  pub within : id ≤ past
  pub swept : HasSwept b.problem id past k.view l.view
  pub placed : HasPlacedNext b.problem id past k.view l.view

pub one_id_more : (b : Board) (k l m : Knowledge) (y z : ScratchView) (id here past : ℕ) → here + 1 ≡ id → Sweeping b k l y id past
    → Keeps b l m → IsScratchOf b z → Narrows b.problem l.view m.view here → PlacesNext b.problem l.view m.view here → Sweeping b k m z here past
one_id_more b k l m y z id here past next so keeps of narrows places = record {
  stays = stays_again b k l m so.stays (keeps_stays b l m keeps);
  of = of;
  within = (let w = so.within in omega arith);
  swept = λ j from below. dite (ℕ_discrete j here)
      (λ is. subst (Narrows b.problem k.view m.view) (sym is)
      (narrows_wider b.problem k.view l.view m.view m.view here so.stays.noted (has_all m.view) narrows))
      (λ other. narrows_wider b.problem k.view k.view l.view m.view j (has_all k.view) keeps.noted (so.swept j (omega arith) below));
  placed = λ j from below. dite (ℕ_discrete j here)
      (λ is. subst (PlacesNext b.problem k.view m.view) (sym is)
      (places_between b.problem k.view l.view m.view m.view here so.stays.noted so.stays.looks (has_all m.view) ([], refl) places))
      (λ other. places_between b.problem k.view k.view l.view m.view j (has_all k.view) ([], refl) keeps.noted keeps.looks (so.placed j (omega arith) below));
}

pub swept_more : (g : Ground) (first past : ℕ) (u v w : View) → HasMore v w → HasSwept g first past u v → HasSwept g first past u w
swept_more g first past u v w more swept j from below = narrows_wider g u u v w j (has_all u) more (swept j from below)

pub placed_more : (b : Board) (first past : ℕ) (u : View) (k l : Knowledge) → Stays b k l → HasPlacedNext b.problem first past u k.view → HasPlacedNext b.problem first past u l.view
placed_more b first past u k l stays placed j from below =
    places_between b.problem u u k.view l.view j (has_all u) ([], refl) stays.noted stays.looks (placed j from below)
