-- What a pass that races keeps.
use Rattle.std.proofs.Common.{◌≡◌, ℕ, ◌<◌, true, nat_eq, Some, List, [], ◌∷◌, length, refl, sym, ◌∙◌, subst, ⊎_elim, arith}
use Rattle.std.specs.Prelude.{Contains}
use Rattle.std.specs.List.{list_any}
use Rattle.std.proofs.lemmas.Bool.{eq-eqb, eqb-true, or_left, or_right}
use Rattle.std.proofs.lemmas.Map.Views.{Contains-from_any}
use Rattle.plain_list.proofs.Members.{Contains-nil, Contains-cons_cases}
use Rattle.word_table.specs.view.Views.{knows}
use Rattle.word_table.specs.Seen.{Board, Knowledge, IsOf}
use Rattle.bellman_backup.specs.Scratches.{ScratchView, IsScratchOf}
use Rattle.bellman_backup.specs.Races.{IsReady, IsRacing, Races}
use Rattle.bellman_backup.specs.Backups.{Keeps}

any_there : (ks : List ℕ) (q : ℕ) → Contains ks q → list_any (nat_eq q) ks ≡ true
any_there [] q there = absurd (Contains-nil q there)
any_there (k ∷ ks) q there = ⊎_elim
    (λ same. or_left (nat_eq q k) (list_any (nat_eq q) ks) (eq-eqb q k (sym same)))
    (λ later. or_right (nat_eq q k) (list_any (nat_eq q) ks) (any_there ks q later))
    (Contains-cons_cases k ks q there)

known_again : (ks : List ℕ) (q : ℕ) → list_any (nat_eq q) ks ≡ true → Contains ks q
known_again ks q on = Contains-from_any {eq = nat_eq} eqb-true q ks on

pub racing_is_ready : (b : Board) (k : Knowledge) (x : ScratchView) → IsRacing b k x → IsReady b k x
racing_is_ready b k x is = record {
  here = is.here;
  right = is.right;
  scratch = is.scratch;
  starts = λ id below. known_again k.view.known id (is.starts id below);
}

pub ready_is_racing : (b : Board) (k : Knowledge) (x : ScratchView) → IsReady b k x → IsRacing b k x
ready_is_racing b k x is = record {
  here = is.here;
  right = is.right;
  scratch = is.scratch;
  starts = λ id below. any_there k.view.known id (is.starts id below);
}

pub races_still : (b : Board) (k l : Knowledge) (x y : ScratchView) → IsRacing b k x → Keeps b k l → IsScratchOf b y → IsRacing b l y
races_still b k l x y is keeps of = record {
  here = keeps.here;
  right = (let r = is.right in let e = keeps.rights in omega arith);
  scratch = of;
  starts = λ id below. any_there l.view.known id (keeps.noted.known id (known_again k.view.known id (is.starts id below)));
}

pub races_by : (b : Board) (k l : Knowledge) (x y : ScratchView) → IsOf b k → Keeps b k l → y.problem ≡ x.problem → Races b k x b l y
races_by b k l x y of keeps same = record {
  words = refl;
  table = keeps.here.table ∙ sym of.table;
  live = keeps.here.view.live ∙ sym of.view.live;
  noted = keeps.noted;
  looks = keeps.looks;
  rights = keeps.rights;
  problem = same;
}

some_is : (i j : ℕ) → Some i ≡ Some j → i ≡ j
some_is i j same = cc

pub start_is_known : (b : Board) (k l : Knowledge) (x : ScratchView) (index : ℕ) → IsRacing b k x → Keeps b k l → index < length b.problem.starts
    → (id : ℕ) → Some index ≡ Some id → knows l.view id
start_is_known b k l x index is keeps below id same =
    subst (knows l.view) (some_is index id same) (keeps.noted.known index ((racing_is_ready b k x is).starts index below))
