-- Turns of a run, while a table is made.
use Rattle.std.proofs.Common.{◌≡◌, ◌≢◌, ℕ, ◌+◌, ◌-◌, ◌*◌, ◌/◌, ◌%◌, ◌<◌, List, length, sym, ap, ◌∙◌, subst, arith}
use Rattle.std.proofs.Math.Nat.{mod-add-div, add-mul-mod_self_left}
use mathlib.Core.Logic.{dite}
use native.Mathlib.Decide.{ℕ_discrete, dec_le}
use Rattle.atomic_table.proofs.Lists.{one_turn}
use Rattle.ground_model.specs.Ground.{Ground}
use Rattle.ground_model.specs.Packed.{State}
use Rattle.word_table.specs.declared.layout.Layout.{Layout}
use Rattle.word_table.specs.layout.Places.{turn, bucket_at, IsLayout}
use Rattle.word_table.proofs.lemmas.layout.Places.{turns_are_buckets}
use Rattle.word_table.specs.rule.Made.{AreMade}
use Rattle.word_table.proofs.lemmas.rule.Lists.{pigeons}
use Rattle.word_table.specs.rule.Words.{word, held_in}
use Rattle.word_table.specs.Made.{AllTaken, HasFree, IsFree}

pub same_turn : (l : Layout) (hash k : ℕ) → (hash % l.buckets + k) % l.buckets ≡ turn l hash k
same_turn l hash k =
    let n : ℕ = l.buckets in
    let parts = mod-add-div hash n in
    let whole : hash + k ≡ (hash % n + k) + n * (hash / n) = omega arith in
    sym (ap (λ i. i % n) whole ∙ add-mul-mod_self_left (hash % n + k) n (hash / n))

pub one_more : (l : Layout) (ws : List ℕ) (hash k : ℕ) → held_in ws (turn l hash k) ≢ 0 → AllTaken l ws hash k → AllTaken l ws hash (k + 1)
one_more l ws hash k full all m below = dite (ℕ_discrete m k)
    (λ same. subst (λ i. held_in ws (turn l hash i) ≢ 0) (sym same) full)
    (λ other. all m (omega arith))

pub bucket_is : (l : Layout) (hash buckets k : ℕ) → buckets ≡ l.buckets → (hash % buckets + k) % l.buckets ≡ turn l hash k
bucket_is l hash buckets k same = ap (λ n. (hash % n + k) % l.buckets) same ∙ same_turn l hash k

pub first_free : (l : Layout) (ws : List ℕ) (hash place k i : ℕ) → IsLayout l → place ≡ turn l hash k → i ≡ bucket_at place → word ws i ≡ 0
    → AllTaken l ws hash k → IsFree l ws hash place
first_free l ws hash place k i layout same at empty all = record {
  bucket = subst (λ b. b < l.buckets) (sym same) (turns_are_buckets l layout hash k);
  empty = ap (word ws) (sym at) ∙ empty;
  turns = k;
  here = sym same;
  taken = all;
}

pub not_free : (l : Layout) (ws : List ℕ) (hash place k i : ℕ) → place ≡ turn l hash k → i ≡ bucket_at place → (word ws i ≡ 0 → ⊥)
    → AllTaken l ws hash k → AllTaken l ws hash (k + 1)
not_free l ws hash place k i same at full all = one_more l ws hash k
    (λ z. full (ap (word ws) at ∙ (ap (held_in ws) same ∙ z))) all

-- words as a table is made have more buckets than ids, so each run has an empty one
pub made_has_free : (g : Ground) (l : Layout) (states : List State) (ws : List ℕ) (hash : ℕ) → IsLayout l → AreMade g l states ws → HasFree l ws hash
made_has_free g l states ws hash layout made all =
    let at : (j : ℕ) → ℕ = λ j. turn l hash j in
    let small : (j : ℕ) → at j < l.buckets = turns_are_buckets l layout hash in
    let few = pigeons (length states) l.buckets (λ j. held_in ws (at j) - 1)
    (λ j below. let full = all j below in made.only (held_in ws (at j) - 1) (at j, small j, omega arith))
    (λ i j below below' same.
    let full = all i below in let full' = all j below' in
    let words : held_in ws (at i) ≡ held_in ws (at j) = omega arith in
    let bucket : at i ≡ at j = made.once (at i) (at j) (small i) (small j) full words in
    dite (dec_le i j)
    (λ le. let turn_is = one_turn (hash + i) (hash + j) l.buckets (omega arith) (omega arith) bucket in omega arith)
    (λ gt. let turn_is = one_turn (hash + j) (hash + i) l.buckets (omega arith) (omega arith) (sym bucket) in omega arith)) in
    let within = made.few in
    let free = layout.buckets.1 in
    let some_ids = layout.some_ids in omega arith
