-- Ids that are claimed, and states that are put under them.
use Rattle.std.proofs.Common.{◌≡◌, ℕ, ◌≤◌, nat_eq, ◌&&◌, List, length, Some, None, refl, sym, ap, ◌∙◌, subst, arith}
use Rattle.std.specs.Prelude.{IsTrue, is_some}
use Rattle.ground_model.specs.Packed.{State}
use Rattle.word_table.specs.declared.layout.Layout.{Layout}
use Rattle.word_table.specs.declared.view.notes.Look.TheVariants.{End, Empty}
use Rattle.word_table.specs.declared.view.notes.StateWord.{StateWord}
use Rattle.word_table.specs.declared.view.View.{View}
use Rattle.word_table.specs.view.Views.{has_words, has_state, IsWritten, IsClear, IsReached, CanPublish}
use Rattle.word_table.specs.view.Steps.{with_count, with_spare, with_published}
use Rattle.word_table.proofs.lemmas.view.Noting.{draft_is_had}
use Rattle.word_table.specs.rule.Told.{TellsCount}
use Rattle.word_table.specs.Seen.{Board, Knowledge, HasMoved, knowledge}
use Rattle.state_interner.specs.declared.turn.Turn.{Turn}
use Rattle.state_interner.specs.declared.turn.Turn.TheVariants.{Own, Other, Free}
use Rattle.state_interner.specs.declared.interned.Interned.{Interned}
use Rattle.state_interner.specs.declared.interned.Interned.TheVariants.{Id, Full}
use Rattle.state_interner.specs.Interned.{HasLooked, GoesOn, HasOwn, IsMissing, IsFull, InternTells}
use Rattle.state_interner.specs.Turns.{TurnTells, WritesDraft, IsEnd}
use Rattle.state_interner.proofs.Going.{goes_then, count_goes, spare_goes, draft_goes, count_looks, looked_since, looked_still}
use Rattle.state_interner.proofs.Turns.{clear_later, reached_later}

-- ---- claims

-- so far the pass has found this count, and no state
pub record Claims (b : Board) (old now : Knowledge) (from : ℕ) : Type 0 where
  pub goes : GoesOn b old now
  pub spare : now.view.spare ≡ None
  pub count : now.view.count ≡ from
  pub words : now.view.words ≡ old.view.words
  pub within : from ≤ b.layout.ids
  pub end : from ≡ b.layout.ids → HasLooked old.view now.view End

-- a count that was found
counted : (b : Board) (old now new : Knowledge) (n : ℕ) → GoesOn b old now → now.view.spare ≡ None → now.view.words ≡ old.view.words
    → TellsCount now.view n → new ≡ knowledge now.table (with_count now.view n) → Claims b old new n
counted b old now new n goes none words told is =
    let ids : now.view.layout.ids ≡ b.layout.ids = ap (λ (l : Layout). l.ids) goes.here.view.layout in record {
      goes = goes_then b old now new goes (count_goes b now new goes.here n told.greater is);
      spare = ap (λ (k : Knowledge). k.view.spare) is ∙ none;
      count = ap (λ (k : Knowledge). k.view.count) is;
      words = ap (λ (k : Knowledge). k.view.words) is ∙ words;
      within = (let few = told.within in omega arith);
      end = λ all. subst (λ (k : Knowledge). HasLooked old.view k.view End) (sym is)
          (looked_since old.view now.view (with_count now.view n) End goes.looks (count_looks now.view n (all ∙ sym ids)));
    }

pub claims_begin : (b : Board) (old new : Knowledge) (n : ℕ) → GoesOn b old old → old.view.spare ≡ None
    → TellsCount old.view n → new ≡ knowledge old.table (with_count old.view n) → Claims b old new n
claims_begin b old new n stays none told is = counted b old old new n stays none refl told is

pub claims_more : (b : Board) (old now new : Knowledge) (from found : ℕ) → Claims b old now from → HasMoved now from found new → Claims b old new found
claims_more b old now new from found claims moved = counted b old now new found claims.goes claims.spare claims.words moved.told moved.seen

pub claim_goes : (b : Board) (old now new : Knowledge) (from : ℕ) → Claims b old now from → new ≡ knowledge now.table (with_spare now.view from) → GoesOn b old new
claim_goes b old now new from claims is =
    goes_then b old now new claims.goes (spare_goes b now new claims.goes.here from (let same = claims.count in omega arith) is)

-- ---- states that are put

pub drafted_spare : (spared drafted : Knowledge) (id : ℕ) → spared.view.spare ≡ Some id → WritesDraft spared drafted → drafted.view.spare ≡ Some id
drafted_spare spared drafted id spare draft = ap (λ (k : Knowledge). k.view.spare) draft.1 ∙ spare

pub published_is_own : (mid new : Knowledge) (s : State) (id bucket : ℕ) → mid.view.spare ≡ Some id → IsWritten mid.view s
    → new ≡ knowledge mid.table (with_published mid.view bucket) → HasOwn new.view s id
published_is_own mid new s id bucket spare written is =
    let had = draft_is_had mid.view s id bucket written spare in
    subst (λ (k : Knowledge). HasOwn k.view s id) (sym is) record { known = had.1; state = had.2 }

pub can_publish : (b : Board) (old spared drafted : Knowledge) (s : State) (id bucket : ℕ) → GoesOn b old spared → spared.view.spare ≡ Some id
    → WritesDraft spared drafted → IsWritten drafted.view s → IsClear old.view s bucket → IsReached old.view s → CanPublish drafted.view s bucket
can_publish b old spared drafted s id bucket goes spare draft written clear reached =
    let all = goes_then b old spared drafted goes (draft_goes b spared drafted goes.here draft.0 draft.1) in record {
      spare = ap is_some (drafted_spare spared drafted id spare draft);
      written = written;
      clear = clear_later old.view drafted.view s bucket all.noted clear;
      reached = reached_later old.view drafted.view s all.noted reached;
    }

same_states : (v w : View) (id : ℕ) (s : State) → w.layout ≡ v.layout → w.words ≡ v.words → IsTrue (has_state w id s) → IsTrue (has_state v id s)
same_states v w id s layout words has =
    subst (λ (l : Layout). IsTrue (nat_eq (length s) l.width && has_words v.words id 0 s)) layout
    (subst (λ (ns : List StateWord). IsTrue (nat_eq (length s) w.layout.width && has_words ns id 0 s)) words has)

pub missing_is_full : (b : Board) (old mid new : Knowledge) (s : State) → GoesOn b old mid → GoesOn b mid new
    → IsMissing old.view s mid.view → IsEnd mid.view new.view → IsFull old.view s new.view
missing_is_full b old mid new s first second missing is_end = record {
  missing = record {
    bucket = missing.bucket;
    empty = looked_still old.view mid.view new.view (Empty missing.bucket) missing.empty second.looks;
    clear = clear_later mid.view new.view s missing.bucket second.noted missing.clear;
    none = λ id has. missing.none id (same_states mid.view new.view id s second.noted.layout is_end.words has);
  };
  end = looked_since old.view mid.view new.view End first.looks is_end.end;
  count = is_end.count;
  spare = is_end.spare;
}

pub full_since : (b : Board) (old now : Knowledge) (s : State) (w : View) → GoesOn b old now → IsFull now.view s w → IsFull old.view s w
full_since b old now s w goes full = record {
  missing = record {
    bucket = full.missing.bucket;
    empty = looked_since old.view now.view w (Empty full.missing.bucket) goes.looks full.missing.empty;
    clear = full.missing.clear;
    none = full.missing.none;
  };
  end = looked_since old.view now.view w End goes.looks full.end;
  count = full.count;
  spare = full.spare;
}

pub tells_since : (b : Board) (old now : Knowledge) (s : State) (found : Interned) (w : View) → GoesOn b old now
    → InternTells now.view s found w → InternTells old.view s found w
tells_since b old now s (Id id) w goes told = told
tells_since b old now s Full w goes told = full_since b old now s w goes told

pub tells_else : (p q : Type 0) (s : State) (bucket : ℕ) (t : Turn) (v : View) → (p → q) → TurnTells p s bucket t v → TurnTells q s bucket t v
tells_else p q s bucket (Own id) v then told = told
tells_else p q s bucket Other v then told = told
tells_else p q s bucket Free v then told = then told
