-- What contracts see of words and passes.
--     Board                      the problem, the layout and the claim rights of words, and which table they are
--     Knowledge                  the table of a pass, and its view
--     IsOf b k                   a pass of these words: its view steps, and is of their problem and layout
--     IsWithin v                 ids that a view knows, or holds as a spare, are ids of the table
--     ClaimTells old from r new  what a claim leaves: the id and a spare, or the count that was found, which is greater
--     HoldsId b old bucket id new
--                                what is left where a bucket holds an id
--     FindsEmpty old bucket new  what is left where a bucket was found empty
--     HasPublished old bucket new
--                                what is left where the spare is published in a bucket
--     with_rights n v            v with so many claim rights
use Rattle.std.specs.Prelude.{◌≡◌, ℕ, ◌<◌, Some, All}
use Rattle.atomic_table.specs.Seated.{TableId}
use Rattle.ground_model.specs.Ground.{Ground}
use Rattle.word_table.specs.declared.layout.Layout.{Layout}
use Rattle.word_table.specs.declared.view.View.{View}
use Rattle.word_table.specs.view.Steps.{with_spare, with_count, with_held, with_empty, with_published}
use Rattle.word_table.specs.rule.Told.{TellsCount}
use Rattle.word_table.specs.rule.Laws.{IsViewOf}
use Rattle.word_table.specs.declared.claimed.Claim.{Claim}
use Rattle.word_table.specs.declared.claimed.Claim.TheVariants.{Own, Moved}

pub record Board : Type 0 where
  pub problem : Ground
  pub layout : Layout
  pub most : ℕ
  pub table : TableId

pub record Knowledge : Type 0 where
  pub table : TableId
  pub view : View

abbrev pub board : Ground → Layout → ℕ → TableId → Board
board g l most t = record { problem = g; layout = l; most = most; table = t }

abbrev pub knowledge : TableId → View → Knowledge
knowledge t v = record { table = t; view = v }

pub record IsOf (b : Board) (k : Knowledge) : Type 0 where
  pub table : k.table ≡ b.table
  pub view : IsViewOf b.problem b.layout k.view

pub record IsWithin (v : View) : Type 0 where
  pub known : All (λ id. id < v.layout.ids) v.known
  pub spare : (id : ℕ) → v.spare ≡ Some id → id < v.layout.ids

pub record HasMoved (old : Knowledge) (from found : ℕ) (new : Knowledge) : Type 0 where
  pub greater : from < found
  pub told : TellsCount old.view found
  pub seen : new ≡ knowledge old.table (with_count old.view found)

abbrev pub ClaimTells : Knowledge → ℕ → Claim → Knowledge → Type 0
ClaimTells old from (Own id) new =
    (id ≡ from) × (new ≡ knowledge old.table (with_spare old.view from))
ClaimTells old from (Moved found) new = HasMoved old from found new

pub record HoldsId (b : Board) (old : Knowledge) (bucket id : ℕ) (new : Knowledge) : Type 0 where
  pub within : id < b.layout.ids
  pub seen : new ≡ knowledge old.table (with_held old.view bucket id)

abbrev pub FindsEmpty : Knowledge → ℕ → Knowledge → Type 0
FindsEmpty old bucket new = new ≡ knowledge old.table (with_empty old.view bucket)

abbrev pub HasPublished : Knowledge → ℕ → Knowledge → Type 0
HasPublished old bucket new = new ≡ knowledge old.table (with_published old.view bucket)

abbrev pub with_rights : ℕ → View → View
with_rights n v = record v { rights = n }
