-- Texts of which no more than so many are wanted.
--     Wanted                   distinct texts in bytewise order, and how many are wanted at most
--     none_wanted most         no texts
--     with_more s more         the texts with each of more in its place, where it is not there yet
--     IsFull s                 there are more texts than are wanted
--     IsPut old more all new   all of more are put in; or there are more texts with them than are wanted
--     AreWithin most texts x   x is these texts, or nothing where there are more than so many
use Rattle.std.specs.Prelude.{◌≡◌, ◌<◌, ℕ, Bool, true, false, List, [], length, Option, Some, None}
use Rattle.grounder.specs.texts.Texts.{with_texts}

pub record Wanted : Type 0 where
  pub texts : List (List ℕ)
  pub most : ℕ

abbrev pub none_wanted : ℕ → Wanted
none_wanted most = record { texts = []; most = most }

abbrev pub with_more : Wanted → List (List ℕ) → Wanted
with_more s more = record { texts = with_texts s.texts more; most = s.most }

abbrev pub IsFull : Wanted → Type 0
IsFull s = s.most < length s.texts

abbrev pub IsPut : Wanted → List (List ℕ) → Bool → Wanted → Type 0
IsPut old more true new = new ≡ with_more old more
IsPut old more false new = IsFull (with_more old more)

abbrev pub AreWithin : ℕ → List (List ℕ) → Option (List (List ℕ)) → Type 0
AreWithin most texts (Some x) = x ≡ texts
AreWithin most texts None = most < length texts
