-- What a function answered against a definition: they agree, unless memory ran out.
--     GivesCertificate view result read    the result, seen by view, is what the definition gives
--     Writes most text result              the result is the text, or the refusal of a longer one
--     Appends most text old new result     the text was put behind the old bytes, if it fits
use Rattle.std.specs.Prelude.{◌≡◌, ℕ, ◌<◌, ◌≤◌, List, ◌++◌, length, Result, Ok, Err}
use Rattle.plain_list.specs.declared.Bytes.{Bytes}
use Rattle.certificate.specs.declared.refusal.CertRefusal.{CertRefusal}
use Rattle.certificate.specs.declared.refusal.CertRefusal.TheVariants as refusals
use Rattle.certificate.specs.declared.refusal.WriteRefusal.{WriteRefusal}
use Rattle.certificate.specs.declared.refusal.WriteRefusal.TheVariants as unwritten

-- e is the refusal that the definition gives, or want of memory
abbrev pub Refuses : {Y : Type 0} → CertRefusal → Result Y CertRefusal → Type 0
Refuses refusals.Memory read = Unit {0}
Refuses e read = read ≡ Err e

abbrev pub GivesCertificate : {X Y : Type 0} → (X → Y) → Result X CertRefusal
    → Result Y CertRefusal → Type 0
GivesCertificate view (Ok x) read = read ≡ Ok (view x)
GivesCertificate view (Err e) read = Refuses e read

abbrev pub Writes : ℕ → List ℕ → Result Bytes WriteRefusal → Type 0
Writes most text (Ok bytes) = (bytes ≡ text) × (length text ≤ most)
Writes most text (Err unwritten.TooLong) = most < length text
Writes most text (Err unwritten.Memory) = Unit {0}

-- the text was put behind the old bytes, or they would be above this length together
abbrev pub Appends : ℕ → List ℕ → List ℕ → List ℕ → Result (Unit {0}) WriteRefusal → Type 0
Appends most text old new (Ok done) = new ≡ old ++ text
Appends most text old new (Err unwritten.TooLong) = most < length (old ++ text)
Appends most text old new (Err unwritten.Memory) = Unit {0}
