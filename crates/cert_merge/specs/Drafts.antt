-- A certificate but for its interval.
--     drafted penalty lower upper draft
--                           the certificate of version 2 of these parts
--     IsDraftOf c d draft   its rows are those of two certificates together, and it has the form of a certificate
--     HasFewAtoms c d       the atoms of both are at most MOST_COUNT
--     Drafts c d result     the result is such a draft; `Rows` where there are more than MOST_COUNT rows; or want of memory
--     IsFormed g draft      it has the form of a certificate with the problem's penalty
--     AreKnown g draft      the problem has the atoms of its rows
--     raw_high g draft s    the upper value of a state but for goals
--     IsReadAs g draft s b  these are the values of the state
--     IsEndsOf g c ends     the interval of the certificate's readings over the starts, in range
use Rattle.std.specs.Prelude.{◌≡◌, ℕ, ◌<◌, ◌≤◌, true, length, Contains, None, Some, Result, Ok, Err}
use Rattle.certificate.specs.declared.limits.TheConstants.{MOST_COUNT, MOST_UNITS}
use Rattle.certificate.specs.Content.{Content, content_of, IsCertificate, named_rows}
use Rattle.certificate.specs.Rows.{Row}
use Rattle.certificate_check.specs.Claims.{knows, rows_of, low_in, high_in}
use Rattle.decision_process.specs.Readings.{row_at}
use Rattle.ground_model.specs.Packed.{State, same_state}
use Rattle.decision_process.specs.Balanced.{IsInterval}
use Rattle.ground_model.specs.Ground.{Ground}
use Rattle.ground_model.specs.Steps.{ground_starts}
use Rattle.cert_merge.specs.declared.draft.Draft.{Draft}
use Rattle.cert_merge.specs.declared.reading.Bounds.{Bounds}
use Rattle.cert_merge.specs.declared.ends.Ends.{Ends}
use Rattle.cert_merge.specs.declared.refusal.MergeRefusal.{MergeRefusal}
use Rattle.cert_merge.specs.declared.refusal.MergeRefusal.TheVariants.{Rows, Memory}
use Rattle.cert_merge.specs.Pairs.{merged_of}
use Rattle.cert_merge.specs.Tables.{joined}

abbrev pub drafted : ℕ → ℕ → ℕ → Draft → Content
drafted penalty lower upper draft = content_of 2 penalty lower upper draft.atoms draft.acts draft.rows

pub record IsDraftOf (c d : Content) (draft : Draft) : Type 0 where
  pub form : IsCertificate (drafted c.penalty 0 0 draft)
  pub rows : named_rows (drafted c.penalty 0 0 draft) ≡ merged_of c d

abbrev pub HasFewAtoms : Content → Content → Type 0
HasFewAtoms c d = IsCertificate c → IsCertificate d → length (joined c d) ≤ MOST_COUNT

abbrev pub Drafts : Content → Content → Result Draft MergeRefusal → Type 0
Drafts c d (Ok draft) = IsDraftOf c d draft
Drafts c d (Err Rows) = MOST_COUNT < length (merged_of c d)
Drafts c d (Err Memory) = Unit {0}

pub record IsEndsOf (g : Ground) (c : Content) (ends : Ends) : Type 0 where
  pub interval : IsInterval (low_in g c) (high_in g c) (ground_starts g) g.start_den ends.lower ends.upper
  pub lower_in : ends.lower ≤ MOST_UNITS
  pub upper_in : ends.upper ≤ MOST_UNITS

module _ (g : Ground) (draft : Draft) where
  abbrev pub own : Content
  own = drafted g.penalty 0 0 draft

  abbrev pub IsFormed : Type 0
  IsFormed = IsCertificate own

  abbrev pub AreKnown : Type 0
  AreKnown = (r : Row) → Contains draft.rows r → knows g own r ≡ true

  abbrev pub raw_high : State → ℕ
  raw_high s = elim (row_at same_state (rows_of g own draft.rows) s) [ None ↦ g.penalty | Some row ↦ row.upper ]

  pub record IsReadAs (s : State) (b : Bounds) : Type 0 where
    pub lower : b.lower ≡ low_in g own s
    pub upper : b.upper ≡ high_in g own s
