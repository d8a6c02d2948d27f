-- The field says only that a proof of what is kept exists. An entailment is a proposition, so the proof may be opened in front of the walk
-- that the check made.
use seplogic.Bi.Basic.{Entails-prop}
use mathlib.Core.Logic.{∥∥₁_elim}
use base.Logic.{via, mono_r}
use denote.Triple.Entry.{on_entry}
use borrow.Fn.Kinds.{sig_of}
use contract.Monad.{fact_mono}
use Rattle.lower_seed.specs.Rules.{BoundsFromBelow}
use Rattle.lower_seed.proofs.seed.Seed.keeps.Statement.{statement}
use Rattle.lower_seed.proofs.seed.Seed.keeps.Lts as lts
use Rattle.lower_seed.proofs.seed.Seed.keeps.Reads as reads
use Rattle.lower_seed.proofs.seed.Seed.keeps.Tie as tie

pub keeps_spec : {M : Type 1} → statement M
keeps_spec {M} =
    tie.close (λ R L g d dd w met dropped 𝓤 𝓛 𝓣 y.
    ∥∥₁_elim y.0.3.0.now.keeps (Entails-prop 𝓤.op _ _) (λ is.
    via 𝓤 _ (mono_r 𝓤 (on_entry 𝓛 (sig_of 3 (lts.ps R L g d dd) (lts.r R L g d dd)) y.0.0 y.0.1 y.0.3 y.0.4) (fact_mono 𝓤 _ (BoundsFromBelow g.takes g.answers y.0.3.0.now.problem.now y.0.3.0.now.rule) (λ _. is)))
    (lts.spec R L g d dd (λ κs a. BoundsFromBelow g.takes g.answers a.0.now.problem.now a.0.now.rule) (reads.Post R L g d dd) (λ c. c.requires) 𝓤 𝓛 𝓣 y)))
