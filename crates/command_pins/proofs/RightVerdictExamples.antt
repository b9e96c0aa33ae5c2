-- What isn't a right verdict, part by part: its values, that its reads share a cycle, and whether it is aged.
use Rattle.std.proofs.Common.{◌≡◌, List, All, refl}
use Rattle.std.specs.Prelude.{◌↔◌, IsTrue}
use Rattle.air_base.specs.declared.verdicts.Policy.TheVariants.{RMatrix}
use Rattle.air_history.specs.declared.histories.Event.{Event}
use Rattle.air_history.specs.ClashLaws.{SharesItsCycle}
use Rattle.air_history.specs.Consistency.{alone}
use Rattle.air_history.specs.Tables.{BasesRead, table, values_of}
use Rattle.air_model.specs.Decks.{Deck, values_in}
use Rattle.air_model.specs.SessionLaws.{IsAged, are_far}
use Rattle.air_model.specs.declared.reports.VerdictLine.{VerdictLine}
use Rattle.live_replay.specs.Findings.{places_read}
use Rattle.live_replay.proofs.AuditExamples.{small}
use Rattle.air_cli.specs.Headline.{IsRightVerdict, judged_on}

-- The deck under R-Matrix, under which the reads of a verdict share a cycle.
abbrev by_vectors : Deck
by_vectors = record small { settings = record small.settings { policy = RMatrix } }

record RightVerdicts : Type 0 where
  values : (H : List Event) (line : VerdictLine) → IsRightVerdict small H line
      → ((All BasesRead H → All (λ r. r.value ≡ table (values_of (values_in small)) (alone H (places_read line.reads)) r.item) line.reads) → ⊥) → ⊥
  shared : (H : List Event) (line : VerdictLine) → IsRightVerdict by_vectors H line → (SharesItsCycle RMatrix H (places_read line.reads) → ⊥) → ⊥
  aged : (H : List Event) (line : VerdictLine) → IsRightVerdict small H line → (IsAged line.verdict.kind ↔ IsTrue (are_far small.settings.version (judged_on line)) → ⊥) → ⊥

right_verdicts : RightVerdicts
right_verdicts = record {
  values = λ H line h no. no h.values;
  shared = λ H line h no. no h.shared;
  aged = λ H line h no. no (h.aged refl refl);
}
