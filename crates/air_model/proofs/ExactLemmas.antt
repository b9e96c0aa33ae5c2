-- Under F-Matrix each verdict is exact: what it tells of the reads rules out every other verdict.
use Rattle.std.proofs.Common.{◌≡◌, ◌∷◌, ◌++◌, ℕ, true, false, List, [], length, map, get_or, refl, sym, ◌∙◌, ap, arith, Option, All, IsTrue}
use Rattle.std.proofs.lemmas.Bool.{false≢true}
use Rattle.std.proofs.lemmas.List.{length-map}
use Rattle.air_base.specs.declared.verdicts.VerdictKind.{VerdictKind}
use Rattle.air_base.specs.declared.verdicts.VerdictKind.TheVariants.{Accept, Abort, Aged, Unfinished}
use Rattle.air_base.specs.declared.verdicts.Policy.TheVariants.{FMatrix}
use Rattle.air_history.specs.declared.histories.Event.{Event}
use Rattle.air_history.specs.Reads.{ReadAt}
use Rattle.air_model.specs.Sessions.{session, Reader}
use Rattle.air_model.specs.Judges.{by_history}
use Rattle.air_model.specs.SessionLaws.{CyclesFromOne, IsExact, IsExactLine, QueriesFilled, are_far, decided_on, reads_at}
use Rattle.air_model.specs.Aired.{Air}
use Rattle.air_model.specs.Buckets.{Bucket}
use Rattle.air_model.proofs.SoundLemmas.{Tells, TellsSpan, verdict}

-- Reads that aren't too far apart aren't aged.
not_far : (version : ℕ) (R : List ReadAt) → are_far version R ≡ false → IsTrue (are_far version R) → ⊥
not_far version R near far = let no : false ≡ true = sym near ∙ far in false≢true no

exact_from : (version : ℕ) (H : List Event) (query : List ℕ) (kind : VerdictKind) (R : List ReadAt) → Tells H query kind R → TellsSpan version kind (decided_on kind R) →
    IsExact version H query kind (decided_on kind R)
unfolding Tells
exact_from version H query Accept R t near = record {
  aged = (λ no. absurd no, λ far. absurd (not_far version R near far));
  accepted = (λ _. (near, t.0, t.1), λ _. refl);
  aborted = (λ no. absurd no, λ no. no.1 t.1);
  unfinished = (λ e. cc, λ u. absurd (u.2 t.0));
}
exact_from version H query (Abort item cycle clash) R t near = record {
  aged = (λ no. absurd no, λ far. absurd (not_far version (R ++ record { item = item; cycle = cycle } ∷ []) near far));
  accepted = (λ e. cc, λ a. absurd (t.1 a.2));
  aborted = (λ _. (near, t.1), λ _. tt);
  unfinished = (λ e. cc, λ u. absurd (t.1 u.1));
}
exact_from version H query (Aged item cycle) R t far =
    let all = R ++ record { item = item; cycle = cycle } ∷ [] in
    record {
      aged = (λ _. far, λ _. tt);
      accepted = (λ e. cc, λ a. absurd (not_far version all a.0 far));
      aborted = (λ no. absurd no, λ a. absurd (not_far version all a.0 far));
      unfinished = (λ e. cc, λ u. absurd (not_far version all u.0 far));
    }
exact_from version H query Unfinished R t near =
    let missing : map (λ r. r.item) R ≡ query → ⊥ = λ e. let long : length (map (λ r. r.item) R) ≡ length query = ap length e in let less = t.1 in omega (arith, length-map R (λ (r : ReadAt). r.item)) in
    record {
      aged = (λ no. absurd no, λ far. absurd (not_far version R near far));
      accepted = (λ e. cc, λ a. absurd (missing a.1));
      aborted = (λ no. absurd no, λ no. no.1 t.0);
      unfinished = (λ _. (near, t.0, missing), λ _. refl);
    }

pub exact : (values : List ℕ) (air : Air) (H : List Event) (reader : Reader) (heard : List (Option Bucket)) → air.scheme.policy ≡ FMatrix → air.scheme.group ≡ 0 → QueriesFilled reader → CyclesFromOne air heard →
    All (IsExactLine air.version H reader) (session (by_history air.scheme air.items values H) air reader heard).lines
exact V air H reader heard f g filled cycles k d l =
    let line = get_or (session (by_history air.scheme air.items V H) air reader heard).lines k d in
    let told = verdict V air H reader heard f g filled cycles k d l in
    exact_from air.version H (get_or reader.queries line.verdict.query []) line.verdict.kind (reads_at line) told.0 told.1
