-- The findings of a report are of each of its lines, and each says if the replay gives its line.
use Rattle.std.proofs.Common.{◌≡◌, ◌↔◌, ◌∙◌, ℕ, zero, suc, ◌+◌, ◌<◌, List, [], ◌∷◌, ◌++◌, Option, None, length, length-append, get_or, refl, sym, ap, subst, arith}
use Rattle.std.proofs.lemmas.List.{get_or_append_left, get_or-append-add}
use Rattle.std.proofs.lemmas.List.FromFn.{length-range_with_len}
use Rattle.air_model.specs.Decks.{Deck}
use Rattle.air_report.specs.ReadReports.{IsReportOf}
use Rattle.air_report.specs.declared.reading.ReadReport.{ReadReport}
use Rattle.live_replay.specs.Audits.{findings, found_in}
use Rattle.live_replay.specs.FindingLaws.{FindsEach, FindsLine, GivesLook, GivesVerdict}
use Rattle.live_replay.specs.Findings.{look_cause, verdict_cause}
use Rattle.live_replay.specs.declared.findings.Cause.{Cause}
use Rattle.live_replay.specs.declared.findings.Finding.{Finding}
use Rattle.live_replay.proofs.FindingLemmas.{agrees, look_agrees}

-- ---- the findings of some lines

module _ {L : Type 0} (cause : L → Option Cause) where
  found_at : (rows : List ℕ) (lines : List L) (k : ℕ) (f : Finding) (row : ℕ) (line : L) → length rows ≡ length lines → k < length lines
      → get_or (found_in cause rows lines) k f ≡ record { row = get_or rows k row; differs = cause (get_or lines k line) }
  found_at rows [] k f row line long below = absurd (omega arith)
  found_at [] (l ∷ lines) k f row line long below = absurd (omega (arith, long))
  found_at (r ∷ rows) (l ∷ lines) zero f row line long below = refl
  found_at (r ∷ rows) (l ∷ lines) (suc k) f row line long below = found_at rows lines k f row line (omega (arith, long)) (omega arith)

  found_len : (rows : List ℕ) (lines : List L) → length rows ≡ length lines → length (found_in cause rows lines) ≡ length lines
  found_len [] [] long = refl
  found_len [] (l ∷ lines) long = absurd (omega (arith, long))
  found_len (r ∷ rows) [] long = absurd (omega (arith, long))
  found_len (r ∷ rows) (l ∷ lines) long = ap suc (found_len rows lines (omega (arith, long)))

  finds_line : (Gives : L → Type 0) → ((l : L) → (cause l ≡ None) ↔ Gives l) → (rows : List ℕ) (lines : List L) (k : ℕ) (f : Finding) (row : ℕ) (line : L)
      → length rows ≡ length lines → k < length lines → FindsLine (get_or rows k row) (Gives (get_or lines k line)) (get_or (found_in cause rows lines) k f)
  finds_line Gives law rows lines k f row line long below =
      subst (λ found. FindsLine (get_or rows k row) (Gives (get_or lines k line)) found) (sym (found_at rows lines k f row line long below)) (refl, law (get_or lines k line))

-- ---- places in three lists

module _ (V G K : List Finding) (k : ℕ) (f : Finding) where
  in_first : k < length V → get_or ((V ++ G) ++ K) k f ≡ get_or V k f
  in_first below = get_or_append_left (V ++ G) K f k (omega (arith, length-append V G)) ∙ get_or_append_left V G f k below

  in_second : (n : ℕ) → n ≡ length V → k < length G → get_or ((V ++ G) ++ K) (n + k) f ≡ get_or G k f
  in_second n is below =
      get_or_append_left (V ++ G) K f (n + k) (omega (arith, is, length-append V G)) ∙ ap (λ m. get_or (V ++ G) (m + k) f) is ∙ get_or-append-add V G k f

  in_third : (n m : ℕ) → n ≡ length V → m ≡ length G → get_or ((V ++ G) ++ K) (n + m + k) f ≡ get_or K k f
  in_third n m is its =
      let e : n + m ≡ length (V ++ G) = omega (arith, is, its, length-append V G) in
      ap (λ p. get_or ((V ++ G) ++ K) (p + k) f) e ∙ get_or-append-add (V ++ G) K k f

-- ---- a report

pub finds_each : (deck : Deck) (text : List ℕ) (read : ReadReport) → IsReportOf deck text read → FindsEach deck read (findings deck read)
unfolding findings
finds_each deck text read is =
    let H = read.report.history in
    let r = read.report in
    let V = found_in (verdict_cause deck H) read.verdict_rows r.verdicts in
    let G = found_in (look_cause deck H) read.glance_rows r.glances in
    let K = found_in (look_cause deck H) read.look_rows r.looks in
    let verdict_rows : length read.verdict_rows ≡ length r.verdicts = ap length is.verdict_rows ∙ length-range_with_len _ (length r.verdicts) in
    let glance_rows : length read.glance_rows ≡ length r.glances = ap length is.glance_rows ∙ length-range_with_len _ (length r.glances) in
    let look_rows : length read.look_rows ≡ length r.looks = ap length is.look_rows ∙ length-range_with_len _ (length r.looks) in
    let verdicts : length V ≡ length r.verdicts = found_len (verdict_cause deck H) read.verdict_rows r.verdicts verdict_rows in
    let glances : length G ≡ length r.glances = found_len (look_cause deck H) read.glance_rows r.glances glance_rows in
    let looks : length K ≡ length r.looks = found_len (look_cause deck H) read.look_rows r.looks look_rows in
    record {
      verdicts = λ k f row line below.
          subst (λ found. FindsLine (get_or read.verdict_rows k row) (GivesVerdict deck H (get_or r.verdicts k line)) found) (sym (in_first V G K k f (omega (arith, verdicts))))
          (finds_line (verdict_cause deck H) (GivesVerdict deck H) (agrees deck H) read.verdict_rows r.verdicts k f row line verdict_rows below);
      glances = λ k f row line below.
          subst (λ found. FindsLine (get_or read.glance_rows k row) (GivesLook deck H (get_or r.glances k line)) found) (sym (in_second V G K k f (length r.verdicts) (sym verdicts) (omega (arith, glances))))
          (finds_line (look_cause deck H) (GivesLook deck H) (look_agrees deck H) read.glance_rows r.glances k f row line glance_rows below);
      looks = λ k f row line below.
          subst (λ found. FindsLine (get_or read.look_rows k row) (GivesLook deck H (get_or r.looks k line)) found) (sym (in_third V G K k f (length r.verdicts) (length r.glances) (sym verdicts) (sym glances)))
          (finds_line (look_cause deck H) (GivesLook deck H) (look_agrees deck H) read.look_rows r.looks k f row line look_rows below);
      all = length-append (V ++ G) K ∙ (let front = length-append V G in omega (arith, front, verdicts, glances, looks));
    }
