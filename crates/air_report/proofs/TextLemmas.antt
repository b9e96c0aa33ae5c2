-- The row that is written of a line spells that line.
use Rattle.std.proofs.Common.{◌≡◌, ◌<◌, ◌^◌, ◌++◌, ◌∷◌, [], ℕ, List, Option, Some, Ok, Err, Bool, true, false, not, refl, ap, ◌∙◌, append_assoc, codes, eqb, length, map, get_or, nat_lt, arith}
use Rattle.std.specs.Prelude.{All}
use Rattle.std.specs.Char.{is_ascii_digit}
use Rattle.std.specs.List.{list_all}
use Rattle.std.proofs.lemmas.Bool.Decides.{nat_tests}
use Rattle.std.proofs.lemmas.List.Elements.{All-cons, All-head, All-nil, All-tail}
use Rattle.std.proofs.lemmas.List.Folds.{list_all-append}
use Rattle.std.proofs.lemmas.List.Sums.{AllPass-from_list_all}
use Rattle.air_base.specs.NumberLists.{list_of, list_text, parts_of}
use Rattle.air_base.specs.Numbers.{number_text}
use Rattle.air_base.specs.declared.verdicts.ReadOf.{ReadOf}
use Rattle.air_base.specs.declared.verdicts.VerdictKind.{VerdictKind}
use Rattle.air_base.specs.declared.verdicts.VerdictKind.TheVariants as kind
use Rattle.air_base.proofs.ListLaws.{IsPart, parts_of-list_text}
use Rattle.air_base.proofs.NumberLemmas.{text_spells}
use Rattle.air_base.proofs.LeadingNumberLemmas.{all_such, spelled_digits}
use Rattle.air_base.proofs.PartLemmas.{all_some-Some}
use Rattle.air_history.specs.declared.histories.Event.{Event}
use Rattle.air_history.specs.declared.histories.Event.TheVariants as e
use Rattle.air_model.specs.Buckets.{has_ages}
use Rattle.air_model.specs.Reports.{counts_row, event_row, look_row, place_text, read_text, verdict_row}
use Rattle.air_model.specs.declared.reports.CountsLine.{CountsLine}
use Rattle.air_model.specs.declared.reports.LookLine.{LookLine}
use Rattle.air_model.specs.declared.reports.VerdictLine.{VerdictLine}
use Rattle.air_report.specs.LineFaults.{may_end}
use Rattle.air_report.specs.LineTexts.{short_of, spelled_item, spelled_line, spelled_place, spelled_read}
use Rattle.air_report.specs.ReportLines.{its_line}
use Rattle.air_report.specs.declared.reading.kinds.ReportFaultKind.TheVariants as fault
use Rattle.air_report.specs.declared.reading.lines.ReportLine.TheVariants as l
use Rattle.air_report.proofs.ReadLemmas.{place_made, read_made}
use Rattle.air_report.specs.LineRules.{LineWide}
use Rattle.air_report.specs.ReportRules.{CountsWide, EndWide, LookWide, ReadWide, VerdictWide}

-- ---- numbers

pub item_text : (n : ℕ) → n < 2 ^ 16 → spelled_item (number_text n) ≡ Some n
unfolding spelled_item
item_text n small = let test : nat_lt n (2 ^ 16) ≡ true = grind arith in rw (text_spells n (omega arith), test) refl

pub short_text : (n : ℕ) → n < 2 ^ 32 → short_of (number_text n) ≡ Some n
unfolding short_of
short_text n small = let test : nat_lt n (2 ^ 32) ≡ true = grind arith in rw (text_spells n (omega arith), test) refl

-- ---- places and reads

pub place_is : (item cycle : ℕ) → place_text item cycle ≡ number_text item ++ 64 ∷ number_text cycle
place_is item cycle = append_assoc (number_text item) (64 ∷ []) (number_text cycle)

pub place_spelled : (item cycle : ℕ) → item < 2 ^ 16 → cycle < 2 ^ 32 → ◌≡◌ {A = Option (ℕ × ℕ)} (spelled_place (place_text item cycle)) (Some (item, cycle))
place_spelled item cycle hi hc = ap spelled_place (place_is item cycle) ∙ place_made (number_text item) (number_text cycle) item cycle (item_text item hi) (short_text cycle hc)

pub read_is : (r : ReadOf) → read_text r ≡ number_text r.item ++ 64 ∷ (number_text r.cycle ++ 61 ∷ number_text r.value)
read_is r =
    append_assoc (place_text r.item r.cycle) (61 ∷ []) (number_text r.value) ∙ ap (λ t. t ++ 61 ∷ number_text r.value) (place_is r.item r.cycle)
    ∙ append_assoc (number_text r.item) (64 ∷ number_text r.cycle) (61 ∷ number_text r.value)

pub read_spelled : (r : ReadOf) → ReadWide r → spelled_read (read_text r) ≡ Some r
read_spelled r w =
    ap spelled_read (read_is r) ∙ read_made (number_text r.item) (number_text r.cycle) (number_text r.value) r.item r.cycle r.value (item_text r.item w.item) (short_text r.cycle w.cycle) (text_spells r.value w.value)

-- ---- lists of reads

abbrev no_space : ℕ → Bool
no_space b = not (eqb b 32)

digit_no_space : (b : ℕ) → is_ascii_digit b ≡ true → no_space b ≡ true
digit_no_space b h = grind (arith, nat_tests)

number_no_space : (n : ℕ) → n < 2 ^ 64 → list_all no_space (number_text n) ≡ true
number_no_space n small = all_such is_ascii_digit no_space digit_no_space (number_text n) (spelled_digits (number_text n) n (text_spells n small))

not_true : (b : Bool) → not b ≡ true → b ≡ false
not_true true h = cc h
not_true false h = refl

some_bytes : (a : List ℕ) (b : ℕ) (c : List ℕ) → 0 < length (a ++ b ∷ c)
some_bytes [] b c = omega arith
some_bytes (x ∷ a) b c = omega arith

read_part : (r : ReadOf) → ReadWide r → IsPart (read_text r)
read_part r w =
    let i = number_text r.item in let c = number_text r.cycle in let v = number_text r.value in
    let back : list_all no_space (c ++ 61 ∷ v) ≡ true = list_all-append no_space c (61 ∷ v) ∙ rw (number_no_space r.cycle (let h = w.cycle in omega arith), number_no_space r.value w.value) refl in
    let all : list_all no_space (i ++ 64 ∷ (c ++ 61 ∷ v)) ≡ true = list_all-append no_space i (64 ∷ (c ++ 61 ∷ v)) ∙ rw (number_no_space r.item (let h = w.item in omega arith), back) refl in
    rw (read_is r) (record {
      some = some_bytes i 64 (c ++ 61 ∷ v);
      no_space = λ k d below. not_true (eqb (get_or (i ++ 64 ∷ (c ++ 61 ∷ v)) k d) 32) (AllPass-from_list_all no_space (i ++ 64 ∷ (c ++ 61 ∷ v)) all k d below);
    })

read_parts : (rs : List ReadOf) → All ReadWide rs → All IsPart (map read_text rs)
read_parts [] w = All-nil IsPart
read_parts (r ∷ rs) w = All-cons IsPart (read_text r) (map read_text rs) (read_part r (All-head ReadWide r rs w)) (read_parts rs (All-tail ReadWide r rs w))

each_read : (rs : List ReadOf) → All ReadWide rs → map spelled_read (map read_text rs) ≡ map Some rs
each_read [] w = refl
each_read (r ∷ rs) w = rw (read_spelled r (All-head ReadWide r rs w), each_read rs (All-tail ReadWide r rs w)) refl

pub reads_spelled : (rs : List ReadOf) → All ReadWide rs → list_of spelled_read (list_text (map read_text rs)) ≡ Some rs
reads_spelled rs w =
    all_some-Some (map spelled_read (parts_of (list_text (map read_text rs)))) rs (ap (map spelled_read) (parts_of-list_text (map read_text rs) (read_parts rs w)) ∙ each_read rs w)

-- ---- lines

pub event_spelled : (version : ℕ) (event : Event) → LineWide (its_line event) → spelled_line version (event_row event) ≡ Ok (l.Event (its_line event))
event_spelled version (e.Commit by seq update) w = rw (short_text by w.0, short_text seq w.1) refl
event_spelled version e.Start w = refl

ended_spelled : (version : ℕ) (end : VerdictKind) (line : VerdictLine) → VerdictWide line → line.verdict.kind ≡ end → may_end version end ≡ true → spelled_line version (verdict_row line) ≡ Ok (l.Verdict line)
ended_spelled version kind.Accept line w same may =
    rw (same, short_text line.reader w.reader, short_text line.verdict.query w.query, short_text line.verdict.attempt w.attempt, reads_spelled line.reads w.reads) refl
ended_spelled version kind.Unfinished line w same may =
    rw (same, short_text line.reader w.reader, short_text line.verdict.query w.query, short_text line.verdict.attempt w.attempt, reads_spelled line.reads w.reads) refl
ended_spelled version (kind.Aged item cycle) line w same may =
    let wide : EndWide (kind.Aged item cycle) = rw same at w.end in let ages : has_ages version ≡ true = may in
    rw (same, ages, short_text line.reader w.reader, short_text line.verdict.query w.query, short_text line.verdict.attempt w.attempt, reads_spelled line.reads w.reads, place_spelled item cycle wide.0 wide.1) refl
ended_spelled version (kind.Abort item cycle clash) line w same may =
    let wide : EndWide (kind.Abort item cycle clash) = rw same at w.end in
    rw (same, short_text line.reader w.reader, short_text line.verdict.query w.query, short_text line.verdict.attempt w.attempt, reads_spelled line.reads w.reads, place_spelled item cycle wide.0 wide.1, item_text clash wide.2)
    refl

pub verdict_spelled : (version : ℕ) (line : VerdictLine) → VerdictWide line → may_end version line.verdict.kind ≡ true → spelled_line version (verdict_row line) ≡ Ok (l.Verdict line)
verdict_spelled version line w may = ended_spelled version line.verdict.kind line w refl may

-- An aged attempt has no tag if buckets have no ages.
pub aged_untold : (version item cycle : ℕ) (line : VerdictLine) → line.verdict.kind ≡ kind.Aged item cycle → has_ages version ≡ false → spelled_line version (verdict_row line) ≡ Err fault.Tag
aged_untold version item cycle line same full = rw (same, full) refl

pub counts_spelled : (version : ℕ) (line : CountsLine) → CountsWide line → spelled_line version (counts_row line) ≡ Ok (l.Counts line)
counts_spelled version line w =
    rw (
      short_text line.reader w.reader,
      text_spells line.counts.opened w.opened,
      text_spells line.counts.dozed w.dozed,
      text_spells line.counts.late w.late,
      text_spells line.counts.refused w.refused,
      text_spells line.counts.foreign w.foreign,
      text_spells line.counts.copied w.copied,
    ) refl

pub glance_spelled : (version : ℕ) (line : LookLine) → LookWide line → spelled_line version (look_row (codes "glance") line) ≡ Ok (l.Glance line)
glance_spelled version line w = rw (short_text line.monitor w.monitor, short_text line.cycle w.cycle, text_spells line.total w.total) refl

pub look_spelled : (version : ℕ) (line : LookLine) → LookWide line → spelled_line version (look_row (codes "look") line) ≡ Ok (l.Look line)
look_spelled version line w = rw (short_text line.monitor w.monitor, short_text line.cycle w.cycle, text_spells line.total w.total) refl
