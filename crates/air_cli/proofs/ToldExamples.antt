-- A shelf that tells its files: a deck `d`, a report `r` of a run of it, and the tape `t` of its script. Each command is told its inputs, and
-- they suit it.
use Rattle.std.proofs.Common.{◌≡◌, ◌<◌, ℕ, zero, suc, List, [], ◌∷◌, Option, Some, None, length, refl, ap, inl, inr, arith}
use Rattle.std.specs.Prelude.{codes, if◌then◌else◌, nat_eq}
use Rattle.std.specs.Cmp.Lexicographic.{pointwise}
use Rattle.csv.proofs.OnLiterals.{csv_on_literals}
use Rattle.air_report.specs.declared.reading.limits.TheConstants.{MOST_REPORT_BYTES}
use Rattle.air_base.specs.declared.limits.TheConstants.{MOST_DECK_BYTES, MOST_TAPE_BYTES}
use Rattle.air_base.specs.Numbers.{number_of}
use Rattle.air_base.specs.NumberLists.{all_some}
use Rattle.air_devices.specs.Counts.{one_count}
use Rattle.air_devices.specs.Shelves.{ShelfState}
use Rattle.air_history.specs.Histories.{is_start, starts}
use Rattle.air_history.specs.UpdateRules.{has_repeat}
use Rattle.air_model.specs.Aired.{body_of, bucket_of, buckets_of}
use Rattle.air_model.specs.Buckets.{capped_body, capped_entries, count_of, entries_of, entry_bytes, item_of, kind_of, spelling, value_of}
use Rattle.air_model.specs.Decks.{Deck, IsDeck, event_of, script_history}
use Rattle.air_model.specs.Disks.{cut, order, order_with}
use Rattle.air_model.specs.Outputs.{script_tape}
use Rattle.air_model.specs.Programs.{chunk, chunk_len, least_common_multiple, minor_cycle, num_chunks, num_minors, program}
use Rattle.air_model.specs.Tapes.{record_bytes, tape_of, tape_read}
use Rattle.air_sender.proofs.TapeLemmas.{tape_back}
use Rattle.deck_runs.specs.RunTapes.{run_tape_len}
use Rattle.deck_runs.proofs.HeardRunLemmas.{run_size}
use Rattle.item_catalog.specs.DeckLimits.{WithinLimits}
use Rattle.item_catalog.specs.Fields.{freq_of, spelled_event as part_of}
use Rattle.item_catalog.specs.Faults.{kinds_at, some_below}
use Rattle.item_catalog.specs.Grammar.{RecordsSpell, Spells}
use Rattle.item_catalog.proofs.GrammarLemmas.{one_deck}
use Rattle.item_catalog.proofs.KeptRows.{spelled_made}
use Rattle.live_replay.specs.AuditAnswers.{CanBeAudited}
use Rattle.live_replay.proofs.AuditExamples.{can_be_audited, its_bytes, small}
use Rattle.chunk_program.specs.Plans.{AreShort}
use Rattle.air_cli.specs.Audit.{HasReport, audit_meaning}
use Rattle.air_cli.specs.NamedDecks.{HasDeck, SpellsDeck}
use Rattle.air_cli.specs.Plan.{plan_meaning}
use Rattle.air_cli.specs.Run.{CanRun, run_meaning}
use Rattle.air_cli.specs.Script.{script_meaning}
use Rattle.air_cli.specs.ToldInputs.{TellsInputs}
use Rattle.air_cli.specs.Tune.{tune_meaning}
use Rattle.air_cli.proofs.TruthLemmas.{short_programs}

-- ---- the deck

abbrev pub its_deck : List ℕ
its_deck = codes "item,0,10,1\nitem,1,20,1\ndisk,2,1\nreader,0,0,1\nquery,0,0 1\nscript,s\n"

-- The fields of a record.
abbrev Row : Type 0
Row = List (List ℕ)

abbrev rows : List Row
rows = (codes "item" ∷ codes "0" ∷ codes "10" ∷ codes "1" ∷ []) ∷ (codes "item" ∷ codes "1" ∷ codes "20" ∷ codes "1" ∷ []) ∷ (codes "disk" ∷ codes "2" ∷ codes "1" ∷ [])
    ∷ (codes "reader" ∷ codes "0" ∷ codes "0" ∷ codes "1" ∷ []) ∷ (codes "query" ∷ codes "0" ∷ codes "0 1" ∷ []) ∷ (codes "script" ∷ codes "s" ∷ []) ∷ []

no_kind : (place : ℕ) → place < 7 → kinds_at rows place ≡ []
unfolding kinds_at number_of part_of freq_of all_some some_below has_repeat
no_kind zero below = refl
no_kind (suc zero) below = refl
no_kind (suc (suc zero)) below = refl
no_kind (suc (suc (suc zero))) below = refl
no_kind (suc (suc (suc (suc zero)))) below = refl
no_kind (suc (suc (suc (suc (suc zero))))) below = refl
no_kind (suc (suc (suc (suc (suc (suc zero)))))) below = refl
no_kind (suc (suc (suc (suc (suc (suc (suc place))))))) below = absurd (omega arith)

rows_spell : RecordsSpell rows small
unfolding number_of part_of freq_of all_some
rows_spell = record { faultless = no_kind; parts = refl }

pub spells : Spells its_deck small
unfolding Spells csv_on_literals
spells = rows_spell

-- Its program has two slots, its script's tape 72 bytes, and that of a run of it 720.
pub two_slots : length (program ((cut (order (1 ∷ 1 ∷ [])) small.disks))) ≡ 2
unfolding order order_with cut program least_common_multiple num_minors num_chunks chunk_len chunk minor_cycle
two_slots = refl

pub script_bytes : length (script_tape small) ≡ 72
unfolding order order_with cut program least_common_multiple num_minors num_chunks chunk_len chunk minor_cycle script_history event_of is_start starts buckets_of bucket_of capped_entries capped_body body_of spelling entry_bytes kind_of count_of item_of value_of entries_of record_bytes tape_of
script_bytes = refl

pub run_bytes : run_tape_len small ≡ 720
unfolding order order_with cut program least_common_multiple num_minors num_chunks chunk_len chunk minor_cycle
run_bytes = run_size small refl

pub small_made : IsDeck small × WithinLimits small
small_made = spelled_made rows small rows_spell

pub short : AreShort small
short = short_programs small refl (omega (arith, two_slots))

pub can_run : CanRun small
can_run = (short, omega (arith, run_bytes))

-- ---- the shelf

abbrev pub files : List ℕ → Option (List ℕ)
files name =
    if pointwise nat_eq name (codes "d") then Some its_deck
    else if pointwise nat_eq name (codes "r") then Some its_bytes
    else if pointwise nat_eq name (codes "t") then Some (script_tape small)
    else None

abbrev pub shelf : ShelfState
shelf = record { told = record { file = files; left = files; output = λ name. Some []; printed = Some [] }; faults = one_count 0 }

-- The same, with no file told.
abbrev pub untold : ShelfState
untold = record shelf { told = record shelf.told { file = λ name. None } }

pub spells_deck : SpellsDeck (codes "d") shelf small
spells_deck = (omega arith, spells)

-- It doesn't spell another deck.
no_other_deck : SpellsDeck (codes "d") shelf (record small { items = [] }) → ⊥
no_other_deck h = let items : 0 ≡ 2 = ap (λ (d : Deck). length d.items) (one_deck its_deck (record small { items = [] }) small h.1 spells) in omega (arith, items)

has_deck : HasDeck (codes "d") shelf AreShort
has_deck = (small, spells_deck, small_made, short)

-- There is no deck with an impossible property.
not_has_deck : HasDeck (codes "d") shelf (λ d. ⊥) → ⊥
not_has_deck h = h.3

-- ---- what is told, and suits

pub tells_plan : TellsInputs (plan_meaning (codes "d")) shelf
tells_plan name is = (its_deck, ap files is)

-- A file `x` isn't told.
not_tells : TellsInputs (plan_meaning (codes "x")) shelf → ⊥
not_tells h = let told : (bytes : List ℕ) × (None ≡ Some bytes) = h (codes "x") refl in cc (told.1)

tells_run : TellsInputs (run_meaning (codes "d") (codes "o")) shelf
tells_run name is = (its_deck, ap files is)

tells_script : TellsInputs (script_meaning (codes "d") None) shelf
tells_script name is = (its_deck, ap files is)

tells_tune : TellsInputs (tune_meaning (codes "d") (codes "t")) shelf
tells_tune name (inl is) = (its_deck, ap files is)
tells_tune name (inr is) = (script_tape small, ap files is)

tells_audit : TellsInputs (audit_meaning (codes "d") (codes "r")) shelf
tells_audit name (inl is) = (its_deck, ap files is)
tells_audit name (inr is) = (its_bytes, ap files is)

pub plan_suits : (plan_meaning (codes "d")).Suits shelf
plan_suits = has_deck

run_suits : (run_meaning (codes "d") (codes "o")).Suits shelf
run_suits = (small, spells_deck, small_made, can_run)

script_suits : (script_meaning (codes "d") None).Suits shelf
script_suits = (small, spells_deck, small_made, (short, omega (arith, script_bytes)))

whole_tape : (tape_read (script_tape small)).cut ≡ None
whole_tape = ap (λ read. read.cut) (tape_back small (script_history small) (script_tape small) refl (omega (arith, script_bytes)))

tune_suits : (tune_meaning (codes "d") (codes "t")).Suits shelf
tune_suits = (has_deck, (script_tape small, refl, (omega (arith, script_bytes), whole_tape)))

has_report : HasReport (codes "d") (codes "r") shelf CanBeAudited
has_report = (small, spells_deck, small_made, (its_bytes, refl, (omega arith, can_be_audited)))

not_has_report : HasReport (codes "d") (codes "r") shelf (λ d bytes. ⊥) → ⊥
not_has_report h = h.3.2.1

audit_suits : (audit_meaning (codes "d") (codes "r")).Suits shelf
audit_suits = has_report

-- ---- limits

limits : (MOST_DECK_BYTES ≡ 67108864) × (MOST_TAPE_BYTES ≡ 1073741824) × (MOST_REPORT_BYTES ≡ 134217728)
limits = (refl, refl, refl)
