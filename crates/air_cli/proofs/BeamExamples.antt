-- What `beam` gives of the told shelf's deck of two items and one start, and causes that don't hold of it.
use Rattle.std.proofs.Common.{◌≡◌, ◌<◌, ◌≤◌, ◌+◌, ℕ, true, false, List, [], ◌∷◌, Option, Some, None, length, map, refl, sym, ap, subst, ◌∙◌, arith}
use Rattle.std.specs.Prelude.{codes, count_by}
use Rattle.csv.specs.Writing.{escaped, fields_text, is_blank}
use Rattle.air_base.specs.Numbers.{number_text}
use Rattle.air_base.specs.declared.limits.TheConstants.{MOST_DECK_BYTES}
use Rattle.air_devices.specs.Shelves.{ShelfState}
use Rattle.air_devices.specs.WhatIsTold.{WhereTold}
use Rattle.air_history.specs.Histories.{is_start, starts}
use Rattle.air_index.specs.Indexes.{is_index}
use Rattle.air_index.specs.IndexedTapes.{beam_tape_of, indexed_size, indexed_tape, mark_size, minors_after, records_from, slots_after}
use Rattle.air_index.specs.OnAir.{marks_of}
use Rattle.air_index.proofs.CountLemmas.{history_len, piece_indexes, piece_records}
use Rattle.air_model.specs.Decks.{Deck, IsDeck, event_of, script_history}
use Rattle.item_catalog.specs.DeckLimits.{WithinLimits}
use Rattle.air_model.specs.Disks.{cut, order, order_with}
use Rattle.air_model.specs.Programs.{chunk, chunk_len, least_common_multiple, minor_cycle, num_chunks, num_minors, program}
use Rattle.air_model.specs.Rows.{rows_text}
use Rattle.air_model.specs.Tapes.{tape_of}
use Rattle.air_report.specs.declared.status.Status.TheVariants as status
use Rattle.air_sender.specs.AiredBytes.{aired_bytes}
use Rattle.chunk_program.specs.Editions.{plans_in}
use Rattle.chunk_program.specs.Plans.{AreShort}
use Rattle.item_catalog.specs.Grammar.{Spells}
use Rattle.live_replay.proofs.AuditExamples.{small, small_is_deck}
use Rattle.air_cli.specs.Beam.{BeamCause, BeamGives, beam_given, beam_line, beam_meaning, beam_records}
use Rattle.air_cli.specs.ReportsAndTapes.{ReportAndTape}
use Rattle.air_cli.specs.ToldInputs.{TellsInputs}
use Rattle.air_cli.proofs.CommandExamples.{the_deck, within}
use Rattle.air_cli.proofs.ToldExamples.{files, its_deck, shelf, short, small_made, spells_deck}

-- ---- its tape and its line

-- The indexed tape of no cycle has no byte.
none_of_no_cycle : indexed_tape (plans_in small) 2 0 [] ≡ []
unfolding tape_of records_from
none_of_no_cycle = refl

-- That of the deck has 107 bytes and three records, one of them an index.
one_start : starts (script_history small) ≡ 1
unfolding script_history event_of is_start starts
one_start = refl

pub beam_bytes_of_small : length (beam_tape_of small) ≡ 107
unfolding order order_with cut program least_common_multiple num_minors num_chunks chunk_len chunk minor_cycle marks_of mark_size
beam_bytes_of_small = history_len small (script_history small) ∙ ap (indexed_size 1 2 (plans_in small)) one_start

three_records : length (beam_records small) ≡ 3
unfolding order order_with cut program least_common_multiple num_minors num_chunks chunk_len chunk minor_cycle
three_records =
    piece_records (plans_in small) 2 0 (starts (script_history small)) (aired_bytes small (script_history small)) ∙ ap (λ k. slots_after (plans_in small) 0 k + minors_after (plans_in small) 0 k) one_start

one_index : count_by is_index (beam_records small) ≡ 1
unfolding order order_with cut least_common_multiple num_minors
one_index =
    piece_indexes small small_is_deck within short 0 (starts (script_history small)) (aired_bytes small (script_history small)) (omega (arith, one_start)) ∙ ap (minors_after (plans_in small) 0) one_start

abbrev line_of : ℕ → ℕ → ℕ → List ℕ
line_of records bytes indexes = rows_text ((codes "beam" ∷ map number_text (records ∷ bytes ∷ indexes ∷ [])) ∷ [])

line_is : line_of 3 107 1 ≡ codes "beam,3,107,1\n"
unfolding rows_text number_text escaped fields_text is_blank
line_is = refl

beam_prints : beam_line small ≡ codes "beam,3,107,1\n"
beam_prints =
    ap (λ k. line_of k (length (beam_tape_of small)) (count_by is_index (beam_records small))) three_records ∙ ap (λ k. line_of 3 k (count_by is_index (beam_records small))) beam_bytes_of_small
    ∙ ap (line_of 3 107) one_index ∙ line_is

-- ---- what it gives

tells_beam : TellsInputs (beam_meaning (codes "d") (codes "o")) shelf
tells_beam name is = (its_deck, ap files is)

beam_suits : (beam_meaning (codes "d") (codes "o")).Suits shelf
beam_suits = (small, spells_deck, small_made, (short, omega (arith, beam_bytes_of_small)))

beam_output : (beam_meaning (codes "d") (codes "o")).output ≡ Some (codes "o")
beam_output = refl

beam_gives : BeamGives (codes "d") shelf (beam_given small)
unfolding BeamGives
beam_gives = (refl, (small, spells_deck, small_made, (short, omega (arith, beam_bytes_of_small), refl)))

-- It gives its tape, and nothing in it differs.
not_beam : (BeamGives (codes "d") shelf (record (beam_given small) { tape = [] }) → ⊥) × (BeamGives (codes "d") shelf (record (beam_given small) { differs = true }) → ⊥)
unfolding BeamGives
not_beam = (
  λ h. let tape : [] ≡ beam_tape_of small = ap (λ (g : ReportAndTape). g.tape) h.1.3.2 ∙ ap beam_tape_of (the_deck h.1.0 h.1.1) in
      omega (arith, beam_bytes_of_small, ap length tape),
  λ h. let differs : true ≡ false = h.0 in cc,
)

-- ---- why it is refused

-- Its tape isn't too long; a tape is from one byte above the limit on.
not_too_long : (bytes : ℕ) → BeamCause (codes "d") shelf shelf (status.TooLong bytes) → ⊥
unfolding BeamCause
not_too_long bytes (d, is, made, long) =
    let few = subst (λ d. AreShort d × (bytes ≡ length (beam_tape_of d)) × (1073741824 < bytes)) (the_deck d is) long in omega (arith, few.1, few.2, beam_bytes_of_small)

beam_too_long : (d : Deck) (untold : ShelfState) → untold.told.file (codes "d") ≡ None → IsDeck d × WithinLimits d → AreShort d → length (beam_tape_of d) ≡ 1073741825
    → BeamCause (codes "d") untold untold (status.TooLong 1073741825)
unfolding BeamCause
beam_too_long d untold none made can counted =
    (d, subst (λ (file : Option (List ℕ)). WhereTold file (λ bytes. (length bytes ≤ MOST_DECK_BYTES) × Spells bytes d)) (sym none) tt, made, (can, sym counted, omega arith))

at_the_most : (before : ShelfState) → BeamCause (codes "d") before before (status.TooLong 1073741824) → ⊥
unfolding BeamCause
at_the_most before (d, is, made, long) = let above : 1073741824 < 1073741824 = long.2 in omega arith
