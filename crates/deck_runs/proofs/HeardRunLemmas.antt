-- What is true of the runs of a deck, and of the tape of one. The laws and `air_run` cite these.
use Rattle.std.proofs.Common.{◌≡◌, ℕ, zero, suc, ◌+◌, ◌*◌, ◌<◌, ◌≤◌, Some, List, [], ◌++◌, length, map, replicate, sym, ◌∙◌, ap, arith}
use Rattle.air_history.specs.Histories.{starts}
use Rattle.air_history.specs.declared.histories.Event.TheVariants.{Start}
use Rattle.air_model.proofs.StartLemmas.{starts_none, starts_start}
use Rattle.air_model.specs.Aired.{air_of, buckets_of, slots_at}
use Rattle.air_model.specs.AiredLaws.{CanAir}
use Rattle.air_model.specs.Buckets.{bucket_in, spelling}
use Rattle.air_model.specs.Decks.{Deck, IsDeck, IsLegal, disks_in, values_in}
use Rattle.air_model.specs.Draws.{words_of}
use Rattle.air_model.specs.Ethers.{heard_by}
use Rattle.air_model.specs.Outputs.{ether_of, odds_in, run_tape}
use Rattle.air_model.specs.Programs.{program}
use Rattle.air_model.specs.Reports.{Report, report_text}
use Rattle.air_model.specs.Tapes.{tape_of}
use Rattle.air_model.proofs.DeckLemmas.{events}
use Rattle.air_model.proofs.EtherLemmas.{heard_was_pushed}
use Rattle.air_model.proofs.RangeLemmas.{bytes_aired}
use Rattle.air_model.proofs.ReceiverLemmas.{receiver}
use Rattle.air_devices.specs.Masts.{Changes, MastState, fresh_mast, nothing_sent, with_buckets}
use Rattle.air_sender.specs.TapeMasts.{tape_mast_state, told_by_tape}
use Rattle.air_sender.specs.declared.tape_mast.TapeMast.{TapeMast}
use Rattle.air_sender.specs.TapeSizes.{cycle_size, tape_size}
use Rattle.air_sender.proofs.TapeLemmas.{slots_short}
use Rattle.air_sender.proofs.TapeLengths.{history_size, plain_size}
use Rattle.chunk_program.specs.Plans.{AreShort}
use Rattle.item_catalog.specs.DeckLimits.{WithinLimits}
use Rattle.air_model.specs.Runs.{IsRun, Run}
use Rattle.air_model.proofs.ItemLemmas.{items_aired}
use Rattle.listeners.specs.declared.readers.TheConstants.{MOST_TAPE_RECORDS}
use Rattle.listeners.proofs.HistoryLemmas.{few_aired}
use Rattle.air_sender.specs.AiredBytes.{aired_bytes}
use Rattle.deck_runs.specs.RunTapes.{run_tape_len}
use Rattle.deck_runs.specs.RunTruths.{IsTrueRun}

-- ---- what is true

-- A run's history can be aired.
pub run_airs : (deck : Deck) (run : Run) → IsDeck deck → WithinLimits deck → AreShort deck → IsRun deck run → CanAir deck run.history
run_airs deck run made within short is = record {
  made = made;
  legal = is.whole.legal;
  cycles = (let all = is.whole.cycles in let few = within.settings.cycles in omega arith);
  slots = slots_short deck short;
}

-- The statement of `one_history_law`.
abbrev pub OneHistoryLaw : Type 0
OneHistoryLaw = (deck : Deck) (r s : Report) → WithinLimits deck → IsLegal deck r.history → IsLegal deck s.history → report_text r ≡ report_text s → r.history ≡ s.history

pub true_run : OneHistoryLaw → (deck : Deck) (run : Run) → IsDeck deck → WithinLimits deck → AreShort deck → IsRun deck run → IsTrueRun deck run
unfolding heard_by
true_run one_history deck run made within short is =
    let H = run.history in
    let can = run_airs deck run made within short is in
    let records = map spelling (buckets_of (values_in deck) (air_of deck) H) in
    record {
      bases = (events deck H made is.whole.legal).1;
      items = items_aired deck H made;
      sessions = λ r below. receiver deck H r (map bucket_in (ether_of deck H r)) made below
          ((bytes_aired deck H (ether_of deck H r) can (heard_was_pushed (odds_in deck) (words_of deck.settings.seed r (3 * length records)) records)).0);
      told = λ report legal same. one_history deck report _ within legal is.whole.legal same;
    }

all_started : (n : ℕ) → starts (replicate n Start) ≡ n
all_started zero = starts_none
all_started (suc n) = starts_start (replicate n Start) ∙ ap suc (all_started n)

-- The tape of a deck's run has the bytes of its cycles, each with the slots of the program in force in it.
pub run_sum : (deck : Deck) → run_tape_len deck ≡ tape_size deck.settings.version (length deck.items) (slots_at (air_of deck)) deck.settings.cycles
unfolding run_tape_len
run_sum deck =
    history_size (values_in deck) (air_of deck) (replicate deck.settings.cycles Start)
    ∙ ap (tape_size deck.settings.version (length deck.items) (slots_at (air_of deck))) (all_started deck.settings.cycles)

-- Without replans each cycle has the length of the first.
pub run_size : (deck : Deck) → deck.replans ≡ [] → run_tape_len deck ≡ deck.settings.cycles * cycle_size deck.settings.version (length deck.items) (program (disks_in deck 0))
unfolding run_tape_len
run_size deck none = plain_size deck none (replicate deck.settings.cycles Start) ∙ ap (λ n. n * cycle_size deck.settings.version (length deck.items) (program (disks_in deck 0))) (all_started deck.settings.cycles)

-- The tape of any deck's run is as long as that of as many starts.
pub run_length : (deck : Deck) (run : Run) → IsRun deck run → length (run_tape deck run.history) ≡ run_tape_len deck
unfolding run_tape_len
run_length deck run is =
    let air = air_of deck in
    let cycles = deck.settings.cycles in
    history_size (values_in deck) air run.history
    ∙ ap (tape_size air.version air.items (slots_at air)) (is.whole.cycles ∙ sym (all_started cycles)) ∙ sym (history_size (values_in deck) air (replicate cycles Start))

-- ---- the tape

-- What a mast that was new was sent.
sent_all : (old new : TapeMast) (bytes : List (List ℕ)) → tape_mast_state old ≡ fresh_mast → Changes (with_buckets bytes) (tape_mast_state old).told (tape_mast_state new).told → (told_by_tape new).buckets ≡ bytes
sent_all old new bytes fresh sent =
    let first : Some (told_by_tape old) ≡ Some nothing_sent = ap (λ (m : MastState). m.told) fresh in
    let was : told_by_tape old ≡ nothing_sent = cc in
    let is : told_by_tape new ≡ with_buckets bytes (told_by_tape old) = cc in
    ap (λ s. s.buckets) is ∙ ap (λ s. s.buckets ++ bytes) was

-- So its tape is the run's.
pub sent_tape : (deck : Deck) (run : Run) (old new : TapeMast) → tape_mast_state old ≡ fresh_mast → Changes (with_buckets (aired_bytes deck run.history)) (tape_mast_state old).told (tape_mast_state new).told
    → tape_of (told_by_tape new).buckets ≡ run_tape deck run.history
sent_tape deck run old new fresh sent = ap tape_of (sent_all old new (aired_bytes deck run.history) fresh sent)

-- ---- the readers

-- A run airs few records, and starts few cycles.
pub run_few : (deck : Deck) (run : Run) → IsRun deck run → run_tape_len deck ≤ 1073741824 → length (aired_bytes deck run.history) ≤ MOST_TAPE_RECORDS
run_few deck run is few = omega (arith, few_aired deck run.history (omega (arith, run_length deck run is, few)))

pub run_starts : (deck : Deck) (run : Run) → WithinLimits deck → IsRun deck run → starts run.history + 1 < 4294967296
run_starts deck run within is = omega (arith, is.whole.cycles, within.settings.cycles)
