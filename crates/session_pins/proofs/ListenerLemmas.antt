-- What a tape of two buckets does to listeners, computed.
use Rattle.std.proofs.Common.{◌≡◌, ◌∙◌, List, [], ◌∷◌, map, ap, refl}
use Rattle.air_history.specs.Clashes.{clash_by_entries, is_late, least}
use Rattle.air_model.specs.Aired.{body_fits, fits}
use Rattle.air_model.specs.Buckets.{body_at, bucket_at, bucket_in, entries_at, entry_count, entry_told, is_entry, is_placed, is_shaped, raw_entries, reading}
use Rattle.air_model.specs.Copies.{keep, with_copy, without_item}
use Rattle.air_model.specs.Judges.{by_entries}
use Rattle.air_model.specs.Sessions.{accept_if_whole, copy_of, count_dozed, count_opened, decide, end_aged, hear, hear_read, hold, judge_read, line_of, next_query, offer, open_bucket, query_of, settle, start, turn, turn_with, wanted, with_line}
use Rattle.air_model.specs.Tapes.{TapeRead}
use Rattle.listeners.specs.Listeners.{Listener, hears, hears_one}
use Rattle.session_pins.specs.SmallBuckets.{both_records, second_record}
use Rattle.session_pins.specs.SmallListeners.{accepted, asleep, listener_in}

-- Two listeners, before they hear anything.
abbrev both_listeners : List Listener
both_listeners = listener_in 0 start ∷ listener_in 1 start ∷ []

-- Listeners who hear the records of a tape.
abbrev pub all_hear : TapeRead → List Listener → List Listener
all_hear tape listeners = map (hears (map bucket_in tape.records)) listeners

accepted_computed : all_hear both_records both_listeners ≡ accepted 0 ∷ accepted 1 ∷ []
unfolding clash_by_entries is_late least body_fits fits body_at bucket_at entries_at entry_told raw_entries entry_count is_placed is_shaped is_entry reading keep with_copy without_item by_entries accept_if_whole copy_of count_opened decide hear hear_read hold line_of next_query offer open_bucket end_aged judge_read query_of settle turn turn_with wanted with_line hears hears_one
accepted_computed = refl

-- Both accept their query.
pub both_accept : (tape : TapeRead) (listeners : List Listener) → tape ≡ both_records → listeners ≡ both_listeners → all_hear tape listeners ≡ accepted 0 ∷ accepted 1 ∷ []
both_accept tape listeners both are = ap (λ t. all_hear t listeners) both ∙ ap (all_hear both_records) are ∙ accepted_computed

asleep_computed : all_hear second_record both_listeners ≡ asleep 0 ∷ asleep 1 ∷ []
unfolding body_fits fits body_at bucket_at entries_at entry_told raw_entries entry_count is_placed is_shaped is_entry reading by_entries copy_of count_dozed hear hear_read query_of settle turn turn_with wanted hears hears_one
asleep_computed = refl

-- Both sleep through the second record alone.
pub both_sleep : (tape : TapeRead) (listeners : List Listener) → tape ≡ second_record → listeners ≡ both_listeners → all_hear tape listeners ≡ asleep 0 ∷ asleep 1 ∷ []
both_sleep tape listeners second are = ap (λ t. all_hear t listeners) second ∙ ap (all_hear second_record) are ∙ asleep_computed
