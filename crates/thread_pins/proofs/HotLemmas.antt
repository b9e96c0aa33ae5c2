-- What two cycles air of two items of which the first is aired twice a cycle, computed.
use Rattle.std.proofs.Common.{◌≡◌, ◌∙◌, ◌++◌, ℕ, List, [], ◌∷◌, Option, Some, None, Result, Ok, Err, ap, refl, subst, sym}
use Rattle.std.specs.Prelude.{MatchResult, OnOk}
use Rattle.air_base.specs.declared.verdicts.Policy.TheVariants.{FMatrix}
use Rattle.air_history.specs.declared.histories.Event.{Event}
use Rattle.air_history.specs.Places.{last_place, greatest}
use Rattle.air_history.specs.Histories.{cycle_at, front, is_start, reads, starts, writer, writer_before, writes}
use Rattle.air_history.specs.Descents.{descends, descends_in}
use Rattle.air_history.specs.Columns.{column_entry, scheme_of}
use Rattle.air_history.specs.Tables.{table, value_after, value_on_base, write_of}
use Rattle.air_model.specs.Aired.{Air, body_of, bucket_of, buckets_of}
use Rattle.air_model.specs.Buckets.{capped_body, capped_entries, count_of, entries_of, entry_bytes, item_of, kind_of, spelling, value_of}
use Rattle.air_model.specs.Programs.{chunk, chunk_len, least_common_multiple, minor_cycle, num_chunks, num_minors, program}
use Rattle.air_devices.specs.Masts.{Changes, SentBuckets, nothing_sent, with_buckets}
use Rattle.chunk_program.specs.Editions.{Plans}
use Rattle.deck_runs.specs.Sendings.{IsAirOf, SendsCycles, bytes_aired}
use Rattle.thread_pins.specs.HotItem.{hot_plans, sent_in_two_cycles}
use Rattle.thread_pins.specs.SmallGroups.{pair_values, written_between}

-- The air of both items, without groups.
abbrev pub hot_air : Air
hot_air = record { scheme = scheme_of FMatrix; version = 1; items = 2; replans = []; slots = (Some 0 ∷ Some 1 ∷ Some 0 ∷ None ∷ []) ∷ []; pix = [] }

is_hot : IsAirOf 0 pair_values (record { policy = FMatrix; version = 1 }) hot_plans hot_air
unfolding chunk chunk_len least_common_multiple minor_cycle num_chunks num_minors program
is_hot = record { items = refl; policy_is = refl; group_is = refl; version_is = refl; edition_is = λ c. refl; slots_are = λ c. refl }

-- The values and the plans are given by equations, as a call has them.
pub hot_given : (values : List ℕ) (plans : Plans) → values ≡ pair_values → plans ≡ hot_plans → IsAirOf 0 values (record { policy = FMatrix; version = 1 }) plans hot_air
hot_given values plans pair same =
    subst (λ v. IsAirOf 0 v (record { policy = FMatrix; version = 1 }) plans hot_air) (sym pair)
    (subst (λ p. IsAirOf 0 pair_values (record { policy = FMatrix; version = 1 }) p hot_air) (sym same) is_hot)

record Cycles : Type 0 where
  none : bytes_aired pair_values hot_air [] ≡ []
  both : bytes_aired pair_values hot_air written_between ≡ sent_in_two_cycles.buckets

cycles_computed : Cycles
unfolding last_place greatest cycle_at front is_start reads starts writer writer_before writes descends descends_in column_entry table value_after value_on_base write_of body_of bucket_of capped_entries capped_body buckets_of count_of entries_of item_of kind_of spelling entry_bytes value_of
cycles_computed = record { none = refl; both = refl }

pub none_started : (seen : List Event) → seen ≡ [] → starts seen ≡ 0
unfolding starts
none_started seen is = ap starts is

-- What is sent from the beginning on is both cycles.
pub both_sent : {T E : Type 0} (r : Result T E) (F : E → Type 0) (values : List ℕ) (G H : List Event) (before now : Option SentBuckets) →
    values ≡ pair_values → G ≡ [] → before ≡ Some nothing_sent → MatchResult r (λ _. SendsCycles values hot_air 2 G H before now) F →
    OnOk r (H ≡ written_between → now ≡ Some sent_in_two_cycles)
both_sent (Ok x) F values G H before now pair new none sends = λ both.
    let old_is = ap (λ v. bytes_aired v hot_air G) pair ∙ ap (bytes_aired pair_values hot_air) new ∙ cycles_computed.none in
    let new_is = ap (λ v. bytes_aired v hot_air H) pair ∙ ap (bytes_aired pair_values hot_air) both ∙ cycles_computed.both in
    let more_is : sends.more ≡ sent_in_two_cycles.buckets = sym (sends.aired ∙ ap (λ l. l ++ sends.more) old_is) ∙ new_is in
    let changed : now ≡ Some (with_buckets sends.more nothing_sent) = subst (λ b. Changes (with_buckets sends.more) b now) none sends.sent in
    changed ∙ ap (λ m. Some (with_buckets m nothing_sent)) more_is
both_sent (Err e) F values G H before now pair new none sends = tt
