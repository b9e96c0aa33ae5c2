-- What the second cycle of two items in one group airs, computed.
use Rattle.std.proofs.Common.{◌≡◌, ◌∙◌, ◌++◌, ℕ, List, [], ◌∷◌, Option, Some, Result, Ok, Err, ap, drop, refl, subst, sym}
use Rattle.std.specs.Prelude.{MatchResult, OnOk}
use Rattle.air_base.specs.declared.verdicts.Policy.TheVariants.{FMatrix}
use Rattle.air_history.specs.declared.histories.Event.{Event}
use Rattle.air_history.specs.declared.histories.Event.TheVariants.{Start}
use Rattle.air_history.specs.Places.{last_place, greatest, greatest_of}
use Rattle.air_history.specs.Histories.{cycle_at, front, is_start, reads, starts, writer, writer_before, writes}
use Rattle.air_history.specs.Descents.{descends, descends_in}
use Rattle.air_history.specs.Columns.{column_entry, group_entry}
use Rattle.air_history.specs.Tables.{table, value_after, value_on_base, write_of}
use Rattle.air_model.specs.Aired.{Air, body_of, bucket_of, buckets_of}
use Rattle.air_model.specs.Buckets.{capped_body, capped_entries, count_of, entries_of, entry_bytes, item_of, kind_of, spelling, value_of}
use Rattle.air_model.specs.Programs.{chunk, chunk_len, least_common_multiple, minor_cycle, num_chunks, num_minors, program}
use Rattle.air_devices.specs.Masts.{Changes, SentBuckets, nothing_sent, with_buckets}
use Rattle.chunk_program.specs.Editions.{Plans}
use Rattle.deck_runs.specs.Sendings.{IsAirOf, SendsCycles, bytes_aired}
use Rattle.thread_pins.specs.SmallGroups.{pair_bytes, pair_plans, pair_values, sent_by_group, written_between}

-- The air of both items in one group.
abbrev pub pair_air : Air
pair_air = record { scheme = record { policy = FMatrix; group = 2 }; version = 1; items = 2; replans = []; slots = (Some 0 ∷ Some 1 ∷ []) ∷ []; pix = [] }

is_pair : IsAirOf 2 pair_values (record { policy = FMatrix; version = 1 }) pair_plans pair_air
unfolding chunk chunk_len least_common_multiple minor_cycle num_chunks num_minors program
is_pair = record { items = refl; policy_is = refl; group_is = refl; version_is = refl; edition_is = λ c. refl; slots_are = λ c. refl }

-- The group, the values and the plans are given by equations, as a call has them.
pub pair_given : (group : ℕ) (values : List ℕ) (plans : Plans) → group ≡ 2 → values ≡ pair_values → plans ≡ pair_plans →
    IsAirOf group values (record { policy = FMatrix; version = 1 }) plans pair_air
pair_given group values plans two pair same =
    subst (λ g. IsAirOf g values (record { policy = FMatrix; version = 1 }) plans pair_air) (sym two)
    (subst (λ v. IsAirOf 2 v (record { policy = FMatrix; version = 1 }) plans pair_air) (sym pair)
    (subst (λ p. IsAirOf 2 pair_values (record { policy = FMatrix; version = 1 }) p pair_air) (sym same) is_pair))

abbrev first_cycle : List (List ℕ)
first_cycle = pair_bytes 1 0 10 0 ∷ pair_bytes 1 1 20 0 ∷ []

record Cycles : Type 0 where
  one : bytes_aired pair_values pair_air (Start ∷ []) ≡ first_cycle
  two : bytes_aired pair_values pair_air written_between ≡ first_cycle ++ sent_by_group.buckets

cycles_computed : Cycles
unfolding last_place greatest greatest_of cycle_at front is_start reads starts writer writer_before writes descends descends_in column_entry group_entry table value_after value_on_base write_of body_of bucket_of capped_entries capped_body buckets_of count_of entries_of item_of kind_of spelling entry_bytes value_of
cycles_computed = record { one = refl; two = refl }

pub one_started : (seen : List Event) → seen ≡ Start ∷ [] → starts seen ≡ 1
unfolding starts is_start
one_started seen is = ap starts is

-- What is sent after the first cycle is the second one.
pub second_sent : {T E : Type 0} (r : Result T E) (F : E → Type 0) (values : List ℕ) (G H : List Event) (before now : Option SentBuckets) →
    values ≡ pair_values → G ≡ Start ∷ [] → before ≡ Some nothing_sent → MatchResult r (λ _. SendsCycles values pair_air 1 G H before now) F →
    OnOk r (H ≡ written_between → now ≡ Some sent_by_group)
second_sent (Ok x) F values G H before now pair one none sends = λ both.
    let old_is = ap (λ v. bytes_aired v pair_air G) pair ∙ ap (bytes_aired pair_values pair_air) one ∙ cycles_computed.one in
    let new_is = ap (λ v. bytes_aired v pair_air H) pair ∙ ap (bytes_aired pair_values pair_air) both ∙ cycles_computed.two in
    let more_is : sends.more ≡ sent_by_group.buckets = ap (drop 2) (sym (sends.aired ∙ ap (λ l. l ++ sends.more) old_is)) ∙ ap (drop 2) new_is in
    let changed : now ≡ Some (with_buckets sends.more nothing_sent) = subst (λ b. Changes (with_buckets sends.more) b now) none sends.sent in
    changed ∙ ap (λ m. Some (with_buckets m nothing_sent)) more_is
second_sent (Err e) F values G H before now pair one none sends = tt
