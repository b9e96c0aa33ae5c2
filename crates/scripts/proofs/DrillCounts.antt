-- What the readers of a drill count, all together: it fits in 64 bits, since the tape isn't long and the readers are eight.
use Rattle.std.proofs.Common.{ℕ, suc, ◌+◌, ◌*◌, ◌<◌, ◌≤◌, ◌^◌, Bool, true, false, List, [], ◌∷◌, length, map, get_or, ap, arith}
use Rattle.std.specs.Prelude.{◌==◌, ◌%◌, if◌then◌else◌, nat_lt, replicate, slice_index_or, sum_by}
use Rattle.std.specs.List.{enumerate_from, range_with_len}
use Rattle.std.proofs.Math.Nat.{suc-mul}
use Rattle.std.proofs.lemmas.List.{length-map, length-replicate}
use Rattle.std.proofs.lemmas.List.Concat.{length-flat_map}
use Rattle.std.proofs.lemmas.List.FromFn.{length-range_with_len}
use Rattle.std.proofs.lemmas.List.Sums.{sum-map, sum_by-cons, sum_by-le}
use Rattle.std.proofs.lemmas.Nat.{mul-le}
use Rattle.air_base.specs.declared.verdicts.Counts.{Counts}
use Rattle.air_model.specs.declared.reports.CountsLine.{CountsLine}
use Rattle.air_model.specs.Aired.{air_of, scheme_in}
use Rattle.air_model.specs.Buckets.{bucket_in}
use Rattle.air_model.specs.Decks.{script_history, values_in}
use Rattle.air_model.specs.Draws.{words_of}
use Rattle.air_model.specs.Drills.{drill_deck}
use Rattle.air_model.specs.Ethers.{Odds, due_at, due_number, heard_by, heard_list, heard_places, places_due, times_heard, word_of}
use Rattle.air_model.specs.Judges.{Judge, by_history}
use Rattle.air_model.specs.Outputs.{ether_of, odds_in, true_sessions}
use Rattle.air_model.specs.ReceiverLaws.{session_of}
use Rattle.air_model.specs.Reports.{counts_lines}
use Rattle.air_model.specs.Sessions.{State, reader_of}
use Rattle.item_catalog.specs.DeckLimits.{WithinLimits}
use Rattle.item_catalog.proofs.DrillLemmas.{drill_made}
use Rattle.air_sender.specs.AiredBytes.{aired_bytes}
use Rattle.scripts.specs.DrillLines.{sum_of}
use Rattle.scripts.specs.DrillSums.{SumsFit}
use Rattle.scripts.proofs.CountBounds.{asked_few, session_counts, state_count}
use Rattle.scripts.proofs.DrillTapes.{drill_buckets}

-- ---- how much is heard

module _ (odds : Odds) (words : List ℕ) (n : ℕ) where
  times_few : (place : ℕ) → times_heard odds words place ≤ 2
  unfolding times_heard
  times_few place = by (nat_lt (word_of words place 0 % 100) odds.loss) (nat_lt (word_of words place 1 % 100) odds.again)
    where
      by : (lost again : Bool) → (if lost then 0 else if again then 2 else 1) ≤ 2
      by true again = omega arith
      by false true = omega arith
      by false false = omega arith

  push_few : (number place : ℕ) → length (if due_number odds words place == number then replicate (times_heard odds words place) place else []) ≤ 2
  push_few number place = by (due_number odds words place == number)
    where
      by : (due : Bool) → length (if due then replicate (times_heard odds words place) place else []) ≤ 2
      by true = omega (arith, length-replicate (times_heard odds words place) place, times_few place)
      by false = omega arith

  due_few : (number : ℕ) → length (due_at odds words n number) ≤ n * 2
  unfolding due_at
  due_few number =
      let one : ℕ → List ℕ = λ place. if due_number odds words place == number then replicate (times_heard odds words place) place else [] in
      let places = range_with_len 0 n in
      let all = sum_by-le (λ place. length (one place)) 2 places (λ k d below. push_few number (get_or places k d)) in
      omega (arith, length-flat_map one places, length-range_with_len 0 n)

  places_few : length (heard_places odds words n) ≤ (n + 8) * (n * 2)
  unfolding heard_places places_due
  places_few =
      let numbers = range_with_len 0 (n + 8) in
      let all = sum_by-le (λ number. length (due_at odds words n number)) (n * 2) numbers (λ k d below. due_few (get_or numbers k d)) in
      omega (arith, length-flat_map (due_at odds words n) numbers, ap (λ k. k * (n * 2)) (length-range_with_len 0 (n + 8)))

ether_few : (seed number : ℕ) (odds : Odds) (pushed : List (List ℕ)) → length (heard_by seed number odds pushed) ≤ (length pushed + 8) * (length pushed * 2)
unfolding heard_by heard_list
ether_few seed number odds pushed =
    let words = words_of seed number (3 * length pushed) in
    omega (arith, length-map (heard_places odds words (length pushed)) (λ place. slice_index_or pushed place []), places_few odds words (length pushed))

-- ---- a drill

-- What one of its readers counts.
reader_few : (seed size r : ℕ) (judge : Judge) → WithinLimits (drill_deck seed size) → 1 ≤ size → size ≤ 100
    → state_count (session_of judge (drill_deck seed size) r (map bucket_in (ether_of (drill_deck seed size) (script_history (drill_deck seed size)) r))) ≤ 239360426364034817
reader_few seed size r judge limits some few =
    let deck = drill_deck seed size in
    let pushed = aired_bytes deck (script_history deck) in
    let p = length pushed in
    let gives = heard_by deck.settings.seed r (odds_in deck) pushed in
    let aired = drill_buckets seed size some few in
    let twice = mul-le (p + 8) (p * 2) 864872 1729728 (omega arith) (omega arith) in
    let asked = asked_few deck.queries 10000 16 limits.queries limits.query r in
    let turns = sum_by length ((reader_of deck r).queries) in
    let heard = ether_few deck.settings.seed r (odds_in deck) pushed in
    let whole = session_counts judge (air_of deck) (reader_of deck r) (map bucket_in gives) in
    let all = mul-le (length gives + 1) (turns + 1) 1495993314817 160001 (omega arith) (omega arith) in
    omega (arith, ap (λ k. (k + 1) * (turns + 1)) (length-map gives bucket_in))

-- The sum of a count over readers each of which counts few.
sums_few : (count : Counts → ℕ) (f : ℕ → State) (m : ℕ) → ((r : ℕ) → count ((f r).counts) ≤ m) → (k : ℕ) (rs : List ℕ)
    → sum_of count (map (λ p. let l : CountsLine = record { reader = p.0; counts = p.1.counts } in l) (enumerate_from k (map f rs))) ≤ length rs * m
sums_few count f m few k [] = omega arith
sums_few count f m few k (r ∷ rs) =
    let of : CountsLine → ℕ = λ l. count l.counts in
    let line : ℕ × State → CountsLine = λ p. record { reader = p.0; counts = p.1.counts } in
    let rest = map line (enumerate_from (k + 1) (map f rs)) in
    let all : sum_of count (line (k, f r) ∷ rest) ≤ suc (length rs) * m = (let here = few r in let others = sums_few count f m few (k + 1) rs in
    omega (arith, sum-map of (line (k, f r) ∷ rest), sum_by-cons of (line (k, f r)) rest, sum-map of rest, suc-mul (length rs) m)) in
    all

pub drill_sums : (seed size : ℕ) → seed < 2 ^ 64 → 1 ≤ size → size ≤ 100 → SumsFit (counts_lines (true_sessions (drill_deck seed size) (script_history (drill_deck seed size))))
unfolding true_sessions drill_deck
drill_sums seed size seeded some few =
    let deck = drill_deck seed size in
    let H = script_history deck in
    let judge = by_history (scheme_in deck) (length deck.items) (values_in deck) H in
    let one : ℕ → State = λ r. session_of judge deck r (map bucket_in (ether_of deck H r)) in
    let readers = range_with_len 0 (length deck.readers) in
    let limits = (drill_made seed size seeded some few).1 in
    let each = λ (r : ℕ). reader_few seed size r judge limits some few in
    record {
      opened = (let all = sums_few (λ c. c.opened) one 239360426364034817 (λ r. let own = each r in omega arith) 0 readers in omega arith);
      dozed = (let all = sums_few (λ c. c.dozed) one 239360426364034817 (λ r. let own = each r in omega arith) 0 readers in omega arith);
      copied = (let all = sums_few (λ c. c.copied) one 239360426364034817 (λ r. let own = each r in omega arith) 0 readers in omega arith);
    }
