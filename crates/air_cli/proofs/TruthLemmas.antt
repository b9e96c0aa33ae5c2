-- The sessions that are printed are true: from the laws of the model at a deck of the grammar.
use Rattle.std.proofs.Common.{◌≡◌, ℕ, zero, suc, ◌+◌, ◌<◌, ◌≤◌, ◌*◌, List, [], ◌∷◌, length, map, refl, ap, ◌∙◌, arith}
use Rattle.std.specs.List.{range_with_len}
use Rattle.air_base.specs.declared.limits.TheConstants.{MOST_SLOTS}
use Rattle.item_catalog.specs.DeckLimits.{WithinLimits}
use Rattle.air_model.specs.Buckets.{bucket_in, spelling}
use Rattle.air_model.specs.Decks.{Deck, IsDeck, disks_in, rates_in, script_history, values_in}
use Rattle.air_model.specs.Disks.{cut, order}
use Rattle.air_model.specs.Draws.{words_of}
use Rattle.air_model.specs.Ethers.{heard_by}
use Rattle.air_model.specs.Aired.{air_of, buckets_of}
use Rattle.air_model.specs.AiredLaws.{CanAir}
use Rattle.air_model.specs.Outputs.{ether_of, odds_in}
use Rattle.air_model.specs.Programs.{program}
use Rattle.chunk_program.specs.Plans.{AreShort}
use Rattle.air_cli.proofs.ModelLaws.{BytesLaw, EventsLaw, HeardWasPushedLaw, ReceiverLaw, ScriptLaw}
use Rattle.air_model.proofs.DeckLemmas.{each_edition}
use Rattle.air_sender.proofs.TapeLemmas.{slots_short}
use Rattle.air_sender.proofs.TapeSizes.{starts_script}
use Rattle.air_cli.specs.Truths.{IsTrueScript, IsTrueTape}

-- ---- the programs

-- If a deck has no replans, only its own program has to be short enough.
pub short_programs : (d : Deck) → d.replans ≡ [] → length (program (disks_in d 0)) ≤ MOST_SLOTS → AreShort d
short_programs d none short = each_edition (λ specs. length (program (cut (order (rates_in d)) specs)) ≤ MOST_SLOTS) d none short

-- ---- the script

pub can_air : (d : Deck) → IsDeck d → WithinLimits d → AreShort d → ScriptLaw → CanAir d (script_history d)
can_air d made limits short script = record {
  made = made;
  legal = script d made.script;
  cycles = omega (arith, starts_script d, limits.starts);
  slots = slots_short d short;
}

pub true_script : (d : Deck) → IsDeck d → WithinLimits d → AreShort d → ScriptLaw → EventsLaw → BytesLaw → HeardWasPushedLaw → ReceiverLaw → IsTrueScript d
unfolding heard_by
true_script d made limits short script events bytes pushed receiver =
    let H = script_history d in
    let can = can_air d made limits short script in
    let records = map spelling (buckets_of (values_in d) (air_of d) H) in
    record {
      legal = can.legal;
      bases = (events d H made can.legal).1;
      sessions = λ r below. receiver d H r (map bucket_in (ether_of d H r)) made below
          ((bytes d H (ether_of d H r) can (pushed (odds_in d) (words_of d.settings.seed r (3 * length records)) records)).0);
    }

-- ---- a tape

-- What two functions make of the same numbers.
pub map_numbers : {X : Type 0} (f g : ℕ → X) (a n : ℕ) → ((k : ℕ) → a ≤ k → k < a + n → f k ≡ g k) → map f (range_with_len a n) ≡ map g (range_with_len a n)
map_numbers f g a zero h = refl
map_numbers f g a (suc n) h =
    ap (λ x. x ∷ map f (range_with_len (a + 1) n)) (h a (omega arith) (omega arith))
    ∙ ap (λ l. g a ∷ l) (map_numbers f g (a + 1) n (λ k low high. h k (omega arith) (omega arith)))

pub true_tape : (d : Deck) → IsDeck d → ReceiverLaw → (records : List (List ℕ)) → IsTrueTape d records
true_tape d made receiver records H aired = λ r below. receiver d H r (map bucket_in records) made below aired
