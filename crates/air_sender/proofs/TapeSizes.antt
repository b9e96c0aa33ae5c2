-- How long the tape of a deck's script is: it has the bytes of a cycle's records for each start of the script.
use Rattle.std.proofs.Common.{◌≡◌, ℕ, ◌<◌, cond, Option, Some, None, List, length, map, take, get_or, refl, sym, ap, ◌∙◌, arith}
use Rattle.std.specs.Prelude.{sum}
use Rattle.std.proofs.lemmas.List.{get_or-map, length-map, same_lists}
use Rattle.std.proofs.lemmas.List.Sums.{sum-map}
use Rattle.air_history.specs.declared.histories.Event.{Event}
use Rattle.air_history.specs.declared.histories.Event.TheVariants.{Start}
use Rattle.air_history.specs.Histories.{is_start, starts}
use Rattle.air_model.specs.Aired.{air_of, slots_at}
use Rattle.air_model.specs.Decks.{Deck, event_of, script_history, values_in}
use Rattle.air_model.specs.Outputs.{script_tape}
use Rattle.air_sender.specs.TapeSizes.{tape_size}
use Rattle.air_sender.proofs.TapeLengths.{history_size}
use Rattle.item_catalog.specs.DeckLimits.{is_scripted_start, script_starts}
use Rattle.air_sender.proofs.RunLoops.{event_there, script_length}

-- One for a start.
of_event : Event → ℕ
of_event e = cond (is_start e) 1 0

of_part : Option ℕ → ℕ
of_part part = cond (is_scripted_start part) 1 0

same_one : (d : Deck) (before : List (Option ℕ)) (part : Option ℕ) → of_event (event_of d before part) ≡ of_part part
unfolding of_event of_part event_of is_start
same_one d before None = refl
same_one d before (Some by) = refl

-- The script's history has the starts of the script.
pub starts_script : (d : Deck) → starts (script_history d) ≡ script_starts d
unfolding starts of_event of_part
starts_script d = sym (sum-map of_event H) ∙ ap sum same ∙ sum-map of_part d.script
  where
    H : List Event
    H = script_history d

    at : (k e : ℕ) → k < length d.script → get_or (map of_event H) k e ≡ get_or (map of_part d.script) k e
    at k e below =
        get_or-map of_event H k Start e (omega (arith, script_length d))
        ∙ ap of_event (event_there d k below)
        ∙ same_one d (take k d.script) (get_or d.script k None)
        ∙ sym (get_or-map of_part d.script k None e below)

    same : map of_event H ≡ map of_part d.script
    same = same_lists (map of_event H) (map of_part d.script) (length-map H of_event ∙ script_length d ∙ sym (length-map d.script of_part))
        (λ k e below. at k e (omega (arith, length-map H of_event, script_length d)))

pub length-script_tape : (d : Deck) → length (script_tape d) ≡ tape_size d.settings.version (length d.items) (slots_at (air_of d)) (script_starts d)
length-script_tape d =
    history_size (values_in d) (air_of d) (script_history d) ∙ ap (tape_size d.settings.version (length d.items) (slots_at (air_of d))) (starts_script d)
