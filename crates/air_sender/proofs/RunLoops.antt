-- The events of a deck's script, one by one: after k parts they are the first k of the script's history.
use Rattle.std.proofs.Common.{◌≡◌, ℕ, ◌+◌, ◌<◌, ◌≤◌, None, List, [], ◌∷◌, ◌++◌, length, take, get_or, sym, ◌∙◌, ap, subst, arith}
use Rattle.std.proofs.lemmas.List.{length-take, take_all, take_more}
use Rattle.std.proofs.lemmas.List.FromFn.{get_or-map-range_with_len, length-map-range_with_len}
use Rattle.air_history.specs.declared.histories.Event.{Event}
use Rattle.air_history.specs.declared.histories.Event.TheVariants.{Start}
use Rattle.air_history.specs.Histories.{ItemsFit, starts}
use Rattle.air_history.proofs.ScanLemmas.{starts_within}
use Rattle.air_model.specs.Decks.{Deck, IsDeck, event_of, script_history}
use Rattle.air_model.proofs.DeckLemmas.{items_fit, events}
use Rattle.air_model.proofs.ScriptLemmas.{script}

-- The event of the part at a place.
abbrev pub event_in : Deck → ℕ → Event
event_in deck k = event_of deck (take k deck.script) (get_or deck.script k None)

-- It is the event of the script's history at this place.
pub event_there : (deck : Deck) (k : ℕ) → k < length deck.script → get_or (script_history deck) k Start ≡ event_in deck k
unfolding script_history
event_there deck k l = get_or-map-range_with_len (event_in deck) 0 (length deck.script) k k Start l (omega arith)

pub script_length : (deck : Deck) → length (script_history deck) ≡ length deck.script
unfolding script_history
script_length deck = length-map-range_with_len (event_in deck) 0 (length deck.script)

-- The next event's items are the catalog's.
pub next_fits : (deck : Deck) (k : ℕ) (e : Event) → IsDeck deck → k < length deck.script → e ≡ event_in deck k → ItemsFit (length deck.items) e
next_fits deck k e made l is =
    let fit = items_fit (length deck.updates) (length deck.items) _ ((events deck (script_history deck) made (script deck made.script)).0 k Start (omega (arith, script_length deck))) in
    subst (ItemsFit (length deck.items)) (event_there deck k l ∙ sym is) fit

-- Few cycles were started so far.
pub few_starts : (deck : Deck) (k : ℕ) (H : List Event) → H ≡ take k (script_history deck) → starts H ≤ k
few_starts deck k H e = let most = starts_within H in let long = ap length e ∙ length-take k (script_history deck) in omega arith

-- One more event.
pub event_more : (deck : Deck) (k : ℕ) (e : Event) (before after : List Event) → k < length deck.script → e ≡ event_in deck k → before ≡ take k (script_history deck) → after ≡ before ++ e ∷ []
    → after ≡ take (k + 1) (script_history deck)
event_more deck k e before after l is so_far grew =
    let H = script_history deck in
    grew ∙ ap (λ G. G ++ e ∷ []) so_far ∙ ap (λ e. take k H ++ e ∷ []) (is ∙ sym (event_there deck k l)) ∙ sym (take_more H k Start (omega (arith, script_length deck)))

-- All events.
pub event_all : (deck : Deck) (k : ℕ) (H : List Event) → length deck.script ≤ k → H ≡ take k (script_history deck) → H ≡ script_history deck
event_all deck k H past so_far = so_far ∙ take_all k (script_history deck) (omega (arith, script_length deck))
