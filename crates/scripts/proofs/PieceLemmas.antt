-- A run that goes on piece by piece: as it begins, and after one event more.
use Rattle.std.proofs.Common.{◌≡◌, ℕ, ◌+◌, ◌*◌, ◌<◌, [], ◌∷◌, ◌++◌, length, take, get_or, replicate, sym, ◌∙◌, ap, subst, arith}
use Rattle.std.proofs.lemmas.List.{get_or-replicate, length-replicate, length_push}
use Rattle.air_history.specs.declared.histories.Event.{Event}
use Rattle.air_history.specs.Boards.{board_of}
use Rattle.air_model.specs.Buckets.{entry_len}
use Rattle.air_model.specs.Decks.{Deck, script_history, scripted_commits, values_in}
use Rattle.air_sender.specs.DeckGroups.{HasGroups}
use Rattle.scripts.specs.declared.piece_runs.PieceRun.{PieceRun}
use Rattle.scripts.specs.PieceRuns.{IsPieceRun}
use Rattle.scripts.specs.Private.RunSteps.{CountsScripted}
use Rattle.air_sender.proofs.RunLoops.{event_in, event_more}

no_parts : (deck : Deck) (by n : ℕ) → n ≡ 0 → scripted_commits by (take n deck.script) ≡ 0
no_parts deck by n e = ap (λ n. scripted_commits by (take n deck.script)) e

-- Before any event.
pub piece_begins : (deck : Deck) (r : PieceRun) → r.events.items ≡ [] → r.board ≡ board_of (values_in deck) [] → r.made.items ≡ replicate (length deck.updates) 0 → HasGroups deck r.groups → length r.room.items ≡ 24 + entry_len deck.settings.version * length deck.items
    → IsPieceRun deck r
piece_begins deck r none board made groups room =
    let size : length r.events.items ≡ 0 = ap length none in
    let long : length r.made.items ≡ length deck.updates = ap length made ∙ length-replicate (length deck.updates) 0 in
    record {
      begun = none ∙ ap (λ n. take n (script_history deck)) (sym size);
      within = omega (arith, size);
      stepped = board ∙ ap (board_of (values_in deck)) (sym none);
      updaters = long;
      counts = λ by l. ap (λ ms. get_or ms by 0) made ∙ get_or-replicate (length deck.updates) by 0 0 (omega (arith, long)) ∙ sym (no_parts deck by (length r.events.items) size);
      groups = groups;
      room = room;
    }

-- After one event more.
pub piece_next : (deck : Deck) (before after : PieceRun) (e : Event) → IsPieceRun deck before → length before.events.items < length deck.script → e ≡ event_in deck (length before.events.items)
    → after.events.items ≡ before.events.items ++ e ∷ [] → after.board ≡ board_of (values_in deck) (before.events.items ++ e ∷ []) → length after.made.items ≡ length deck.updates
    → CountsScripted deck (length before.events.items + 1) after.made.items → HasGroups deck after.groups → length after.room.items ≡ 24 + entry_len deck.settings.version * length deck.items → IsPieceRun deck after
piece_next deck before after e was more is grew board updaters counts groups room =
    let k = length before.events.items in
    let size : length after.events.items ≡ k + 1 = ap length grew ∙ length_push before.events.items e in
    record {
      begun = event_more deck k e before.events.items after.events.items more is was.begun grew ∙ ap (λ n. take n (script_history deck)) (sym size);
      within = omega (arith, size);
      stepped = board ∙ ap (board_of (values_in deck)) (sym grew);
      updaters = updaters;
      counts = subst (λ n. CountsScripted deck n after.made.items) (sym size) counts;
      groups = groups;
      room = room;
    }
