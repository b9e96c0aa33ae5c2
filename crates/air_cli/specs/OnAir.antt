-- What words mean to `air_main`, and what a call leaves of the mast and of the ear.
use Rattle.std.specs.Prelude.{◌≡◌, ◌⊎◌, Option, Some, ⊤}
use Rattle.air_devices.specs.Ears.{EarState}
use Rattle.air_devices.specs.Masts.{MastState}
use Rattle.air_devices.specs.Shelves.{ShelfState}
use Rattle.deck_runs.specs.Casts.{FailsFirst}
use Rattle.air_cli.specs.NamedDecks.{HasDeck}
use Rattle.air_cli.specs.Cast.{HasSent, cast_meaning}
use Rattle.air_cli.specs.Commands.{quiet_meaning}
use Rattle.air_cli.specs.Hearings.{EarFailsFirst}
use Rattle.air_cli.specs.Listen.{HasHeardPort, listen_meaning}
use Rattle.air_cli.specs.Meanings.{Meaning}
use Rattle.air_cli.specs.Run.{run_meaning}
use Rattle.air_cli.specs.Words.{Request, AsksCast, AsksListen, AsksRun}

-- What a request, or none, means, with the mast and the ear before and after the call. All requests but `cast` and `listen` mean the same over every
-- mast and ear. Those that don't wait mean what they mean to `air_quiet`.
abbrev pub words_meaning : Option Request → MastState → MastState → EarState → EarState → Meaning
words_meaning (Some (AsksRun deck tape)) mast mast_now ear ear_now = run_meaning deck tape
words_meaning (Some (AsksCast deck port)) mast mast_now ear ear_now = cast_meaning deck port mast mast_now
words_meaning (Some (AsksListen deck port)) mast mast_now ear ear_now = listen_meaning deck port ear ear_now
words_meaning other mast mast_now ear ear_now = quiet_meaning other

-- Regardless of the status, the mast is as it was, with one exception: `cast` may have sent to its port the first buckets of a whole history of a
-- well-made deck, and after all of them, if no failure was counted, the end. If the named file is told, it spells that deck.
abbrev pub LeavesMast : Option Request → ShelfState → MastState → MastState → Type 0
LeavesMast (Some (AsksCast deck port)) shelf before now = (now ≡ before) ⊎ HasDeck deck shelf (λ d. HasSent d port before now)
LeavesMast other shelf before now = now ≡ before

-- Regardless of the status, the ear is as it was, with one exception: `listen` may have heard the first datagrams on its port, at most as many as a
-- well-made deck says. If the named file is told, it spells that deck.
abbrev pub LeavesEar : Option Request → ShelfState → EarState → EarState → Type 0
LeavesEar (Some (AsksListen deck port)) shelf before now = (now ≡ before) ⊎ HasDeck deck shelf (λ d. HasHeardPort d port before now)
LeavesEar other shelf before now = now ≡ before

-- After the first failure of the mast `cast` sent nothing, and after that of the ear `listen` heard nothing.
abbrev pub StopsAtFailure : {M E : Type 0} → (M → MastState) → (E → EarState) → Option Request → M → M → E → E → Type 0
StopsAtFailure mast ear (Some (AsksCast deck port)) sender sender_now hearer hearer_now = FailsFirst mast sender sender_now
StopsAtFailure mast ear (Some (AsksListen deck port)) sender sender_now hearer hearer_now = EarFailsFirst ear hearer hearer_now
StopsAtFailure mast ear other sender sender_now hearer hearer_now = ⊤
