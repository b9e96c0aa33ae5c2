-- What a deck's readers heard of a named tape, and why it couldn't be heard.
use Rattle.std.specs.Prelude.{◌≡◌, ◌≤◌, ℕ, List, Some, None, length}
use Rattle.air_devices.specs.WhatIsTold.{ToldIs}
use Rattle.air_devices.specs.Shelves.{ShelfState}
use Rattle.air_model.specs.Aired.{scheme_in}
use Rattle.air_model.specs.Decks.{Deck}
use Rattle.air_model.specs.Judges.{by_entries}
use Rattle.air_model.specs.Outputs.{sessions_over}
use Rattle.air_model.specs.Reports.{counts_lines, verdict_lines}
use Rattle.air_model.specs.Tapes.{tape_read}
use Rattle.air_report.specs.declared.status.Status.{Status}
use Rattle.air_report.specs.declared.status.Status.TheVariants as status
use Rattle.air_cli.specs.NamedFiles.{HasBytes, UnreadCause}
use Rattle.listeners.specs.declared.readers.Sessions.{Sessions}

-- Some bytes, at most `most`, are a whole tape, and the sessions are those of the deck's readers over its records. If the named file is told, these
-- are its bytes.
pub record AreFileSessions (name : List ℕ) (most : ℕ) (before : ShelfState) (d : Deck) (sessions : Sessions) : Type 0 where
  pub bytes : List ℕ
  pub told : ToldIs (before.told.file name) bytes
  pub fits : length bytes ≤ most
  pub whole : (tape_read bytes).cut ≡ None
  pub verdicts : sessions.verdicts.items ≡ verdict_lines (sessions_over (by_entries (scheme_in d)) d (λ r. (tape_read bytes).records))
  pub counts : sessions.counts.items ≡ counts_lines (sessions_over (by_entries (scheme_in d)) d (λ r. (tape_read bytes).records))

-- Why a named tape couldn't be heard: some bytes, those of the named file if it is told, are a tape that is cut at this byte; or the file couldn't be
-- read.
unfoldable pub UnheardCause : List ℕ → ℕ → ShelfState → ShelfState → Status → Type 0
UnheardCause name most before now (status.TapeCut at) = HasBytes name before (λ bytes. (length bytes ≤ most) × ((tape_read bytes).cut ≡ Some at))
UnheardCause name most before now s = UnreadCause name most before now s
