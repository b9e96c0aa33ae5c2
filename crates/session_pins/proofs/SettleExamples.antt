-- A receiver whose one query asks for an item of which it keeps a copy: it settles by the copy alone.
use Rattle.std.specs.Prelude.{◌≡◌, [], ◌∷◌, refl}
use Rattle.air_history.specs.Clashes.{clash_by_entries, is_late, least}
use Rattle.air_history.specs.Columns.{scheme_of}
use Rattle.air_base.specs.declared.verdicts.Policy.TheVariants.{FMatrix}
use Rattle.air_base.specs.declared.verdicts.VerdictKind.TheVariants.{Accept}
use Rattle.air_model.specs.Aired.{air_of}
use Rattle.air_model.specs.Decks.{Deck}
use Rattle.air_model.specs.Judges.{by_entries}
use Rattle.air_model.specs.Sessions.{State, accept_if_whole, copy_of, count_copied, hold, is_unusable, line_of, next_query, query_of, reader_of, settle, start, turn, turn_with, wanted, with_line}
use Rattle.air_model.proofs.SessionExamples.{deck, item, line, read}

-- One item, and a reader with room for one copy, which asks once for it.
abbrev lone : Deck
lone = deck (item 10 1 ∷ []) [] (1, 9, 1) ((0 ∷ []) ∷ []) []

-- The receiver has heard cycle 1, and keeps item 0 of it.
abbrev with_copy : State
with_copy = record start { now = 1; copies = record { item = 0; cycle = 1; value = 10; entries = 0 ∷ [] } ∷ [] }

settles_by_its_copy : (settle (by_entries (scheme_of FMatrix)) (air_of lone) (reader_of lone 0) with_copy).lines ≡ line 0 1 Accept (read 0 1 10 ∷ []) ∷ []
unfolding clash_by_entries is_late least by_entries accept_if_whole copy_of count_copied hold is_unusable line_of next_query query_of settle turn turn_with wanted with_line
settles_by_its_copy = refl
