-- What a deck airs a cycle from, and what a board airs in its cycle for those who know an air.
use Rattle.std.specs.Prelude.{◌≡◌, ◌++◌, ◌∷◌, [], ℕ, ◌<◌, List, Option, None, Some, IsTrue, length}
use Rattle.air_base.specs.declared.verdicts.Form.{Form}
use Rattle.air_base.specs.declared.verdicts.Policy.TheVariants.{FMatrix}
use Rattle.air_history.specs.declared.histories.Event.{Event}
use Rattle.air_history.specs.declared.histories.Event.TheVariants.{Start}
use Rattle.air_history.specs.Boards.{Board, board_of}
use Rattle.air_model.specs.Aired.{Air, fits, scheme_in}
use Rattle.air_model.specs.Decks.{Deck, values_in}
use Rattle.air_sender.specs.BoardBuckets.{aired_board, bucket_on, spread}
use Rattle.group_matrix.specs.GroupBoards.{GroupBoard}

-- The bucket of each slot of the board's cycle fits the air.
abbrev pub AreFitting : Air → Form → ℕ → List (Option ℕ) → Board → Type 0
AreFitting air form e slots board = (s : ℕ) → s < length slots → IsTrue (fits air (bucket_on form e slots board s))

-- The deck airs the cycle that starts after these events from this board.
abbrev pub AirsAfter : Deck → List Event → Board → Type 0
AirsAfter deck G source = source ≡ aired_board (scheme_in deck) (board_of (values_in deck) (G ++ Start ∷ []))

-- It airs that cycle from the board by groups if there is one, or else from the board.
abbrev pub AirsFrom : Deck → List Event → Board → Option GroupBoard → Type 0
AirsFrom deck G board None = AirsAfter deck G board
AirsFrom deck G board (Some groups) = AirsAfter deck G (spread groups) × (deck.settings.policy ≡ FMatrix)
