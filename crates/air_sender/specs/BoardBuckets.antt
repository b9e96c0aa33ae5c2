-- What a board airs: the bucket of each slot, and the last cycle of a history.
use Rattle.std.specs.Prelude.{◌≡◌, ℕ, cond, ◌<◌, List, [], ◌∷◌, ◌++◌, All, length, map, get_or, Option, Some, None}
use Rattle.std.specs.List.{range_with_len}
use Rattle.air_base.specs.declared.verdicts.Form.{Form}
use Rattle.air_base.specs.declared.verdicts.Policy.{Policy}
use Rattle.air_base.specs.declared.verdicts.Policy.TheVariants.{FMatrix, Datacycle, RMatrix}
use Rattle.air_history.specs.declared.histories.Event.{Event}
use Rattle.air_history.specs.declared.histories.Event.TheVariants.{Start}
use Rattle.air_history.specs.Histories.{starts}
use Rattle.air_history.specs.Columns.{Scheme, has_groups}
use Rattle.air_history.specs.Boards.{Board, board_of}
use Rattle.group_matrix.specs.GroupBoards.{GroupBoard, grouped, item_column}
use Rattle.air_model.specs.Buckets.{Bucket, Body, Idle, capped_bucket, spelling}
use Rattle.air_model.specs.Aired.{Air, aired_as, bucket_of, edition_at, slots_at}

-- The entries that a policy airs with an item: its control column, or the write vector.
abbrev pub entries_on : Policy → Board → ℕ → List ℕ
entries_on FMatrix board item = get_or board.columns item []
entries_on Datacycle board item = board.vector
entries_on RMatrix board item = board.vector

-- A board by groups as a board: each item has the column of its group. It has no write vector, since groups come under F-Matrix alone.
abbrev pub spread : GroupBoard → Board
spread b = record { cycle = b.cycle; values = b.values; columns = map (item_column b) (range_with_len 0 (length b.values)); vector = [] }

-- What a scheme airs a cycle from: the board, or the board by groups if the scheme has groups.
abbrev pub aired_board : Scheme → Board → Board
aired_board scheme board = cond (has_groups scheme) (spread (grouped scheme.group board)) board

-- The body of a slot with this item, or idle.
unfoldable pub body_on : Policy → Board → Option ℕ → Body
body_on policy board None = Idle (length board.values)
body_on policy board (Some item) = aired_as policy item (get_or board.values item 0) (entries_on policy board item)

-- The form of an air's buckets.
abbrev pub form_of : Air → Form
form_of air = record { policy = air.scheme.policy; version = air.version }

-- The bucket of slot s in the board's cycle, in this edition: its entries are capped as the form's version requires.
unfoldable pub bucket_on : Form → ℕ → List (Option ℕ) → Board → ℕ → Bucket
bucket_on form e slots board s =
    capped_bucket (record { version = form.version; edition = e; cycle = board.cycle; slot = s; body = body_on form.policy board (get_or slots s None) })

-- The buckets of the board's cycle, slot by slot.
abbrev pub board_buckets : Form → ℕ → List (Option ℕ) → Board → List Bucket
board_buckets form e slots board = map (bucket_on form e slots board) (range_with_len 0 (length slots))

-- The bytes of these buckets.
abbrev pub board_bytes : Form → ℕ → List (Option ℕ) → Board → List (List ℕ)
board_bytes form e slots board = map spelling (board_buckets form e slots board)

-- A board can air its cycle if all its entries are below it.
pub record EntriesBelow (board : Board) : Type 0 where
  pub columns : All (All (λ e. e < board.cycle)) board.columns
  pub vector : All (λ e. e < board.cycle) board.vector

-- The buckets of the last cycle that a history starts, slot by slot.
abbrev pub last_cycle_buckets : List ℕ → Air → List Event → List Bucket
last_cycle_buckets values air H = map (bucket_of values air H air.version (starts H)) (range_with_len 0 (length (slots_at air (starts H))))

-- The bytes of these buckets, for the history with a start at its end.
abbrev pub last_bytes : List ℕ → Air → List Event → List (List ℕ)
last_bytes values air G = map spelling (last_cycle_buckets values air (G ++ Start ∷ []))

-- The board is what the air's scheme airs of the board of G and a start, from these values. It is aired in this form and edition with
-- these slots.
pub record IsLastBoard (values : List ℕ) (air : Air) (G : List Event) (form : Form) (e : ℕ) (program : List (Option ℕ)) (b : Board) : Type 0 where
  pub board : b ≡ aired_board air.scheme (board_of values (G ++ Start ∷ []))
  pub items : air.items ≡ length values
  pub policy : air.scheme.policy ≡ form.policy
  pub version : air.version ≡ form.version
  pub edition : edition_at air (starts (G ++ Start ∷ [])) ≡ e
  pub slots : slots_at air (starts (G ++ Start ∷ [])) ≡ program
