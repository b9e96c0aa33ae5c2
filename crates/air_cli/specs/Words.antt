-- The forms of the words of a command: which of them the words are, if they are one. A name is the list of its bytes. A file's name is any word that
-- isn't empty. A seed, a size, a port, an item and a place are spelled like numbers.
use Rattle.std.specs.Prelude.{ℕ, ◌≤◌, ◌||◌, ◌&&◌, ◌==◌, nat_le, if◌then◌else◌, List, [], ◌∷◌, length, Option, Some, None, codes, nat_eq, ⊤}
use Rattle.std.specs.Option.{option_map}
use Rattle.std.specs.Cmp.Lexicographic.{pointwise}
use Rattle.air_base.specs.Numbers.{number_of}
use Rattle.air_cli.specs.declared.words.places.TheConstants.{LAST_ITEM, LAST_PLACE}
use Rattle.air_cli.specs.declared.words.ports.TheConstants.{LAST_PORT}
use Rattle.item_catalog.specs.declared.deck.drill.TheConstants.{MOST_DRILL_SIZE}

-- A request, one for each command, with what its words name: the deck first, then a tape, a report or a port. A drill has a seed and a size.
-- `AsksScript` has a tape if the tape is to be written. `AsksSeek` has a tape, an item, and the place of the record at which the search begins.
pub data Request : Type 0 where
  AsksPlan : List ℕ → Request
  AsksSplit : List ℕ → Request
  AsksScript : List ℕ → Option (List ℕ) → Request
  AsksTune : List ℕ → List ℕ → Request
  AsksBeam : List ℕ → List ℕ → Request
  AsksSeek : List ℕ → ℕ → ℕ → Request
  AsksDrill : ℕ → ℕ → Request
  AsksAudit : List ℕ → List ℕ → Request
  AsksRun : List ℕ → List ℕ → Request
  AsksCast : List ℕ → ℕ → Request
  AsksListen : List ℕ → ℕ → Request

-- If a drill is requested, a drill may have its size.
abbrev pub HasSize : Request → Type 0
HasSize (AsksDrill seed size) = (1 ≤ size) × (size ≤ MOST_DRILL_SIZE)
HasSize other = ⊤

-- The request, if there is one, is for a command that waits: `run`, `cast` or `listen`.
abbrev pub NeedsWait : Option Request → Type 0
NeedsWait (Some (AsksRun deck tape)) = ⊤
NeedsWait (Some (AsksCast deck port)) = ⊤
NeedsWait (Some (AsksListen deck port)) = ⊤
NeedsWait other = ⊥

-- A seed and a size ask for a drill if they are numbers, and a drill may have the size.
abbrev pub asked_drill : Option ℕ → Option ℕ → Option Request
asked_drill (Some seed) (Some size) = if nat_le 1 size && nat_le size MOST_DRILL_SIZE then Some (AsksDrill seed size) else None
asked_drill seed size = None

-- The port of a number, if it is one: from 1 to 65,535.
abbrev pub port_of : Option ℕ → Option ℕ
port_of (Some n) = if nat_le 1 n && nat_le n LAST_PORT then Some n else None
port_of None = None

-- The item that a number asks for: one up to 65,534.
abbrev pub asked_item : Option ℕ → Option ℕ
asked_item (Some n) = if nat_le n LAST_ITEM then Some n else None
asked_item None = None

-- The place that a number asks for: one up to 4,294,967,295.
abbrev pub asked_place : Option ℕ → Option ℕ
asked_place (Some n) = if nat_le n LAST_PLACE then Some n else None
asked_place None = None

-- What a tape, an item and a place ask for: a search, if there are an item and a place.
abbrev pub asked_seek : List ℕ → Option ℕ → Option ℕ → Option Request
asked_seek tape (Some item) (Some from) = Some (AsksSeek tape item from)
asked_seek tape item from = None

-- What a command's name and one file ask for.
abbrev pub asked_of_one : List ℕ → List ℕ → Option Request
asked_of_one name deck =
    if pointwise nat_eq name (codes "plan") then Some (AsksPlan deck)
    else if pointwise nat_eq name (codes "split") then Some (AsksSplit deck)
    else if pointwise nat_eq name (codes "script") then Some (AsksScript deck None)
    else None

-- What a command's name and two more words ask for, if the last of them is a number.
abbrev pub asked_of_numbers : List ℕ → List ℕ → List ℕ → Option Request
asked_of_numbers name first second =
    if pointwise nat_eq name (codes "drill") then asked_drill (number_of first) (number_of second)
    else if pointwise nat_eq name (codes "cast") then option_map (AsksCast first) (port_of (number_of second))
    else if pointwise nat_eq name (codes "listen") then option_map (AsksListen first) (port_of (number_of second))
    else None

-- What a command's name and two more words ask for.
abbrev pub asked_of_two : List ℕ → List ℕ → List ℕ → Option Request
asked_of_two name first second =
    if pointwise nat_eq name (codes "script") then Some (AsksScript first (Some second))
    else if pointwise nat_eq name (codes "tune") then Some (AsksTune first second)
    else if pointwise nat_eq name (codes "beam") then Some (AsksBeam first second)
    else if pointwise nat_eq name (codes "audit") then Some (AsksAudit first second)
    else if pointwise nat_eq name (codes "run") then Some (AsksRun first second)
    else asked_of_numbers name first second

-- What a command's name and three words more ask for.
abbrev pub asked_of_three : List ℕ → List ℕ → List ℕ → List ℕ → Option Request
asked_of_three name first second third =
    if pointwise nat_eq name (codes "seek") then asked_seek first (asked_item (number_of second)) (asked_place (number_of third))
    else None

-- What the words ask for; `None` if they are no command.
abbrev pub asked_of : List (List ℕ) → Option Request
asked_of [] = None
asked_of (name ∷ []) = None
asked_of (name ∷ deck ∷ []) = if length deck == 0 then None else asked_of_one name deck
asked_of (name ∷ first ∷ second ∷ []) = if length first == 0 || length second == 0 then None else asked_of_two name first second
asked_of (name ∷ first ∷ second ∷ third ∷ []) = if length first == 0 then None else asked_of_three name first second third
asked_of (name ∷ first ∷ second ∷ third ∷ more ∷ words) = None
