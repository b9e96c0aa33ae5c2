-- What the answer is for a text that spells no deck, and short texts of decks.
use Rattle.std.specs.Prelude.{◌≡◌, ◌⊎◌, ◌++◌, ℕ, List, [], ◌∷◌, Result, Err, codes}
use Rattle.air_model.specs.Decks.{Deck, Replan}
use Rattle.item_catalog.specs.declared.faults.DeckError.{DeckError}
use Rattle.item_catalog.specs.declared.faults.DeckError.TheVariants.{Fault, NoMemory}
use Rattle.text_pins.specs.SmallReports.{with_newline}

-- The answer is this fault, if there was memory.
abbrev pub IsDeckFaultOrNoMemory : ℕ → ℕ → Result Deck DeckError → Type 0
IsDeckFaultOrNoMemory row kind result = (result ≡ Err NoMemory) ⊎ (result ≡ Err (Fault (record { row = row; kind = kind })))

-- A deck of one item with one update, which two records of the script commit.
abbrev pub committed_twice : List ℕ
committed_twice = with_newline (codes "item,0,5,1") ++ with_newline (codes "update,0,,0=6") ++ with_newline (codes "script,0") ++ with_newline (codes "script,0")

-- An item, and a record of an unknown tag.
abbrev pub unknown_second : List ℕ
unknown_second = with_newline (codes "item,0,5,1") ++ with_newline (codes "items,1")

-- Two replans in one cycle.
abbrev pub replanned_twice : List ℕ
replanned_twice = with_newline (codes "replan,2,3,1") ++ with_newline (codes "replan,2,3,1")

-- A deck of one item with groups, under Datacycle.
abbrev pub grouped_vectors : List ℕ
grouped_vectors = with_newline (codes "item,0,5,1") ++ with_newline (codes "disk,1,1") ++ with_newline (codes "set,group,1") ++ with_newline (codes "set,policy,D")

-- Three items on one disk, and a replan that puts each on a disk of its own and gives no frequency; the delta is set after it.
abbrev pub spread_over_three : List ℕ
spread_over_three =
    with_newline (codes "item,0,10,3") ++ with_newline (codes "item,1,20,2") ++ with_newline (codes "item,2,30,1") ++ with_newline (codes "disk,3,1") ++ with_newline (codes "replan,3,1 1 1,- - -") ++ with_newline (codes "set,delta,1")

-- That replan: three disks, aired three times, twice and once.
abbrev pub three_disks : Replan
three_disks = record { cycle = 3; disks = record { size = 1; freq = 3 } ∷ record { size = 1; freq = 2 } ∷ record { size = 1; freq = 1 } ∷ [] }
