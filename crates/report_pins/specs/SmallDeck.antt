-- A deck of four items, and short texts of its reports.
use Rattle.std.specs.Prelude.{◌++◌, ℕ, List, [], ◌∷◌, false, Some, None, codes}
use Rattle.air_base.specs.declared.verdicts.Policy.TheVariants.{FMatrix}
use Rattle.air_history.specs.UpdateLists.{UpdateLists}
use Rattle.air_model.specs.Decks.{Deck, Item}

abbrev item : ℕ → Item
item value = record { value = value; rate = 1 }

-- An update that reads nothing, and sets an item to an amount.
abbrev pub setting_update : ℕ → ℕ → UpdateLists
setting_update item amount = record { reads = []; writes = record { item = item; base = None; minus = false; amount = amount } ∷ [] }

-- An update that sets an item to another and an amount.
abbrev pub adding_update : ℕ → ℕ → ℕ → UpdateLists
adding_update item base amount = record { reads = base ∷ []; writes = record { item = item; base = Some base; minus = false; amount = amount } ∷ [] }

-- Updater 0 makes item 0 to 11, item 1 to item 0 and 2, and item 2 to 32; updater 1 has two updates. A reader of two tries asks four
-- queries, and there is one monitor.
abbrev pub small_deck : Deck
small_deck = record {
  items = item 10 ∷ item 20 ∷ item 30 ∷ item 40 ∷ [];
  disks = record { size = 4; freq = 1 } ∷ [];
  replans = [];
  updates = (setting_update 0 11 ∷ adding_update 1 0 2 ∷ setting_update 2 32 ∷ []) ∷ (setting_update 3 42 ∷ setting_update 3 43 ∷ []) ∷ [];
  readers = record { room = 0; age = 0; tries = 2 } ∷ [];
  queries = ((0 ∷ 3 ∷ []) ∷ (0 ∷ 1 ∷ 2 ∷ []) ∷ (0 ∷ 1 ∷ []) ∷ (0 ∷ 2 ∷ []) ∷ []) ∷ [];
  script = [];
  settings = record { policy = FMatrix; version = 1; group = 0; cycles = 2; seed = 0; loss = 0; again = 0; late = 0; monitors = 1; hears = 1 };
}

-- The same deck with buckets of version 2.
abbrev pub young_deck : Deck
young_deck = record small_deck { settings = record small_deck.settings { version = 2 } }

-- A line of a text.
abbrev pub text_line : List ℕ → List ℕ
text_line text = text ++ 10 ∷ []

-- An accept of query 2 after its first read.
abbrev pub cut_accept : List ℕ
cut_accept = text_line (codes "start") ++ text_line (codes "accept,0,2,1,0@1=10")

-- The first commit of updater 0, and then the second of updater 1, whose first is missing.
abbrev pub commit_skipped : List ℕ
commit_skipped = text_line (codes "commit,0,0") ++ text_line (codes "commit,1,1")

-- An accept in cycle 1, and then its start.
abbrev pub started_after : List ℕ
started_after = text_line (codes "accept,0,2,1,0@1=10 1@1=20") ++ text_line (codes "start")

-- A look, and then an accept in a cycle that didn't start.
abbrev pub looked_before : List ℕ
looked_before = text_line (codes "look,0,0,100") ++ text_line (codes "accept,0,2,1,0@1=10 1@1=20")

-- Two records of unknown tags.
abbrev pub two_unknown : List ℕ
two_unknown = text_line (codes "a") ++ text_line (codes "b")

-- A glance, and then a start.
abbrev pub glanced_before : List ℕ
glanced_before = text_line (codes "glance,0,0,100") ++ text_line (codes "start")

-- Two commits of updater 0.
abbrev pub two_commits : List ℕ
two_commits = text_line (codes "commit,0,0") ++ text_line (codes "commit,0,1")

-- A start, a verdict, a glance and a look.
abbrev pub each_section : List ℕ
each_section = text_line (codes "start") ++ text_line (codes "accept,0,2,1,0@1=10 1@1=20") ++ text_line (codes "glance,0,1,100") ++ text_line (codes "look,0,1,100")

-- A look that agrees, and one that doesn't.
abbrev pub two_looks : List ℕ
two_looks = text_line (codes "start") ++ text_line (codes "look,0,1,100") ++ text_line (codes "look,0,1,101")
