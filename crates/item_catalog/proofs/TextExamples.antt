-- A small deck and its text, computed.
use Rattle.std.proofs.Common.{◌≡◌, ◌++◌, ◌∷◌, [], ℕ, List, Some, None, false, refl}
use Rattle.std.specs.Prelude.{codes}
use Rattle.csv.specs.Writing.{escaped, fields_text, is_blank}
use Rattle.air_base.specs.Numbers.{number_text}
use Rattle.air_base.specs.declared.verdicts.Policy.TheVariants.{FMatrix}
use Rattle.air_model.specs.Decks.{Deck}
use Rattle.air_model.specs.Rows.{rows_text}
use Rattle.item_catalog.specs.DeckTexts.{deck_text}

deck : Deck
deck = record {
  items = record { value = 10; rate = 1 } ∷ record { value = 20; rate = 1 } ∷ [];
  disks = record { size = 2; freq = 1 } ∷ [];
  replans = [];
  updates = (record { reads = 1 ∷ []; writes = record { item = 0; base = Some 1; minus = false; amount = 5 } ∷ [] } ∷ []) ∷ [];
  readers = record { room = 0; age = 0; tries = 1 } ∷ [];
  queries = ((0 ∷ 1 ∷ []) ∷ []) ∷ [];
  script = None ∷ Some 0 ∷ [];
  settings = record { policy = FMatrix; version = 1; group = 0; cycles = 10; seed = 0; loss = 0; again = 0; late = 0; monitors = 0; hears = 1000000 };
}

-- A line of the text.
abbrev line : List ℕ → List ℕ
line text = text ++ 10 ∷ []

its_text : deck_text deck ≡
    line (codes "item,0,10,1") ++ line (codes "item,1,20,1") ++ line (codes "disk,2,1") ++ line (codes "update,0,1,0=1+5") ++ line (codes "reader,0,0,1")
    ++ line (codes "query,0,0 1") ++ line (codes "script,s 0") ++ line (codes "set,policy,F") ++ line (codes "set,version,1") ++ line (codes "set,group,0") ++ line (codes "set,cycles,10") ++ line (codes "set,seed,0")
    ++ line (codes "set,loss,0") ++ line (codes "set,again,0") ++ line (codes "set,late,0") ++ line (codes "set,monitors,0") ++ line (codes "set,hears,1000000")
unfolding deck deck_text rows_text number_text escaped fields_text is_blank
its_text = refl

-- With a replan to two disks it has one more record.
replanned_text : deck_text (record deck { replans = record { cycle = 5; disks = record { size = 1; freq = 2 } ∷ record { size = 1; freq = 1 } ∷ [] } ∷ [] }) ≡
    line (codes "item,0,10,1") ++ line (codes "item,1,20,1") ++ line (codes "disk,2,1") ++ line (codes "replan,5,1 1,2 1") ++ line (codes "update,0,1,0=1+5") ++ line (codes "reader,0,0,1")
    ++ line (codes "query,0,0 1") ++ line (codes "script,s 0") ++ line (codes "set,policy,F") ++ line (codes "set,version,1") ++ line (codes "set,group,0") ++ line (codes "set,cycles,10") ++ line (codes "set,seed,0")
    ++ line (codes "set,loss,0") ++ line (codes "set,again,0") ++ line (codes "set,late,0") ++ line (codes "set,monitors,0") ++ line (codes "set,hears,1000000")
unfolding deck deck_text rows_text number_text escaped fields_text is_blank
replanned_text = refl
