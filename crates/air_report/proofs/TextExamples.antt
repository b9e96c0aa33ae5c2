-- Small reports, computed: what texts and records spell, the kinds that apply at a place, and a fault from its bytes.
use Rattle.std.proofs.Common.{◌≡◌, ℕ, List, [], ◌∷◌, Some, None, false, refl}
use Rattle.std.specs.Prelude.{codes}
use Rattle.air_base.specs.Numbers.{number_of}
use Rattle.air_base.specs.NumberLists.{all_some}
use Rattle.air_base.specs.declared.verdicts.Policy.TheVariants.{FMatrix}
use Rattle.air_base.specs.declared.verdicts.VerdictKind.TheVariants as kind
use Rattle.air_model.specs.Decks.{Deck}
use Rattle.air_report.specs.LineTexts.{short_of, spelled_item, spelled_place, spelled_read}
use Rattle.air_report.specs.LineFaults.{line_kinds_at, spelled_lines}
use Rattle.air_report.specs.ReportLines.{sections_of}
use Rattle.air_report.specs.declared.reading.lines.EventLine.TheVariants.{Commit, Start}

-- The fields of a record.
abbrev Row : Type 0
Row = List (List ℕ)

-- One updater with an update, a reader of two tries that asks for the items 0 and 1, and a monitor.
abbrev pub deck : Deck
deck = record {
  items = record { value = 10; rate = 1 } ∷ record { value = 20; rate = 1 } ∷ [];
  disks = record { size = 2; freq = 1 } ∷ [];
  replans = [];
  updates = (record { reads = []; writes = record { item = 0; base = None; minus = false; amount = 5 } ∷ [] } ∷ []) ∷ [];
  readers = record { room = 0; age = 0; tries = 2 } ∷ [];
  queries = ((0 ∷ 1 ∷ []) ∷ []) ∷ [];
  script = [];
  settings = record { policy = FMatrix; version = 1; group = 0; cycles = 1; seed = 0; loss = 0; again = 0; late = 0; monitors = 1; hears = 1 };
}

-- The same deck with buckets that have ages.
abbrev pub young : Deck
young = record deck { settings = record deck.settings { version = 2 } }

a_read : spelled_read (codes "3@2=15") ≡ Some (record { item = 3; cycle = 2; value = 15 })
unfolding spelled_read spelled_place spelled_item short_of number_of
a_read = refl

greatest_item : spelled_place (codes "65535@1") ≡ Some (65535, 1)
unfolding spelled_place spelled_item short_of number_of
greatest_item = refl

no_item : spelled_place (codes "65536@1") ≡ None
unfolding spelled_place spelled_item short_of number_of
no_item = refl

abbrev start : Row
start = codes "start" ∷ []

abbrev commit0 : Row
commit0 = codes "commit" ∷ codes "0" ∷ codes "0" ∷ []

abbrev accept0 : Row
accept0 = codes "accept" ∷ codes "0" ∷ codes "0" ∷ codes "1" ∷ codes "0@1=10 1@1=20" ∷ []

abbrev abort0 : Row
abort0 = codes "abort" ∷ codes "0" ∷ codes "0" ∷ codes "1" ∷ codes "0@1=10" ∷ codes "1@2" ∷ codes "0" ∷ []

abbrev aged0 : Row
aged0 = codes "aged" ∷ codes "0" ∷ codes "0" ∷ codes "1" ∷ codes "0@1=10" ∷ codes "1@256" ∷ []

abbrev look0 : Row
look0 = codes "look" ∷ codes "0" ∷ codes "1" ∷ codes "30" ∷ []

whole : sections_of (spelled_lines 1 (start ∷ commit0 ∷ accept0 ∷ look0 ∷ [])) ≡ record {
  events = Start ∷ Commit 0 0 ∷ [];
  verdicts = record {
    reader = 0;
    verdict = record { query = 0; attempt = 1; kind = kind.Accept };
    reads = record { item = 0; cycle = 1; value = 10 } ∷ record { item = 1; cycle = 1; value = 20 } ∷ [];
  } ∷ [];
  counts = [];
  glances = [];
  looks = record { monitor = 0; cycle = 1; total = 30 } ∷ [];
}
unfolding spelled_read spelled_place spelled_item short_of number_of all_some
whole = refl

faultless : line_kinds_at deck (start ∷ commit0 ∷ accept0 ∷ look0 ∷ []) 3 ≡ []
unfolding line_kinds_at spelled_read spelled_place spelled_item short_of number_of all_some
faultless = refl

out_of_order : line_kinds_at deck (look0 ∷ start ∷ []) 1 ≡ 4 ∷ []
unfolding line_kinds_at spelled_read spelled_place spelled_item short_of number_of all_some
out_of_order = refl

committed_twice : line_kinds_at deck (commit0 ∷ commit0 ∷ []) 1 ≡ 5 ∷ []
unfolding line_kinds_at spelled_read spelled_place spelled_item short_of number_of all_some
committed_twice = refl

two_kinds : line_kinds_at deck (look0 ∷ accept0 ∷ []) 1 ≡ 4 ∷ 7 ∷ []
unfolding line_kinds_at spelled_read spelled_place spelled_item short_of number_of all_some
two_kinds = refl

-- An aged attempt has a line if buckets have ages.
aged_untold : line_kinds_at deck (start ∷ aged0 ∷ []) 1 ≡ 3 ∷ []
unfolding line_kinds_at spelled_read spelled_place spelled_item short_of number_of all_some
aged_untold = refl

aged_early : line_kinds_at young (start ∷ aged0 ∷ []) 1 ≡ 7 ∷ []
unfolding line_kinds_at spelled_read spelled_place spelled_item short_of number_of all_some
aged_early = refl

one_cycle_early : line_kinds_at deck (start ∷ abort0 ∷ []) 1 ≡ 7 ∷ []
unfolding line_kinds_at spelled_read spelled_place spelled_item short_of number_of all_some
one_cycle_early = refl
