-- What a plain reader gives is the first record that it has left; at the end it has none.
use Rattle.std.proofs.Common.{◌≡◌, ◌∷◌, [], ◌∙◌, ℕ, List, Option, Some, None, Bool, Bor, true, false, not, refl, sym, ap, if◌then◌else◌}
use Rattle.std.specs.Prelude.{IsSome}
use Rattle.csv.specs.Reading.{ReadRecord, Reached, default_config}
use Rattle.csv.specs.declared.reader.Reader.{Reader}
use Rattle.csv.proofs.ReadFacts.{rows-end, rows-more}
use Rattle.item_catalog.specs.RecordsLeft.{ReadsPlainRecords, bytes_left, records_left}
use Rattle.item_catalog.proofs.RowLemmas.{none_left, rows_left}

-- The bytes under a reader.
abbrev pub under : Bor (List ℕ) → Option (List ℕ)
under text = Some text.now

known_left : (o : Option (List ℕ)) → IsSome o → (xs : List ℕ) × (o ≡ Some xs)
known_left None h = cc h
known_left (Some xs) h = (xs, refl)

module _ (old new : Reader (Bor (List ℕ))) (row : List (List ℕ)) (plain : ReadsPlainRecords old) where
  given : ReadRecord under old new true row → records_left old.state (bytes_left old) ≡ row ∷ records_left new.state (bytes_left new)
  unfolding Reached
  given read =
      let now = known_left (bytes_left old) plain.known in
      let more = rows-more under old new row default_config old.state now.0 now.0 [] plain.config now.1 (refl, refl) read in
      rw (now.1, more.1) (rows_left default_config old.state now.0 (row ∷ []) new.state more.0 more.2)

  ended : ReadRecord under old new false row → records_left old.state (bytes_left old) ≡ []
  ended read =
      let now = known_left (bytes_left old) plain.known in
      rw now.1 (none_left default_config _ old.state now.0 (rows-end under old new row default_config now.0 plain.config now.1 read))

  pub next_seen : (end found : Bool) (seen after : List (List (List ℕ))) → end ≡ false → ReadRecord under old new found row
      → (if end then [] else records_left old.state (bytes_left old)) ≡ seen → after ≡ (if not found then [] else records_left new.state (bytes_left new)) → seen ≡ (if found then row ∷ after else [])
  next_seen true found seen after goes read was now = cc goes
  next_seen false true seen after goes read was now = sym was ∙ given read ∙ ap (λ rows. row ∷ rows) (sym now)
  next_seen false false seen after goes read was now = sym was ∙ ended read

-- A reader that found no record has none left.
pub none_seen : (found : Bool) (left : List (List (List ℕ))) → found ≡ false → (if not found then [] else left) ≡ []
none_seen true left ended = cc ended
none_seen false left ended = refl
