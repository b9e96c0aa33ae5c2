-- What `seek` gives of small tapes, and causes that don't hold of them.
use Rattle.std.proofs.Common.{◌≡◌, ℕ, true, false, List, [], ◌∷◌, Option, Some, None, refl, ap, sym, ◌∙◌, arith}
use Rattle.std.specs.Prelude.{codes}
use Rattle.csv.specs.Writing.{escaped, fields_text, is_blank}
use Rattle.air_base.specs.Numbers.{number_text}
use Rattle.air_devices.specs.Contents.{nothing_told}
use Rattle.air_devices.specs.Counts.{one_count}
use Rattle.air_devices.specs.Shelves.{ShelfState}
use Rattle.air_index.specs.Indexes.{Index, index_at, index_bytes, index_entries}
use Rattle.air_index.specs.Seeks.{sought_first}
use Rattle.air_index.specs.declared.sought.Sought.TheVariants.{Found, Lost}
use Rattle.air_model.specs.Rows.{rows_text}
use Rattle.air_model.specs.Tapes.{ends_inside, read_from, tape_read}
use Rattle.air_report.specs.declared.status.Status.TheVariants as status
use Rattle.air_cli.specs.HeardTapes.{UnheardCause}
use Rattle.air_cli.specs.ReportsAndTapes.{ReportAndTape}
use Rattle.air_cli.specs.Seek.{IsSought, SeekGives, seek_given, seek_meaning, sought_line}

-- ---- the lines

found_line : sought_line 1 (Found 2 2 1 20) ≡ codes "found,1,2,2,1,20\n"
unfolding rows_text number_text escaped fields_text is_blank
found_line = refl

lost_line : sought_line 0 (Lost 1) ≡ codes "lost,0,1\n"
unfolding rows_text number_text escaped fields_text is_blank
lost_line = refl

-- ---- an index

-- The bytes of an index record are read as its numbers.
index_read : ◌≡◌ {A = Index} (index_at (index_bytes 1 0 (1 ∷ 2 ∷ []))) (record { cycle = 1; minor = 0; entries = 1 ∷ 2 ∷ [] })
unfolding index_bytes index_at index_entries
index_read = refl

-- ---- a tape of no records, and one that is cut

-- A shelf on which each file has these bytes.
abbrev holding : List ℕ → ShelfState
holding bytes = record { told = record nothing_told { file = λ name. Some bytes; left = λ name. Some bytes }; faults = one_count 0 }

empty_read : ◌≡◌ {A = Option ℕ} (tape_read []).cut None
unfolding read_from
empty_read = refl

is_sought : IsSought 0 0 (seek_given 0 (Lost 0)) []
unfolding read_from sought_first
is_sought = record { fits = omega arith; whole = refl; given_is = refl }

seek_gives : SeekGives (codes "t") 0 0 (holding []) (seek_given 0 (Lost 0))
unfolding SeekGives
seek_gives = (refl, ([], refl, is_sought))

seek_suits : (seek_meaning (codes "t") 0 0).Suits (holding [])
seek_suits = ([], refl, (omega arith, empty_read))

-- What is sought has no tape of its own, and nothing in it differs.
no_tape : SeekGives (codes "t") 0 0 (holding []) (record (seek_given 0 (Lost 0)) { tape = 1 ∷ [] }) → ⊥
unfolding SeekGives
no_tape h = let tape : ◌≡◌ {A = List ℕ} (1 ∷ []) [] = ap (λ (g : ReportAndTape). g.tape) h.1.2.given_is in cc

not_different : SeekGives (codes "t") 0 0 (holding []) (record (seek_given 0 (Lost 0)) { differs = true }) → ⊥
unfolding SeekGives
not_different h = let differs : true ≡ false = h.0 in cc

-- It reads the tape alone, and writes no output.
seek_input : (seek_meaning (codes "t") 0 0).IsInput (codes "t")
seek_input = refl

seek_output : (seek_meaning (codes "t") 0 0).output ≡ None
seek_output = refl

-- Three bytes are cut at byte 0, and nothing isn't cut.
cut_at_0 : (seek_meaning (codes "t") 0 0).Refuses (holding (0 ∷ 0 ∷ 0 ∷ [])) (holding []) (status.TapeCut 0)
unfolding UnheardCause ends_inside read_from
cut_at_0 = (0 ∷ 0 ∷ 0 ∷ [], refl, (omega arith, refl))

not_cut : (at : ℕ) → UnheardCause (codes "t") 0 (holding []) (holding []) (status.TapeCut at) → ⊥
unfolding UnheardCause
not_cut at (bytes, known, (fits, cut)) = let none : (tape_read bytes).cut ≡ None = ap (λ bytes. (tape_read bytes).cut) known ∙ empty_read in let both : Some at ≡ None = sym cut ∙ none in cc
