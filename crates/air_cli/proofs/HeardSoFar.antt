-- A fact about the dropped records, while a tape is read in pieces. The loop of `hear_pieces` cites these.
use Rattle.std.proofs.Common.{◌≡◌, ◌≤◌, ◌<◌, ◌+◌, ◌-◌, ◌^◌, ◌++◌, ◌∙◌, ℕ, List, [], Option, None, length, drop, sym, ap, subst, arith}
use Rattle.std.proofs.lemmas.List.{append-nil}
use Rattle.air_devices.specs.WhatIsTold.{ToldIs}
use Rattle.air_devices.specs.Shelves.{ShelfState}
use Rattle.air_model.specs.Tapes.{TapeRead, tape_of, tape_read}
use Rattle.air_model.proofs.TapeLemmas.{whole_read}
use Rattle.listeners.proofs.ReaderLemmas.{few_records}
use Rattle.air_cli.specs.Private.Pieces.{AreWholeRecords, HasCome, IsOfTape, IsRest}
use Rattle.air_cli.proofs.WholeRecordLemmas.{many_bytes}
use Rattle.air_cli.proofs.ReadSoFar.{IsRead, all_told, came, let_go, nothing_came, read_none}

-- Some records before the piece were read and dropped, and this holds of them.
pub record SoFar (most : ℕ) (file left : Option (List ℕ)) (piece : List ℕ) (still : ℕ) (P : List (List ℕ) → Type 0) : Type 0 where
  pub records : List (List ℕ)
  pub read : IsRead most file left records piece still
  pub so : P records

-- At first none were.
pub begun : (most : ℕ) (file left : Option (List ℕ)) (piece : List ℕ) (P : List (List ℕ) → Type 0) → left ≡ file → piece ≡ [] → P [] → SoFar most file left piece most P
begun most file left piece P whole none so = subst (λ bytes. SoFar most file left bytes most P) (sym none) (record { records = []; read = read_none most file left whole; so = so })

-- Bytes came, and the whole records at the beginning of the piece, which was lent as a slice, were heard and dropped.
pub heard_more : {most : ℕ} {file left later : Option (List ℕ)} {piece after slice : List ℕ} {still n used : ℕ} {P : List (List ℕ) → Type 0} (next : List ℕ) (Q : List (List ℕ) → Type 0)
    → SoFar most file left piece still P → HasCome n piece after left later → n ≤ still → slice ≡ after → AreWholeRecords slice used
    → ((records : List (List ℕ)) → P records → Q (records ++ (tape_read slice).records)) → next ≡ drop used after → SoFar most file later next (still - n) Q
heard_more {most} {file} {left} {later} {piece} {after} {slice} {still} {n} {used} {P} next Q far come few lent front heard rest =
    let more = (tape_read slice).records in
    let here : IsRead most file later far.records slice (still - n) = subst (λ bytes. IsRead most file later far.records bytes (still - n)) (sym lent) (came n after later far.read come few) in
    record {
      records = far.records ++ more;
      read = let_go next here front (rest ∙ ap (drop used) (sym lent));
      so = heard far.records far.so;
    }

-- What follows them is nothing, or ends inside its first record.
pub rest_after : {after slice : List ℕ} {used : ℕ} (next : List ℕ) → slice ≡ after → AreWholeRecords slice used → next ≡ drop used after → IsRest next
rest_after {after} {slice} {used} next lent front rest = subst IsRest (sym (rest ∙ ap (drop used) (sym lent))) front.rest

-- The file is at its end, and no byte is left that wasn't heard: the tape is whole, and this is so of all its records.
pub whole_heard : {most still : ℕ} {left later : Option (List ℕ)} {piece after : List ℕ} {P : List (List ℕ) → Type 0} (name : List ℕ) (shelf : ShelfState) (Q : List (List ℕ) → Type 0)
    → SoFar most (shelf.told.file name) left piece still P → HasCome 0 piece after left later → after ≡ [] → ((records : List (List ℕ)) → P records → Q records) → IsOfTape name most shelf Q
whole_heard {most} {still} {left} {later} {piece} {after} {P} name shelf Q far come none goes =
    let tape = tape_of far.records in
    let upto = far.read.upto in
    let read : ◌≡◌ {A = TapeRead} (tape_read tape) (record { records = far.records; cut = None }) = whole_read far.records (length tape) 0 far.read.short (omega arith) in
    let empty : piece ≡ [] = sym (nothing_came come) ∙ none in
    record {
      bytes = tape;
      told = subst (ToldIs (shelf.told.file name)) (ap (λ l. tape ++ l) empty ∙ append-nil tape) (all_told far.read come);
      fits = omega arith;
      whole = ap (λ (t : TapeRead). t.cut) read;
      so = subst (λ (t : TapeRead). Q t.records) (sym read) (goes far.records far.so);
    }

-- There are fewer records than four bytes tell, those of the piece too.
pub few_so_far : {most still n : ℕ} {file left later : Option (List ℕ)} {records : List (List ℕ)} {piece after : List ℕ} (slice : List ℕ) → most < 2 ^ 64
    → IsRead most file left records piece still → HasCome n piece after left later → n ≤ still → slice ≡ after → length records + length (tape_read slice).records < 2 ^ 64
few_so_far {most} {still} {n} {file} {left} {later} {records} {piece} {after} slice bounded far come few lent =
    let upto = (came n after later far come few).upto in
    let held = few_records (length slice) 0 slice in
    let size = ap length lent in
    let many = many_bytes records in
    omega arith
