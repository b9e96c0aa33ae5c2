-- A tape that is read by pieces: the dropped records, the piece that follows them, and what the next bytes, the end of the file or its limit make of
-- them. `HeardSoFar` has what was heard of the records.
use Rattle.std.proofs.Common.{◌≡◌, ◌≤◌, ◌<◌, ◌+◌, ◌-◌, ◌^◌, ◌++◌, ◌∙◌, ℕ, List, [], Option, Some, None, true, length, drop, refl, sym, ap, subst, inl, inr, arith, append_assoc, length-append}
use Rattle.std.specs.Io.KnownBytes.{Consumes, IsAtEnd, Keeps, prepend_known}
use Rattle.std.proofs.lemmas.List.{append-nil, drop_at, nil_from_length, take-append-drop}
use Rattle.std.proofs.lemmas.List.Elements.{All-append, All-nil}
use Rattle.air_devices.specs.Shelves.{ShelfState}
use Rattle.air_devices.specs.WhatIsTold.{ToldIs, WhereTold}
use Rattle.air_model.specs.Tapes.{TapeRead, ends_inside, tape_of, tape_read}
use Rattle.air_model.proofs.TapeLemmas.{AreShort, cut_read}
use Rattle.air_report.specs.declared.status.Status.{Status}
use Rattle.air_cli.specs.HeardTapes.{UnheardCause}
use Rattle.air_cli.specs.Private.Pieces.{AreWholeRecords, HasCome, IsCutBefore, IsRest}
use Rattle.air_cli.proofs.WholeRecordLemmas.{tape_joined}

-- The tape of these records and then the piece were read from the beginning of the file. The file may have at most `most` bytes, so at most `still`
-- more may come.
pub record IsRead (most : ℕ) (file left : Option (List ℕ)) (records : List (List ℕ)) (piece : List ℕ) (still : ℕ) : Type 0 where
  pub short : AreShort records
  pub read : Keeps file (prepend_known (tape_of records ++ piece) left)
  pub upto : length (tape_of records) + length piece + still ≡ most

-- ---- known bytes

keeps_all : (file : Option (List ℕ)) → Keeps file (prepend_known [] file)
keeps_all None = tt
keeps_all (Some xs) = refl

keeps_came : (file left later : Option (List ℕ)) (front bytes : List ℕ) → Keeps file (prepend_known front left) → Consumes left later bytes → Keeps file (prepend_known (front ++ bytes) later)
keeps_came None left later front bytes k c = tt
keeps_came (Some xs) None later front bytes k c = absurd k
keeps_came (Some xs) (Some ys) None front bytes k c = absurd c
keeps_came (Some xs) (Some ys) (Some zs) front bytes k c = append_assoc front bytes zs ∙ ap (λ l. front ++ l) (sym c) ∙ k

told_end : (file left : Option (List ℕ)) (front : List ℕ) → Keeps file (prepend_known front left) → IsAtEnd left → ToldIs file front
told_end None left front k end = tt
told_end (Some xs) None front k end = absurd k
told_end (Some xs) (Some ys) front k end = sym (append-nil front) ∙ ap (λ l. front ++ l) (sym end) ∙ k

told_past : (most : ℕ) (file left : Option (List ℕ)) (front : List ℕ) → Keeps file (prepend_known front left) → length front ≡ most + 1
    → WhereTold file (λ bytes. (most < length bytes) × (left ≡ Some (drop (most + 1) bytes)))
told_past most None left front k long = tt
told_past most (Some xs) None front k long = absurd k
told_past most (Some xs) (Some ys) front k long =
    (omega (arith, ap length k, length-append front ys), ap (λ l. Some l) (sym (ap (drop (most + 1)) (sym k) ∙ drop_at front ys (most + 1) long)))

-- ---- the steps

-- At first nothing was read.
pub read_none : (most : ℕ) (file left : Option (List ℕ)) → left ≡ file → IsRead most file left [] [] most
unfolding tape_of
read_none most file left whole = record {
  short = All-nil (λ r. length r < 2 ^ 32);
  read = subst (λ l. Keeps file (prepend_known [] l)) (sym whole) (keeps_all file);
  upto = omega arith;
}

-- Bytes came.
pub came : {most : ℕ} {file left : Option (List ℕ)} {records : List (List ℕ)} {piece : List ℕ} {still : ℕ} (n : ℕ) (after : List ℕ) (later : Option (List ℕ))
    → IsRead most file left records piece still → HasCome n piece after left later → n ≤ still → IsRead most file later records after (still - n)
came {most} {file} {left} {records} {piece} {still} n after later far come few =
    let tape = tape_of records in
    let joined : (tape ++ piece) ++ come.bytes ≡ tape ++ after = append_assoc tape piece come.bytes ∙ ap (λ l. tape ++ l) (sym come.behind) in
    record {
      short = far.short;
      read = subst (λ l. Keeps file (prepend_known l later)) joined (keeps_came file left later (tape ++ piece) come.bytes far.read come.taken);
      upto = omega (arith, ap length come.behind, length-append piece come.bytes, come.count, far.upto);
    }

-- The whole records at its beginning were dropped.
pub let_go : {most : ℕ} {file left : Option (List ℕ)} {records : List (List ℕ)} {piece : List ℕ} {still n : ℕ} (next : List ℕ)
    → IsRead most file left records piece still → AreWholeRecords piece n → next ≡ drop n piece → IsRead most file left (records ++ (tape_read piece).records) next still
let_go {most} {file} {left} {records} {piece} {still} {n} next far front rest =
    let more = (tape_read piece).records in
    let split : piece ≡ tape_of more ++ next = sym (take-append-drop n piece) ∙ ap (λ l. l ++ drop n piece) front.whole.1 ∙ ap (λ l. tape_of more ++ l) (sym rest) in
    let joined : tape_of records ++ piece ≡ tape_of (records ++ more) ++ next =
    ap (λ l. tape_of records ++ l) split ∙ sym (append_assoc (tape_of records) (tape_of more) next) ∙ ap (λ l. l ++ next) (sym (tape_joined records more)) in
    record {
      short = All-append (λ r. length r < 2 ^ 32) records more far.short front.whole.0;
      read = subst (λ l. Keeps file (prepend_known l left)) joined far.read;
      upto = omega (arith, far.upto, ap length joined, length-append (tape_of records) piece, length-append (tape_of (records ++ more)) next);
    }

-- ---- the end of the file

pub none_came : {n : ℕ} {left later : Option (List ℕ)} {piece after : List ℕ} → n ≡ 0 → HasCome n piece after left later → HasCome 0 piece after left later
none_came {n} {left} {later} {piece} {after} none come = subst (λ n. HasCome n piece after left later) none come

-- No more bytes came.
pub nothing_came : {left later : Option (List ℕ)} {piece after : List ℕ} → HasCome 0 piece after left later → after ≡ piece
nothing_came {left} {later} {piece} {after} come = come.behind ∙ ap (λ l. piece ++ l) (nil_from_length come.bytes come.count) ∙ append-nil piece

-- So the whole file was read.
pub all_told : {most : ℕ} {file left later : Option (List ℕ)} {records : List (List ℕ)} {piece after : List ℕ} {still : ℕ}
    → IsRead most file left records piece still → HasCome 0 piece after left later → ToldIs file (tape_of records ++ piece)
all_told {most} {file} {left} {later} {records} {piece} {after} {still} far come =
    let front = tape_of records ++ piece in
    let last = keeps_came file left later front come.bytes far.read come.taken in
    let same : front ++ come.bytes ≡ front = ap (λ l. front ++ l) (nil_from_length come.bytes come.count) ∙ append-nil front in
    subst (ToldIs file) same (told_end file later (front ++ come.bytes) last (come.end refl))

-- If bytes of the piece are left, the tape is cut where they begin.
pub cut_told : {most : ℕ} {file left later : Option (List ℕ)} {records : List (List ℕ)} {piece after : List ℕ} {still : ℕ} (at : ℕ)
    → IsRead most file left records piece still → IsRest piece → HasCome 0 piece after left later → 0 < length after → at ≡ most - still - length after
    → (bytes : List ℕ) × ToldIs file bytes × ((length bytes ≤ most) × ((tape_read bytes).cut ≡ Some at))
cut_told {most} {file} {left} {later} {records} {piece} {after} {still} at far rest come some here =
    let tape = tape_of records in
    let size = ap length (nothing_came come) in
    let upto = far.upto in
    let inside : ends_inside piece ≡ true = elim rest [ inl none ↦ absurd (omega (arith, ap length none)) | inr cut ↦ cut ] in
    let read = cut_read records piece (length (tape ++ piece)) 0 far.short inside (omega arith) in
    let place : 0 + length tape ≡ at = omega arith in
    (tape ++ piece, all_told far come, (omega (arith, length-append tape piece), ap (λ (t : TapeRead). t.cut) read ∙ ap (λ p. Some p) place))

-- So this is why the named tape can't be heard.
pub cut_cause : {most : ℕ} {left later : Option (List ℕ)} {records : List (List ℕ)} {piece after slice : List ℕ} {still : ℕ} (name : List ℕ) (before now : ShelfState) (s : Status)
    → IsRead most (before.told.file name) left records piece still → IsRest piece → HasCome 0 piece after left later → slice ≡ after → IsCutBefore slice (most - still) s → UnheardCause name most before now s
unfolding UnheardCause
cut_cause {most} {left} {later} {records} {piece} {after} {slice} {still} name before now s far rest come lent cut =
    let same = ap length lent in
    subst (UnheardCause name most before now) (sym cut.1) (cut_told (most - still - length slice) far rest come (omega (arith, cut.0)) (omega arith))

-- ---- its limit

-- More bytes came than are allowed: the file is too large.
pub too_large : {most : ℕ} {file left later : Option (List ℕ)} {records : List (List ℕ)} {piece after : List ℕ} {still : ℕ} (n : ℕ)
    → IsRead most file left records piece still → HasCome n piece after left later → still < n → n ≤ still + 1
    → WhereTold file (λ bytes. (most < length bytes) × (later ≡ Some (drop (most + 1) bytes)))
too_large {most} {file} {left} {later} {records} {piece} {after} {still} n far come past next =
    let front = tape_of records ++ piece in
    let upto = far.upto in
    let count = come.count in
    told_past most file later (front ++ come.bytes) (keeps_came file left later front come.bytes far.read come.taken)
    (omega (arith, length-append front come.bytes, length-append (tape_of records) piece))
