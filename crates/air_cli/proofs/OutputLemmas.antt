-- From one call that writes an output to what was written piece by piece since an earlier moment.
use Rattle.std.proofs.Common.{◌≡◌, ℕ, ◌+◌, ◌≤◌, List, [], ◌++◌, length, take, Option, Some, None, refl, sym, ap, ◌∙◌, subst, inl, inr, append_assoc, arith}
use Rattle.std.specs.Prelude.{Result, Ok, Err, OnErr, OnOk}
use Rattle.std.specs.Io.KnownBytes.{Appends}
use Rattle.std.proofs.Math.Seq.{take-append-add}
use Rattle.std.proofs.lemmas.Bool.{cases_lt}
use Rattle.std.proofs.lemmas.List.{take-append-le, take_all}
use Rattle.air_devices.specs.Contents.{Contents}
use Rattle.air_devices.specs.Counts.{Faults, KeepsCounts, NoCountFalls, Rose, TellsFailureIn, writing_of}
use Rattle.air_devices.specs.Shelves.{ShelfState}
use Rattle.air_devices.specs.WhatIsTold.{AppendsBeginning, Becomes}
use Rattle.air_devices.specs.Unchanged.{KeepsButOutput, KeepsButPrinted}
use Rattle.air_cli.specs.Deliveries.{KeepsButDelivered}
use Rattle.air_cli.specs.Private.OutputPieces.{IsCutOff, IsWritten}
use Rattle.air_cli.specs.Outputs.{OutputHolds, OutputHoldsBeginning}
use Rattle.air_cli.proofs.CountLemmas.{kept_twice}

-- ---- what an output holds

-- Bytes that were written, and then more bytes.
grown : (before mid now : Option (List ℕ)) (xs ys : List ℕ) → Becomes before mid xs → Appends mid now ys → Becomes before now (xs ++ ys)
grown None mid now xs ys held more = tt
grown (Some x) mid now xs ys held more = by now (subst (λ o. Appends o now ys) held more)
  where
    by : (now : Option (List ℕ)) → Appends (Some xs) now ys → now ≡ Some (xs ++ ys)
    by None h = absurd h
    by (Some zs) h = ap Some h

-- Bytes and the first of a piece begin every list that begins with the bytes and the piece.
first_of : (so_far piece rest : List ℕ) (n : ℕ) → (m : ℕ) × (so_far ++ take n piece ≡ take m ((so_far ++ piece) ++ rest))
first_of so_far piece rest n = elim (cases_lt n (length piece)) as (λ _. (m : ℕ) × (so_far ++ take n piece ≡ take m ((so_far ++ piece) ++ rest))) [
  | inl less ↦ (length so_far + n, within n (omega arith))
  | inr past ↦ (length so_far + length piece, ap (λ xs. so_far ++ xs) (take_all n piece past ∙ sym (take_all (length piece) piece (omega arith))) ∙ within (length piece) (omega arith))
]
  where
    within : (n : ℕ) → n ≤ length piece → so_far ++ take n piece ≡ take (length so_far + n) ((so_far ++ piece) ++ rest)
    within n le =
        ap (λ xs. so_far ++ xs) (sym (take-append-le n piece rest le)) ∙ sym (take-append-add so_far (piece ++ rest) n) ∙ ap (take (length so_far + n)) (sym (append_assoc so_far piece rest))

-- Bytes that were written, and then the first of a piece.
grown_part : (name so_far piece rest : List ℕ) (before mid now : ShelfState) → Becomes (before.told.output name) (mid.told.output name) so_far
    → AppendsBeginning (mid.told.output name) (now.told.output name) piece → OutputHoldsBeginning name ((so_far ++ piece) ++ rest) before now
grown_part name so_far piece rest before mid now held more =
    let front = first_of so_far piece rest more.0 in
    inr (front.0, subst (Becomes (before.told.output name) (now.told.output name)) front.1 (grown (before.told.output name) (mid.told.output name) (now.told.output name) so_far (take more.0 piece) held more.1))

-- ---- what else is told

pub keeps_delivered : (name : List ℕ) (before now : Contents) → KeepsButOutput name before now → KeepsButDelivered (Some name) before now
keeps_delivered name before now h = record { files = h.files; left = h.left; outputs = λ n other. h.other_outputs n (λ same. other (ap Some (sym same))) }

pub delivered_twice : (output : Option (List ℕ)) (before mid now : Contents) → KeepsButDelivered output before mid → KeepsButDelivered output mid now → KeepsButDelivered output before now
delivered_twice output before mid now a b = record {
  files = λ name. b.files name ∙ a.files name;
  left = λ name. b.left name ∙ a.left name;
  outputs = λ name other. b.outputs name other ∙ a.outputs name other;
}

pub keeps_falling : (before mid now : Faults) → KeepsCounts before mid → NoCountFalls mid now → NoCountFalls before now
keeps_falling before mid now a b = record {
  reading = λ n. omega (arith, a.reading n, b.reading n);
  writing = λ n. omega (arith, a.writing n, b.writing n);
  printing = omega (arith, a.printing, b.printing);
}

pub no_fall : (before now : Faults) → KeepsCounts before now → NoCountFalls before now
no_fall before now kept = record {
  reading = λ n. omega (arith, kept.reading n);
  writing = λ n. omega (arith, kept.writing n);
  printing = omega (arith, kept.printing);
}

-- Bytes were written, and then something was printed.
pub rest_printed : (output : Option (List ℕ)) (bytes : List ℕ) (before mid now : ShelfState) → IsWritten output bytes before mid → KeepsButPrinted mid.told now.told → KeepsButDelivered output before.told now.told
rest_printed output bytes before mid now was rest = record {
  files = λ name. rest.files name ∙ was.rest.files name;
  left = λ name. rest.left name ∙ was.rest.left name;
  outputs = λ name other. rest.outputs name ∙ was.rest.outputs name other;
}

-- ---- calls

-- If no output is named, nothing is written.
pub none_begun : (output : Option (List ℕ)) (s : ShelfState) → output ≡ None → IsWritten output [] s s
none_begun output s is = record {
  holds = subst (λ o. OutputHolds o [] s s) (sym is) tt;
  printed = refl;
  rest = record { files = λ name. refl; left = λ name. refl; outputs = λ name other. refl };
  calm = record { reading = λ n. refl; writing = λ n. refl; printing = refl };
}

pub none_added : (output : Option (List ℕ)) (first s : ShelfState) (so_far piece : List ℕ) → output ≡ None → IsWritten output so_far first s → IsWritten output (so_far ++ piece) first s
none_added output first s so_far piece is was = record { holds = subst (λ o. OutputHolds o (so_far ++ piece) first s) (sym is) tt; printed = was.printed; rest = was.rest; calm = was.calm }

-- An output that was made empty, or wasn't.
pub output_begun : {T E : Type 0} (made : Result T E) (output : Option (List ℕ)) (name : List ℕ) (before now : ShelfState) → output ≡ Some name
    → OnOk made (Becomes (before.told.output name) (now.told.output name) []) → KeepsButOutput name before.told now.told → TellsFailureIn (writing_of name) before.faults now.faults made
    → OnOk made (IsWritten output [] before now)
output_begun (Ok x) output name before now is emptied rest cause = subst (λ o. IsWritten o [] before now) (sym is) (record {
  holds = emptied;
  printed = rest.printed;
  rest = keeps_delivered name before.told now.told rest;
  calm = cause.calm;
})
output_begun (Err e) output name before now is emptied rest cause = tt

pub output_unbegun : {T E : Type 0} (made : Result T E) (output : Option (List ℕ)) (name tape : List ℕ) (before now : ShelfState) → output ≡ Some name
    → OnErr made (now.told.output name ≡ before.told.output name) → KeepsButOutput name before.told now.told → TellsFailureIn (writing_of name) before.faults now.faults made
    → OnErr made (IsCutOff output tape before now)
output_unbegun (Ok x) output name tape before now is same rest cause = tt
output_unbegun (Err e) output name tape before now is same rest cause = subst (λ o. IsCutOff o tape before now) (sym is) (record {
  fails = record { name = name; named = refl; rose = cause.rose; written = inl same };
  printed = rest.printed;
  rest = keeps_delivered name before.told now.told rest;
  counts = cause.later;
})

-- A piece that was added, or wasn't.
pub piece_added : {T E : Type 0} (added : Result T E) (output : Option (List ℕ)) (name so_far piece : List ℕ) (first mid now : ShelfState) → output ≡ Some name → IsWritten output so_far first mid
    → OnOk added (Appends (mid.told.output name) (now.told.output name) piece) → KeepsButOutput name mid.told now.told → TellsFailureIn (writing_of name) mid.faults now.faults added
    → OnOk added (IsWritten output (so_far ++ piece) first now)
piece_added (Ok x) output name so_far piece first mid now is was more rest cause =
    let old : IsWritten (Some name) so_far first mid = subst (λ o. IsWritten o so_far first mid) is was in
    subst (λ o. IsWritten o (so_far ++ piece) first now) (sym is) (record {
      holds = grown (first.told.output name) (mid.told.output name) (now.told.output name) so_far piece old.holds more;
      printed = rest.printed ∙ old.printed;
      rest = delivered_twice (Some name) first.told mid.told now.told old.rest (keeps_delivered name mid.told now.told rest);
      calm = kept_twice first.faults mid.faults now.faults old.calm cause.calm;
    })
piece_added (Err e) output name so_far piece first mid now is was more rest cause = tt

pub piece_cut : {T E : Type 0} (added : Result T E) (output : Option (List ℕ)) (name so_far piece rest : List ℕ) (first mid now : ShelfState) → output ≡ Some name → IsWritten output so_far first mid
    → OnErr added (AppendsBeginning (mid.told.output name) (now.told.output name) piece) → KeepsButOutput name mid.told now.told → TellsFailureIn (writing_of name) mid.faults now.faults added
    → OnErr added (IsCutOff output ((so_far ++ piece) ++ rest) first now)
piece_cut (Ok x) output name so_far piece rest first mid now is was more keeps cause = tt
piece_cut (Err e) output name so_far piece rest first mid now is was more keeps cause =
    let old : IsWritten (Some name) so_far first mid = subst (λ o. IsWritten o so_far first mid) is was in
    subst (λ o. IsCutOff o ((so_far ++ piece) ++ rest) first now) (sym is) (record {
      fails = record {
        name = name;
        named = refl;
        rose = subst (λ n. Rose n (now.faults.writing name)) (old.calm.writing name) cause.rose;
        written = grown_part name so_far piece rest first mid now old.holds more;
      };
      printed = keeps.printed ∙ old.printed;
      rest = delivered_twice (Some name) first.told mid.told now.told old.rest (keeps_delivered name mid.told now.told keeps);
      counts = keeps_falling first.faults mid.faults now.faults old.calm cause.later;
    })
