-- A list is read from its beginning by plain parts: what remains to be read after one more part.
use Rattle.std.proofs.Common.{◌<◌, ◌≤◌, ◌+◌, ◌++◌, ◌∷◌, [], ℕ, List, Option, length, get_or, drop, sym, ap, ◌∙◌, arith, length-drop}
use Rattle.std.proofs.lemmas.List.{drop_all, drop_more}
use Rattle.air_base.specs.NumberLists.{list_of}
use Rattle.air_base.specs.ReadParts.{IsReadSoFar, PlainAt, ReadsTo, part_values}
use Rattle.air_base.proofs.LeadingListLemmas.{after_short, prepend_none, list_last, list_more, list_spelled}

module _ {A : Type 0} (value : List ℕ → Option A) (text : List ℕ) where
  -- Nothing was read.
  pub reads_none : (Holds : List A → Type 0) → 0 < length text → Holds [] → ReadsTo value text Holds 0
  reads_none Holds some none = ([], none, ((λ within. prepend_none (part_values value text) ∙ sym (list_spelled value text some)), (λ past. absurd (omega (arith, past)))))

  module _ (place : ℕ) (f : A × ℕ) (plain : PlainAt value text place f) where
    -- A part ends no sooner than it begins.
    pub plain_further : place ≤ length text → place ≤ f.1
    plain_further within =
        let short = after_short (drop place text) in
        omega (arith, short, ap length plain.0.1, length-drop f.1 text, length-drop place text, plain.1, within)

    -- One more part was read.
    pub reads_more : (done : List A) → place ≤ length text → IsReadSoFar value text done place → IsReadSoFar value text (done ++ f.0 ∷ []) (f.1 + 1)
    reads_more done within told =
        let rest = drop place text in (
          (λ on.
              let more = drop_more text f.1 0 (omega (arith, on)) in
              list_more value (list_of value text) done rest (told.0 within) f.0 (get_or text f.1 0) (drop (f.1 + 1) text) plain.0.0 (sym plain.0.1 ∙ more)),
          (λ past. list_last value (list_of value text) done rest (told.0 within) f.0 plain.0.0 (sym plain.0.1 ∙ drop_all f.1 text (omega (arith, past)))),
        )
