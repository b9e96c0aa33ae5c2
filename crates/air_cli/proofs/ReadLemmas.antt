-- What reading one named file, or two, leaves, and what it means for an earlier moment.
use Rattle.std.proofs.Common.{◌≡◌, ◌≢◌, ℕ, ◌+◌, Bool, true, false, List, length, drop, Some, refl, sym, subst, inl, inr, arith}
use Rattle.std.specs.Prelude.{◌<◌, ◌⊎◌, nat_eq}
use Rattle.std.specs.Cmp.Lexicographic.{bytes_decides, pointwise}
use Rattle.std.specs.Io.KnownBytes.{IsAtEnd}
use Rattle.air_devices.specs.Counts.{Faults, KeepsCounts, NoCountFalls, Rose}
use Rattle.air_devices.specs.Unchanged.{KeepsButLeft}
use Rattle.air_devices.specs.WhatIsTold.{WhereTold}
use Rattle.air_report.specs.declared.status.Status.{Status}
use Rattle.air_report.specs.declared.status.Status.TheVariants as status
use Rattle.air_devices.specs.Shelves.{ShelfState}
use Rattle.air_cli.specs.NamedFiles.{UnreadCause}

-- Two names are one or differ.
pub same_name : (a b : List ℕ) → (a ≡ b) ⊎ (a ≢ b)
same_name a b = by (pointwise nat_eq a b) refl
  where
    by : (t : Bool) → pointwise nat_eq a b ≡ t → (a ≡ b) ⊎ (a ≢ b)
    by true e = inl ((bytes_decides a b).0 e)
    by false e = inr (λ same. cc (e, (bytes_decides a b).1 same))

-- ---- counts

pub falls_twice : (before mid now : Faults) → NoCountFalls before mid → NoCountFalls mid now → NoCountFalls before now
falls_twice before mid now a b = record {
  reading = λ n. omega (arith, a.reading n, b.reading n);
  writing = λ n. omega (arith, a.writing n, b.writing n);
  printing = omega (arith, a.printing, b.printing);
}

-- ---- a deck, then a tape

-- The deck stays read to its end, even if the tape is the same file.
pub end_still : (deck tape : List ℕ) (mid now : ShelfState) → KeepsButLeft tape mid.told now.told → IsAtEnd (mid.told.left deck) → IsAtEnd (now.told.left tape) → IsAtEnd (now.told.left deck)
end_still deck tape mid now second first end = elim (same_name deck tape) [
  | inl same ↦ subst (λ name. IsAtEnd (now.told.left name)) (sym same) end
  | inr other ↦ subst IsAtEnd (sym (second.other_left deck other)) first
]

-- Why a tape wasn't read, stated for the moment before the deck was read.
pub unread_since : (tape : List ℕ) (most : ℕ) (before mid now : ShelfState) (s : Status) → mid.told.file tape ≡ before.told.file tape → KeepsCounts before.faults mid.faults
    → UnreadCause tape most mid now s → UnreadCause tape most before now s
unfolding UnreadCause
unread_since tape most before mid now status.ReadFault same calm h = subst (λ n. Rose n (now.faults.reading tape)) (calm.reading tape) h
unread_since tape most before mid now (status.TooLarge limit) same calm h = (h.0, subst (λ file. WhereTold file (λ bytes. (most < length bytes) × (now.told.left tape ≡ Some (drop (most + 1) bytes)))) same h.1)
unread_since tape most before mid now s same calm h = h
