-- What devices tell and count, on small contents: where each relation holds, and where it doesn't.
use Rattle.std.proofs.Common.{◌≡◌, ◌<◌, ◌≤◌, ◌^◌, ◌-◌, ℕ, zero, suc, List, [], ◌∷◌, Option, Some, None, refl, inl, inr, ap, arith}
use Rattle.std.specs.Prelude.{codes, get_or, length}
use Rattle.air_devices.specs.Contents.{Contents, nothing_told}
use Rattle.air_devices.specs.Counts.{Faults, KeepsCounts, NoCountFalls, Rose, one_count}
use Rattle.air_devices.specs.Masts.{Changes, SentBuckets, fresh_mast, nothing_sent, with_buckets, with_end}
use Rattle.air_devices.specs.Reading.{IsTooLarge}
use Rattle.air_devices.specs.WhatIsTold.{AppendsBeginning, Becomes, ToldIs, WhereTold}

-- ---- counts

-- A count went up by one or more, or stays at its last value.
rose : Rose 3 4 × Rose 3 7 × Rose (2 ^ 64 - 1) (2 ^ 64 - 1)
rose = (inl (omega arith), inl (omega arith), inr (refl, refl))

not_rose : (Rose 3 3 → ⊥) × (Rose 4 3 → ⊥) × (Rose (2 ^ 64 - 2) (2 ^ 64 - 2) → ⊥)
not_rose = (same, fell, below_last)
  where
    same : Rose 3 3 → ⊥
    same (inl less) = omega arith
    same (inr (last, stays)) = omega (arith, last)

    fell : Rose 4 3 → ⊥
    fell (inl less) = omega arith
    fell (inr (last, stays)) = omega (arith, last)

    below_last : Rose (2 ^ 64 - 2) (2 ^ 64 - 2) → ⊥
    below_last (inl less) = omega arith
    below_last (inr (last, stays)) = omega (arith, last)

-- The last value doesn't fall either.
not_fallen_from_last : Rose (2 ^ 64 - 1) 3 → ⊥
not_fallen_from_last (inl less) = omega arith
not_fallen_from_last (inr (last, stays)) = omega (arith, stays)

-- Counts of which only that of prints differs.
abbrev printed_once : Faults
printed_once = record (one_count 3) { printing = 4 }

keeps : KeepsCounts (one_count 3) (one_count 3)
keeps = record { reading = λ n. refl; writing = λ n. refl; printing = refl }

not_keeps : (KeepsCounts (one_count 3) printed_once → ⊥) × (KeepsCounts printed_once (one_count 3) → ⊥)
not_keeps = (λ h. let e : 4 ≡ 3 = h.printing in omega (arith, e), λ h. let e : 3 ≡ 4 = h.printing in omega (arith, e))

stands : NoCountFalls (one_count 3) (one_count 3)
stands = record { reading = λ n. omega arith; writing = λ n. omega arith; printing = omega arith }

no_fall : NoCountFalls (one_count 3) printed_once
no_fall = record { reading = λ n. omega arith; writing = λ n. omega arith; printing = omega arith }

falls : NoCountFalls printed_once (one_count 3) → ⊥
falls h = let least : 4 ≤ 3 = h.printing in omega arith

-- Counts of which only those of reads differ, or only those of writes.
abbrev read_once : Faults
read_once = record (one_count 3) { reading = λ _. 4 }

abbrev written_once : Faults
written_once = record (one_count 3) { writing = λ _. 4 }

not_kept_by_name : (KeepsCounts (one_count 3) read_once → ⊥) × (KeepsCounts (one_count 3) written_once → ⊥)
not_kept_by_name = (λ h. let e : 4 ≡ 3 = h.reading [] in omega (arith, e), λ h. let e : 4 ≡ 3 = h.writing [] in omega (arith, e))

falls_by_name : (NoCountFalls read_once (one_count 3) → ⊥) × (NoCountFalls written_once (one_count 3) → ⊥)
falls_by_name = (λ h. let least : 4 ≤ 3 = h.reading [] in omega arith, λ h. let least : 4 ≤ 3 = h.writing [] in omega arith)

-- ---- what is told

told_is : ToldIs (Some (codes "ab")) (codes "ab") × ToldIs None (codes "ab")
told_is = (refl, tt)

not_told : ToldIs (Some (codes "ab")) (codes "a") → ⊥
not_told h = let n : 1 ≡ 2 = ap length h in omega (arith, n)

where_told : WhereTold (Some 3) (λ n. 2 < n) × WhereTold None (λ (n : ℕ). ⊥)
where_told = (omega arith, tt)

not_where_told : WhereTold (Some 3) (λ n. 3 < n) → ⊥
not_where_told h = omega arith

becomes : Becomes (Some (codes "ab")) (Some (codes "c")) (codes "c") × Becomes None None (codes "c")
becomes = (refl, tt)

-- What was told is told again, and is only these bytes.
not_becomes : (Becomes (Some (codes "ab")) None (codes "c") → ⊥) × (Becomes (Some (codes "ab")) (Some (codes "abc")) (codes "c") → ⊥)
not_becomes = (λ h. cc, λ h. let same : codes "abc" ≡ codes "c" = cc in let n : 3 ≡ 1 = ap length same in omega (arith, same))

-- The first bytes of a text, after what was there.
appends_part : AppendsBeginning (Some (codes "a")) (Some (codes "abc")) (codes "bcd")
appends_part = (2, refl)

-- Other bytes, or none of what was there, or contents that are no more told, aren't that.
not_appends_part : (AppendsBeginning (Some (codes "a")) (Some (codes "acb")) (codes "bcd") → ⊥) × (AppendsBeginning (Some (codes "a")) (Some (codes "bc")) (codes "bcd") → ⊥)
    × (AppendsBeginning (Some (codes "a")) None (codes "bcd") → ⊥)
not_appends_part = (other_bytes, nothing_kept, λ h. h.1)
  where
    other_bytes : AppendsBeginning (Some (codes "a")) (Some (codes "acb")) (codes "bcd") → ⊥
    other_bytes (zero, same) = cc
    other_bytes (suc n, same) = let second : 99 ≡ 98 = ap (λ bytes. get_or bytes 1 0) same in omega (arith, second)

    nothing_kept : AppendsBeginning (Some (codes "a")) (Some (codes "bc")) (codes "bcd") → ⊥
    nothing_kept (n, same) = let first : 98 ≡ 97 = ap (λ bytes. get_or bytes 0 0) same in omega (arith, first)

-- A file of five bytes is too large if three are the most, and is read up to its last byte.
abbrev with_file : List ℕ → List ℕ → Contents
with_file bytes left = record nothing_told { file = λ _. Some bytes; left = λ _. Some left }

too_large : IsTooLarge 3 (codes "deck") (with_file (codes "abcde") (codes "abcde")) (with_file (codes "abcde") (codes "e"))
too_large = (omega arith, refl)

-- What counts is the file as it was before it was read.
too_large_before : IsTooLarge 3 (codes "deck") (with_file (codes "abcde") (codes "abcde")) (record nothing_told { left = λ _. Some (codes "e") })
    × (IsTooLarge 3 (codes "deck") (with_file (codes "abc") (codes "abc")) (with_file (codes "abcde") (codes "e")) → ⊥)
too_large_before = ((omega arith, refl), λ h. let more : 3 < 3 = h.0 in omega arith)

-- A file of exactly the most bytes isn't too large; a file that is too large is read one byte past the most and no further.
not_too_large : (IsTooLarge 3 (codes "deck") (with_file (codes "abc") (codes "abc")) (with_file (codes "abc") []) → ⊥)
    × (IsTooLarge 3 (codes "deck") (with_file (codes "abcde") (codes "abcde")) (with_file (codes "abcde") []) → ⊥)
not_too_large = (λ h. let more : 3 < 3 = h.0 in omega arith, λ h. let same : Some [] ≡ Some (codes "e") = h.1 in cc)

-- ---- masts

-- One bucket was sent, and then the end.
abbrev one_sent : SentBuckets
one_sent = record { buckets = codes "a" ∷ []; ended = Some 1 }

changes : Changes (λ s. with_end (with_buckets (codes "a" ∷ []) s)) (Some nothing_sent) (Some one_sent) × Changes with_end None None
changes = (refl, tt)

-- The end that a mast tells.
abbrev end_told : Option SentBuckets → Option ℕ
end_told None = None
end_told (Some s) = s.ended

-- Nothing more was sent than is told.
not_changes : (Changes (with_buckets (codes "a" ∷ [])) (Some nothing_sent) (Some one_sent) → ⊥) × (Changes with_end (Some nothing_sent) None → ⊥)
not_changes = (
  λ h. let same : ◌≡◌ {A = Option ℕ} (Some 1) None = ap end_told h in cc,
  λ h. cc,
)

-- A new mast sent nothing and was not aimed.
fresh : (fresh_mast.port ≡ None) × (fresh_mast.faults ≡ 0) × WhereTold fresh_mast.told (λ s. s ≡ nothing_sent)
fresh = (refl, refl, refl)
