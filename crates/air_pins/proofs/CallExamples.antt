-- What calls of devices change and leave, on small contents: how a call tells that it failed, what it keeps, and what an ear hears.
use Rattle.std.proofs.Common.{◌≡◌, ◌<◌, ◌≤◌, ◌^◌, ◌+◌, ◌-◌, ℕ, List, [], ◌∷◌, Option, Some, None, Result, Ok, Err, refl, inl, inr, ap, arith}
use Rattle.std.specs.Prelude.{⊤, codes, get_or}
use Rattle.air_devices.specs.Contents.{Contents}
use Rattle.air_devices.specs.Counts.{Faults, Rose, TellsFailure, TellsFailureIn, one_count, printing_of, reading_of, writing_of}
use Rattle.air_devices.specs.Ears.{Hears, IsUsedUp, TakesFirst}
use Rattle.air_devices.specs.Masts.{with_buckets, with_end}
use Rattle.air_devices.specs.Unchanged.{KeepsButLeft, KeepsButOutput, KeepsButPrinted}
use Rattle.air_devices.specs.declared.ears.Heard.TheVariants.{Bucket, Over}

-- ---- failures

-- A call that failed, and one that was done.
abbrev failed : Result ⊤ ⊤
failed = Err tt

abbrev done : Result ⊤ ⊤
done = Ok tt

not_risen : (n : ℕ) → n < 2 ^ 64 - 1 → Rose n n → ⊥
not_risen n low (inl less) = omega arith
not_risen n low (inr (last, stays)) = omega (arith, last)

not_fallen : (n : ℕ) → n < 2 ^ 64 - 1 → Rose (n + 1) n → ⊥
not_fallen n low (inl less) = omega arith
not_fallen n low (inr (last, stays)) = omega (arith, stays)

-- A failure raises the count; a call that is done leaves it.
tells : TellsFailure 3 4 failed × TellsFailure 3 3 done
tells = (record { rose = inl (omega arith); later = omega arith; calm = tt }, record { rose = tt; later = omega arith; calm = refl })

-- The count that has no next value stays.
tells_last : TellsFailure (2 ^ 64 - 1) (2 ^ 64 - 1) failed
tells_last = record { rose = inr (refl, refl); later = omega arith; calm = tt }

-- A failure doesn't leave the count, nor lower it, and a call that is done doesn't raise it.
not_tells : (TellsFailure 3 3 failed → ⊥) × (TellsFailure 4 3 failed → ⊥) × (TellsFailure 3 4 done → ⊥)
not_tells = (λ h. not_risen 3 (omega arith) h.rose, λ h. not_fallen 3 (omega arith) h.rose, λ h. let same : 4 ≡ 3 = h.calm in omega (arith, same))

-- Counts of a shelf of which one went up.
abbrev read_once : Faults
read_once = record (one_count 3) { reading = λ _. 4 }

abbrev written_once : Faults
written_once = record (one_count 3) { writing = λ _. 4 }

abbrev printed_once : Faults
printed_once = record (one_count 3) { printing = 4 }

tells_in : TellsFailureIn (reading_of (codes "a")) (one_count 3) read_once failed × TellsFailureIn (writing_of (codes "a")) (one_count 3) written_once failed
    × TellsFailureIn printing_of (one_count 3) printed_once failed × TellsFailureIn printing_of printed_once printed_once done
tells_in = (
  record { rose = inl (omega arith); later = record { reading = λ n. omega arith; writing = λ n. omega arith; printing = omega arith }; calm = tt },
  record { rose = inl (omega arith); later = record { reading = λ n. omega arith; writing = λ n. omega arith; printing = omega arith }; calm = tt },
  record { rose = inl (omega arith); later = record { reading = λ n. omega arith; writing = λ n. omega arith; printing = omega arith }; calm = tt },
  record {
    rose = tt;
    later = record { reading = λ n. omega arith; writing = λ n. omega arith; printing = omega arith };
    calm = record { reading = λ n. refl; writing = λ n. refl; printing = refl };
  },
)

-- The count of another call doesn't count, nor may one fall; and no count rises if the call is done.
not_tells_in : (TellsFailureIn printing_of (one_count 3) read_once failed → ⊥) × (TellsFailureIn printing_of read_once printed_once failed → ⊥)
    × (TellsFailureIn printing_of (one_count 3) written_once done → ⊥)
not_tells_in = (
  λ h. not_risen 3 (omega arith) h.rose,
  λ h. let least : 4 ≤ 3 = h.later.reading [] in omega arith,
  λ h. let same : 4 ≡ 3 = h.calm.writing [] in omega (arith, same),
)

-- ---- what is kept

-- Three bytes of every file, of which all are left, and nothing written or printed.
abbrev unread : Contents
unread = record { file = λ _. Some (codes "abc"); left = λ _. Some (codes "abc"); output = λ _. Some []; printed = Some [] }

-- A list with other bytes for the name without bytes.
abbrev but_for_one : List ℕ → List ℕ → List ℕ → Option (List ℕ)
but_for_one other these [] = Some other
but_for_one other these (c ∷ name) = Some these

-- One byte of one file was read.
abbrev one_read : Contents
one_read = record unread { left = but_for_one (codes "bc") (codes "abc") }

-- One output has a byte.
abbrev one_written : Contents
one_written = record unread { output = but_for_one (codes "x") [] }

-- A byte was printed.
abbrev one_printed : Contents
one_printed = record unread { printed = Some (codes "x") }

but_one_same : (other these name : List ℕ) → (name ≡ [] → ⊥) → but_for_one other these name ≡ Some these
but_one_same other these [] differs = absurd (differs refl)
but_one_same other these (c ∷ name) differs = refl

keeps_but_left : KeepsButLeft [] unread one_read
keeps_but_left = record { files = λ n. refl; other_left = λ n differs. but_one_same (codes "bc") (codes "abc") n differs; outputs = λ n. refl; printed = refl }

-- Another file is as it was, and so is what is written or printed.
not_keeps_but_left : (KeepsButLeft (codes "a") unread one_read → ⊥) × (KeepsButLeft [] unread one_written → ⊥) × (KeepsButLeft [] unread one_printed → ⊥)
    × (KeepsButLeft [] unread (record unread { file = λ _. None }) → ⊥)
not_keeps_but_left = (
  λ h. let same : Some (codes "bc") ≡ Some (codes "abc") = h.other_left [] (λ e. cc) in cc,
  λ h. let same : Some (codes "x") ≡ Some [] = h.outputs [] in cc,
  λ h. let same : Some (codes "x") ≡ Some [] = h.printed in cc,
  λ h. let same : None ≡ Some (codes "abc") = h.files [] in cc,
)

keeps_but_output : KeepsButOutput [] unread one_written
keeps_but_output = record { files = λ n. refl; left = λ n. refl; other_outputs = λ n differs. but_one_same (codes "x") [] n differs; printed = refl }

not_keeps_but_output : (KeepsButOutput (codes "a") unread one_written → ⊥) × (KeepsButOutput [] unread one_read → ⊥) × (KeepsButOutput [] unread one_printed → ⊥)
not_keeps_but_output = (
  λ h. let same : Some (codes "x") ≡ Some [] = h.other_outputs [] (λ e. cc) in cc,
  λ h. let same : Some (codes "bc") ≡ Some (codes "abc") = h.left [] in cc,
  λ h. let same : Some (codes "x") ≡ Some [] = h.printed in cc,
)

keeps_but_printed : KeepsButPrinted unread one_printed
keeps_but_printed = record { files = λ n. refl; left = λ n. refl; outputs = λ n. refl }

not_keeps_but_printed : (KeepsButPrinted unread one_read → ⊥) × (KeepsButPrinted unread one_written → ⊥)
not_keeps_but_printed = (
  λ h. let same : Some (codes "bc") ≡ Some (codes "abc") = h.left [] in cc,
  λ h. let same : Some (codes "x") ≡ Some [] = h.outputs [] in cc,
)

-- ---- masts

-- A bucket that is sent after the end, and the end that is sent again, leave where the first end was.
sent_after_the_end : with_end (with_buckets (codes "b" ∷ []) (with_end (with_buckets (codes "a" ∷ []) (record { buckets = []; ended = None }))))
    ≡ record { buckets = codes "a" ∷ codes "b" ∷ []; ended = Some 1 }
sent_after_the_end = refl

-- ---- ears

-- Two datagrams, and what is left when the first was taken.
abbrev two_waiting : Option (List (List ℕ))
two_waiting = Some (codes "abc" ∷ codes "d" ∷ [])

abbrev one_waiting : Option (List (List ℕ))
one_waiting = Some (codes "d" ∷ [])

takes_first : TakesFirst two_waiting one_waiting (λ d. d ≡ codes "abc") × TakesFirst None one_waiting (λ d. ⊥)
takes_first = ((refl, refl), tt)

-- Nothing isn't taken, the first doesn't stay, and it is the first that is taken.
not_takes_first : (TakesFirst (Some []) (Some []) (λ d. ⊤) → ⊥) × (TakesFirst one_waiting one_waiting (λ d. ⊤) → ⊥) × (TakesFirst two_waiting one_waiting (λ d. d ≡ codes "d") → ⊥)
not_takes_first = (λ h. h, λ h. let same : one_waiting ≡ Some [] = h.0 in cc, λ h. let same : codes "abc" ≡ codes "d" = h.1 in cc)

used_up : IsUsedUp (Some []) (Some []) × IsUsedUp None one_waiting
used_up = ((refl, refl), tt)

not_used_up : (IsUsedUp one_waiting (Some []) → ⊥) × (IsUsedUp (Some []) None → ⊥)
not_used_up = (λ h. let none : codes "d" ∷ [] ≡ [] = h.0 in cc, λ h. let same : None ≡ Some [] = h.1 in cc)

-- A datagram is cut to the room, which here is of two bytes; and the end comes if nothing waits.
hears : Hears two_waiting one_waiting (codes "ab") (Bucket 2) × Hears one_waiting (Some []) (codes "dz") (Bucket 1) × Hears (Some []) (Some []) (codes "zz") Over
hears = ((omega arith, omega arith, (refl, refl)), (omega arith, omega arith, (refl, refl)), (refl, refl))

-- No datagram is heard as nothing or shorter than it is, if it has room; other bytes aren't heard; and the end doesn't come before the last datagram.
not_hears : (Hears one_waiting (Some []) (codes "dz") (Bucket 0) → ⊥) × (Hears two_waiting one_waiting (codes "ab") (Bucket 1) → ⊥) × (Hears two_waiting one_waiting (codes "az") (Bucket 2) → ⊥)
    × (Hears one_waiting (Some []) (codes "zz") Over → ⊥)
not_hears = (
  λ h. let some : 1 ≤ 0 = h.0 in omega arith,
  λ h. let same : codes "a" ≡ codes "ab" = h.2.1 in cc,
  λ h. let same : codes "az" ≡ codes "ab" = h.2.1 in let second : 122 ≡ 98 = ap (λ bytes. get_or bytes 1 0) same in omega (arith, second),
  λ h. let none : codes "d" ∷ [] ≡ [] = h.0 in cc,
)
