-- Facts about a tape whose bytes are told: it was heard, or why it wasn't.
use Rattle.std.proofs.Common.{◌≡◌, ◌≤◌, ◌<◌, ◌+◌, ◌∙◌, ℕ, List, Option, Some, None, drop, length, sym, subst, arith}
use Rattle.std.specs.Prelude.{IfErr, IfOk, MatchResult, Result, Ok, Err}
use Rattle.air_devices.specs.Shelves.{ShelfState}
use Rattle.air_devices.specs.WhatIsTold.{ToldIs, WhereTold}
use Rattle.air_model.specs.Tapes.{tape_read}
use Rattle.air_report.specs.declared.status.Status.{Status}
use Rattle.air_report.specs.declared.status.Status.TheVariants as status
use Rattle.air_cli.specs.NamedFiles.{UnreadCause}
use Rattle.air_cli.specs.HeardTapes.{UnheardCause}
use Rattle.session_pins.specs.Refusals.{IsCutAt, IsUnread}
use Rattle.session_pins.specs.SmallBuckets.{cut_tape, pair_tape}
use Rattle.session_pins.proofs.SessionLemmas.{cut_cut, pair_whole}

-- The bytes of a told file.
pub told_bytes : (file : Option (List ℕ)) (bytes tape : List ℕ) → file ≡ Some tape → ToldIs file bytes → bytes ≡ tape
told_bytes file bytes tape is_told told = subst (λ o. ToldIs o bytes) is_told told

-- What holds of some bytes holds of the told ones.
of_known : (file : Option (List ℕ)) (tape : List ℕ) (P : List ℕ → Type 0) → file ≡ Some tape → (bytes : List ℕ) × ToldIs file bytes × P bytes → P tape
of_known file tape P is_told (bytes, known, p) = subst P (told_bytes file bytes tape is_told known) p

-- A whole tape within its limit isn't heard only if it can't be read or the call is out of memory.
pub unread_cause : (name : List ℕ) (most : ℕ) (before now : ShelfState) (s : Status) → before.told.file name ≡ Some pair_tape → 72 ≤ most →
    UnheardCause name most before now s → IsUnread s
unfolding UnheardCause UnreadCause
unread_cause name most before now (status.TapeCut at) is_told few cause =
    let cut : (72 ≤ most) × ((tape_read pair_tape).cut ≡ Some at) =
    of_known (before.told.file name) pair_tape (λ bytes. (length bytes ≤ most) × ((tape_read bytes).cut ≡ Some at)) is_told cause in
    let differ : None ≡ Some at = sym pair_whole ∙ cut.1 in
    absurd (cc)
unread_cause name most before now (status.TooLarge limit) is_told few cause =
    let large : (most < 72) × (now.told.left name ≡ Some (drop (most + 1) pair_tape)) =
    subst (λ o. WhereTold o (λ bytes. (most < length bytes) × (now.told.left name ≡ Some (drop (most + 1) bytes)))) is_told cause.1 in
    absurd (omega (arith, few, large.0))
unread_cause name most before now status.ReadFault is_told few cause = tt
unread_cause name most before now status.NoMemory is_told few cause = tt
unread_cause name most before now other is_told few cause = absurd cause

-- A tape that is cut in the record at byte 36 is answered as that.
pub cut_cause : (name : List ℕ) (before now : ShelfState) (s : Status) → before.told.file name ≡ Some cut_tape → UnheardCause name 72 before now s → IsCutAt 36 s
unfolding UnheardCause UnreadCause
cut_cause name before now (status.TapeCut at) is_told cause =
    let cut : (39 ≤ 72) × ((tape_read cut_tape).cut ≡ Some at) =
    of_known (before.told.file name) cut_tape (λ bytes. (length bytes ≤ 72) × ((tape_read bytes).cut ≡ Some at)) is_told cause in
    let same : Some 36 ≡ Some at = sym cut_cut ∙ cut.1 in
    cc
cut_cause name before now (status.TooLarge limit) is_told cause =
    let large : (72 < 39) × (now.told.left name ≡ Some (drop 73 cut_tape)) =
    subst (λ o. WhereTold o (λ bytes. (72 < length bytes) × (now.told.left name ≡ Some (drop 73 bytes)))) is_told cause.1 in
    absurd (omega (arith, large.0))
cut_cause name before now status.ReadFault is_told cause = tt
cut_cause name before now status.NoMemory is_told cause = tt
cut_cause name before now other is_told cause = absurd cause

-- A byte is named, or none is.
not_both : (at : ℕ) (cut : Option ℕ) → cut ≡ Some at → cut ≡ None → ⊥
not_both at cut named none = cc

-- A cut tape isn't whole.
pub not_whole : (bytes : List ℕ) → bytes ≡ cut_tape → (tape_read bytes).cut ≡ None → ⊥
not_whole bytes is_cut whole = not_both 36 (tape_read cut_tape).cut cut_cut (subst (λ b. (tape_read b).cut ≡ None) is_cut whole)

-- What holds of the value and what holds of the error.
pub of_both : {T E : Type 0} → (r : Result T E) (P : T → Type 0) (Q : E → Type 0) → IfOk r P → IfErr r Q → MatchResult r P Q
of_both (Ok x) P Q ok err = ok
of_both (Err e) P Q ok err = err
