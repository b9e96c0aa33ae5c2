-- A deck whose own program is too long is refused with its slots.
use Rattle.std.proofs.Common.{◌≡◌, ℕ, zero, suc, ◌<◌, List, Result, Err, length, subst, arith}
use Rattle.std.specs.Prelude.{IfErr}
use Rattle.air_devices.specs.Shelves.{ShelfState}
use Rattle.air_base.specs.declared.limits.TheConstants.{MOST_SLOTS}
use Rattle.air_model.specs.Decks.{Deck, disks_in}
use Rattle.air_model.specs.Programs.{program}
use Rattle.air_report.specs.declared.status.Status.{Status}
use Rattle.air_report.specs.declared.status.Status.TheVariants as status
use Rattle.air_cli.specs.NamedDecks.{HasDeck}
use Rattle.air_cli.specs.RunnableDecks.{LengthCause, UnrunnableCause}
use Rattle.chunk_program.specs.Plans.{AreShortBelow, IsFirstTooLong, IsTooLong}

own_slots : (deck : Deck) (slots e : ℕ) → IsTooLong (disks_in deck e) slots → AreShortBelow deck e → MOST_SLOTS < length (program (disks_in deck 0)) → slots ≡ length (program (disks_in deck 0))
own_slots deck slots zero long short above = long.counted
own_slots deck slots (suc e) long short above = let few = short 0 (omega arith) in absurd (omega arith)

first_slots : (deck : Deck) (slots : ℕ) → IsFirstTooLong deck slots → MOST_SLOTS < length (program (disks_in deck 0)) → slots ≡ length (program (disks_in deck 0))
first_slots deck slots first above = own_slots deck slots first.edition first.long first.least above

pub told_slots : {T : Type 0} (r : Result T Status) (deck : Deck) (slots : ℕ) → IfErr r (LengthCause deck) → r ≡ Err (status.PlanTooLong slots)
    → MOST_SLOTS < length (program (disks_in deck 0)) → slots ≡ length (program (disks_in deck 0))
unfolding LengthCause
told_slots r deck slots refused e above = first_slots deck slots (subst (λ x. IfErr x (LengthCause deck)) e refused) above

-- A program that is too long has more slots than a program may have.
pub told_above : {T : Type 0} (r : Result T Status) (name : List ℕ) (before now : ShelfState) (slots : ℕ) → IfErr r (UnrunnableCause name before now) → r ≡ Err (status.PlanTooLong slots) → MOST_SLOTS < slots
unfolding UnrunnableCause
told_above r name before now slots refused e =
    let why : HasDeck name before (λ d. IsFirstTooLong d slots) = subst (λ x. IfErr x (UnrunnableCause name before now)) e refused in
    why.3.long.above
