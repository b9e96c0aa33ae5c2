-- From what a call wrote, and what it then printed, to what was delivered.
use Rattle.std.proofs.Common.{◌≡◌, ℕ, ◌≤◌, Bool, true, false, List, Option, Some, None, refl, sym, subst, inl, inr}
use Rattle.std.specs.Prelude.{Result, Ok, Err, OnErr, OnOk}
use Rattle.std.specs.Io.KnownBytes.{Appends}
use Rattle.air_devices.specs.Counts.{KeepsCounts, Rose}
use Rattle.air_devices.specs.Shelves.{ShelfState}
use Rattle.air_devices.specs.WhatIsTold.{AppendsBeginning, Becomes}
use Rattle.air_report.specs.declared.status.Status.{Status}
use Rattle.air_report.specs.declared.status.Status.TheVariants as status
use Rattle.air_cli.specs.ReportsAndTapes.{ReportAndTape, given_status}
use Rattle.air_cli.specs.Outputs.{OutputFails, OutputHolds}
use Rattle.air_cli.specs.Deliveries.{Delivers, IsGiven}
use Rattle.air_cli.specs.Refusals.{IsSteady}
use Rattle.air_cli.proofs.CountLemmas.{kept_twice, rose_since}

-- An output holds what it held.
holds_still : (output : Option (List ℕ)) (bytes : List ℕ) (before mid now : ShelfState) → ((name : List ℕ) → now.told.output name ≡ mid.told.output name) → OutputHolds output bytes before mid → OutputHolds output bytes before now
holds_still None bytes before mid now same h = tt
holds_still (Some name) bytes before mid now same h = subst (λ o. Becomes (before.told.output name) o bytes) (sym (same name)) h

-- The tape was written, then the text was printed.
pub delivers_all : (output : Option (List ℕ)) (given : ReportAndTape) (tape text : List ℕ) (before mid now : ShelfState) (s : Status) → tape ≡ given.tape → text ≡ given.text → s ≡ given_status given.differs
    → OutputHolds output tape before mid → KeepsCounts before.faults mid.faults → mid.told.printed ≡ before.told.printed
    → ((name : List ℕ) → now.told.output name ≡ mid.told.output name) → Appends mid.told.printed now.told.printed text → KeepsCounts mid.faults now.faults → Delivers output given before now s
unfolding Delivers
delivers_all output given tape text before mid now s is_tape is_text is_status holds calm same kept printed later = subst (Delivers output given before now) (sym is_status) (by given.differs refl)
  where
    all : IsGiven output given before now
    all = record {
      written = subst (λ bytes. OutputHolds output bytes before now) is_tape (holds_still output tape before mid now kept holds);
      printed = subst (λ o. Appends o now.told.printed given.text) same (subst (Appends mid.told.printed now.told.printed) is_text printed);
    }

    steady : KeepsCounts before.faults now.faults
    steady = kept_twice before.faults mid.faults now.faults calm later

    by : (differs : Bool) → given.differs ≡ differs → Delivers output given before now (given_status differs)
    by false e = (e, all, steady)
    by true e = (e, all, steady)

-- The tape was written, then the print failed.
pub delivers_part : (output : Option (List ℕ)) (given : ReportAndTape) (tape text : List ℕ) (before mid now : ShelfState) → tape ≡ given.tape → text ≡ given.text
    → OutputHolds output tape before mid → before.faults.printing ≤ mid.faults.printing → mid.told.printed ≡ before.told.printed
    → ((name : List ℕ) → now.told.output name ≡ mid.told.output name) → AppendsBeginning mid.told.printed now.told.printed text → Rose mid.faults.printing now.faults.printing → Delivers output given before now status.WriteFault
unfolding Delivers
delivers_part output given tape text before mid now is_tape is_text holds counts same kept printed rose = inr (
  rose_since before.faults.printing mid.faults.printing now.faults.printing counts rose,
  record {
    written = subst (λ bytes. OutputHolds output bytes before now) is_tape (holds_still output tape before mid now kept holds);
    printed = subst (λ o. AppendsBeginning o now.told.printed given.text) same (subst (AppendsBeginning mid.told.printed now.told.printed) is_text printed);
  },
)

-- The output failed.
pub delivers_none : (output : Option (List ℕ)) (given : ReportAndTape) (tape : List ℕ) (before now : ShelfState) → tape ≡ given.tape → OutputFails output tape before now
    → now.told.printed ≡ before.told.printed → Delivers output given before now status.WriteFault
unfolding Delivers
delivers_none output given tape before now is_tape fails same = inl (subst (λ bytes. OutputFails output bytes before now) is_tape fails, same)

-- A print leaves every count, or fails.
pub print_steady : {T E : Type 0} (printed : Result T E) (before now : ShelfState) → OnErr printed (Rose before.faults.printing now.faults.printing)
    → OnOk printed (KeepsCounts before.faults now.faults) → IsSteady before now
print_steady (Ok x) before now rose calm = inl calm
print_steady (Err e) before now rose calm = inr rose
