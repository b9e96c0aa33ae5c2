-- What a call of a shelf in memory leaves, stated once for all calls: the shelf s makes a call, and t is the shelf after it.
use Rattle.std.proofs.Common.{◌≡◌, ◌≢◌, ◌∙◌, ◌-◌, ◌++◌, ℕ, List, Option, Some, false, length, take, refl, sym, ap, subst}
use Rattle.std.specs.Prelude.{IfSome}
use Rattle.air_devices.specs.Calls.{IsNextCall, is_next_listed, next_call}
use Rattle.air_devices.specs.Unchanged.{KeepsButLeft, KeepsButOutput}
use Rattle.air_devices.specs.Memory.{added_bytes, contents_with, file_bytes, file_named, left_bytes, output_bytes, output_named, told_by}
use Rattle.air_devices.specs.declared.memory.calls.Calls.{Calls}
use Rattle.air_devices.specs.declared.memory.shelf.MemFile.{MemFile}
use Rattle.air_devices.specs.declared.memory.shelf.MemOutput.{MemOutput}
use Rattle.air_devices.specs.declared.memory.shelf.MemShelf.{MemShelf}

-- The call was numbered.
pub is_next_call : (before now : Calls) → ◌≡◌ {A = Calls} now (record before { made = next_call before }) → IsNextCall before now
is_next_call before now numbered = record {
  made = ap (λ (c : Calls). c.made) numbered;
  fail = ap (λ (c : Calls). c.fail) numbered;
}

-- The call was numbered, and then a failure was counted.
pub is_failed_call : (before mid now : Calls) → ◌≡◌ {A = Calls} mid (record before { made = next_call before })
    → ◌≡◌ {A = Calls} now (record mid { faults = now.faults }) → IsNextCall before now
is_failed_call before mid now numbered counted = record {
  made = ap (λ (c : Calls). c.made) counted ∙ ap (λ (c : Calls). c.made) numbered;
  fail = ap (λ (c : Calls). c.fail) counted ∙ ap (λ (c : Calls). c.fail) numbered;
}

-- The files are now these, and only the file of one name was read further.
pub keeps_but_left : (s : MemShelf) (files : List MemFile) (n : List ℕ)
    → ((m : List ℕ) → file_bytes (file_named m files) ≡ file_bytes (file_named m s.files.items))
    → ((m : List ℕ) → m ≢ n → left_bytes (file_named m files) ≡ left_bytes (file_named m s.files.items))
    → KeepsButLeft n (told_by s) (contents_with files s.outputs.items s.printed.bytes)
keeps_but_left s files n bytes others = record {
  files = λ m. ap (λ b. Some b) (bytes m);
  other_left = λ m other. ap (λ b. Some b) (others m other);
  outputs = λ m. refl;
  printed = refl;
}

-- The outputs are now these, and only the output of one name was written.
pub keeps_but_output : (s : MemShelf) (outputs : List MemOutput) (n : List ℕ)
    → ((m : List ℕ) → m ≢ n → output_bytes (output_named m outputs) ≡ output_bytes (output_named m s.outputs.items))
    → KeepsButOutput n (told_by s) (contents_with s.files.items outputs s.printed.bytes)
keeps_but_output s outputs n others = record {
  files = λ m. refl;
  left = λ m. refl;
  other_outputs = λ m other. ap (λ b. Some b) (others m other);
  printed = refl;
}

-- What an output holds after a call added what fits to it.
pub output_added : (before : Option MemOutput) (d : MemOutput) (now : Option (List ℕ)) (calls : Calls) (bytes : List ℕ) → before ≡ Some d → is_next_listed calls ≡ false
    → now ≡ Some (d.written.bytes ++ take (d.written.room - length d.written.bytes) bytes)
    → IfSome before (λ o. now ≡ Some (o.written.bytes ++ added_bytes calls o.written bytes))
output_added before d now calls bytes here calm is =
    let fits : added_bytes calls d.written bytes ≡ take (d.written.room - length d.written.bytes) bytes = rw calm refl in
    subst (λ before. IfSome before (λ o. now ≡ Some (o.written.bytes ++ added_bytes calls o.written bytes))) (sym here) (is ∙ ap (λ l. Some (d.written.bytes ++ l)) (sym fits))
