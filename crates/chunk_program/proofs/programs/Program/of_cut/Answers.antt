use Rattle.std.proofs.Common.{◌≡◌, ◌*◌, ℕ, List, Some, length, slice_get, arith, refl, ap, subst, sym, ◌∙◌}
use Rattle.std.proofs.Math.Seq.{take-length}
use Rattle.air_model.specs.Disks.{Disk, all_items}
use Rattle.air_model.specs.Programs.{minor_len, num_minors, program}
use Rattle.chunk_program.specs.declared.homes.Home.{Home}
use Rattle.chunk_program.specs.CutConditions.{AreDeckDisks}
use Rattle.chunk_program.specs.Homes.{IsHome}
use Rattle.chunk_program.proofs.ProgramLemmas.{minors_short, slots_are, slots_some}
use Rattle.chunk_program.proofs.programs.Program.of_cut.Goals as goal

pub returns-then-slots-gt-MOST_SLOTS-clause-too_long : goal.returns-then-slots-gt-MOST_SLOTS-clause-too_long
returns-then-slots-gt-MOST_SLOTS-clause-too_long c =
    let cut = c.args.cut.now in let m = c.num_minors-minors.result in let row = c.len_before-minor_len.result in
    let minors = c.num_minors-minors.ensures.counted ∙ ap num_minors c.disks-disks.ensures in
    let rows = c.len_before-minor_len.ensures.counted ∙ ap (minor_len m) (take-length c.disks-disks.result.now ∙ c.disks-disks.ensures) in
    let slots = slots_are cut m row (m * row) minors rows refl in
    record { counted = slots; above = c.if-slots-gt-MOST_SLOTS.true }

pub slots_of-requires-clause-few : goal.slots_of-requires-clause-few
slots_of-requires-clause-few c =
    let cut = c.args.cut.now in let m = c.num_minors-minors.result in let row = c.len_before-minor_len.result in
    let minors = c.num_minors-minors.ensures.counted ∙ ap num_minors c.disks-disks.ensures in
    let rows = c.len_before-minor_len.ensures.counted ∙ ap (minor_len m) (take-length c.disks-disks.result.now ∙ c.disks-disks.ensures) in
    let slots = slots_are cut m row (m * row) minors rows refl in
    let some = slots_some cut c.requires in
    minors_short m row (m * row) (omega arith) refl c.if-slots-gt-MOST_SLOTS.false

pub homes-requires-clause-short : goal.homes-requires-clause-short
homes-requires-clause-short c =
    let cut = c.args.cut.now in let m = c.num_minors-minors.result in let row = c.len_before-minor_len.result in
    let minors = c.num_minors-minors.ensures.counted ∙ ap num_minors c.disks-disks.ensures in
    let rows = c.len_before-minor_len.ensures.counted ∙ ap (minor_len m) (take-length c.disks-disks.result.now ∙ c.disks-disks.ensures) in
    let slots = slots_are cut m row (m * row) minors rows refl in
    let short = c.if-slots-gt-MOST_SLOTS.false in omega arith

pub overflow_cast-result : goal.overflow_cast-result
overflow_cast-result c =
    let cut = c.args.cut.now in let m = c.num_minors-minors.result in let row = c.len_before-minor_len.result in
    let minors = c.num_minors-minors.ensures.counted ∙ ap num_minors c.disks-disks.ensures in
    let rows = c.len_before-minor_len.ensures.counted ∙ ap (minor_len m) (take-length c.disks-disks.result.now ∙ c.disks-disks.ensures) in
    let slots = slots_are cut m row (m * row) minors rows refl in
    let some = slots_some cut c.requires in
    let few = minors_short m row (m * row) (omega arith) refl c.if-slots-gt-MOST_SLOTS.false in omega arith

pub invariant_of-result : goal.invariant_of-result
invariant_of-result c =
    let cut = c.args.cut.now in let m = c.num_minors-minors.result in let row = c.len_before-minor_len.result in
    let minors = c.num_minors-minors.ensures.counted ∙ ap num_minors c.disks-disks.ensures in
    let rows = c.len_before-minor_len.ensures.counted ∙ ap (minor_len m) (take-length c.disks-disks.result.now ∙ c.disks-disks.ensures) in
    let slots = slots_are cut m row (m * row) minors rows refl in
    let is = c.in_ok-disks.ensures ∙ c.disks-disks.ensures in
    let homes = c.in_ok-homes.homes.items in
    record {
      limits = subst AreDeckDisks (sym is) c.requires;
      minors = minors ∙ ap num_minors (sym is);
      minor_len = rows ∙ ap (λ n. minor_len n cut) minors ∙ ap (λ (l : List Disk). minor_len (num_minors l) l) (sym is);
      slots = c.in_ok-slots.ensures ∙ ap program (c.disks-disks.ensures ∙ sym is);
      short = (let same = ap length (c.in_ok-slots.ensures ∙ ap program c.disks-disks.ensures) in let short = c.if-slots-gt-MOST_SLOTS.false in omega arith);
      len = c.in_ok-homes.ensures.len ∙ ap (λ (l : List Disk). length (all_items l)) (sym is);
      homes = subst (λ (l : List Disk). (i : ℕ) (h : Home) → slice_get homes i ≡ Some h → IsHome l i h) (sym is) c.in_ok-homes.ensures.homes;
    }

pub returns-clause-short : goal.returns-clause-short
returns-clause-short c =
    let cut = c.args.cut.now in let m = c.num_minors-minors.result in let row = c.len_before-minor_len.result in
    let minors = c.num_minors-minors.ensures.counted ∙ ap num_minors c.disks-disks.ensures in
    let rows = c.len_before-minor_len.ensures.counted ∙ ap (minor_len m) (take-length c.disks-disks.result.now ∙ c.disks-disks.ensures) in
    let slots = slots_are cut m row (m * row) minors rows refl in
    let is = c.in_ok-disks.ensures ∙ c.disks-disks.ensures in
    let same = ap (λ (l : List Disk). length (program l)) is in let short = c.if-slots-gt-MOST_SLOTS.false in omega arith
