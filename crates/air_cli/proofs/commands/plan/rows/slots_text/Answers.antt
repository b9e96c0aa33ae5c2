use Rattle.std.proofs.Common.{◌≡◌, ◌<◌, ◌++◌, ◌∷◌, [], None, map, length, get_or, ap, ◌∙◌, arith}
use Rattle.std.proofs.lemmas.List.{take_all}
use Rattle.air_base.specs.NumberLists.{list_text}
use Rattle.air_model.specs.Programs.{minor_cycle, num_minors}
use Rattle.air_model.specs.PlanTexts.{slot_text}
use Rattle.air_model.proofs.SlotPlaces.{length_minor}
use Rattle.air_report.proofs.RowLemmas.{parts_first, parts_more}
use Rattle.air_cli.proofs.commands.plan.rows.slots_text.Goals as goal
use Rattle.air_cli.proofs.commands.plan.rows.slots_text.Goals.{then-j-gt0+in_ok-extend_from_slice, else-j-gt0}

pub loop-j-preserved : goal.loop-j-preserved
loop-j-preserved c =
    let disks = c.args.program.now.disks in
    let slots = minor_cycle (num_minors disks) disks c.args.k in
    let j = c.loop-j.j in
    let below : j < length slots = omega (arith, c.minor_len-j-end.ensures, length_minor (num_minors disks) disks c.args.k) in
    let put : c.put_slot.new.text.items ≡ c.if-j-gt0.text.items ++ slot_text (get_or slots j None) =
    c.in_ok-put_slot.ensures ∙ ap (λ slot. c.if-j-gt0.text.items ++ slot_text slot) c.slot_at.ensures in
    elim c.if-j-gt0.branch [
      | then-j-gt0+in_ok-extend_from_slice w ↦
          let space : c.if-j-gt0.text.items ≡ c.loop-j.text.items ++ 32 ∷ [] = ap (λ t. t.items) w.text-is ∙ w.in_ok-extend_from_slice.ensures.items in
          put ∙ ap (λ t. t ++ slot_text (get_or slots j None)) space ∙ parts_more slot_text slots j None c.loop-j.text.items w.if-j-gt0.true below c.loop-j.invariant
      | else-j-gt0 w ↦
          let same : c.if-j-gt0.text.items ≡ c.loop-j.text.items = ap (λ t. t.items) w.text-is in
          put ∙ ap (λ t. t ++ slot_text (get_or slots j None)) same ∙ parts_first slot_text slots j None c.loop-j.text.items w.if-j-gt0.false below c.loop-j.invariant
    ]

pub returns : goal.returns
returns c =
    let disks = c.args.program.now.disks in
    let slots = minor_cycle (num_minors disks) disks c.args.k in
    c.loop-j.invariant ∙ ap (λ s. list_text (map slot_text s)) (take_all c.loop-j.j slots (omega (arith, c.minor_len-j-end.ensures, length_minor (num_minors disks) disks c.args.k)))
