use Rattle.std.proofs.Common.{◌+◌, ◌*◌, ap, ◌∙◌}
use Rattle.air_model.specs.Programs.{program}
use Rattle.air_model.specs.Airings.{slot_item}
use Rattle.air_cli.proofs.PlanLemmas.{minor_slot}
use Rattle.air_cli.proofs.commands.plan.rows.slot_at.Goals as goal

pub returns : goal.returns
returns c =
    let disks = c.args.program.now.disks in
    c.slot_item.ensures.carried ∙ ap (λ len. slot_item (program disks) (c.args.k * len + c.args.j)) c.minor_len.ensures ∙ minor_slot disks c.args.k c.args.j c.requires.minor c.requires.slot
