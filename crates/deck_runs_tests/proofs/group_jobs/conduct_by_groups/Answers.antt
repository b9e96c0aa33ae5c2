use Rattle.std.proofs.Common.{◌∙◌, length, sym, ap, arith}
use Rattle.air_base.specs.declared.verdicts.Form.{Form}
use Rattle.air_model.specs.declared.deck.Settings.{Settings}
use Rattle.deck_runs.proofs.RunLemmas.{can_air, values_sized}
use Rattle.chunk_program.proofs.EditionSteps.{have_items}
use Rattle.deck_runs_tests.proofs.EntryBytes.{few_bytes}
use Rattle.deck_runs_tests.proofs.group_jobs.conduct_by_groups.Goals as goal

pub group_conductor_job-requires-clause-room : goal.group_conductor_job-requires-clause-room
group_conductor_job-requires-clause-room g c =
    let room = c.requires.room in
    let most = c.requires.most in
    let few = c.shows_well_made.ensures.limits.settings.cycles in
    (room, omega arith)

pub group_conductor_job-requires-clause-airable : goal.group_conductor_job-requires-clause-airable
group_conductor_job-requires-clause-airable g c =
    let deck = c.args.deck.now in
    let made = c.shows_well_made.ensures.made in
    let values = ap length c.requires.values ∙ values_sized deck in
    let size = ap length c.deref_mut.ensures.value in
    let room = c.requires.buffer in
    let few = few_bytes deck.settings.version (length deck.items) in
    can_air deck _ _ _ _ made (ap (λ (s : Settings). let form : Form = record { policy = s.policy; version = s.version } in form) c.settings-settings.ensures) values
    c.requires.plans (have_items deck made c.shows_well_made.ensures.limits) (omega arith)

pub group_conductor_job-requires-clause-groups : goal.group_conductor_job-requires-clause-groups
group_conductor_job-requires-clause-groups g c =
    let values = ap length c.requires.values ∙ values_sized c.args.deck.now in
    (c.requires.groups.0 ∙ sym values, c.requires.groups.1)

pub group_conductor_job-requires-clause-columns : goal.group_conductor_job-requires-clause-columns
group_conductor_job-requires-clause-columns g c = ap (λ (s : Settings). s.policy) c.settings-settings.ensures ∙ c.requires.columns
