use Rattle.air_cli.proofs.truths.shows_run_truth.Goals as goal

pub returns : goal.returns
returns c = λ run is.
    let d = c.args.planned.now in
    let made = c.shows_planned.ensures.made in
    let limits = c.shows_planned.ensures.limits in
    (c.true_run_law.ensures d run made limits c.shows_planned.ensures.short is, λ report legal same. c.one_history_law.ensures d report _ limits legal is.whole.legal same)
