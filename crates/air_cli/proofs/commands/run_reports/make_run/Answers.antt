use Rattle.std.proofs.Common.{rules}
use Rattle.air_cli.proofs.commands.run_reports.make_run.Goals as goal

pub returns : goal.returns
returns g c =
    let run = c.in_ok-run.field-0.run in (
      run,
      record {
        run_is = c.in_ok-run.ensures.run;
        true_is = (c.shows_run_truth.ensures run c.in_ok-run.ensures.run).0;
        given_is = search rules;
      },
    )
