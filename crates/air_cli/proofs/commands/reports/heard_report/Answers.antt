use Rattle.std.proofs.Common.{length, ap, arith}
use Rattle.air_history.proofs.ScanLemmas.{starts_within}
use Rattle.air_cli.proofs.commands.reports.heard_report.Goals as goal

pub report_of-requires : goal.report_of-requires
report_of-requires c = omega (arith, starts_within c.new.result.items, ap length c.new.ensures.items)
