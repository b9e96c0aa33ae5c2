use Rattle.std.proofs.Common.{All, arith, ap, sym, subst, length, ◌∙◌}
use Rattle.std.proofs.lemmas.List.{length-map}
use Rattle.air_history.proofs.ScanLemmas.{starts_within}
use Rattle.air_report.specs.ReportLines.{ReportLines, event_in}
use Rattle.air_report.specs.Private.ReportsOfLines.{NamesUpdate}
use Rattle.air_report.proofs.MadeReports.{sizes, spelled_named}
use Rattle.air_report.proofs.reading.report_of.Goals as goal

pub overflow_cast-verdict_row : goal.overflow_cast-verdict_row
overflow_cast-verdict_row c = omega (arith, sizes c.args.deck.now c.args.bytes.now c.args.lines _ c.requires.spelled c.requires.limit c.lines.view_is, c.len.ensures)

pub overflow_add-verdict_row : goal.overflow_add-verdict_row
overflow_add-verdict_row c = omega (arith, sizes c.args.deck.now c.args.bytes.now c.args.lines _ c.requires.spelled c.requires.limit c.lines.view_is, c.len.ensures)

pub overflow_cast-glance_row : goal.overflow_cast-glance_row
overflow_cast-glance_row c = omega (arith, sizes c.args.deck.now c.args.bytes.now c.args.lines _ c.requires.spelled c.requires.limit c.lines.view_is, c.len-2.ensures)

pub overflow_add-glance_row : goal.overflow_add-glance_row
overflow_add-glance_row c = omega (arith, sizes c.args.deck.now c.args.bytes.now c.args.lines _ c.requires.spelled c.requires.limit c.lines.view_is, c.len.ensures, c.len-2.ensures)

pub overflow_cast-glance_row-2 : goal.overflow_cast-glance_row-2
overflow_cast-glance_row-2 c = omega (arith, sizes c.args.deck.now c.args.bytes.now c.args.lines _ c.requires.spelled c.requires.limit c.lines.view_is, c.len-3.ensures)

pub overflow_add-glance_row-2 : goal.overflow_add-glance_row-2
overflow_add-glance_row-2 c = omega (arith, sizes c.args.deck.now c.args.bytes.now c.args.lines _ c.requires.spelled c.requires.limit c.lines.view_is, c.len.ensures, c.len-2.ensures, c.len-3.ensures)

pub overflow_cast-look_row : goal.overflow_cast-look_row
overflow_cast-look_row c = omega (arith, sizes c.args.deck.now c.args.bytes.now c.args.lines _ c.requires.spelled c.requires.limit c.lines.view_is, c.len-4.ensures)

pub overflow_add-look_row : goal.overflow_add-look_row
overflow_add-look_row c = omega (arith, sizes c.args.deck.now c.args.bytes.now c.args.lines _ c.requires.spelled c.requires.limit c.lines.view_is, c.len.ensures, c.len-2.ensures, c.len-3.ensures, c.len-4.ensures)

pub rows_from-requires : goal.rows_from-requires
rows_from-requires c = omega (arith, sizes c.args.deck.now c.args.bytes.now c.args.lines _ c.requires.spelled c.requires.limit c.lines.view_is, c.len.ensures, c.len-5.ensures)

pub rows_from-requires-2 : goal.rows_from-requires-2
rows_from-requires-2 c = omega (arith, sizes c.args.deck.now c.args.bytes.now c.args.lines _ c.requires.spelled c.requires.limit c.lines.view_is, c.len.ensures, c.len-2.ensures, c.len-3.ensures, c.len-6.ensures)

pub rows_from-requires-3 : goal.rows_from-requires-3
rows_from-requires-3 c = omega (arith, sizes c.args.deck.now c.args.bytes.now c.args.lines _ c.requires.spelled c.requires.limit c.lines.view_is, c.len.ensures, c.len-2.ensures, c.len-3.ensures, c.len-4.ensures, c.len-7.ensures)

pub events_in-requires : goal.events_in-requires
events_in-requires c =
    let named = spelled_named c.args.deck.now c.args.bytes.now c.args.lines c.requires.spelled in
    subst (All (NamesUpdate c.args.deck.now)) (ap (λ (r : ReportLines). r.events) (sym c.lines.view_is) ∙ sym c.deref.ensures.value) named

pub from_events-history-requires : goal.from_events-history-requires
from_events-history-requires c =
    let events = c.in_ok-events_in.field-0.items in
    omega (
      arith,
      sizes c.args.deck.now c.args.bytes.now c.args.lines _ c.requires.spelled c.requires.limit c.lines.view_is,
      starts_within events,
      ap length c.in_ok-events_in.ensures,
      length-map c.deref.result.now (event_in c.args.deck.now),
      ap length c.deref.ensures.value,
    )
