use Rattle.std.proofs.Common.{◌≡◌, ℕ, ap, rules}
use Rattle.air_report.specs.declared.status.Status.TheVariants as status
use Rattle.air_cli.specs.Hearings.{EarFailsFirst}
use Rattle.air_cli.specs.ReportsAndTapes.{ReportAndTape}
use Rattle.air_cli.specs.Listen.{ListenGives, listen_meaning}
use Rattle.air_cli.specs.Private.BeforeDelivery.{IsUnmade}
use Rattle.air_cli.proofs.CastLemmas.{no_air}
use Rattle.air_cli.proofs.ListenLemmas.{refused_listen}
use Rattle.air_cli.proofs.MakeLemmas.{one_end}
use Rattle.air_cli.proofs.commands.listen.listen.Goals as goal

pub returns-clause-made : goal.returns-clause-made
unfolding ListenGives
returns-clause-made g c =
    let reads = c.in_ok-planned.ensures.reads in
    let given = c.in_ok-given.ensures in
    record {
      gives = (ap (λ (g : ReportAndTape). g.differs) given.gives.1.given_is, (c.in_ok-planned.planned, c.in_ok-planned.ensures.deck, c.in_ok-planned.ensures.made, (c.in_ok-planned.ensures.runnable, given.gives)));
      read = λ name same. one_end (g.S.Shelf.state c.read_runnable_deck.new.shelf) c.args.name.now name reads.end same;
      calm = reads.calm;
    }

pub returns-in_err-given-clause-unmade : goal.returns-in_err-given-clause-unmade
returns-in_err-given-clause-unmade g c =
    let S = g.S.Shelf in
    let name = c.args.name.now in
    let port = c.args.port in
    let old = g.E.Ear.state c.args.ear.now in
    let new = g.E.Ear.state c.hear_on_air.new.ear in
    let before = S.state c.args.shelf.now in
    let now = S.state c.read_runnable_deck.new.shelf in
    let planned = c.in_ok-planned.ensures in
    let h : IsUnmade (listen_meaning name port old new) before now c.in_err-given.field-0.0 = record {
      cause = refused_listen name port old new before now c.in_ok-planned.planned c.in_err-given.field-0.0 planned.deck planned.made planned.runnable c.in_err-given.ensures.refused;
      kept = λ read. planned.reads.calm;
    } in
    search (rules, h)

pub returns-in_err-planned-clause-first : goal.returns-in_err-planned-clause-first
returns-in_err-planned-clause-first g c =
    let m = c.args.ear.now in
    let e = c.in_err-planned.field-0.0 in
    let h : (at : ℕ) → e ≡ status.AirFault at → EarFailsFirst g.E.Ear.state m m = no_air c.args.name.now _ _ e c.in_err-planned.ensures.refused in
    search (rules, h)

pub returns-in_err-given-clause-first : goal.returns-in_err-given-clause-first
returns-in_err-given-clause-first g c =
    let e = c.in_err-given.field-0.0 in
    let h : (at : ℕ) → e ≡ status.AirFault at → EarFailsFirst g.E.Ear.state c.args.ear.now c.hear_on_air.new.ear = c.in_err-given.ensures.first in
    search (rules, h)
