use Rattle.std.proofs.Common.{◌∙◌}
use Rattle.air_report.specs.RowWriters.{written_text}
use Rattle.air_cli.proofs.SplitLemmas.{split_is}
use Rattle.air_cli.proofs.commands.split.split_text.Goals as goal

pub returns : goal.returns
returns c =
    let split = c.args.split.now in
    c.in_ok-text.ensures
    ∙ split_is c.args.deck.now split.sizes c.as_slice-best.result.now c.deref.result.now split.cost split.given (written_text c.row_writer-wtr.result) (written_text c.put_split.new.wtr) (written_text c.put_split-2.new.wtr)
    (c.row_writer-wtr.ensures.text ∙ c.new.ensures.items) c.as_slice-best.ensures (c.deref.ensures.value ∙ c.in_ok-own.ensures) c.requires.cost c.requires.given
    c.in_ok-put_split.ensures.text c.in_ok-put_split-2.ensures.text
