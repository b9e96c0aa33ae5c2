use Rattle.short_columns.specs.Listings.{all_capped, listed}
use Rattle.short_columns.proofs.WriteLemmas.{short_put}
use Rattle.short_columns.proofs.writing.put_short.Goals as goal

pub returns : goal.returns
returns c =
    short_put c.args.out.now c.put_two.new.out c.put_pairs.new.out c.args.cycle c.args.at c.args.count (listed (all_capped c.args.cycle c.args.entries.now)) c.requires.counted c.requires.room
    c.put_two.ensures c.put_pairs.ensures
