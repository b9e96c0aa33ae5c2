use Rattle.csv.specs.Records.{fields_of}
use Rattle.item_catalog.proofs.RecordsLemmas.{next_seen, none_seen}
use Rattle.item_catalog.proofs.records.Records.next.Goals as goal
use Rattle.std.proofs.Common.{refl}

pub returns-clause-taken : goal.returns-clause-taken
returns-clause-taken c =
    let plain = c.self.invariant c.if-self.false in
    next_seen c.self.inside.reader c.read_byte_record.new.self (fields_of c.read_byte_record.new.row) plain c.self.inside.has_ended c.in-Ok.found c.args.self.now _
    c.if-self.false (c.in-Ok.ensures.reads plain.trim plain.ready) c.self.view_is refl

pub returns-clause-ended : goal.returns-clause-ended
returns-clause-ended c = none_seen c.in-Ok.found _
