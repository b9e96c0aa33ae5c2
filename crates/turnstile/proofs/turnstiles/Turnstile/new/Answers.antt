use Rattle.turnstile.proofs.StartLemmas.{starts}
use Rattle.turnstile.proofs.turnstiles.Turnstile.new.Goals as goal

pub new-requires : goal.new-requires
new-requires g c =
    let r = c.ranges.passes.fits in
    rw (c.in_ok-slots.ensures, c.of.ensures, c.from.ensures) (starts g.K.Chronicle.entries g.K.Chronicle.base c.args.value c.args.passes c.requires.some r c.requires.entries)
