use Rattle.std.proofs.Common.{◌≤◌, List, length, sym, ap, subst}
use Rattle.std.specs.Prelude.{sum_by}
use Rattle.air_model.specs.Reads.{Read, read_with}
use Rattle.air_model.specs.Copies.{pix_of, with_copy}
use Rattle.air_model.proofs.CopySums.{keep_most}
use Rattle.pix_cache.specs.Caches.{Cache}
use Rattle.pix_cache.proofs.AnswerLemmas.{exactly_declined, exactly_evicted, exactly_placed, exactly_replaced}
use Rattle.pix_cache.proofs.cache.PixCache.keep.Goals as goal

pub returns-clause-most : goal.returns-clause-most
returns-clause-most c = λ chosen rest parts few.
    let old = c.args.self.now in
    let x = read_with c.args.item c.args.cycle c.args.value c.args.column.now in
    let new = ap (λ (s : Cache). s.copies) c.offer.ensures.kept in
    subst (λ (R : List Read). sum_by (pix_of old.pix) chosen ≤ sum_by (pix_of old.pix) R) (sym new)
    (keep_most old.room old.pix (with_copy x old.copies) chosen rest parts (subst (λ (R : List Read). length chosen ≤ length R) new few))

pub returns-clause-replaced : goal.returns-clause-replaced
returns-clause-replaced c = exactly_replaced c.args.self.now.room c.args.self.now.pix c.args.self.now.copies (read_with c.args.item c.args.cycle c.args.value c.args.column.now) c.offer.result c.offer.ensures.answer

pub returns-clause-placed : goal.returns-clause-placed
returns-clause-placed c = exactly_placed c.args.self.now.room c.args.self.now.pix c.args.self.now.copies (read_with c.args.item c.args.cycle c.args.value c.args.column.now) c.offer.result c.offer.ensures.answer

pub returns-clause-declined : goal.returns-clause-declined
returns-clause-declined c = exactly_declined c.args.self.now.room c.args.self.now.pix c.args.self.now.copies (read_with c.args.item c.args.cycle c.args.value c.args.column.now) c.offer.result c.offer.ensures.answer

pub returns-clause-evicted : goal.returns-clause-evicted
returns-clause-evicted c = exactly_evicted c.args.self.now.room c.args.self.now.pix c.args.self.now.copies (read_with c.args.item c.args.cycle c.args.value c.args.column.now) c.offer.result c.offer.ensures.answer
