use Rattle.std.proofs.Common.{◌∙◌, ◌+◌, drop, length, arith, rules, refl, sym}
use Rattle.std.proofs.lemmas.List.{length-drop, take_all}
use Rattle.bucket_codec.proofs.TapeReadLemmas.{cut_is, nothing_read, record_next}
use Rattle.bucket_codec.proofs.tape.TapeReader.next.Goals as goal

pub returns-then-is_empty : goal.returns-then-is_empty
returns-then-is_empty c = (sym c.self.view_is ∙ nothing_read (length c.self.inside.rest.now) c.self.inside.at c.self.inside.rest.now (search rules), refl)

pub returns-in-None : goal.returns-in-None
returns-in-None c = (sym c.self.view_is ∙ cut_is c.self.inside.at c.self.inside.rest.now c.in-None.ensures.first, refl)

pub returns-in-Some : goal.returns-in-Some
returns-in-Some c =
    let rest = c.self.inside.rest.now in
    let k = 4 + length c.in-Some.record.now in
    sym c.self.view_is
    ∙ record_next c.self.inside.at c.in-Some.record.now rest _ c.in-Some.ensures.short c.in-Some.ensures.first (take_all _ (drop k rest) (omega (arith, length-drop k rest)))
