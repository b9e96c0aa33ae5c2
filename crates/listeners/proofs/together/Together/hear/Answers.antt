use Rattle.std.proofs.Common.{◌≡◌, ◌∙◌, All, length, map, ap, subst, sym, arith}
use Rattle.std.proofs.lemmas.List.{with_items_is}
use Rattle.air_model.specs.Buckets.{bucket_in}
use Rattle.air_model.specs.Tapes.{tape_read}
use Rattle.listeners.specs.Listeners.{hears}
use Rattle.listeners.specs.Private.TogetherSteps.{listeners_in}
use Rattle.listeners.proofs.ReaderLemmas.{HasRoom}
use Rattle.listeners.proofs.together.Together.hear.Goals as goal

pub hear_pieces-requires-clause-counts : goal.hear_pieces-requires-clause-counts
hear_pieces-requires-clause-counts g c κs within =
    subst (All (HasRoom (length (tape_read c.args.tape.now).records))) (sym (ap listeners_in c.deref_mut.ensures.value ∙ c.self.view_is)) c.requires.counts

pub returns : goal.returns
returns g c =
    let readers = c.self.inside.readers in
    let now = c.hear_pieces.new.readers in
    let members = map bucket_in (tape_read c.args.tape.now).records in
    let long : length now ≡ readers.len = omega (arith, c.hear_pieces.auto.readers, c.deref_mut.ensures.len) in
    ap listeners_in (with_items_is readers now long) ∙ c.in_ok-hear_pieces.ensures.heard ∙ ap (map (hears members)) (ap listeners_in c.deref_mut.ensures.value ∙ c.self.view_is)
