use Rattle.std.proofs.Common.{◌∙◌, [], ap, refl}
use Rattle.std.proofs.lemmas.List.{append-nil}
use Rattle.air_index.specs.Searches.{seeker_tells}
use Rattle.air_model.specs.Tapes.{tape_read}
use Rattle.air_cli.proofs.tapes.searches.file_sought.Goals as goal

pub hear_pieces-requires-after_bounds : goal.hear_pieces-requires-after_bounds
hear_pieces-requires-after_bounds g c κs within = (c.new-seeker.result, λ rest. refl)

pub returns-clause-sought : goal.returns-clause-sought
returns-clause-sought g c =
    let seeker = c.new-seeker.result in
    let all = c.in_ok-hear_pieces.ensures.heard seeker (λ rest. refl) in
    let records = (tape_read all.bytes).records in
    (all.bytes, all.told, (all.fits, all.whole, c.end.ensures ∙ all.so [] ∙ ap (seeker_tells seeker) (append-nil records) ∙ c.new-seeker.ensures records))
