use Rattle.std.proofs.Common.{rules, ◌≡◌, ◌++◌, ◌∷◌, [], ◌+◌, true, ◌∙◌, sym, ap, refl, append_assoc, map, slice_get}
use Rattle.std.specs.Result.{is_ok}
use Rattle.std.specs.List.{range_with_len}
use Rattle.std.proofs.lemmas.List.FromFn.{map-range_with_len_more}
use Rattle.chunk_program.proofs.Copies.{copied_is}
use Rattle.chunk_program.proofs.layout.push_chunk.Goals as goal

pub loop-place-preserved : goal.loop-place-preserved
loop-place-preserved c =
    let good : is_ok c.push.result ≡ true = search rules in let items = rw good at c.push.ensures.items in
    let from = c.args.from in let place = c.loop-place.place in let done = map (slice_get c.args.items.now) (range_with_len from place) in
    let copy = c.copied.ensures ∙ copied_is c.get.result c.args.items.now (from + place) c.get.ensures.lookup.3 in
    items ∙ ap (λ x. c.loop-place.slots.items ++ x ∷ []) copy ∙ ap (λ l. l ++ slice_get c.args.items.now (from + place) ∷ []) c.loop-place.invariant
    ∙ append_assoc c.args.slots.now.items done (slice_get c.args.items.now (from + place) ∷ [])
    ∙ ap (λ l. c.args.slots.now.items ++ l) (sym (map-range_with_len_more (slice_get c.args.items.now) from place (from + place) refl))
