use Rattle.std.proofs.Common.{◌∷◌, [], ◌++◌, ◌∙◌, ap, sym}
use Rattle.std.proofs.lemmas.List.{map-append}
use Rattle.listeners.specs.declared.place_listeners.PlaceListener.{PlaceListener}
use Rattle.listeners.specs.Listeners.{Listener}
use Rattle.listeners.proofs.place_hearers.listeners_of_places.Goals as goal

pub loop-reader-preserved : goal.loop-reader-preserved
loop-reader-preserved c =
    let reader = c.in-Some.reader in
    let listener : PlaceListener → Listener = λ reader. reader.listener in
    c.in_ok-push.ensures.items ∙ ap (λ l. l ++ listener reader ∷ []) c.loop-reader.invariant ∙ sym (map-append listener c.loop-reader.yielded (reader ∷ []))
