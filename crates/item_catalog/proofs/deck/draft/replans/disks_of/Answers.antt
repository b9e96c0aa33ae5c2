use Rattle.std.proofs.Common.{◌<◌, ◌++◌, ◌∷◌, ◌∙◌, [], None, List, ap, arith, get_or, length, sym}
use Rattle.item_catalog.specs.declared.parts.DiskPart.{DiskPart}
use Rattle.item_catalog.proofs.ReplanLemmas.{said_more}
use Rattle.item_catalog.proofs.deck.draft.replans.disks_of.Goals as goal

pub loop-k-preserved : goal.loop-k-preserved
loop-k-preserved c =
    let k = c.loop-k.k in let sizes = c.args.sizes.now in let freqs = c.args.freqs.now in
    let below : k < length sizes = omega arith in
    let within : k < length freqs = omega (arith, c.requires) in
    c.in_ok-push.ensures.items
    ∙ ap (λ (l : List DiskPart). l ++ record { size = get_or sizes k 0; freq = get_or freqs k None } ∷ []) c.loop-k.invariant
    ∙ sym (said_more k sizes freqs 0 None below within)
