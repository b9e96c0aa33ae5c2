use Rattle.std.proofs.Common.{sym, ◌∙◌, ap, length}
use Rattle.cycle_snapshot.proofs.AddLemmas.{adds_moves}
use Rattle.cycle_snapshot.proofs.told.Told.add.Goals as goal

pub compare_exchange-found-requires : goal.compare_exchange-found-requires
compare_exchange-found-requires c =
    let h = c.requires.head in let offer = c.plain-offer.ensures in let pen = c.no_pen-pen.ensures in let a = c.again-seen.ensures in
    let book = ap (λ s. s.book) a ∙ ap (λ f. f.publisher) c.self.view_is in (
      ap (λ w. w.tracked) h,
      book ∙ sym (ap (λ w. w.book) h),
      pen.0 ∙ (book ∙ sym (ap (λ w. w.book) h)),
      offer.0,
      rw (ap (λ w. w.key) h, pen.1, offer.1, offer.3) (adds_moves c.again-seen.result.log c.args.batch.now c.self.inside.count (ap (λ s. length s.log) a ∙ sym c.self.invariant)),
    )
