use Rattle.std.proofs.Common.{◌≡◌, sym, ◌∙◌, ap, subst, [], ◌∷◌, ◌++◌, ◌<◌, length, Some}
use Rattle.left_right.specs.Sides.{view}
use Rattle.cycle_snapshot.specs.Batches.{IsBatch}
use Rattle.cycle_snapshot.specs.Beginnings.{Beginning}
use Rattle.cycle_snapshot.specs.BookRule.{batch_counter}
use Rattle.cycle_snapshot.specs.SideRule.{IsNextNews, IsPublished}
use Rattle.cycle_snapshot.specs.Private.BoardRuns.{after_news}
use Rattle.cycle_snapshot.specs.Private.NewsStates.{NewsState}
use Rattle.cycle_snapshot.specs.PublisherFields.{publisher_of}
use Rattle.cycle_snapshot.specs.SnapshotStates.{PublisherState, with_batch}
use Rattle.cycle_snapshot.proofs.SightLemmas.{shown_values}
use Rattle.cycle_snapshot.proofs.publishers.Publisher.publish.Goals as goal

pub invariant_of-news : goal.invariant_of-news
invariant_of-news g c =
    let v = c.self.invariant in
    let n : c.n-items.result ≡ length c.args.self.now.values = c.n-items.ensures.counted ∙ ap (λ x. length x.board.values) c.published.ensures ∙ shown_values c.self.inside.writer.desk.shown.value v.shown ∙ ap (λ p. length p.values) c.self.view_is in
    subst (λ m. IsBatch m c.of-batch.result) (sym n) (subst (IsBatch (length c.args.self.now.values)) (sym c.of-batch.ensures.list) c.requires.batch)

pub replace_with-requires : goal.replace_with-requires
replace_with-requires g c =
    let v = c.self.invariant in let desk = c.append.ensures.desk in let x = c.self.inside.writer.desk.shown.value in
    let n : NewsState = record { batch = c.of-batch.result; items = c.n-items.result; list = c.again.result } in
    let pend = c.in-Ok.ensures.pending ∙ ap (λ l. l ++ n ∷ []) v.none in
    let next : IsNextNews x n = record {
      list = c.again.ensures ∙ c.if-not-add.ensures.added ∙ ap (λ (l : Beginning). let k : Beginning = record l { batches = l.batches ++ c.of-batch.result ∷ [] } in k) (c.again-list.ensures ∙ sym v.list);
      items = c.n-items.ensures.counted ∙ ap (λ y. length y.board.values) c.published.ensures ∙ shown_values x v.shown;
      batch = subst (λ p. IsBatch (length p.values) c.of-batch.result) (sym c.self.view_is) (subst (IsBatch (length c.args.self.now.values)) (sym c.of-batch.ensures.list) c.requires.batch);
      bases = c.of-batch.ensures.bases;
      room = subst (λ p. length p.batches < p.most) (sym c.self.view_is) c.requires.room;
    } in
    (subst (λ d. view d.place ≡ Some d.shown.value) (sym desk) v.sees, ((n, pend, subst (λ d. IsNextNews d.shown.value n) (sym desk) next), subst (λ d. IsPublished d.shown.value) (sym desk) v.shown))

pub invariant_of-self-in-Ok-replace_with : goal.invariant_of-self-in-Ok-replace_with
invariant_of-self-in-Ok-replace_with g c =
    let v = c.self.invariant in let got = c.replace_with.ensures in
    let n : NewsState = record { batch = c.of-batch.result; items = c.n-items.result; list = c.again.result } in
    let pend = c.in-Ok.ensures.pending ∙ ap (λ l. l ++ n ∷ []) v.none in
    let value = got.1.1.1.0 n pend in
    record {
      sees = got.1.0;
      list = ap (λ x. x.list) value ∙ c.again.ensures;
      none = got.1.1.0;
      head = v.head ∙ ap (λ (l : Beginning). batch_counter l.publisher) (sym c.again-list.ensures) ∙ ap (λ (l : Beginning). batch_counter l.publisher) (sym c.if-not-add.ensures.added);
      shown = got.1.1.1.1;
    }

pub returns : goal.returns
returns g c =
    let v = c.self.invariant in let got = c.replace_with.ensures in let desk = c.append.ensures.desk in
    let n : NewsState = record { batch = c.of-batch.result; items = c.n-items.result; list = c.again.result } in
    let pend = c.in-Ok.ensures.pending ∙ ap (λ l. l ++ n ∷ []) v.none in
    let value = got.1.1.1.0 n pend in
    let x = c.self.inside.writer.desk.shown.value in
    let list = c.again.ensures ∙ c.if-not-add.ensures.added ∙ ap (λ (l : Beginning). let k : Beginning = record l { batches = l.batches ++ c.of-batch.result ∷ [] } in k) (c.again-list.ensures ∙ sym v.list) in
    ap publisher_of (value ∙ ap (λ d. after_news d.shown.value n) desk)
    ∙ ap (λ (l : Beginning). let p : PublisherState = record { id = l.publisher; values = x.values; most = x.most; batches = l.batches } in p) list
    ∙ ap (λ b. with_batch (publisher_of x) b) c.of-batch.ensures.list
    ∙ ap (λ (p : PublisherState). with_batch p c.args.batch.items) c.self.view_is
