use Rattle.std.proofs.Common.{rules, arith, ap, subst, sym, ◌∙◌, length, All}
use Rattle.std.proofs.lemmas.List.Elements.{All-nil}
use Rattle.air_model.specs.Aired.{Air}
use Rattle.air_model.specs.Decks.{Deck}
use Rattle.pix_cache.specs.Caches.{Cache}
use Rattle.receiver_core.specs.ReaderFields.{AreWithin}
use Rattle.receiver_core.specs.ReceiverFields.{IsWholeRead}
use Rattle.receiver_core.proofs.receivers.Receiver.new.Goals as goal

pub new-requires-4-clause-items : goal.new-requires-4-clause-items
new-requires-4-clause-items c =
    let same = ap length c.pix.ensures in
    let long = c.in_ok-air.ensures.numbers 0 in
    let few = c.in_ok-air.ensures.few in
    omega arith

pub invariant_of-result : goal.invariant_of-result
invariant_of-result c =
    let n = c.in_ok-air.air.items in
    let reader = c.in_ok-reader.ensures in
    record {
      deck = record {
        short = reader.short;
        distinct = reader.distinct;
        within = subst (λ m. AreWithin m c.in_ok-reader.reader) (sym (ap (λ (a : Air). a.items) c.in_ok-air.ensures.told ∙ ap (λ (d : Deck). length d.items) c.of.ensures)) reader.within;
        numbers = c.in_ok-air.ensures.numbers;
        tries = reader.tries;
      };
      cache = record {
        room = ap (λ (t : Cache). t.room) c.in_ok-copies.ensures ∙ c.room.ensures;
        pix = ap (λ (t : Cache). t.pix) c.in_ok-copies.ensures ∙ c.pix.ensures;
        copies = subst (λ R. All (IsWholeRead n) R) (sym (ap (λ (t : Cache). t.copies) c.in_ok-copies.ensures)) (All-nil (IsWholeRead n));
      };
      held = search rules;
      few = search rules;
      column = search rules;
    }
