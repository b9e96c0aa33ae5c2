use Rattle.std.proofs.Common.{ltb, count_by, length, sym, ap, subst, ◌∙◌}
use Rattle.std.specs.List.Sorted.{IsNonDecreasingBy}
use Rattle.air_model.specs.Decks.{values_in}
use Rattle.live_replay.specs.declared.writes.ItemWrite.{ItemWrite}
use Rattle.live_replay.proofs.WriteLemmas.{count_before, writes_rise}
use Rattle.live_replay.proofs.replay.Replay.writes_before.Goals as goal

pub before-requires : goal.before-requires
before-requires c =
    subst (IsNonDecreasingBy (λ (w : ItemWrite). w.cycle)) (sym c.writes.ensures) (writes_rise (values_in c.args.self.now.deck) c.args.self.now.history c.args.item (length c.args.self.now.history))

pub returns : goal.returns
returns c =
    c.before-2.ensures ∙ ap (count_by (λ (w : ItemWrite). ltb w.cycle c.args.cycle)) c.writes.ensures
    ∙ count_before (values_in c.args.self.now.deck) c.args.self.now.history c.args.item c.args.cycle
