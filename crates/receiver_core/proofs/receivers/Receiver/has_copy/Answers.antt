use Rattle.std.proofs.Common.{◌∙◌, ap, refl, sym}
use Rattle.std.specs.Option.{is_some}
use Rattle.air_model.specs.Sessions.{copy_of, wanted}
use Rattle.pix_cache.specs.Caches
use Rattle.air_model.specs.Reads.{read_with}
use Rattle.pix_cache.specs.declared.store.Kept.{Kept}
use Rattle.receiver_core.specs.Receivers.{Receiver}
use Rattle.receiver_core.proofs.KeepsLemmas.{item_within, some_got}
use Rattle.receiver_core.proofs.TurnLemmas.{kept_at}
use Rattle.receiver_core.proofs.WordLemmas.{no_copy}
use Rattle.receiver_core.proofs.receivers.Receiver.has_copy.Goals as goal

pub returns-in_default : goal.returns-in_default
returns-in_default c =
    let old = c.args.self.now in
    sym (ap (λ o. is_some (copy_of o old.state)) (sym c.wanted.ensures.told ∙ c.in_default.is) ∙ ap is_some (no_copy old.state))

pub get-requires : goal.get-requires
get-requires c = item_within c.self.inside c.in-Some.item c.self.invariant (ap (λ (r : Receiver). wanted r.reader r.state) c.self.view_is ∙ sym c.wanted.ensures.told ∙ c.in-Some.is)

pub returns : goal.returns
returns c =
    let r = c.self.inside in
    let wants = ap (λ (v : Receiver). wanted v.reader v.state) c.self.view_is ∙ sym c.wanted.ensures.told ∙ c.in-Some.is in
    c.is_some.ensures ∙ some_got (λ (k : Kept). read_with c.in-Some.item k.cycle k.value k.column.now) (Caches.copy_among c.in-Some.item r.copies.copies) c.get.result c.get.ensures
    ∙ sym (ap is_some (kept_at r c.in-Some.item (Caches.copy_among c.in-Some.item r.copies.copies) wants refl))
    ∙ ap (λ (v : Receiver). is_some (copy_of (wanted v.reader v.state) v.state)) c.self.view_is
