use Rattle.std.proofs.Common.{◌≡◌, ◌∙◌, get_or, Some, None, MatchOption, sym, ap, subst}
use Rattle.std.proofs.lemmas.List.{get_or_default}
use Rattle.pix_cache.specs.Stores.{StoredCopy}
use Rattle.air_model.specs.Reads.{read_with}
use Rattle.pix_cache.specs.Caches.{copy_among}
use Rattle.pix_cache.proofs.FieldLemmas.{has_copy, has_none, in_copy_slots, within}
use Rattle.pix_cache.proofs.cache.PixCache.get.Goals as goal

pub returns-in_err-copy_slot : goal.returns-in_err-copy_slot
returns-in_err-copy_slot c =
    let places = c.self.inside.places.items in
    let here = within c.self.inside c.self.invariant c.args.self.now c.self.view_is c.args.item c.requires in
    let none : get_or places c.args.item None ≡ None = get_or_default places c.args.item None c.index.result.now here ∙ sym c.index.ensures ∙ c.in_err-copy_slot.was in
    subst (λ r. MatchOption r (copy_among c.args.item c.args.self.now.copies ≡ None) (λ k. copy_among c.args.item c.args.self.now.copies ≡ Some (read_with c.args.item k.cycle k.value k.column.now))) (sym c.from_residual.ensures)
    (has_none c.self.inside c.self.invariant c.args.self.now c.self.view_is c.args.item c.requires none)

pub get-requires : goal.get-requires
get-requires c =
    let places = c.self.inside.places.items in
    let here = within c.self.inside c.self.invariant c.args.self.now c.self.view_is c.args.item c.requires in
    let some : get_or places c.args.item None ≡ Some c.in_ok-copy_slot.copy_slot = get_or_default places c.args.item None c.index.result.now here ∙ sym c.index.ensures ∙ c.in_ok-copy_slot.was in
    in_copy_slots c.self.inside c.self.invariant c.args.self.now c.self.view_is c.args.item c.requires c.in_ok-copy_slot.copy_slot some

pub returns : goal.returns
returns c =
    let places = c.self.inside.places.items in
    let here = within c.self.inside c.self.invariant c.args.self.now c.self.view_is c.args.item c.requires in
    let some : get_or places c.args.item None ≡ Some c.in_ok-copy_slot.copy_slot = get_or_default places c.args.item None c.index.result.now here ∙ sym c.index.ensures ∙ c.in_ok-copy_slot.was in
    has_copy c.self.inside c.self.invariant c.args.self.now c.self.view_is c.args.item c.requires c.in_ok-copy_slot.copy_slot some
    ∙ ap (λ (s : StoredCopy). Some (read_with c.args.item s.cycle s.value s.entries)) c.get.ensures
