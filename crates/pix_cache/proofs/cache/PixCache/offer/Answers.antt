use Rattle.std.proofs.Common.{◌≡◌, ◌∙◌, ℕ, List, if◌then◌else◌, length, get_or, Option, Some, None, refl, sym, ap, arith, length-set}
use Rattle.std.proofs.Math.ListN.{set}
use Rattle.std.specs.Option.{is_some}
use Rattle.std.proofs.lemmas.List.{get_or_default, with_items_is}
use Rattle.pix_cache.specs.Stores.{Store, StoredCopy, stored_copy}
use Rattle.pix_cache.specs.Leaves.{copy_leaf}
use Rattle.pix_cache.proofs.CacheLemmas.{read_place}
use Rattle.pix_cache.proofs.FieldLemmas.{decline_answer, decline_form, has_copy, in_copy_slots, replace_form, take_agree, take_answer, take_form, within}
use Rattle.pix_cache.proofs.OtherLemmas.{stays_behind, stays_beside}
use Rattle.pix_cache.proofs.cache.PixCache.offer.Goals as goal

pub put-requires-clause-within : goal.put-requires-clause-within
put-requires-clause-within c =
    let here = within c.self.inside c.self.invariant c.args.self.now c.self.view_is c.args.item c.requires.item in
    let some = read_place c.self.inside.places.items c.args.item c.index.result.now (Some c.in-Some.copy_slot) here c.index.ensures c.in-Some.is in
    in_copy_slots c.self.inside c.self.invariant c.args.self.now c.self.view_is c.args.item c.requires.item c.in-Some.copy_slot some

pub returns-in-Some-clause-kept : goal.returns-in-Some-clause-kept
returns-in-Some-clause-kept c =
    let here = within c.self.inside c.self.invariant c.args.self.now c.self.view_is c.args.item c.requires.item in
    let some = read_place c.self.inside.places.items c.args.item c.index.result.now (Some c.in-Some.copy_slot) here c.index.ensures c.in-Some.is in
    replace_form c.self.inside c.self.invariant c.args.self.now c.self.view_is c.args.item c.requires.item (stored_copy c.args.cycle c.args.value c.args.column.now) c.in-Some.copy_slot some c.put.new.self.stores (ap (λ (s : Store). s.stores) c.put.ensures)

pub returns-in-Some-clause-answer : goal.returns-in-Some-clause-answer
returns-in-Some-clause-answer c =
    let here = within c.self.inside c.self.invariant c.args.self.now c.self.view_is c.args.item c.requires.item in
    let some = read_place c.self.inside.places.items c.args.item c.index.result.now (Some c.in-Some.copy_slot) here c.index.ensures c.in-Some.is in
    ap is_some (has_copy c.self.inside c.self.invariant c.args.self.now c.self.view_is c.args.item c.requires.item c.in-Some.copy_slot some)

pub returns-in_default-room_for-clause-kept : goal.returns-in_default-room_for-clause-kept
returns-in_default-room_for-clause-kept c =
    let here = within c.self.inside c.self.invariant c.args.self.now c.self.view_is c.args.item c.requires.item in
    let none = read_place c.self.inside.places.items c.args.item c.index.result.now None here c.index.ensures c.in_default.is in
    let number : get_or c.self.inside.pix.items c.args.item 0 ≡ c.index-pix.result.now = get_or_default c.self.inside.pix.items c.args.item 0 c.index-pix.result.now (omega (arith, c.self.invariant.items)) ∙ sym c.index-pix.ensures in
    decline_form c.self.inside c.self.invariant c.args.self.now c.self.view_is c.args.item c.requires.item (stored_copy c.args.cycle c.args.value c.args.column.now) none c.index-pix.result.now number c.in_default-room_for.ensures

pub returns-in_default-room_for-clause-answer : goal.returns-in_default-room_for-clause-answer
returns-in_default-room_for-clause-answer c =
    let here = within c.self.inside c.self.invariant c.args.self.now c.self.view_is c.args.item c.requires.item in
    let none = read_place c.self.inside.places.items c.args.item c.index.result.now None here c.index.ensures c.in_default.is in
    let number : get_or c.self.inside.pix.items c.args.item 0 ≡ c.index-pix.result.now = get_or_default c.self.inside.pix.items c.args.item 0 c.index-pix.result.now (omega (arith, c.self.invariant.items)) ∙ sym c.index-pix.ensures in
    decline_answer c.self.inside c.self.invariant c.args.self.now c.self.view_is c.args.item c.requires.item (stored_copy c.args.cycle c.args.value c.args.column.now) none c.index-pix.result.now number c.in_default-room_for.ensures

pub invariant_of-self-2 : goal.invariant_of-self-2
invariant_of-self-2 c =
    let pix = c.self.inside.pix.items in
    let places = c.self.inside.places.items in
    let stores = c.self.inside.store.stores in
    let tree = c.self.inside.tree in
    let r = c.in-Some-room_for.least in
    let room = c.in-Some-room_for.ensures in
    let st : StoredCopy = stored_copy c.args.cycle c.args.value c.args.column.now in
    let here = within c.self.inside c.self.invariant c.args.self.now c.self.view_is c.args.item c.requires.item in
    let none = read_place places c.args.item c.index.result.now None here c.index.ensures c.in_default.is in
    let number : get_or pix c.args.item 0 ≡ c.index-pix.result.now = get_or_default pix c.args.item 0 c.index-pix.result.now (omega (arith, c.self.invariant.items)) ∙ sym c.index-pix.ensures in
    let lent = c.deref_mut.ensures.value in
    let long : length c.leave.new.places ≡ length places = c.leave.auto.places ∙ ap length lent in
    let items = with_items_is c.self.inside.places c.leave.new.places (long ∙ sym c.self.inside.places.ok.0) in
    let left = items ∙ c.leave.ensures ∙ ap (λ (p : List (Option ℕ)). if r.kept then set p r.item None else p) lent in
    let put = ap (λ (s : Store). s.stores) c.put-2.ensures in
    let leaf = copy_leaf r.copy_slot c.index-pix.result.now c.args.item in
    record {
      few = omega (arith, ap length put, length-set stores r.copy_slot st, c.self.invariant.few);
      many = c.self.invariant.many;
      items = length-set _ c.args.item (Some r.copy_slot) ∙ ap length items ∙ long ∙ c.self.invariant.items;
      width = ap (λ (s : Store). s.width) c.put-2.ensures ∙ c.self.invariant.width;
      copy_slots = ap length c.put-3.ensures ∙ length-set tree r.copy_slot leaf ∙ c.self.invariant.copy_slots ∙ sym (ap length put ∙ length-set stores r.copy_slot st);
      agree = take_agree c.self.inside c.self.invariant c.args.self.now c.self.view_is c.args.item c.requires.item st none c.index-pix.result.now number r room.0 room.1 room.2 room.3 _ left c.put-3.new.self c.put-3.ensures;
    }

pub returns-clause-kept : goal.returns-clause-kept
returns-clause-kept c =
    let pix = c.self.inside.pix.items in
    let places = c.self.inside.places.items in
    let r = c.in-Some-room_for.least in
    let room = c.in-Some-room_for.ensures in
    let here = within c.self.inside c.self.invariant c.args.self.now c.self.view_is c.args.item c.requires.item in
    let none = read_place places c.args.item c.index.result.now None here c.index.ensures c.in_default.is in
    let number : get_or pix c.args.item 0 ≡ c.index-pix.result.now = get_or_default pix c.args.item 0 c.index-pix.result.now (omega (arith, c.self.invariant.items)) ∙ sym c.index-pix.ensures in
    let lent = c.deref_mut.ensures.value in
    let items = with_items_is c.self.inside.places c.leave.new.places (c.leave.auto.places ∙ ap length lent ∙ sym c.self.inside.places.ok.0) in
    let left = items ∙ c.leave.ensures ∙ ap (λ (p : List (Option ℕ)). if r.kept then set p r.item None else p) lent in
    take_form c.self.inside c.self.invariant c.args.self.now c.self.view_is c.args.item c.requires.item (stored_copy c.args.cycle c.args.value c.args.column.now) none c.index-pix.result.now number r room.0 room.1 room.2 room.3 _ left
    c.put-2.new.self.stores (ap (λ (s : Store). s.stores) c.put-2.ensures)

pub returns-clause-answer : goal.returns-clause-answer
returns-clause-answer c =
    let pix = c.self.inside.pix.items in
    let places = c.self.inside.places.items in
    let r = c.in-Some-room_for.least in
    let room = c.in-Some-room_for.ensures in
    let here = within c.self.inside c.self.invariant c.args.self.now c.self.view_is c.args.item c.requires.item in
    let none = read_place places c.args.item c.index.result.now None here c.index.ensures c.in_default.is in
    let number : get_or pix c.args.item 0 ≡ c.index-pix.result.now = get_or_default pix c.args.item 0 c.index-pix.result.now (omega (arith, c.self.invariant.items)) ∙ sym c.index-pix.ensures in
    take_answer c.self.inside c.self.invariant c.args.self.now c.self.view_is c.args.item c.requires.item (stored_copy c.args.cycle c.args.value c.args.column.now) none c.index-pix.result.now number r room.0 room.1 room.2 room.3
    (if r.kept then set places r.item None else places) refl c.answer.result c.answer.ensures

pub returns-in-Some-clause-others : goal.returns-in-Some-clause-others
returns-in-Some-clause-others c = λ other asked ne answer.
    let here = within c.self.inside c.self.invariant c.args.self.now c.self.view_is c.args.item c.requires.item in
    let some = read_place c.self.inside.places.items c.args.item c.index.result.now (Some c.in-Some.copy_slot) here c.index.ensures c.in-Some.is in
    stays_beside c.self.inside c.self.invariant c.args.self.now c.self.view_is other asked c.args.item c.requires.item c.in-Some.copy_slot some (stored_copy c.args.cycle c.args.value c.args.column.now)
    c.put.new.self.stores (ap (λ (s : Store). s.stores) c.put.ensures) ne

pub returns-clause-others : goal.returns-clause-others
returns-clause-others c = λ other asked ne answer.
    let r = c.in-Some-room_for.least in
    let room = c.in-Some-room_for.ensures in
    let lent = c.deref_mut.ensures.value in
    let items = with_items_is c.self.inside.places c.leave.new.places (c.leave.auto.places ∙ ap length lent ∙ sym c.self.inside.places.ok.0) in
    let left = items ∙ c.leave.ensures ∙ ap (λ (p : List (Option ℕ)). if r.kept then set p r.item None else p) lent in
    stays_behind c.self.inside c.self.invariant c.args.self.now c.self.view_is other asked r room.1 c.answer.result c.answer.ensures answer c.args.item ne _ left (stored_copy c.args.cycle c.args.value c.args.column.now)
    c.put-2.new.self.stores (ap (λ (s : Store). s.stores) c.put-2.ensures)
