use Rattle.std.proofs.Common.{rules, ◌≡◌, ◌∙◌, ◌<◌, ℕ, List, length, get_or, Option, None, replicate, sym, ap, arith}
use Rattle.std.proofs.lemmas.List.{get_or-replicate, length-replicate}
use Rattle.air_model.specs.Reads.{Read}
use Rattle.pix_cache.specs.Caches.{Cache}
use Rattle.pix_cache.specs.CacheFields.{copies_in_store, somes}
use Rattle.pix_cache.proofs.AgreeLemmas.{agree_none}
use Rattle.pix_cache.proofs.CacheLemmas.{none_at_all}
use Rattle.pix_cache.proofs.cache.PixCache.new.Goals as goal

pub invariant_of-result : goal.invariant_of-result
invariant_of-result c =
    let pix : c.in_ok-to_vec.field-0.items ≡ c.args.pix.now = c.in_ok-to_vec.ensures.items_if_clones_equal (λ x y e. e) in
    let places : c.in_ok-vec.field-0.items ≡ replicate (length c.args.pix.now) None = c.in_ok-vec.ensures.items_if_clones_equal (search rules) in
    let empty : (i : ℕ) → i < length c.in_ok-vec.field-0.items → get_or c.in_ok-vec.field-0.items i None ≡ None = λ i l.
    ap (λ p. get_or p i None) places ∙ get_or-replicate (length c.args.pix.now) i None None (omega (arith, ap length places, length-replicate {A = Option ℕ} (length c.args.pix.now) None)) in
    record {
      few = omega (arith, c.in_ok-new.ensures.copy_slots, c.requires.room);
      many = omega (arith, ap length pix, c.requires.items);
      items = ap length places ∙ length-replicate {A = Option ℕ} (length c.args.pix.now) None ∙ sym (ap length pix);
      width = c.in_ok-new.ensures.width ∙ sym (ap length pix);
      copy_slots = c.in_ok-new-2.ensures.copy_slots ∙ sym c.in_ok-new.ensures.copy_slots;
      agree = agree_none c.in_ok-to_vec.field-0.items c.in_ok-vec.field-0.items c.in_ok-new-2.field-0 empty c.in_ok-new-2.ensures.none;
    }

pub returns : goal.returns
returns c =
    let pix : c.in_ok-to_vec.field-0.items ≡ c.args.pix.now = c.in_ok-to_vec.ensures.items_if_clones_equal (λ x y e. e) in
    let stores = c.in_ok-new.field-0.stores in
    let places : c.in_ok-vec.field-0.items ≡ replicate (length c.args.pix.now) None = c.in_ok-vec.ensures.items_if_clones_equal (search rules) in
    let empty : (i : ℕ) → i < length c.in_ok-vec.field-0.items → get_or c.in_ok-vec.field-0.items i None ≡ None = λ i l.
    ap (λ p. get_or p i None) places ∙ get_or-replicate (length c.args.pix.now) i None None (omega (arith, ap length places, length-replicate {A = Option ℕ} (length c.args.pix.now) None)) in
    let none = none_at_all stores c.in_ok-vec.field-0.items empty in
    ap {B = Cache} (λ (n : ℕ). record { room = n; pix = c.in_ok-to_vec.field-0.items; copies = somes (copies_in_store stores c.in_ok-vec.field-0.items) }) c.in_ok-new.ensures.copy_slots
    ∙ ap {B = Cache} (λ (p : List ℕ). record { room = c.args.room; pix = p; copies = somes (copies_in_store stores c.in_ok-vec.field-0.items) }) pix
    ∙ ap {B = Cache} (λ (r : List Read). record { room = c.args.room; pix = c.args.pix.now; copies = r }) none
