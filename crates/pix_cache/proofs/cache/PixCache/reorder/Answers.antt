use Rattle.std.proofs.Common.{◌≡◌, ◌∙◌, ℕ, List, length, map, sym, ap, subst, arith}
use Rattle.std.proofs.lemmas.List.{length-map}
use Rattle.pix_cache.specs.Leaves.{renumbered_leaf}
use Rattle.pix_cache.specs.Caches.{Cache}
use Rattle.pix_cache.specs.CacheFields.{Agree}
use Rattle.pix_cache.proofs.AgreeLemmas.{agree_reordered}
use Rattle.pix_cache.proofs.cache.PixCache.reorder.Goals as goal

pub invariant_of-self : goal.invariant_of-self
invariant_of-self c =
    let old = c.self.inside.pix.items in
    let new = c.copy_from_slice.new.self.items in
    let tree = c.self.inside.tree in
    let items = c.copy_from_slice.ensures.items in
    let wide : length new ≡ length old = ap length items ∙ c.requires ∙ sym (ap (λ (s : Cache). length s.pix) c.self.view_is) in
    let put : c.reorder.new.self ≡ map (renumbered_leaf new) tree = c.reorder.ensures ∙ ap (λ (p : List ℕ). map (renumbered_leaf p) tree) (sym items) in
    record {
      few = c.self.invariant.few;
      many = omega (arith, c.self.invariant.many);
      items = c.self.invariant.items ∙ sym wide;
      width = c.self.invariant.width ∙ sym wide;
      copy_slots = ap length put ∙ length-map tree (renumbered_leaf new) ∙ c.self.invariant.copy_slots;
      agree = subst (Agree new c.self.inside.places.items) (sym put) (agree_reordered old new c.self.inside.places.items tree c.self.invariant.agree);
    }
