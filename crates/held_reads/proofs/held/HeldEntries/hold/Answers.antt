use Rattle.std.proofs.Common.{rules, ◌≡◌, ◌≢◌, ◌<◌, ◌+◌, ◌++◌, ◌∷◌, [], ◌∙◌, ℕ, List, length, map, take, set, All, sym, ap, subst, arith}
use Rattle.std.proofs.lemmas.List.{length-map, length-set, length-take-le}
use Rattle.std.proofs.lemmas.List.Elements.{All-set}
use Rattle.air_history.specs.Clashes.{HeardRead}
use Rattle.held_reads.specs.declared.reads.HeldRead.{HeldRead}
use Rattle.held_reads.specs.HeardReads.{heard_of_held}
use Rattle.air_history.specs.HeldReads.{HeldReads}
use Rattle.held_reads.specs.HeldFields.{held_reads}
use Rattle.held_reads.specs.HeldCycles.{cycles_of, held_cycle}
use Rattle.held_reads.proofs.ArrayLemmas.{cycles_len, cycles_put, items_put, once_more, places_put}
use Rattle.held_reads.proofs.held.HeldEntries.hold.Goals as goal

pub index_mut-requires : goal.index_mut-requires
index_mut-requires c =
    let n : c.self.inside.n ≡ c.args.self.now.n = ap (λ (h : HeldReads). h.n) c.self.view_is in
    let long = ap length c.self.invariant.cycles ∙ cycles_len (held_reads c.self.inside) in
    omega (arith, c.requires.new.within)

pub invariant_of-self : goal.invariant_of-self
invariant_of-self c =
    let inside = c.self.inside in
    let R = (held_reads inside).reads in
    let x : HeardRead = record { item = c.args.item; cycle = c.args.cycle; entries = c.args.entries.now } in
    let p : HeldRead = record { item = c.args.item; cycle = c.args.cycle; entries = c.copy_from_slice.new.self } in
    let n : inside.n ≡ c.args.self.now.n = ap (λ (h : HeldReads). h.n) c.self.view_is in
    let within : c.args.item < inside.n = omega (arith, c.requires.new.within) in
    let free : All (λ r. r.item ≢ c.args.item) R = subst (λ (h : HeldReads). All (λ r. r.item ≢ c.args.item) h.reads) (sym c.self.view_is) c.requires.new.free in
    let count : length R ≡ inside.len = length-map (take inside.len inside.places.items) heard_of_held ∙ length-take-le inside.len inside.places.items (omega (arith, c.self.invariant.room.places, c.self.invariant.room.within)) in
    let free_place : length R < 16 = subst (λ (h : HeldReads). length h.reads < 16) (sym c.self.view_is) c.requires.room in
    let place : inside.len < length inside.places.items = omega (arith, c.self.invariant.room.places) in
    let copied : c.copy_from_slice.new.self.items ≡ c.args.entries.now = search rules in
    let same : heard_of_held p ≡ x = ap (λ (es : List ℕ). let y : HeardRead = record { item = c.args.item; cycle = c.args.cycle; entries = es } in y) copied in
    let more : map heard_of_held (take (inside.len + 1) (set inside.places.items inside.len p)) ≡ R ++ x ∷ [] =
    places_put inside.places.items inside.len p place ∙ ap (λ y. R ++ y ∷ []) same in
    let wide : length c.copy_from_slice.new.self.items ≡ inside.n = ap length copied ∙ c.requires.new.sized ∙ sym n in
    record {
      room = record {
        places = length-set inside.places.items inside.len p ∙ c.self.invariant.room.places;
        within = omega (arith, c.self.invariant.room.places);
        entries = All-set (λ r. length r.entries.items ≡ inside.n) inside.places.items inside.len p wide c.self.invariant.room.entries;
        items = items_put inside.n inside.places.items inside.len p place within c.self.invariant.room.items;
      };
      cycles = cycles_put inside.n R x inside.cycles.items free within c.self.invariant.cycles
          ∙ sym (ap (λ S. cycles_of (record { n = inside.n; reads = S })) more);
      once = subst (λ S. All (λ r. held_cycle S r.item ≡ r.cycle) S) (sym more) (once_more R x free c.self.invariant.once);
    }
