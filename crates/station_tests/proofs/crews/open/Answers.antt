use Rattle.std.proofs.Common.{◌≡◌, [], ◌∷◌, ◌++◌, length, All, subst}
use Rattle.station.specs.PassStates.{PassState}
use Rattle.station.proofs.Joins.{all_but_last}
use Rattle.station_tests.proofs.Own.{own_all}
use Rattle.station_tests.proofs.crews.open.Goals as goal

pub hire-requires : goal.hire-requires
hire-requires c =
    let own = λ (p : PassState). (p.station ≡ c.in_ok-station.station) × (length p.values ≡ length c.in_ok-deck.deck.items) in
    let all : All own c.in_ok-station.passes.items = own_all c.in_ok-station.station c.in_ok-deck.deck c.in_ok-station.passes.items c.in_ok-station.ensures.each in
    let items : c.in_ok-station.passes.items ≡ c.pop.new.self.items ++ c.in-Some.second ∷ [] = c.in-Some.ensures.items in
    let left : c.pop.new.self.items ≡ c.pop-2.new.self.items ++ c.in-Some-pop.first ∷ [] = c.in-Some-pop.ensures.items in
    let firsts = (all_but_last own c.pop.new.self.items c.in-Some.second (subst (All own) items all)).0 in
    record { own = (all_but_last own c.pop-2.new.self.items c.in-Some-pop.first (subst (All own) left firsts)).1 }

pub hire-requires-2 : goal.hire-requires-2
hire-requires-2 c =
    let own = λ (p : PassState). (p.station ≡ c.in_ok-station.station) × (length p.values ≡ length c.in_ok-deck.deck.items) in
    let all : All own c.in_ok-station.passes.items = own_all c.in_ok-station.station c.in_ok-deck.deck c.in_ok-station.passes.items c.in_ok-station.ensures.each in
    let items : c.in_ok-station.passes.items ≡ c.pop.new.self.items ++ c.in-Some.second ∷ [] = c.in-Some.ensures.items in
    record { own = (all_but_last own c.pop.new.self.items c.in-Some.second (subst (All own) items all)).1 }
