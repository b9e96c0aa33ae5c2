use Rattle.std.proofs.Common.{◌≡◌, ◌+◌, ◌<◌, [], ◌∷◌, ◌++◌, length, sym, ap, ◌∙◌, subst, arith, length-append}
use Rattle.std.specs.Prelude.{Some, slice_get}
use Rattle.std.proofs.lemmas.Option.{slice_get_within}
use Rattle.air_history.specs.Histories.{starts}
use Rattle.air_model.specs.Decks.{count_made}
use Rattle.update_commit.proofs.EventLemmas.{starts_none}
use Rattle.station.specs.PassStates.{new_pass}
use Rattle.station.specs.PassFields.{Base, IsPass, pass_in}
use Rattle.station.proofs.PassLists.{last_at, within_front}
use Rattle.station.proofs.TurnLemmas.{fresh, as_new}
use Rattle.station.proofs.stations.Station.new.Goals as goal

pub hand_out-requires-clause-each : goal.hand_out-requires-clause-each
hand_out-requires-clause-each c = λ by pass e.
    let core = c.in_ok-core.core in
    let left = c.pop.new.self.items in
    let items : c.in_ok-turnstile.all.items ≡ c.pop.new.self.items ++ c.in-Some.pass ∷ [] = c.in-Some.ensures.items in
    let is = c.in_ok-turnstile.ensures.each by pass (subst (λ l. slice_get l by ≡ Some pass) (sym items) (within_front left c.in-Some.pass by pass e)) in
    let none = ap (λ s. s.events) c.in_ok-core.ensures in
    let many : core.updaters ≡ c.updaters-updaters.result = ap (λ s. s.updaters) c.in_ok-core.ensures in
    let f = fresh c.in_ok-turnstile.turnstile (c.updaters-updaters.result + 1) by core pass none (ap (λ n. n + 1) (sym many)) is in
    let low : by < core.updaters = let a = slice_get_within left by pass e in let b = ap length items ∙ length-append left (c.in-Some.pass ∷ []) in let d = c.in_ok-turnstile.ensures.passes in omega arith in
    (f.0, subst (λ (b : Base). by < b.1) (sym f.1) low, ap (count_made by) (sym f.2))

pub invariant_of-result : goal.invariant_of-result
invariant_of-result c =
    let core = c.in_ok-core.core in
    let left = c.pop.new.self.items in
    let items : c.in_ok-turnstile.all.items ≡ c.pop.new.self.items ++ c.in-Some.pass ∷ [] = c.in-Some.ensures.items in
    let is = c.in_ok-turnstile.ensures.each (length left) c.in-Some.pass (subst (λ l. slice_get l (length left) ≡ Some c.in-Some.pass) (sym items) (last_at left c.in-Some.pass)) in
    let none = ap (λ s. s.events) c.in_ok-core.ensures in
    let many : core.updaters ≡ c.updaters-updaters.result = ap (λ s. s.updaters) c.in_ok-core.ensures in
    let f = fresh c.in_ok-turnstile.turnstile (c.updaters-updaters.result + 1) (length left) core c.in-Some.pass none (ap (λ n. n + 1) (sym many)) is in
    let last : length left ≡ core.updaters = let b = ap length items ∙ length-append left (c.in-Some.pass ∷ []) in let d = c.in_ok-turnstile.ensures.passes in omega arith in
    (subst (λ n. IsPass c.in-Some.pass n) (last ∙ ap (λ (b : Base). b.1) (sym f.1)) f.0, sym starts_none ∙ ap starts (sym f.2))

pub returns-clause-each : goal.returns-clause-each
returns-clause-each c = λ by p e.
    let core = c.in_ok-core.core in
    let left = c.pop.new.self.items in
    let items : c.in_ok-turnstile.all.items ≡ c.pop.new.self.items ++ c.in-Some.pass ∷ [] = c.in-Some.ensures.items in
    let made = c.hand_out.ensures.each by p e in
    let is = c.in_ok-turnstile.ensures.each by made.0 (subst (λ l. slice_get l by ≡ Some made.0) (sym items) (within_front left c.in-Some.pass by made.0 made.1)) in
    let none = ap (λ s. s.events) c.in_ok-core.ensures in
    let values = ap (λ s. s.values) c.in_ok-core.ensures ∙ c.deref.ensures.value ∙ c.in_ok-values.ensures in
    let many = ap (λ s. s.updaters) c.in_ok-core.ensures ∙ c.updaters-updaters.ensures.told in
    made.2 ∙ as_new c.in_ok-turnstile.turnstile c.args.deck.now (c.updaters-updaters.result + 1) by core made.0 none values many is

pub returns-clause-conductor : goal.returns-clause-conductor
returns-clause-conductor c =
    let core = c.in_ok-core.core in
    let left = c.pop.new.self.items in
    let items : c.in_ok-turnstile.all.items ≡ c.pop.new.self.items ++ c.in-Some.pass ∷ [] = c.in-Some.ensures.items in
    let is = c.in_ok-turnstile.ensures.each (length left) c.in-Some.pass (subst (λ l. slice_get l (length left) ≡ Some c.in-Some.pass) (sym items) (last_at left c.in-Some.pass)) in
    let none = ap (λ s. s.events) c.in_ok-core.ensures in
    let values = ap (λ s. s.values) c.in_ok-core.ensures ∙ c.deref.ensures.value ∙ c.in_ok-values.ensures in
    let count : core.updaters ≡ c.updaters-updaters.result = ap (λ s. s.updaters) c.in_ok-core.ensures in
    let many = count ∙ c.updaters-updaters.ensures.told in
    let f = fresh c.in_ok-turnstile.turnstile (c.updaters-updaters.result + 1) (length left) core c.in-Some.pass none (ap (λ n. n + 1) (sym count)) is in
    let last : length left ≡ core.updaters = let b = ap length items ∙ length-append left (c.in-Some.pass ∷ []) in let d = c.in_ok-turnstile.ensures.passes in omega arith in
    ap (pass_in c.in-Some.pass) (ap (λ (b : Base). b.1) f.1 ∙ sym last) ∙ as_new c.in_ok-turnstile.turnstile c.args.deck.now (c.updaters-updaters.result + 1) (length left) core c.in-Some.pass none values many is
    ∙ ap (new_pass c.in_ok-turnstile.turnstile c.args.deck.now) (last ∙ many)
