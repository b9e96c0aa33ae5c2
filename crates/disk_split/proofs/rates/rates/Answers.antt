use Rattle.std.proofs.Common.{rules, ◌≡◌, ◌<◌, ◌++◌, ℕ, [], ◌∷◌, true, map, length, get_or, arith, ◌∙◌, ap, sym}
use Rattle.std.specs.Prelude.{⊤}
use Rattle.std.specs.Result.{is_ok}
use Rattle.std.proofs.lemmas.List.{map_more, map_push}
use Rattle.std.proofs.lemmas.Option.{MatchOption-at_some, slice_get-get_or}
use Rattle.air_model.specs.Decks.{Item}
use Rattle.disk_split.proofs.HotLemmas.{rate_of}
use Rattle.disk_split.proofs.rates.rates.Goals as goal

pub loop-item-preserved : goal.loop-item-preserved
loop-item-preserved c =
    let rate : Item → ℕ = λ i. i.rate in
    let items = c.args.deck.now.items in let k = c.loop-item.item in
    let item : Item = get_or items k (record { value = 0; rate = 0 }) in
    let below : k < length items = (let told = c.items-item-end.ensures.told in omega arith) in
    let good : is_ok c.push.result ≡ true = search rules in
    let pushed = rw good at c.push.ensures.items in
    let told : c.rate.result ≡ item.rate = MatchOption-at_some ⊤ (λ (i : Item). c.rate.result ≡ i.rate) item (slice_get-get_or items k _ below) c.rate.ensures.told in
    ap (map rate_of) pushed ∙ map_push rate_of c.loop-item.rates.items (record { 0 = c.rate.result }) ∙ ap (λ r. map rate_of c.loop-item.rates.items ++ r ∷ []) told
    ∙ ap (λ l. l ++ item.rate ∷ []) c.loop-item.invariant ∙ sym (map_more rate items k _ below)
