use Rattle.std.proofs.Common.{◌≡◌, ◌∙◌, ◌+◌, length, ap, sym, subst, arith}
use Rattle.std.specs.List.{range_with_len}
use Rattle.air_base.specs.declared.verdicts.Form.{Form}
use Rattle.air_history.specs.Places.{greatest_of}
use Rattle.air_model.specs.Decks.{Deck, disks_in, edition}
use Rattle.air_model.specs.Programs.{program}
use Rattle.air_sender.specs.TapeSizes.{cycle_size}
use Rattle.chunk_program.specs.Editions.{EditionDisks, HaveItems, Plans}
use Rattle.item_catalog.specs.DeckLimits.{script_starts}
use Rattle.scripts.specs.LongestCycles.{edition_size}
use Rattle.scripts.proofs.CycleLemmas.{longest_more, none_longest}
use Rattle.scripts.proofs.sizes.longest_cycle.Goals as goal

pub cycle_len-len-requires : goal.cycle_len-len-requires
cycle_len-len-requires c =
    let deck = c.args.planned.now in
    let n = length deck.items in
    let items : c.items-items.result ≡ n = c.items-items.ensures.told ∙ ap (λ (d : Deck). length d.items) c.deck-deck.ensures.told in
    c.program.ensures.items n (subst (λ (p : Plans). HaveItems n p.programs) (sym c.plans-plans.ensures.told) c.plans-plans.ensures.items) ∙ sym items

pub loop-edition-init : goal.loop-edition-init
loop-edition-init c = record { told = sym (none_longest c.args.planned.now); some = λ none. omega arith; few = omega arith }

pub loop-edition-preserved : goal.loop-edition-preserved
loop-edition-preserved c =
    let deck = c.args.planned.now in
    let inv = c.loop-edition.invariant in
    let e = c.loop-edition.edition in
    let v = c.own_form-version.result.version in
    let items = c.items-items.ensures.told ∙ ap (λ (d : Deck). length d.items) c.deck-deck.ensures.told in
    let own = c.program.ensures.deck deck c.plans-plans.ensures.told in
    let len : c.cycle_len-len.result ≡ edition_size deck e =
    c.cycle_len-len.ensures.len
    ∙ ap (λ (p : EditionDisks). cycle_size v c.items-items.result (program p.disks)) own
    ∙ ap (λ n. cycle_size v n (program (disks_in deck e))) items
    ∙ ap (λ (f : Form). cycle_size f.version (length deck.items) (program (disks_in deck e))) c.own_form-version.ensures.form in
    record {
      told = c.max-longest.ensures ∙ sym (longest_more deck e c.loop-edition.longest c.cycle_len-len.result inv.told len);
      some = λ _. (let some = c.cycle_len-len.ensures.some in let both = c.max-longest.ensures in omega arith);
      few = (let few = inv.few in let here = c.cycle_len-len.ensures.few in let both = c.max-longest.ensures in omega arith);
    }

pub returns-clause-told : goal.returns-clause-told
returns-clause-told c =
    let deck = c.args.planned.now in
    let last = c.edition_at-last.ensures.deck deck c.plans-plans.ensures.told in
    let starts = ap (edition deck) (c.script_starts.ensures.told ∙ ap script_starts c.deck-deck.ensures.told) in
    let all : c.loop-edition.edition ≡ edition deck (script_starts deck) + 1 = omega (arith, last, starts) in
    c.loop-edition.invariant.told ∙ ap (λ n. greatest_of (edition_size deck) (range_with_len 0 n)) all
