use Rattle.std.proofs.Common.{◌≡◌, ◌+◌, ◌-◌, ◌*◌, ◌/◌, ◌≤◌, ◌||◌, ◌==◌, nat_lt, ℕ, List, length, map, refl, sym, ap, ◌∙◌, arith}
use Rattle.air_base.specs.declared.verdicts.ReadOf.{ReadOf}
use Rattle.air_history.specs.Reads.{ReadAt}
use Rattle.live_replay.specs.Findings.{read_in_cycle}
use Rattle.live_replay.proofs.GroupReadLemmas.{first_items, read_more, read_same}
use Rattle.live_replay.proofs.groups.group_reads.Goals as goal
use Rattle.live_replay.proofs.groups.group_reads.Goals.{then-is_item+in_ok-push, else-is_item}

from_first : (i a : ℕ) → a ≤ i → a + (i - a) ≡ i
from_first i a le = omega arith

one_further : (i a : ℕ) → a ≤ i → i + 1 - a ≡ (i - a) + 1
one_further i a le = omega arith

all_counted : (i a g : ℕ) → a + g ≤ i → (a ≤ a + g → i ≤ a + g) → i - a ≡ g
all_counted i a g past within = let le : i ≤ a + g = within (omega arith) in omega arith

pub loop-item-preserved : goal.loop-item-preserved
loop-item-preserved c =
    let n = length c.args.replay.now.deck.items in
    let j = c.args.read.now.item in
    let i = c.loop-item.item in
    let first : ℕ = c.from-group.result * (c.from-own.result / c.from-group.result) in
    let items : c.from-items.result ≡ n = c.from-items.ensures ∙ c.items.ensures in
    let own : c.from-own.result ≡ j = c.from-own.ensures in
    let test : c.is_item.result ≡ (nat_lt i n || (i == j)) =
    c.is_item.ensures ∙ ap (λ m. nat_lt i m || (i == c.from-own.result)) items ∙ ap (λ k. nat_lt i n || (i == k)) own in
    let same = from_first i first c.loop-item.auto.item in
    let next = one_further i first c.loop-item.auto.item in
    let read : ReadOf = record { item = i; cycle = c.args.read.now.cycle; value = 0 } in
    elim c.if-is_item.branch [
      | then-is_item+in_ok-push w ↦ read_more n j c.args.read.now.cycle first (i - first) i (i + 1 - first) same next c.loop-item.reads.items c.loop-item.invariant _ read (sym test ∙ w.if-is_item.true) refl (ap (λ v. v.items) w.reads-is ∙ w.in_ok-push.ensures.items)
      | else-is_item w ↦ read_same n j c.args.read.now.cycle first (i - first) i (i + 1 - first) same next c.loop-item.reads.items c.loop-item.invariant _ (sym test ∙ w.if-is_item.false) (ap (λ v. v.items) w.reads-is)
    ]

pub returns : goal.returns
returns c =
    let n = length c.args.replay.now.deck.items in
    let g = c.args.replay.now.deck.settings.group in
    let j = c.args.read.now.item in
    let Reads : ℕ → ℕ → List ReadAt = λ first k. map (λ q. read_in_cycle q c.args.read.now.cycle) (first_items n j first k) in
    let first : ℕ = c.from-group.result * (c.from-own.result / c.from-group.result) in
    let group : c.from-group.result ≡ g = c.from-group.ensures ∙ c.group.ensures in
    let own : c.from-own.result ≡ j = c.from-own.ensures in
    c.loop-item.invariant ∙ ap (Reads first) (all_counted c.loop-item.item first c.from-group.result c.loop-item-test.false c.loop-item.auto.item-end)
    ∙ ap (λ m. Reads (m * (c.from-own.result / m)) m) group ∙ ap (λ i. Reads (g * (i / g)) g) own
