use Rattle.std.proofs.Common.{rules, ◌≡◌, ◌<◌, ◌+◌, ◌-◌, ◌++◌, ℕ, true, [], ◌∷◌, append-nil, drop, length, slice_index, sym, subst, ap, ◌∙◌, arith}
use Rattle.std.specs.Prelude.{slice_index_or}
use Rattle.std.specs.Result.{is_ok}
use Rattle.std.proofs.lemmas.List.{drop-drop, drop_all, get_or_read, length-drop, take_rest}
use Rattle.disk_split.specs.Rests.{IsFirst}
use Rattle.disk_split.specs.Private.RestsToPlace.{IsFirstSize, IsLeastRest}
use Rattle.disk_split.specs.Private.Tables.{HasCells, IsTable}
use Rattle.disk_split.proofs.RestSteps.{fewer_slots, none_rest, sizes_more, step_rest}
use Rattle.disk_split.proofs.sizes.sizes.Goals as goal
use Rattle.disk_split.proofs.sizes.sizes.Goals.{After-deref}

pub loop-disk-init : goal.loop-disk-init
loop-disk-init c = record {
  least = c.requires.left;
  fewer = omega arith;
  first = λ after first. subst (λ l. IsFirst c.args.sums.now c.args.chunks.now c.args.left.from c.args.left.slots c.args.left.weight (l ++ after)) (sym c.new-sizes.ensures.items) first;
}

table : (c : After-deref) → HasCells c.args.sums.now (drop 1 (drop c.loop-disk.disk c.args.chunks.now)) c.loop-disk.rest.slots c.deref.result.now
table c =
    let chunks = c.args.chunks.now in let disk = c.loop-disk.disk in
    let below : disk < length chunks = c.loop-disk-test.true in
    let place : ℕ = length chunks - (disk + 1) in
    let is : c.deref.result.now ≡ slice_index_or c.args.tables.now place [] =
    c.deref.ensures.value ∙ c.next.view_is ∙ get_or_read c.args.tables.now place c.index-tables-chunks.result (let long = c.requires.tables.all.long in omega arith) c.index-tables-chunks.is [] in
    let behind : drop (length chunks - place) chunks ≡ drop 1 (drop disk chunks) = ap (λ n. drop n chunks) (let e : length chunks - place ≡ disk + 1 = omega arith in e) ∙ sym (drop-drop 1 disk chunks) in
    let width = c.requires.tables.width in
    record {
      width = width;
      below = (let below = c.requires.tables.below in let fewer = c.loop-disk.invariant.fewer in omega arith);
      table = subst (λ l. IsTable c.args.sums.now l width c.deref.result.now) behind
          (subst (IsTable c.args.sums.now (drop (length chunks - place) chunks) width) (sym is) (c.requires.tables.all.each place (omega arith)));
    }

pub first_size-size-requires-clause-next : goal.first_size-size-requires-clause-next
first_size-size-requires-clause-next c = subst (λ l. HasCells c.args.sums.now (drop 1 l) c.loop-disk.rest.slots c.deref.result.now) (sym (take_rest c.args.chunks.now c.loop-disk.disk)) (table c)

pub first_size-size-requires-clause-left : goal.first_size-size-requires-clause-left
first_size-size-requires-clause-left c = subst (λ l. IsLeastRest c.args.sums.now l c.loop-disk.rest) (sym (take_rest c.args.chunks.now c.loop-disk.disk)) c.loop-disk.invariant.least

pub loop-disk-preserved : goal.loop-disk-preserved
loop-disk-preserved c =
    let a = (goal.at.loop-disk-preserved c).After-deref in
    let sums = c.args.sums.now in let chunks = c.args.chunks.now in let disk = c.loop-disk.disk in let i = c.loop-disk.invariant in
    let good : is_ok c.push.result ≡ true = search rules in
    let pushed = rw good at c.push.ensures.items in
    let size = c.first_size-size.result.0 in let more = c.first_size-size.result.1 in
    let is = subst (λ l. IsFirstSize sums (slice_index l 0) c.deref.result.now c.loop-disk.rest size more) (take_rest chunks disk) c.first_size-size.ensures in
    let step = step_rest sums (drop disk chunks) c.deref.result.now c.loop-disk.rest size more (let test = c.loop-disk-test.true in omega (arith, length-drop disk chunks)) (table a) i.least is in
    let tail = drop-drop 1 disk chunks in
    record {
      least = subst (λ l. IsLeastRest sums l more) tail step.0;
      fewer = (let down = fewer_slots sums (slice_index (drop disk chunks) 0) c.deref.result.now c.loop-disk.rest size more is in let fewer = i.fewer in omega arith);
      first = λ after first.
          sizes_more sums chunks c.args.left.from c.args.left.slots c.args.left.weight c.loop-disk.sizes.items c.push.new.self.items after size pushed
          (i.first (size ∷ after) (step.1 after (subst (λ l. IsFirst sums l more.from more.slots more.weight after) (sym tail) first)));
    }

pub returns : goal.returns
returns c =
    let sums = c.args.sums.now in let chunks = c.args.chunks.now in let rest = c.loop-disk.rest in let i = c.loop-disk.invariant in
    let none = drop_all c.loop-disk.disk chunks c.loop-disk-test.false in
    let last = none_rest sums rest (subst (λ l. IsLeastRest sums l rest) none i.least) in
    subst (IsFirst sums chunks c.args.left.from c.args.left.slots c.args.left.weight) (append-nil c.loop-disk.sizes.items)
    (i.first [] (subst (λ l. IsFirst sums l rest.from rest.slots rest.weight []) (sym none) last))
