use Rattle.std.proofs.Common.{arith, sym, ap, subst, ◌∙◌, ◌≡◌, ◌+◌, ◌*◌, ◌%◌, ◌≤◌, ◌<◌, List, [], ◌∷◌, ◌++◌, ℕ, false, length, map, max}
use Rattle.std.proofs.Math.ListN.{set}
use Rattle.std.proofs.Math.Nat.{mod-lt}
use Rattle.std.proofs.lemmas.List.{length-map, map-set}
use Rattle.std.proofs.lemmas.List.Elements.{All-set}
use Rattle.std.proofs.Common.{length-set}
use Rattle.rand_pcg.specs.Pcg.{pcg32}
use Rattle.air_model.specs.Draws.{generator}
use Rattle.air_ether.specs.declared.cursor.Cursor.{Cursor}
use Rattle.air_ether.specs.HeardSoFar.{Ether, IsEtherAfter, limit_of}
use Rattle.air_ether.specs.KeptPushes.{Push, push_in, push_of}
use Rattle.air_ether.specs.PushWords.{due_in, left_by, times_in}
use Rattle.air_ether.specs.EtherFields.{ether_in}
use Rattle.air_ether.proofs.PushLemmas.{few_after_push, followed, from_place, late_pushed, one_more, open_after, open_window, pushed_window, same_position}
use Rattle.air_ether.proofs.WordLemmas.{due_drawn, left_from, times_drawn}
use Rattle.air_ether.proofs.ether.Ether.push.Goals as goal

pub fill-requires : goal.fill-requires
fill-requires c =
    let small : c.self.inside.pushes % 9 < 9 = mod-lt c.self.inside.pushes (omega arith) in
    let room = c.index_mut-room.result.now in
    let size = c.self.invariant.sized (c.self.inside.pushes % 9) room (omega (arith, c.self.invariant.count)) in
    let same = ap (λ w. length w.room.items) c.index_mut-room.ensures.value in
    let most = ap (λ s. s.most) c.self.view_is in
    omega (arith, c.requires.room)

pub invariant_of-self : goal.invariant_of-self
invariant_of-self c =
    let n = c.self.inside.pushes in
    let items = c.self.inside.queue.items in
    let small : n % 9 < 9 = mod-lt n (omega arith) in
    let room = c.index_mut-room.result.now in
    let size = c.self.invariant.sized (n % 9) room (omega (arith, c.self.invariant.count)) in
    let same = ap (λ w. length w.room.items) c.index_mut-room.ensures.value in
    let most = ap (λ s. s.most) c.self.view_is in
    let quiet : c.self.inside.cursor.number ≡ limit_of c.self.inside.ended n = subst (λ (s : Ether). s.cursor.number ≡ limit_of s.ended s.pushes) (sym c.self.view_is) c.requires.quiet in
    let opened : c.self.inside.ended ≡ false = ap (λ s. s.ended) c.self.view_is ∙ c.requires.open in
    let pushes = ap (λ s. s.pushes) c.self.view_is in
    record {
      count = length-set items (n % 9) c.fill.new.self ∙ c.self.invariant.count;
      sized = All-set (λ w. length w.room.items ≡ c.self.inside.most) items (n % 9) c.fill.new.self (c.fill.ensures.room ∙ same ∙ size) c.self.invariant.sized;
      short = All-set (λ w. w.len ≤ c.self.inside.most) items (n % 9) c.fill.new.self (omega (arith, c.fill.ensures.len, c.requires.room)) c.self.invariant.short;
      twice = All-set (λ w. w.times ≤ 2) items (n % 9) c.fill.new.self (let t = ap (λ w. w.times) c.fill.ensures.value in omega (arith, c.draw-hearing.ensures.few)) c.self.invariant.twice;
      few = omega (arith, c.requires.few);
      within = open_after (n + 1) c.self.inside.ended _ (from_place c.self.inside.cursor c.first_place-from.result) opened
          (pushed_window n c.first_place-from.result c.self.inside.late_until (map push_of items) _ c.self.inside.cursor (open_window n c.self.inside.ended (map push_of items) c.self.inside.cursor opened c.self.invariant.within)
          (subst (λ b. c.self.inside.cursor.number ≡ limit_of b n) opened quiet) c.first_place-from.ensures.stays c.first_place-from.ensures.moves);
      late = subst (λ (r : List Push). (p : ℕ) → p < n + 1 → n + 1 ≤ p + 9 → (push_in r p).due ≤ max p c.late_after-until.result)
          (sym (map-set push_of items (n % 9) c.fill.new.self ∙ ap (set (map push_of items) (n % 9)) c.fill.ensures.value))
          (late_pushed (map push_of items) n c.self.inside.late_until c.late_after-until.result _ (length-map items push_of ∙ c.self.invariant.count) c.self.invariant.late
          c.late_after-until.ensures.before c.late_after-until.ensures.own);
    }

pub returns-clause-few : goal.returns-clause-few
returns-clause-few c =
    let e : Ether = ether_in c.self.inside in
    let quiet : e.cursor.number ≡ limit_of e.ended e.pushes = subst (λ (s : Ether). s.cursor.number ≡ limit_of s.ended s.pushes) (sym c.self.view_is) c.requires.quiet in
    few_after_push e.pushes c.first_place-from.result c.self.inside.late_until e.ended e.queue e.cursor (ap (λ s. s.ended) c.self.view_is ∙ c.requires.open) c.self.invariant.within quiet
    c.first_place-from.ensures.stays c.first_place-from.ensures.moves

pub returns-clause-follows : goal.returns-clause-follows
returns-clause-follows c = λ seed number given pushed given_that.
    let e : Ether = ether_in c.self.inside in
    let n = e.pushes in
    let f : IsEtherAfter seed number pushed given e = subst (IsEtherAfter seed number pushed given) (sym c.self.view_is) given_that in
    let drawn : e.generator ≡ left_by pcg32 (3 * n) (generator seed number) = f.drawn ∙ ap (λ k. left_by pcg32 (3 * k) (generator seed number)) (sym f.pushes) in
    let due = c.draw-hearing.ensures.due ∙ due_drawn e.odds seed number n _ (ap (λ g. (pcg32 g).0) (left_from e.generator seed number n 2 drawn)) in
    let times = c.draw-hearing.ensures.times ∙ times_drawn e.odds seed number n _ _
    (ap (λ g. (pcg32 g).0) (left_from e.generator seed number n 0 drawn)) (ap (λ g. (pcg32 g).0) (left_from e.generator seed number n 1 drawn)) in
    let queue = map-set push_of c.self.inside.queue.items (n % 9) c.fill.new.self ∙ ap (set e.queue (n % 9)) c.fill.ensures.value in
    let at : c.self.inside.cursor.number ≡ n =
    (let quiet : c.self.inside.cursor.number ≡ limit_of c.self.inside.ended n = subst (λ (s : Ether). s.cursor.number ≡ limit_of s.ended s.pushes) (sym c.self.view_is) c.requires.quiet in
    let opened : c.self.inside.ended ≡ false = ap (λ s. s.ended) c.self.view_is ∙ c.requires.open in
    subst (λ b. c.self.inside.cursor.number ≡ limit_of b n) opened quiet) in
    let upto : c.self.inside.cursor.number ≤ n = omega arith in
    let opened : c.self.inside.ended ≡ false = ap (λ s. s.ended) c.self.view_is ∙ c.requires.open in
    let start = (open_window n c.self.inside.ended e.queue e.cursor opened c.self.invariant.within).at_start at in
    let to : Cursor = from_place e.cursor c.first_place-from.result in
    let there = same_position (due_in seed number e.odds) (times_in seed number e.odds) n c.self.inside.late_until e.queue f.waits c.self.invariant.late c.first_place-from.result e.cursor at start
    c.first_place-from.ensures.stays c.first_place-from.ensures.moves in
    subst (λ (r : List Push). IsEtherAfter seed number (pushed ++ c.args.bytes.now ∷ []) given (record (one_more seed number given pushed c.args.bytes.now e c.draw-hearing.result.due c.draw-hearing.result.times c.draw-hearing.new.generator to) { queue = r })) (sym queue)
    (followed seed number given pushed c.args.bytes.now e c.draw-hearing.result.due c.draw-hearing.result.times c.draw-hearing.new.generator to
    f (length-map c.self.inside.queue.items push_of ∙ c.self.invariant.count) upto due times c.draw-hearing.ensures.after there)
