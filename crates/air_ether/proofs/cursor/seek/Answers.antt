use Rattle.std.proofs.Common.{arith, sym, ap, ◌∙◌, ◌≡◌, ℕ, ◌<◌, ◌≤◌, ◌+◌, ◌-◌, ◌⊎◌, inl, inr, List, map, subst}
use Rattle.air_ether.specs.declared.cursor.Cursor.{Cursor}
use Rattle.air_ether.specs.HeardPositions.{InWindow, left_at, position, times_heard_at}
use Rattle.air_ether.specs.KeptPushes.{Push, Waits, push_of, times_due}
use Rattle.air_ether.proofs.CursorLemmas.{before_first, next_place, next_number, same_place, same_number, queued_read}
use Rattle.air_ether.proofs.cursor.seek.Goals as goal
use Rattle.air_ether.proofs.cursor.seek.Goals.{then-cursor-pushes+then-cursor+else-cursor-times_due, else-cursor-pushes, else-cursor-pushes-via-then-cursor-pushes+else-cursor, else-cursor-pushes-via-else-cursor-pushes}

pub returns-then-cursor-times_due-clause-found : goal.returns-then-cursor-times_due-clause-found
returns-then-cursor-times_due-clause-found c = λ _. (
  c.loop-cursor-test.true,
  c.if-cursor-pushes.true,
  (let e = queued_read c.args.queue.now c.loop-cursor.cursor.place c.index-queue-cursor.result c.requires.count c.index-queue-cursor.is in
      let f = ap (λ w. times_due w c.loop-cursor.cursor.number) e in omega (arith, c.times_due.ensures)),
)

-- One step's invariant, at the cursor that it leaves.
stepped : (pushes limit : ℕ) (queue : List Push) (was c now : Cursor) → c ≡ now → InWindow pushes limit queue (before_first now) → left_at limit (before_first now) ≤ left_at limit was →
    ((due times : ℕ → ℕ) → Waits due times pushes queue → position due times pushes (before_first now) ≡ position due times pushes was) →
    record { within : InWindow pushes limit queue (before_first c); fewer : left_at limit (before_first c) ≤ left_at limit was; same : (due times : ℕ → ℕ) → Waits due times pushes queue → position due times pushes (before_first c) ≡ position due times pushes was }
stepped pushes limit queue was c now e within fewer same =
    subst (λ (d : Cursor). record { within : InWindow pushes limit queue (before_first d); fewer : left_at limit (before_first d) ≤ left_at limit was; same : (due times : ℕ → ℕ) → Waits due times pushes queue → position due times pushes (before_first d) ≡ position due times pushes was })
    (sym e) (record { within = within; fewer = fewer; same = same })

pub loop-cursor-preserved : goal.loop-cursor-preserved
loop-cursor-preserved c =
    let queue = map push_of c.args.queue.now in
    let cursor = c.loop-cursor.cursor in
    elim c.if-cursor-pushes.branch [
      | then-cursor-pushes+then-cursor+else-cursor-times_due w ↦
          let read = queued_read c.args.queue.now cursor.place w.index-queue-cursor.result c.requires.count w.index-queue-cursor.is in
          let same = ap (λ p. times_due p cursor.number) read in
          let passed : times_heard_at queue cursor ≤ cursor.given = omega (arith, w.times_due.ensures) in
          stepped c.args.pushes c.args.limit queue c.args.cursor.now _ _ w.cursor-is
          (next_place c.args.pushes c.args.limit queue cursor c.loop-cursor.invariant.within c.loop-cursor-test.true w.if-cursor-pushes.true w.if-cursor.true)
          (omega (arith, c.loop-cursor.invariant.fewer))
          (λ due times all. same_place due times c.args.pushes c.args.limit queue cursor all c.loop-cursor.invariant.within w.if-cursor-pushes.true passed ∙ c.loop-cursor.invariant.same due times all)
      | else-cursor-pushes w ↦
          let past : cursor.number < cursor.place ⊎ c.args.pushes ≤ cursor.place =
          elim w.else-cursor-pushes.branch [
            | else-cursor-pushes-via-then-cursor-pushes+else-cursor v ↦ inl v.if-cursor.false
            | else-cursor-pushes-via-else-cursor-pushes v ↦ inr v.if-cursor-pushes.false
          ] in
          stepped c.args.pushes c.args.limit queue c.args.cursor.now _ (record { number = cursor.number + 1; place = cursor.number + 1 - 8; given = cursor.given })
          (w.cursor-is ∙ ap (λ (p : ℕ). record { number = cursor.number + 1; place = p; given = cursor.given }) w.saturating_sub-cursor.ensures)
          (next_number c.args.pushes c.args.limit queue cursor c.loop-cursor.invariant.within c.loop-cursor-test.true c.requires.far)
          (omega (arith, c.loop-cursor.invariant.fewer))
          (λ due times all. same_number due times c.args.pushes c.args.limit queue cursor all c.loop-cursor.invariant.within past ∙ c.loop-cursor.invariant.same due times all)
    ]
