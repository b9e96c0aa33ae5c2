use Rattle.std.proofs.Common.{◌∙◌, ◌≤◌, ◌+◌, ◌*◌, length, sym, ap, subst, arith}
use Rattle.air_model.specs.Buckets.{entry_len}
use Rattle.air_sender.specs.BoardBuckets.{EntriesBelow, spread}
use Rattle.bucket_codec.specs.declared.offsets.TheConstants.{HEAD_BYTES}
use Rattle.group_matrix.specs.GroupBoards.{GroupBoard}
use Rattle.deck_runs.proofs.AiringLemmas.{group_board}
use Rattle.deck_runs.proofs.jobs.airings.GroupBoardAiring.air.Goals as goal

pub air_group_cycle-requires-clause-started : goal.air_group_cycle-requires-clause-started
air_group_cycle-requires-clause-started g c = let same = ap (λ (b : GroupBoard). b.cycle) c.requires.ready in omega (arith, c.requires.started)

pub air_group_cycle-requires-clause-below : goal.air_group_cycle-requires-clause-below
air_group_cycle-requires-clause-below g c =
    subst (λ b. EntriesBelow (spread b)) (sym c.requires.ready) (c.requires.groups_below c.args.self.now.group (let some = c.requires.suits.1 in omega arith))

pub air_group_cycle-requires-clause-columns : goal.air_group_cycle-requires-clause-columns
air_group_cycle-requires-clause-columns g c = c.requires.suits.2

pub air_group_cycle-requires-clause-items : goal.air_group_cycle-requires-clause-items
air_group_cycle-requires-clause-items g c = c.requires.items ∙ sym c.requires.suits.0

pub air_group_cycle-requires-clause-few : goal.air_group_cycle-requires-clause-few
air_group_cycle-requires-clause-few g c = λ one. let same = c.requires.suits.0 in let few = c.requires.few one in omega arith

pub air_group_cycle-requires-clause-room : goal.air_group_cycle-requires-clause-room
air_group_cycle-requires-clause-room g c =
    subst (λ n. HEAD_BYTES + entry_len c.args.form.version * n ≤ length c.args.buf.now) (sym c.requires.suits.0) c.requires.room

pub returns-clause-from : goal.returns-clause-from
returns-clause-from g c scheme policy same =
    ap spread c.requires.ready ∙ group_board scheme c.args._board.now c.args.self.now.group (policy ∙ c.requires.suits.2) same (let some = c.requires.suits.1 in omega arith)
