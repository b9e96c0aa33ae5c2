use Rattle.std.proofs.Common.{map}
use Rattle.std.specs.Result.{result_ok}
use Rattle.listeners.proofs.TogetherLemmas.{each_heard, each_knows}
use Rattle.listeners.proofs.together.hear_members.Goals as goal

pub returns-clause-heard : goal.returns-clause-heard
returns-clause-heard g c =
    each_heard (map result_ok c.args.piece.now.heard.items) c.args.readers.now c.hear_side_by_side.new.readers c.hear_side_by_side.ensures (c.are_done.ensures.0 c.if-not-are_done.false)

pub returns-clause-air : goal.returns-clause-air
returns-clause-air g c = λ air known. each_knows air (map result_ok c.args.piece.now.heard.items) c.args.readers.now c.hear_side_by_side.new.readers c.hear_side_by_side.ensures known

pub returns-then-not-are_done-clause-air : goal.returns-then-not-are_done-clause-air
returns-then-not-are_done-clause-air g c = λ air known. each_knows air (map result_ok c.args.piece.now.heard.items) c.args.readers.now c.hear_side_by_side.new.readers c.hear_side_by_side.ensures known
