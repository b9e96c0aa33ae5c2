use Rattle.air_sender.specs.TapeMasts.{told_by_tape}
use Rattle.scripts.proofs.TapePieceLemmas.{piece_joins}
use Rattle.scripts.proofs.script_airing.ScriptAiring.next_piece.Goals as goal

pub returns-clause-aired : goal.returns-clause-aired
returns-clause-aired c =
    piece_joins c.args.planned.now c.args.self.now.run.events.items c.next_piece_heard.new.self.events.items (told_by_tape c.next_piece_heard.new.piece).buckets c.in_ok-self.ensures.aired
