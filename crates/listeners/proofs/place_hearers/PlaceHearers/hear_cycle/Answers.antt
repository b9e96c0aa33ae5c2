use Rattle.std.proofs.Common.{◌≡◌, ◌∙◌, ◌+◌, ◌++◌, length, ap, sym, arith, length-append}
use Rattle.air_model.specs.Programs.{program as slots_of}
use Rattle.air_sender.specs.BoardBuckets.{board_bytes}
use Rattle.air_sender.proofs.SendLemmas.{length_cycle}
use Rattle.listeners.proofs.PlaceReaderLemmas.{all_given_cycle, can_hear_cycle, kept_from}
use Rattle.listeners.proofs.place_hearers.PlaceHearers.hear_cycle.Goals as goal

pub all_hear-requires-clause-ready : goal.all_hear-requires-clause-ready
all_hear-requires-clause-ready g c =
    let h = c.requires.given in
    can_hear_cycle c.args.form c.args.program.now.edition (slots_of c.args.program.now.disks) (g.S.Source.board c.args.source.now) h.0 h.1 c.args.self h.2 h.3 h.4

pub keep_last-requires-clause-last : goal.keep_last-requires-clause-last
keep_last-requires-clause-last g c = let h = c.requires.given in omega (arith, h.2.pushes, h.4)

pub returns-clause-heard : goal.returns-clause-heard
returns-clause-heard g c = λ deck pushed h fitting.
    let form = c.args.form in
    let e = c.args.program.now.edition in
    let slots = slots_of c.args.program.now.disks in
    let board = g.S.Source.board c.args.source.now in
    let records = board_bytes form e slots board in
    let each = all_given_cycle form e slots board c.requires.decodes deck pushed c.args.self h c.in_ok-readers.readers.items c.in_ok-readers.ensures.heard in
    let kept = c.in_ok-keep_last.ensures.kept (pushed ++ records) (kept_from form e slots board deck pushed c.args.self h) in
    let long : length (pushed ++ records) ≡ c.args.self.pushes + length slots = length-append pushed records ∙ ap (λ n. length pushed + n) (length_cycle form e slots board) ∙ ap (λ n. n + length slots) (sym h.pushes) in
    record {
      long = each.0;
      each = each.1;
      pushes = omega (arith, long, c.slots.ensures.counted, c.from.ensures);
      sized = kept.0;
      recent = λ p l near. kept.1 p (omega (arith, l, long)) (omega (arith, near, long));
    }
