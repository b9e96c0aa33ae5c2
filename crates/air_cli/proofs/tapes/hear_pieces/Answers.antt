use Rattle.std.proofs.Common.{List, ℕ, [], inl, arith, refl, sym, ◌∙◌}
use Rattle.std.proofs.lemmas.Result.{MatchResult-weaker}
use Rattle.air_cli.specs.NamedFiles.{UnreadCause}
use Rattle.air_cli.specs.HeardTapes.{UnheardCause}
use Rattle.air_cli.proofs.HeardSoFar.{begun, few_so_far, heard_more, rest_after, whole_heard}
use Rattle.air_cli.proofs.ReadSoFar.{cut_cause, none_came, too_large}
use Rattle.air_cli.proofs.ReadingLemmas.{calm_twice, left_twice}
use Rattle.air_cli.proofs.tapes.hear_pieces.Given.{Over}
use Rattle.air_cli.proofs.tapes.hear_pieces.Goals as goal

-- These records were heard since the hearer was as at first.
abbrev Heard : (g : Over) → g.row.H.Denot → g.row.H.Denot → List (List ℕ) → Type 0
Heard g before now = λ records. (first : g.row.H.Denot) → g.H.TapeHearer.HasHeard [] first before → g.H.TapeHearer.HasHeard records first now

pub loop-count-init : goal.loop-count-init
loop-count-init g c =
    let S = g.S.Shelf in
    let name = c.args.name.now in
    let empty = c.in_ok-piece.ensures.empty in
    record {
      far = begun c.args.sizes.tape ((S.state c.args.shelf.now).told.file name) ((S.state c.pick.new.self).told.left name) c.in_ok-piece.piece.bytes (Heard g c.args.hearer.now c.args.hearer.now)
          c.in-Ok.ensures.picked empty (λ first was. was);
      rest = inl empty;
      room = c.in_ok-piece.ensures.room;
      keeps = c.pick.ensures.rest;
      calm = c.in-Ok.ensures.cause.calm;
    }

pub hear_whole_records-requires-after_bounds : goal.hear_whole_records-requires-after_bounds
hear_whole_records-requires-after_bounds g c κs within =
    let far = c.loop-count.invariant.far in
    let first = c.requires.0 in (
      first,
      far.records,
      far.so first c.requires.1,
      few_so_far c.as_slice-in-loop-count.result.now (omega arith) far.read c.in-Ok-read.ensures.moved (omega arith) c.as_slice-in-loop-count.ensures,
    )

pub loop-count-preserved : goal.loop-count-preserved
loop-count-preserved g c =
    let inv = c.loop-count.invariant in
    let come = c.in-Ok-read.ensures.moved in
    let beginning = c.in_ok-heard.ensures.beginning in
    let next = c.let_go.new.self.bytes in
    record {
      far = heard_more next (Heard g c.args.hearer.now c.hear_whole_records.new.hearer) inv.far come (omega arith) c.as_slice-in-loop-count.ensures beginning
          (λ records so first was. c.in_ok-heard.ensures.heard first records (so first was)) c.in_ok-let_go.ensures.rest;
      rest = rest_after next c.as_slice-in-loop-count.ensures beginning c.in_ok-let_go.ensures.rest;
      room = c.in_ok-let_go.ensures.room;
      keeps = left_twice inv.keeps c.read.ensures.rest;
      calm = calm_twice inv.calm c.in-Ok-read.ensures.cause.calm;
    }

pub returns-then-count-eq0-clause-heard : goal.returns-then-count-eq0-clause-heard
returns-then-count-eq0-clause-heard g c = λ first was.
    let S = g.S.Shelf in
    let come = none_came c.if-count-eq0.true c.in-Ok-read.ensures.moved in
    MatchResult-weaker c.whole_or_cut.result c.whole_or_cut.ensures
    (λ done none. whole_heard c.args.name.now (S.state c.args.shelf.now) (λ records. g.H.TapeHearer.HasHeard records first c.loop-count.hearer) c.loop-count.invariant.far come
    (sym c.as_slice.ensures ∙ none) (λ records so. so first was)) (λ s cut. tt)

pub returns-then-count-eq0-clause-refused : goal.returns-then-count-eq0-clause-refused
returns-then-count-eq0-clause-refused g c =
    let S = g.S.Shelf in
    let inv = c.loop-count.invariant in
    let come = none_came c.if-count-eq0.true c.in-Ok-read.ensures.moved in
    MatchResult-weaker c.whole_or_cut.result c.whole_or_cut.ensures (λ done none. tt)
    (λ s cut. cut_cause c.args.name.now (S.state c.args.shelf.now) (S.state c.read.new.shelf) s inv.far.read inv.rest come c.as_slice.ensures cut)

pub returns-then-left-count-clause-refused : goal.returns-then-left-count-clause-refused
unfolding UnheardCause UnreadCause
returns-then-left-count-clause-refused g c = (refl, too_large c.in-Ok-read.count c.loop-count.invariant.far.read c.in-Ok-read.ensures.moved c.if-left-count.true c.in-Ok-read.ensures.bound)
