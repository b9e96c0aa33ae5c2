use Rattle.std.proofs.Common.{◌≡◌, ℕ, ◌+◌, ◌<◌, List, [], ◌∷◌, ◌++◌, length, get_or, drop, map, All, sym, ap, ◌∙◌, subst, arith, length-append}
use Rattle.std.proofs.lemmas.List.{with_items_is, get_or_default, length-set}
use Rattle.std.proofs.lemmas.List.Elements.{All-push}
use Rattle.air_history.specs.declared.histories.Event.{Event}
use Rattle.air_history.specs.declared.histories.Event.TheVariants.{Commit}
use Rattle.air_history.specs.UpdateRules.{UpdateFits, written_item}
use Rattle.air_history.specs.Histories.{reads, writes_of, starts, since_start, EventFits}
use Rattle.air_history.specs.Tables.{table, values_of}
use Rattle.air_history.specs.Boards.{reply_of}
use Rattle.air_model.specs.Decks.{count_made}
use Rattle.update_commit.proofs.EventLemmas.{starts_commit, fresh_commit}
use Rattle.update_commit.proofs.StepLemmas.{map_same, values_push, counts_commit, commit_fits, items_fit, reply_last}
use Rattle.update_commit.proofs.cores.Core.commit.Goals as goal

pub run_and_answer-requires-clause-fits : goal.run_and_answer-requires-clause-fits
run_and_answer-requires-clause-fits c =
    let width : length c.deref_mut.result.now ≡ length c.args.self.now.values = ap length c.deref_mut.ensures.value ∙ c.self.invariant.sized ∙ ap (λ s. length s.values) c.self.view_is in
    items_fit (length c.deref_mut.result.now) c.args.by c.index-seq.result.now c.args.update (subst (λ n. UpdateFits n c.args.update) (sym width) c.requires.fits)

pub run_and_answer-requires-clause-room : goal.run_and_answer-requires-clause-room
unfolding reads writes_of
run_and_answer-requires-clause-room c = c.requires.room

pub invariant_of-self : goal.invariant_of-self
invariant_of-self c =
    let v = c.self.invariant in
    let G = c.self.inside.events.items in
    let first = c.self.inside.first_values.items in
    let made = c.self.inside.made.items in
    let seq = c.index-seq.result.now in
    let event = Commit c.args.by seq c.args.update in
    let pushed : c.push_reserved.new.self.items ≡ c.self.inside.events.items ++ Commit c.args.by c.index-seq.result.now c.args.update ∷ [] = c.push_reserved.ensures.items in
    let kept = c.run_and_answer.auto.values ∙ ap length c.deref_mut.ensures.value in
    let items = with_items_is c.self.inside.values c.run_and_answer.new.values (kept ∙ sym c.self.inside.values.ok.0) in
    let within : c.args.by < length c.self.inside.made.items = let r = c.requires.by in let s = ap (λ s. s.updaters) c.self.view_is in omega arith in
    let count : c.index-seq.result.now ≡ get_or c.self.inside.made.items c.args.by 0 = c.index-seq.ensures ∙ get_or_default made c.args.by seq 0 within in
    let long = length-set made c.args.by (seq + 1) in
    let fits = subst (λ n. UpdateFits n c.args.update) (sym (ap (λ s. length s.values) c.self.view_is)) c.requires.fits in
    let fit = EventFits (length made) (length first) in
    record {
      sized = ap length items ∙ kept ∙ v.sized;
      values = λ i. ap (λ l. get_or l i 0) items ∙ values_push first c.deref_mut.result.now c.run_and_answer.new.values G event (λ k. ap (λ l. get_or l k 0) c.deref_mut.ensures.value ∙ v.values k) c.run_and_answer.ensures.values i
          ∙ ap (λ (H : List Event). table (values_of first) H i) (sym pushed);
      made = λ by l. counts_commit made G c.args.by seq seq c.args.update within count v.made by (simp length-set at l) ∙ ap (count_made by) (sym pushed);
      cycle = v.cycle ∙ sym (starts_commit G c.args.by seq c.args.update) ∙ ap starts (sym pushed);
      marked = let m = v.marked in let n = ap length pushed ∙ length-append G (event ∷ []) in omega arith;
      fresh = ap (drop c.self.inside.fresh_from) pushed ∙ fresh_commit G c.self.inside.fresh_from c.args.by seq c.args.update v.marked v.fresh ∙ ap since_start (sym pushed);
      fits = subst (λ m. All (EventFits m (length first)) c.push_reserved.new.self.items) (sym long) (subst (All fit) (sym pushed) (All-push fit G event v.fits (commit_fits (length made) (length first) c.args.by seq c.args.update within fits)));
    }

pub returns-clause-receipt : goal.returns-clause-receipt
returns-clause-receipt c =
    let v = c.self.invariant in
    let G = c.self.inside.events.items in
    let first = c.self.inside.first_values.items in
    let event = Commit c.args.by c.index-seq.result.now c.args.update in
    let was = λ (k : ℕ). ap (λ l. get_or l k 0) c.deref_mut.ensures.value ∙ v.values k in
    let a = c.run_and_answer.ensures in
    reply_last first G event _ _ _ _ (a.kept.0 ∙ c.len.ensures ∙ c.self.inside.events.ok.0) (a.kept.1 ∙ v.cycle)
    (a.read ∙ map_same (values_of c.deref_mut.result.now) (table (values_of first) G) (reads event) was)
    (a.written ∙ map_same (values_of c.run_and_answer.new.values) (table (values_of first) (G ++ event ∷ [])) (map written_item (writes_of event))
    (values_push first c.deref_mut.result.now c.run_and_answer.new.values G event was a.values))
    ∙ ap (λ H. reply_of first H (length G)) (sym c.push_reserved.ensures.items) ∙ ap (λ s. reply_of first c.push_reserved.new.self.items (length s.events)) c.self.view_is
