-- A deck's run, from the beginning.
use Rattle.std.proofs.Common.{◌≡◌, ◌⊎◌, ℕ, ◌+◌, ◌*◌, ◌≤◌, Option, List, [], ◌++◌, get_or, length, All, inl, inr, refl, sym, ◌∙◌, ap, subst, arith}
use Rattle.std.proofs.lemmas.List.{length-map}
use Rattle.std.proofs.lemmas.List.FromFn.{get_or-map-range_with_len}
use Rattle.std.specs.Prelude.{Result, Ok, Err, MatchResult, OnErr, OnOk}
use Rattle.air_base.specs.declared.verdicts.Form.{Form}
use Rattle.air_history.specs.declared.histories.Event.{Event}
use Rattle.air_history.specs.Histories.{starts, events_in}
use Rattle.air_history.specs.Boards.{Board, board_of}
use Rattle.air_model.specs.Buckets.{entry_len, most_count}
use Rattle.air_model.specs.Decks.{Deck, IsDeck, count_editions, edition, values_in}
use Rattle.air_model.specs.Aired.{Air, air_of, buckets_of}
use Rattle.bucket_codec.specs.declared.offsets.TheConstants.{HEAD_BYTES}
use Rattle.air_devices.specs.Masts.{Changes, MastState, SentBuckets, with_buckets}
use Rattle.air_sender.specs.AirFaults.{FailedAt}
use Rattle.air_sender.specs.BoardBuckets.{form_of}
use Rattle.air_sender.proofs.AiredLemmas.{few_full}
use Rattle.station.specs.PassStates.{PassState}
use Rattle.cycle_snapshot.specs.Batches.{IsBatch}
use Rattle.cycle_snapshot.specs.SnapshotStates.{PublisherState}
use Rattle.update_commit.proofs.EventLemmas.{starts_none}
use Rattle.air_model.specs.Batches.{AirsByBatches, EndsWithStart}
use Rattle.air_model.proofs.BatchLemmas.{airs_by_batches}
use Rattle.air_model.proofs.EditionLemmas.{edition_is, edition_within, slots_are}
use Rattle.chunk_program.specs.Editions.{EditionDisks, HaveItems, Plans, edition_disks, no_disks, plans_in, programs_in}
use Rattle.chunk_program.proofs.EditionSteps.{edition_of, slots_of_cycle}
use Rattle.deck_runs.specs.PublishedBatches.{AreInStep, IsUpTo, PublishesOn}
use Rattle.deck_runs.specs.Sendings.{CanAirIn, FailsAfter, IsAirOf, SendsCycles, SendsUntilFault, SendsUpTo, bytes_aired, planned_program}
use Rattle.deck_runs.specs.declared.jobs.conductors.ConductFault.{ConductFault}
use Rattle.deck_runs.specs.declared.jobs.conductors.ConductFault.TheVariants as fault

-- The values are as many as the items.
pub values_sized : (deck : Deck) → length (values_in deck) ≡ length deck.items
values_sized deck = length-map deck.items (λ i. i.value)

-- A new pass, a new publisher and a new board are in step.
pub new_in_step : (p : PassState) (f : PublisherState) (b : Board) (values : List ℕ) → p.values ≡ values → p.seen ≡ [] → f.values ≡ values → f.batches ≡ [] → b ≡ board_of values [] → AreInStep p f b
new_in_step p f b values pv ps fv fb is = record {
  values = fv ∙ sym pv;
  published = record {
    later = [];
    begins = ps ∙ ap (λ bs. events_in bs ++ []) (sym fb);
    ends = inl (ap events_in fb);
    rest = starts_none;
    count = let a = ap length fb in let b = ap starts ps ∙ starts_none in omega arith;
  };
  board = is ∙ (λ i. board_of (sym pv i) (events_in (sym fb i)));
}

-- The plans of a deck have the program of the cycle's edition in force.
own_program : (deck : Deck) (plans : Plans) (c : ℕ) → plans ≡ plans_in deck → planned_program plans c ≡ edition_disks deck (edition deck c)
own_program deck plans c are =
    ap (λ (p : Plans). planned_program p c) are ∙ ap (λ e. get_or (programs_in deck) e no_disks) (edition_of deck (plans_in deck) c refl)
    ∙ get_or-map-range_with_len (edition_disks deck) 0 (count_editions deck) (edition deck c) (edition deck c) no_disks (edition_within deck c) (omega arith)

-- The air of a deck is of its group, its values, its form and its plans.
pub own_air : (deck : Deck) (group : ℕ) (plans : Plans) (values : List ℕ) (form : Form) → plans ≡ plans_in deck → values ≡ values_in deck → form ≡ form_of (air_of deck) → deck.settings.group ≡ group → IsAirOf group values form plans (air_of deck)
own_air deck group plans values form are first own same = record {
  items = sym (ap length first ∙ values_sized deck);
  policy_is = ap (λ (f : Form). f.policy) (sym own);
  group_is = same;
  version_is = ap (λ (f : Form). f.version) (sym own);
  edition_is = λ c. edition_is deck c ∙ ap (λ (p : EditionDisks). p.edition) (sym (own_program deck plans c are));
  slots_are = λ c. slots_are deck c ∙ sym (slots_of_cycle deck plans c are);
}

-- A deck has no more items than a bucket of its version, and so no more than any bucket.
pub few_items : (deck : Deck) → IsDeck deck → length deck.items ≤ 1024
few_items deck made = elim made.version as (λ _. length deck.items ≤ 1024) [
  | inl one ↦ (let few : length deck.items ≤ 256 = subst (λ v. length deck.items ≤ most_count v) one made.most in omega arith)
  | inr two ↦ subst (λ v. length deck.items ≤ most_count v) two made.most
]

-- The buckets of a deck can be made in its form.
pub can_air : (deck : Deck) (form : Form) (values : List ℕ) (plans : Plans) (room : ℕ) → IsDeck deck → form ≡ form_of (air_of deck) → length values ≡ length deck.items → plans ≡ plans_in deck
    → HaveItems (length deck.items) (programs_in deck) → HEAD_BYTES + entry_len deck.settings.version * length deck.items ≤ room → CanAirIn form values plans room
can_air deck form values plans room made own sized are items space =
    let version : form.version ≡ deck.settings.version = ap (λ (f : Form). f.version) own in
    record {
      version = subst (λ v. (v ≡ 1) ⊎ (v ≡ 2)) (sym version) made.version;
      items = subst (λ (p : Plans). HaveItems (length values) p.programs) (sym are) (subst (λ n. HaveItems n (programs_in deck)) (sym sized) items);
      few = λ one.
          let few = few_full deck made form.version version one in
          omega arith;
      buffer = subst (λ v. HEAD_BYTES + entry_len v * length values ≤ room) (sym version) (subst (λ n. HEAD_BYTES + entry_len deck.settings.version * n ≤ room) (sym sized) space);
    }

-- Nothing is aired before any event.
pub none_aired : (values : List ℕ) (air : Air) → bytes_aired values air [] ≡ []
unfolding buckets_of starts
none_aired values air = refl

module _ (values : List ℕ) (air : Air) (G H : List Event) (none : G ≡ []) where
  more_is : (more : List (List ℕ)) → bytes_aired values air H ≡ bytes_aired values air G ++ more → more ≡ bytes_aired values air H
  more_is more e = sym (e ∙ ap (λ l. bytes_aired values air l ++ more) none ∙ ap (λ l. l ++ more) (none_aired values air))

  pub all_sent : (n : ℕ) (o q : Option SentBuckets) → SendsCycles values air n G H o q → Changes (with_buckets (bytes_aired values air H)) o q
  all_sent n o q s = subst (λ l. Changes (with_buckets l) o q) (more_is s.more s.aired) s.sent

  pub part_sent : {M : Type 0} (state : M → MastState) (n : ℕ) (o q : M) → FailsAfter state values air n G H o q → FailedAt state n (bytes_aired values air H) o q
  part_sent state n o q s = subst (λ l. FailedAt state n l o q) (more_is s.more s.aired) s.failed

-- ---- what a run says of its deck

pub run_whole : (p q : PassState) (g : PublisherState) (b : Board) (n cycles : ℕ) (r : Result (Unit {0}) ConductFault) → p.seen ≡ [] → n ≡ cycles → OnOk r (AreInStep q g b × (starts q.seen ≡ starts p.seen + n))
    → OnOk r (IsUpTo 0 q.seen g.batches × (starts q.seen ≡ cycles))
run_whole p q g b n cycles (Ok x) new same h = (h.0.published, (let none = ap starts new ∙ starts_none in let count = h.1 in omega arith))
run_whole p q g b n cycles (Err e) new same h = h

-- What is published, each time the events of one cycle, airs what the conductor has seen.
pub run_batches : (deck : Deck) (p q : PassState) (f g : PublisherState) (b : Board) (n : ℕ) (r : Result (Unit {0}) ConductFault) → f.batches ≡ [] → PublishesOn f g → OnOk r (AreInStep q g b × (starts q.seen ≡ starts p.seen + n))
    → OnOk r (AirsByBatches deck q.seen g.batches)
run_batches deck p q f g b n (Ok x) none on h =
    let up = h.0.published in
    let all : All (IsBatch (length f.values)) g.batches = subst (All (IsBatch (length f.values))) (ap (λ l. l ++ on.batches.0) (sym none) ∙ on.batches.1) on.each in
    subst (λ l. AirsByBatches deck l g.batches) (sym up.begins) (airs_by_batches deck g.batches up.later (λ k d l. ends_with (length f.values) _ (all k d l)) up.rest)
  where
    ends_with : (n : ℕ) (batch : List Event) → IsBatch n batch → EndsWithStart batch
    ends_with n batch is = record { commits = is.ends.0; ends = is.ends.1; one = is.ends.2 }
run_batches deck p q f g b n (Err e) none on h = h

pub run_few : (p q : PassState) (g : PublisherState) (b : Board) (n cycles : ℕ) (r : Result (Unit {0}) ConductFault) → p.seen ≡ [] → n ≡ cycles → OnOk r (AreInStep q g b × (starts q.seen ≡ starts p.seen + n))
    → OnErr r (starts q.seen ≤ starts p.seen + n) → starts q.seen ≤ cycles
run_few p q g b n cycles (Ok x) new same h k = let none = ap starts new ∙ starts_none in let count = h.1 in omega arith
run_few p q g b n cycles (Err e) new same h k = let none = ap starts new ∙ starts_none in let count = k in omega arith

module _ {M : Type 0} (state : M → MastState) (deck : Deck) (p q : PassState) (f g : PublisherState) (n : ℕ) (before now : M) (values : p.values ≡ values_in deck) (new : p.seen ≡ []) (none : f.batches ≡ []) where
  pub run_aired : (r : Result (Unit {0}) ConductFault)
      → MatchResult r (λ _. SendsCycles p.values (air_of deck) n p.seen q.seen (state before).told (state now).told) (SendsUpTo state p.values (air_of deck) n p q f g before now)
      → MatchResult r (λ _. Changes (with_buckets (bytes_aired (values_in deck) (air_of deck) q.seen)) (state before).told (state now).told) (SendsUntilFault state deck q.seen g.batches before now)
  run_aired (Ok x) h = subst (λ v. Changes (with_buckets (bytes_aired v (air_of deck) q.seen)) (state before).told (state now).told) values (all_sent p.values (air_of deck) p.seen q.seen new n (state before).told (state now).told h)
  run_aired (Err (fault.Mast sent)) h = subst (λ v. FailedAt state sent (bytes_aired v (air_of deck) q.seen) before now) values (part_sent p.values (air_of deck) p.seen q.seen new state sent before now h)
  run_aired (Err fault.NoMemory) h = subst (λ v. Changes (with_buckets (bytes_aired v (air_of deck) (events_in g.batches))) (state before).told (state now).told) values
      (all_sent p.values (air_of deck) (events_in f.batches) (events_in g.batches) (ap events_in none) h.0 (state before).told (state now).told h.2)
