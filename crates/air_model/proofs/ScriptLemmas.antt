-- The script's history is legal: the event of each part is its updater's next.
use Rattle.std.proofs.Common.{◌≡◌, ℕ, zero, suc, ◌+◌, ◌<◌, ◌≤◌, Bool, true, false, cond, Option, Some, None, List, [], length, take, get_or, ◌==◌, refl, sym, ◌∙◌, ap, subst, arith}
use Rattle.std.proofs.lemmas.Bool.{eq-eqb}
use Rattle.std.proofs.lemmas.Option.{get_or_from_slice_get, slice_get-get_or, slice_get_within}
use Rattle.std.proofs.lemmas.List.Sums.{count_by_more_yes, count_by_more_no, sum_by-take-le}
use Rattle.std.proofs.lemmas.List.FromFn.{get_or-map-range_with_len, length-map-range_with_len}
use Rattle.air_history.specs.declared.histories.Event.{Event}
use Rattle.air_history.specs.declared.histories.Event.TheVariants.{Commit, Start}
use Rattle.air_history.specs.UpdateLists.{UpdateLists}
use Rattle.air_model.specs.Decks.{Deck, count_made, scripted_commits, event_of, is_by, script_history, update_at, updates_by, ScriptFits, IsLegal}
use Rattle.std.specs.Option.{option_map_or}

-- The part is the updater's.
abbrev is_commit_by : ℕ → Option ℕ → Bool
is_commit_by by part = option_map_or (λ who. who == by) part false

part_same : (deck : Deck) (before : List (Option ℕ)) (by : ℕ) (part : Option ℕ) → is_by by (event_of deck before part) ≡ is_commit_by by part
unfolding is_by event_of
part_same deck before by None = refl
part_same deck before by (Some who) = refl

-- The event of the part at a place.
abbrev event_in : Deck → ℕ → Event
event_in deck k = event_of deck (take k deck.script) (get_or deck.script k None)

event_there : (deck : Deck) (p : ℕ) (d : Event) → p < length deck.script → get_or (script_history deck) p d ≡ event_in deck p
unfolding script_history
event_there deck p d l = get_or-map-range_with_len (event_in deck) 0 (length deck.script) p p d l (omega arith)

script_length : (deck : Deck) → length (script_history deck) ≡ length deck.script
unfolding script_history
script_length deck = length-map-range_with_len (event_in deck) 0 (length deck.script)

-- An updater made as many commits as it has parts.
counts_same : (deck : Deck) (by p : ℕ) → p ≤ length deck.script → count_made by (take p (script_history deck)) ≡ scripted_commits by (take p deck.script)
counts_same deck by zero l = refl
counts_same deck by (suc p) l = step (is_commit_by by (get_or deck.script p None)) refl (counts_same deck by p (omega arith))
  where
    H : List Event
    H = script_history deck

    there : is_by by (get_or H p Start) ≡ is_commit_by by (get_or deck.script p None)
    there = ap (is_by by) (event_there deck p Start (omega arith)) ∙ part_same deck (take p deck.script) by (get_or deck.script p None)

    within : p < length H
    within = omega (arith, script_length deck)

    more : p + 1 ≡ suc p
    more = omega arith

    step : (b : Bool) → is_commit_by by (get_or deck.script p None) ≡ b → count_made by (take p H) ≡ scripted_commits by (take p deck.script) →
        count_made by (take (suc p) H) ≡ scripted_commits by (take (suc p) deck.script)
    step true t rest = subst (λ n. count_made by (take n H) ≡ scripted_commits by (take n deck.script)) more
        (count_by_more_yes (is_by by) H p Start within (there ∙ t) ∙ ap (λ n. n + 1) rest ∙ sym (count_by_more_yes (is_commit_by by) deck.script p None (omega arith) t))
    step false f rest = subst (λ n. count_made by (take n H) ≡ scripted_commits by (take n deck.script)) more
        (count_by_more_no (is_by by) H p Start within (there ∙ f) ∙ rest ∙ sym (count_by_more_no (is_commit_by by) deck.script p None (omega arith) f))

-- A part whose event is a commit is its updater's.
pub record IsCommitOf (deck : Deck) (before : List (Option ℕ)) (part : Option ℕ) (by seq : ℕ) (u : UpdateLists) : Type 0 where
  pub commits : part ≡ Some by
  pub number : seq ≡ scripted_commits by before
  pub update : u ≡ update_at deck by seq

commit_is : (deck : Deck) (before : List (Option ℕ)) (part : Option ℕ) (by seq : ℕ) (u : UpdateLists) → event_of deck before part ≡ Commit by seq u → IsCommitOf deck before part by seq u
unfolding event_of
commit_is deck before None by seq u e = cc
commit_is deck before (Some who) by seq u e =
    let same : who ≡ by = cc in
    let number : scripted_commits who before ≡ seq = cc in
    let update : update_at deck who (scripted_commits who before) ≡ u = cc in
    record {
      commits = ap Some same;
      number = sym number ∙ ap (λ w. scripted_commits w before) same;
      update = sym update ∙ ap (update_at deck who) number ∙ ap (λ w. update_at deck w seq) same;
    }

pub script : (deck : Deck) → ScriptFits deck → IsLegal deck (script_history deck)
script deck fits p by seq u e =
    let within : p < length deck.script = omega (arith, slice_get_within (script_history deck) p (Commit by seq u) e, script_length deck) in
    let at : get_or (script_history deck) p Start ≡ Commit by seq u = get_or_from_slice_get (script_history deck) p (Commit by seq u) Start e in
    let is = commit_is deck (take p deck.script) (get_or deck.script p None) by seq u (sym (event_there deck p Start within) ∙ at) in
    let here : is_commit_by by (get_or deck.script p None) ≡ true = ap (is_commit_by by) is.commits ∙ eq-eqb by by refl in
    let number : seq ≡ scripted_commits by (take p deck.script) = is.number in
    let more : scripted_commits by (take (p + 1) deck.script) ≡ scripted_commits by (take p deck.script) + 1 = count_by_more_yes (is_commit_by by) deck.script p None within here in
    let all : scripted_commits by (take (p + 1) deck.script) ≤ scripted_commits by deck.script = sum_by-take-le (λ part. cond (is_commit_by by part) 1 0) deck.script (p + 1) in
    let given : seq < length (updates_by deck by) = omega (arith, number, more, all, fits by) in
    record {
      number = number ∙ sym (counts_same deck by p (omega arith));
      given = slice_get-get_or (updates_by deck by) seq (record { reads = []; writes = [] }) given ∙ ap Some (sym is.update);
    }
