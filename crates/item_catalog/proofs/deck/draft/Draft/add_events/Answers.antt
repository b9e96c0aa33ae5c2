use Rattle.std.proofs.Common.{◌≡◌, ◌∙◌, ◌++◌, List, ℕ, Option, None, Some, Ok, Bool, true, false, [], ap, drop, get_or, length, nat_lt, refl, sym, cond}
use Rattle.csv.specs.Records.{fields_of}
use Rattle.air_base.specs.declared.limits.TheConstants.{MOST_UPDATERS}
use Rattle.air_base.specs.NumberLists.{list_of}
use Rattle.air_history.specs.UpdateLists.{UpdateLists}
use Rattle.air_model.specs.Decks.{scripted_commits}
use Rattle.item_catalog.specs.RecordKinds.{with_spelled}
use Rattle.item_catalog.specs.Private.Drafts.{DraftValue, record_kind, with_declaration}
use Rattle.item_catalog.specs.Declarations as e
use Rattle.item_catalog.specs.Declarations.{script_by}
use Rattle.item_catalog.specs.Faults.{script_passes, some_below}
use Rattle.item_catalog.specs.Fields.{spelled_event}
use Rattle.item_catalog.specs.declared.faults.FaultKind.TheVariants as fault
use Rattle.air_base.specs.Parts.{one_of}
use Rattle.item_catalog.proofs.DeclarationLemmas.{events_are, script_spelled}
use Rattle.item_catalog.proofs.deck.draft.Draft.add_events.Goals as goal
use Rattle.item_catalog.proofs.deck.draft.Draft.add_events.Goals.{After-overdraws}

-- The events that were read, which pass no limit, and what the counts say of them.
record Events (c : After-overdraws) : Type 0 where
  events : List (Option ℕ)
  spelled : script_by (one_of (drop 1 (fields_of c.args.fields.now))) ≡ Ok (e.DeclaredScript events)
  within : script_passes c.args.self.now.script events ≡ false
  added : c.read.new.self ≡ c.args.self.now.script ++ events
  told : c.overdraws.result ≡ some_below MOST_UPDATERS (λ by. nat_lt (length (get_or c.args.self.now.updates by [])) (scripted_commits by (c.args.self.now.script ++ events)))

read_events : (c : After-overdraws) → Events c
read_events c =
    let script : c.self.inside.script ≡ c.args.self.now.script = ap (λ (d : DraftValue). d.script) c.self.view_is in
    let updates : c.self.inside.updates.items ≡ c.args.self.now.updates = ap (λ (d : DraftValue). d.updates) c.self.view_is in
    let some : c.in_ok-read.field-0 ≡ Some false = c.in-Some-false.is ∙ ap Some c.in-Some-false.field-0-test in
    let r = events_are false (list_of spelled_event c.in-Some.events.now) c.self.inside.script c.read.new.self (rw some at c.in_ok-read.ensures) in
    let within : script_passes c.args.self.now.script r.0 ≡ false = ap (λ s. script_passes s r.0) (sym script) ∙ sym r.2 in
    let added : c.read.new.self ≡ c.args.self.now.script ++ r.0 = r.3 (sym r.2) ∙ ap (λ s. s ++ r.0) script in
    record {
      events = r.0;
      spelled = script_spelled (one_of (drop 1 (fields_of c.args.fields.now))) c.in-Some.events.now r.0 c.in-Some.ensures r.1;
      within = within;
      added = added;
      told = c.overdraws.ensures ∙ ap (λ (u : List (List UpdateLists)). some_below MOST_UPDATERS (λ by. nat_lt (length (get_or u by [])) (scripted_commits by c.read.new.self))) (c.deref.ensures.value ∙ updates)
          ∙ ap (λ s. some_below MOST_UPDATERS (λ by. nat_lt (length (get_or c.args.self.now.updates by [])) (scripted_commits by s))) added;
    }

abbrev with_script : DraftValue → List (Option ℕ) → DraftValue
with_script d script = record d { script = script }

judged_by : (d : DraftValue) (events : List (Option ℕ)) (b : Bool) → script_passes d.script events ≡ false
    → b ≡ some_below MOST_UPDATERS (λ by. nat_lt (length (get_or d.updates by [])) (scripted_commits by (d.script ++ events))) → record_kind d (Ok (e.DeclaredScript events)) ≡ cond b (Some fault.Overdrawn) None
judged_by d events b within over = rw (within, ← over) refl

pub returns-then-overdraws : goal.returns-then-overdraws
returns-then-overdraws c =
    let a = (goal.at.returns-then-overdraws c).After-overdraws in let r = read_events a in
    ap (record_kind c.args.self.now) r.spelled ∙ judged_by c.args.self.now r.events true r.within (sym c.if-overdraws.true ∙ r.told)

pub returns : goal.returns
returns c =
    let a = (goal.at.returns c).After-overdraws in let r = read_events a in (
      ap (record_kind c.args.self.now) r.spelled ∙ judged_by c.args.self.now r.events false r.within (sym c.if-overdraws.false ∙ r.told),
      ap (λ (d : DraftValue). with_script d c.read.new.self) c.self.view_is ∙ ap (with_script c.args.self.now) r.added ∙ sym (ap (with_spelled with_declaration c.args.self.now) r.spelled),
    )
