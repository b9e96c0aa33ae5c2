use Rattle.std.proofs.Common.{◌≡◌, ◌∙◌, List, ℕ, None, Some, Ok, Result, ap, drop, length, sym, arith}
use Rattle.csv.specs.Records.{fields_of}
use Rattle.air_base.specs.Numbers.{number_of}
use Rattle.air_base.specs.NumberLists.{list_of}
use Rattle.air_history.specs.declared.updates.Write.{Write}
use Rattle.air_history.specs.UpdateLists.{UpdateLists}
use Rattle.air_history.specs.UpdateRules.{update_fault}
use Rattle.item_catalog.specs.declared.faults.FaultKind.{FaultKind}
use Rattle.item_catalog.specs.Private.Drafts.{DraftValue, record_kind}
use Rattle.item_catalog.specs.Declarations as e
use Rattle.item_catalog.specs.Declarations.{Declaration, update_by}
use Rattle.item_catalog.specs.RecordKinds.{first_of}
use Rattle.item_catalog.specs.Faults.{update_tests}
use Rattle.air_base.specs.Parts.{three_of}
use Rattle.item_catalog.specs.Writes.{spelled_write}
use Rattle.item_catalog.specs.KeptLists.{ItemsSeen, WritesSeen, items_seen, writes_seen}
use Rattle.item_catalog.specs.Private.ListKinds.{seen_update_kind}
use Rattle.item_catalog.proofs.DeclarationLemmas.{read_is_some, rules_kept, update_spelled, writes_signed}
use Rattle.item_catalog.proofs.WriteLemmas.{update_kept, update_seen}
use Rattle.item_catalog.proofs.deck.draft.Draft.read_update.Goals as goal
use Rattle.item_catalog.proofs.deck.draft.Draft.read_update.Goals.{After-update_kind}

-- The lists that were read, and what the tests say of them.
record Lists (c : After-update_kind) : Type 0 where
  rs : List ℕ
  ws : List Write
  spelled : update_by (three_of (drop 1 (fields_of c.args.fields.now))) ≡ Ok (e.DeclaredUpdate c.in-Some-read_u64.by rs ws)
  listed : list_of spelled_write c.in-Some.writes.now ≡ Some ws
  reads : c.read.new.self ≡ items_seen (length c.args.self.now.items) rs
  writes : c.read-2.new.self ≡ writes_seen (length c.args.self.now.items) (items_seen (length c.args.self.now.items) rs).items ws
  told : c.update_kind.result ≡ first_of (update_tests (length c.args.self.now.items) c.args.self.now.update_count c.in-Some-read_u64.by rs ws)

lists : (c : After-update_kind) → Lists c
lists c =
    let r = read_is_some c.read.result (list_of number_of c.in-Some.reads.now) (λ items. c.read.new.self ≡ items_seen c.len-declared.result items) c.read.ensures.read c.if-not-read.false in
    let w = read_is_some c.read-2.result (list_of spelled_write c.in-Some.writes.now) (λ writes. c.read-2.new.self ≡ writes_seen c.len-declared.result c.read.new.self.items writes) c.read-2.ensures.read c.if-not-read-2.false in
    let by = c.in-Some-read_u64.by in let n = length c.args.self.now.items in
    let same : c.len-declared.result ≡ n = omega (arith, c.len-declared.ensures, ap (λ (d : DraftValue). length d.items) c.self.view_is) in
    let reads : c.read.new.self ≡ items_seen n r.0 = r.2 ∙ ap (λ k. items_seen k r.0) same in
    let writes : c.read-2.new.self ≡ writes_seen n (items_seen n r.0).items w.0 = w.2 ∙ ap (λ k. writes_seen k c.read.new.self.items w.0) same ∙ ap (λ (s : ItemsSeen). writes_seen n s.items w.0) reads in
    let given : c.self.inside.update_count ≡ c.args.self.now.update_count = ap (λ (d : DraftValue). d.update_count) c.self.view_is in
    record {
      rs = r.0;
      ws = w.0;
      spelled = update_spelled (three_of (drop 1 (fields_of c.args.fields.now))) c.in-Some.by.now c.in-Some.reads.now c.in-Some.writes.now c.in-Some-read_u64.by r.0 w.0 c.in-Some.ensures (sym c.in-Some-read_u64.ensures) r.1 w.1;
      listed = w.1;
      reads = reads;
      writes = writes;
      told = c.update_kind.ensures ∙ ap (λ (s : ItemsSeen). seen_update_kind s c.read-2.new.self by c.self.inside.update_count) reads
          ∙ ap (λ (s : WritesSeen). seen_update_kind (items_seen n r.0) s by c.self.inside.update_count) writes ∙ ap (λ g. seen_update_kind (items_seen n r.0) (writes_seen n (items_seen n r.0).items w.0) by g) given
          ∙ update_seen n r.0 w.0 c.in-Some-read_u64.by c.args.self.now.update_count;
    }

pub returns-in-Some-update_kind-clause-read : goal.returns-in-Some-update_kind-clause-read
returns-in-Some-update_kind-clause-read c =
    let l = lists (goal.at.returns-in-Some-update_kind-clause-read c).After-update_kind in
    ap (record_kind c.args.self.now) l.spelled ∙ sym l.told ∙ c.in-Some-update_kind.is

-- An update of two lists, and what a record spells with it.
abbrev lists_of : List ℕ → List Write → UpdateLists
lists_of reads writes = record { reads = reads; writes = writes }

abbrev result_of : ℕ → UpdateLists → Result Declaration FaultKind
result_of by u = Ok (e.DeclaredUpdate by u.reads u.writes)

-- If no kind was found, none applies, and the lists that were kept are those of the record.
none_told : (c : After-update_kind) (l : Lists c) → c.update_kind.result ≡ None → first_of (update_tests (length c.args.self.now.items) c.args.self.now.update_count c.in-Some-read_u64.by l.rs l.ws) ≡ None
none_told c l none = sym l.told ∙ none

reads_kept : (c : After-update_kind) (l : Lists c) → c.update_kind.result ≡ None → c.read.new.self.items ≡ l.rs
reads_kept c l none = ap (λ (s : ItemsSeen). s.items) l.reads ∙ (update_kept (length c.args.self.now.items) l.rs l.ws c.in-Some-read_u64.by c.args.self.now.update_count (none_told c l none)).0

writes_kept : (c : After-update_kind) (l : Lists c) → c.update_kind.result ≡ None → c.read-2.new.self.writes ≡ l.ws
writes_kept c l none = ap (λ (s : WritesSeen). s.writes) l.writes ∙ (update_kept (length c.args.self.now.items) l.rs l.ws c.in-Some-read_u64.by c.args.self.now.update_count (none_told c l none)).1

pub of_lists-requires : goal.of_lists-requires
of_lists-requires c =
    let a = (goal.at.of_lists-requires c).After-update_kind in let l = lists a in
    ap (λ r. update_fault r c.writes.result.now) (c.items.ensures ∙ reads_kept a l c.in_default-update_kind.is) ∙ ap (λ w. update_fault l.rs w) (c.writes.ensures ∙ writes_kept a l c.in_default-update_kind.is)
    ∙ rules_kept (length c.args.self.now.items) c.in-Some-read_u64.by c.args.self.now.update_count l.rs l.ws (writes_signed c.in-Some.writes.now l.ws l.listed) (none_told a l c.in_default-update_kind.is)

pub returns-clause-read : goal.returns-clause-read
returns-clause-read c =
    let a = (goal.at.returns-clause-read c).After-update_kind in let l = lists a in
    let reads : c.items.result.now ≡ l.rs = c.items.ensures ∙ reads_kept a l c.in_default-update_kind.is in
    let writes : c.writes.result.now ≡ l.ws = c.writes.ensures ∙ writes_kept a l c.in_default-update_kind.is in
    let made : c.in_ok-update.update ≡ record { reads = l.rs; writes = l.ws } = c.in_ok-update.ensures ∙ ap (λ r. lists_of r c.writes.result.now) reads ∙ ap (λ w. lists_of l.rs w) writes in (
      ap (record_kind c.args.self.now) l.spelled ∙ none_told a l c.in_default-update_kind.is,
      l.spelled ∙ sym (ap (λ (u : UpdateLists). result_of c.in-Some-read_u64.by u) made),
    )
