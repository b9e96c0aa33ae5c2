use Rattle.std.proofs.Common.{◌≡◌, ◌∙◌, List, ℕ, Ok, Result, ap, drop, length, sym, arith}
use Rattle.csv.specs.Records.{fields_of}
use Rattle.air_base.specs.Numbers.{number_of}
use Rattle.air_base.specs.NumberLists.{list_of}
use Rattle.item_catalog.specs.declared.faults.FaultKind.{FaultKind}
use Rattle.item_catalog.specs.Private.Drafts.{DraftValue, record_kind}
use Rattle.item_catalog.specs.Declarations as e
use Rattle.item_catalog.specs.Declarations.{Declaration, query_by}
use Rattle.item_catalog.specs.RecordKinds.{first_of}
use Rattle.item_catalog.specs.Faults.{query_tests}
use Rattle.air_base.specs.Parts.{two_of}
use Rattle.item_catalog.specs.KeptLists.{ItemsSeen, items_seen}
use Rattle.item_catalog.specs.Private.ListKinds.{seen_query_kind}
use Rattle.item_catalog.proofs.DeclarationLemmas.{query_spelled, read_is_some}
use Rattle.item_catalog.proofs.WriteLemmas.{query_kept, query_seen}
use Rattle.item_catalog.proofs.deck.draft.Draft.read_query.Goals as goal
use Rattle.item_catalog.proofs.deck.draft.Draft.read_query.Goals.{After-query_kind}

-- The list that was read, and what the tests say of it.
record Asked (c : After-query_kind) : Type 0 where
  asked : List ℕ
  spelled : query_by (two_of (drop 1 (fields_of c.args.fields.now))) ≡ Ok (e.DeclaredQuery c.in-Some-read_u64.reader asked)
  seen : c.read.new.self ≡ items_seen (length c.args.self.now.items) asked
  told : c.query_kind.result ≡ first_of (query_tests (length c.args.self.now.items) (length c.args.self.now.readers) c.args.self.now.query_count c.in-Some-read_u64.reader asked)

list : (c : After-query_kind) → Asked c
list c =
    let reader = c.in-Some-read_u64.reader in let n = length c.args.self.now.items in
    let same : c.len-declared.result ≡ n = omega (arith, c.len-declared.ensures, ap (λ (d : DraftValue). length d.items) c.self.view_is) in
    let readers : c.len.result ≡ length c.args.self.now.readers = omega (arith, c.len.ensures, ap (λ (d : DraftValue). length d.readers) c.self.view_is) in
    let r = read_is_some c.read.result (list_of number_of c.in-Some.asked.now) (λ items. c.read.new.self ≡ items_seen c.len-declared.result items) c.read.ensures.read c.if-not-read.false in
    let seen : c.read.new.self ≡ items_seen n r.0 = r.2 ∙ ap (λ k. items_seen k r.0) same in
    let given : c.self.inside.query_count ≡ c.args.self.now.query_count = ap (λ (d : DraftValue). d.query_count) c.self.view_is in
    record {
      asked = r.0;
      spelled = query_spelled (two_of (drop 1 (fields_of c.args.fields.now))) c.in-Some.reader.now c.in-Some.asked.now reader r.0 c.in-Some.ensures (sym c.in-Some-read_u64.ensures) r.1;
      seen = seen;
      told = c.query_kind.ensures ∙ ap (λ (s : ItemsSeen). seen_query_kind s c.len.result reader c.self.inside.query_count) seen ∙ ap (λ k. seen_query_kind (items_seen n r.0) k reader c.self.inside.query_count) readers
          ∙ ap (λ g. seen_query_kind (items_seen n r.0) (length c.args.self.now.readers) reader g) given ∙ query_seen n r.0 (length c.args.self.now.readers) reader c.args.self.now.query_count;
    }

pub returns-in-Some-query_kind-clause-read : goal.returns-in-Some-query_kind-clause-read
returns-in-Some-query_kind-clause-read c =
    let l = list (goal.at.returns-in-Some-query_kind-clause-read c).After-query_kind in
    ap (record_kind c.args.self.now) l.spelled ∙ sym l.told ∙ c.in-Some-query_kind.is

abbrev result_of : ℕ → List ℕ → Result Declaration FaultKind
result_of reader asked = Ok (e.DeclaredQuery reader asked)

pub returns-clause-read : goal.returns-clause-read
returns-clause-read c =
    let a = (goal.at.returns-clause-read c).After-query_kind in let l = list a in
    let none = sym l.told ∙ c.in_default-query_kind.is in
    let kept = query_kept (length c.args.self.now.items) l.asked (length c.args.self.now.readers) c.in-Some-read_u64.reader c.args.self.now.query_count none in
    let items : c.from_vec.result ≡ l.asked = c.from_vec.ensures ∙ c.in_ok-items.ensures.items ∙ c.items.ensures ∙ ap (λ (s : ItemsSeen). s.items) l.seen ∙ kept in (
      ap (record_kind c.args.self.now) l.spelled ∙ none,
      l.spelled ∙ sym (ap (result_of c.in-Some-read_u64.reader) items),
    )
