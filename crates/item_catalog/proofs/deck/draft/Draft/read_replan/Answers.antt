use Rattle.std.proofs.Common.{◌≡◌, ◌∙◌, ◌++◌, ◌∷◌, [], List, Option, ℕ, None, Ok, Bool, false, ap, drop, length, refl, sym, arith}
use Rattle.std.specs.Prelude.{◌||◌}
use Rattle.std.specs.List.{list_any}
use Rattle.csv.specs.Records.{fields_of}
use Rattle.air_base.specs.Numbers.{number_of}
use Rattle.air_base.specs.NumberLists.{list_of}
use Rattle.air_base.specs.Parts.{three_of}
use Rattle.air_base.specs.declared.limits.TheConstants.{MOST_FREQ, MOST_SIZE}
use Rattle.item_catalog.specs.Declarations as e
use Rattle.item_catalog.specs.Declarations.{replan_by}
use Rattle.item_catalog.specs.Faults.{replan_tests}
use Rattle.item_catalog.specs.Fields.{freq_of}
use Rattle.item_catalog.specs.ListTests.{option_any}
use Rattle.item_catalog.specs.Parts.{ReplanSaid, disks_said}
use Rattle.item_catalog.specs.Private.Drafts.{DraftValue, record_kind, with_declaration}
use Rattle.item_catalog.specs.Private.ReplanLists.{kept_parts}
use Rattle.item_catalog.specs.Ranges.{outside}
use Rattle.item_catalog.specs.RecordKinds.{first_of, with_spelled}
use Rattle.item_catalog.specs.declared.parts.DiskPart.{DiskPart}
use Rattle.item_catalog.proofs.ReplanLemmas.{all_kept, parts_are, replan_seen, replan_spelled, replan_tested, said_len, seen_same}
use Rattle.item_catalog.proofs.deck.draft.Draft.read_replan.Goals as goal
use Rattle.item_catalog.proofs.deck.draft.Draft.read_replan.Goals.{After-replan_kind, else-wrong_size, then-wrong_size}

-- The lists that were read, what was kept of them, and what the tests say of them.
record Lists (c : After-replan_kind) : Type 0 where
  ss : List ℕ
  fs : List (Option ℕ)
  spelled : replan_by (three_of (drop 1 (fields_of c.args.fields.now))) ≡ Ok (e.DeclaredReplan c.in-Some-read_u64.cycle ss fs)
  sizes : list_any (outside 1 MOST_SIZE) ss ≡ false → c.read_sizes.new.sizes.items ≡ kept_parts ss
  freqs : list_any (option_any (outside 1 MOST_FREQ)) fs ≡ false → c.read_freqs.new.freqs.items ≡ kept_parts fs
  told : c.replan_kind.result ≡ first_of (replan_tests (length c.args.self.now.replans) c.args.self.now.last_replan_cycle c.in-Some-read_u64.cycle ss fs)

either : (c : After-replan_kind) → c.if-wrong_size.wrong ≡ (c.in-Some-2.wrong_size || c.in-Some-3.wrong_freq)
either c = elim c.if-wrong_size.branch as (λ _. c.if-wrong_size.wrong ≡ (c.in-Some-2.wrong_size || c.in-Some-3.wrong_freq)) [
  | then-wrong_size w ↦ w.wrong-is ∙ rw w.if-wrong_size.true refl
  | else-wrong_size w ↦ w.wrong-is ∙ rw w.if-wrong_size.false refl
]

both_same : {a b p q : Bool} → a ≡ p → b ≡ q → (a || b) ≡ (p || q)
both_same e f = rw (e, f) refl

lists : (c : After-replan_kind) → Lists c
lists c =
    let cycle = c.in-Some-read_u64.cycle in let d = c.args.self.now in
    let s = parts_are (outside 1 MOST_SIZE) c.in-Some-2.wrong_size (list_of number_of c.in-Some.sizes.now) c.read_sizes.new.sizes.items (rw c.in-Some-2.is at c.in_ok-wrong_size.ensures) in
    let f = parts_are (option_any (outside 1 MOST_FREQ)) c.in-Some-3.wrong_freq (list_of freq_of c.in-Some.freqs.now) c.read_freqs.new.freqs.items (rw c.in-Some-3.is at c.in_ok-wrong_freq.ensures) in
    let wrong : c.if-wrong_size.wrong ≡ (list_any (outside 1 MOST_SIZE) s.0 || list_any (option_any (outside 1 MOST_FREQ)) f.0) = either c ∙ both_same s.2 f.2 in
    let replans : c.len.result ≡ length d.replans = omega (arith, c.len.ensures, ap (λ (d : DraftValue). length d.replans) c.self.view_is) in
    let last : c.self.inside.last_replan_cycle ≡ d.last_replan_cycle = ap (λ (d : DraftValue). d.last_replan_cycle) c.self.view_is in
    let sizes : c.len-2.result ≡ length c.read_sizes.new.sizes.items = omega (arith, c.len-2.ensures) in
    let freqs : c.len-3.result ≡ length c.read_freqs.new.freqs.items = omega (arith, c.len-3.ensures) in
    record {
      ss = s.0;
      fs = f.0;
      spelled = replan_spelled (three_of (drop 1 (fields_of c.args.fields.now))) c.in-Some.cycle.now c.in-Some.sizes.now c.in-Some.freqs.now cycle s.0 f.0 c.in-Some.ensures (sym c.in-Some-read_u64.ensures) s.1 f.1;
      sizes = s.3;
      freqs = f.3;
      told = c.replan_kind.ensures ∙ seen_same cycle wrong replans last sizes freqs
          ∙ replan_seen (length d.replans) d.last_replan_cycle cycle s.0 f.0 c.read_sizes.new.sizes.items c.read_freqs.new.freqs.items s.3 f.3;
    }

pub returns-in-Some-replan_kind-clause-read : goal.returns-in-Some-replan_kind-clause-read
returns-in-Some-replan_kind-clause-read c =
    let l = lists (goal.at.returns-in-Some-replan_kind-clause-read c).After-replan_kind in
    ap (record_kind c.args.self.now) l.spelled ∙ sym l.told ∙ c.in-Some-replan_kind.is

abbrev replan_of : ℕ → List DiskPart → ReplanSaid
replan_of cycle disks = record { cycle = cycle; disks = disks }

abbrev with_replan : DraftValue → ReplanSaid → DraftValue
with_replan d read = record d { replans = d.replans ++ read ∷ []; last_replan_cycle = read.cycle }

-- If no kind was found, none applies, and both lists were kept whole.
none_told : (c : After-replan_kind) (l : Lists c) → c.replan_kind.result ≡ None → first_of (replan_tests (length c.args.self.now.replans) c.args.self.now.last_replan_cycle c.in-Some-read_u64.cycle l.ss l.fs) ≡ None
none_told c l none = sym l.told ∙ none

kept_whole : (c : After-replan_kind) (l : Lists c) → c.replan_kind.result ≡ None → (c.read_sizes.new.sizes.items ≡ l.ss) × (c.read_freqs.new.freqs.items ≡ l.fs)
kept_whole c l none =
    all_kept (length c.args.self.now.replans) c.args.self.now.last_replan_cycle c.in-Some-read_u64.cycle l.ss l.fs c.read_sizes.new.sizes.items c.read_freqs.new.freqs.items l.sizes l.freqs (none_told c l none)

pub returns-clause-read : goal.returns-clause-read
returns-clause-read c =
    let a = (goal.at.returns-clause-read c).After-replan_kind in let l = lists a in let d = c.args.self.now in
    let kept = kept_whole a l c.in_default-replan_kind.is in
    let disks : c.in_ok-disks.disks.items ≡ disks_said l.ss l.fs =
    c.in_ok-disks.ensures ∙ ap (λ ss. disks_said ss c.deref-2.result.now) (c.deref.ensures.value ∙ kept.0) ∙ ap (λ fs. disks_said l.ss fs) (c.deref-2.ensures.value ∙ kept.1) in
    let made : c.new.result ≡ replan_of c.in-Some-read_u64.cycle (disks_said l.ss l.fs) = c.new.ensures ∙ ap (replan_of c.in-Some-read_u64.cycle) disks in (
      ap (record_kind d) l.spelled ∙ none_told a l c.in_default-replan_kind.is,
      ap (with_spelled with_declaration d) l.spelled ∙ sym (ap (with_replan d) made),
    )

pub returns-clause-few : goal.returns-clause-few
returns-clause-few c =
    let a = (goal.at.returns-clause-few c).After-replan_kind in let l = lists a in
    let kept = kept_whole a l c.in_default-replan_kind.is in
    let t = replan_tested (length c.args.self.now.replans) c.args.self.now.last_replan_cycle c.in-Some-read_u64.cycle l.ss l.fs (none_told a l c.in_default-replan_kind.is) in
    let few = t.few_disks in
    let disks : c.in_ok-disks.disks.items ≡ disks_said l.ss l.fs =
    c.in_ok-disks.ensures ∙ ap (λ ss. disks_said ss c.deref-2.result.now) (c.deref.ensures.value ∙ kept.0) ∙ ap (λ fs. disks_said l.ss fs) (c.deref-2.ensures.value ∙ kept.1) in
    omega (arith, ap (λ (r : ReplanSaid). length r.disks) c.new.ensures, ap length disks, said_len l.ss l.fs t.lengths)
