-- What holds of the replans that declarations declare, with one more.
use Rattle.std.proofs.Common.{◌≡◌, ◌<◌, ◌≤◌, ◌∷◌, [], ℕ, zero, suc, List, Option, None, false, arith, length, nat_lt, length-append}
use Rattle.std.specs.Prelude.{All}
use Rattle.std.specs.List.{list_any}
use Rattle.std.proofs.lemmas.Bool.Decides.{nat_tests}
use Rattle.std.proofs.lemmas.List.Quantifiers.{all_pairs_push}
use Rattle.air_base.specs.declared.limits.TheConstants.{MOST_FREQ, MOST_SIZE}
use Rattle.item_catalog.specs.Declarations as e
use Rattle.item_catalog.specs.ListTests.{option_any}
use Rattle.item_catalog.specs.Parts.{ReplanSaid, disks_said}
use Rattle.item_catalog.specs.Private.Drafts.{DraftValue, draft_tests, with_declaration}
use Rattle.item_catalog.specs.Ranges.{outside}
use Rattle.item_catalog.specs.RecordKinds.{first_of}
use Rattle.item_catalog.proofs.DeclarationLemmas.{or_none}
use Rattle.item_catalog.proofs.KeptLemmas.{DiskKept, Kept, ReplanKept, all_push}
use Rattle.item_catalog.proofs.ReplanLemmas.{replan_tested, said_len}

-- Disks with right sizes and frequencies.
said_kept : (sizes : List ℕ) (freqs : List (Option ℕ)) → list_any (outside 1 MOST_SIZE) sizes ≡ false → list_any (option_any (outside 1 MOST_FREQ)) freqs ≡ false → All DiskKept (disks_said sizes freqs)
said_kept [] freqs one two k d below = absurd (omega arith)
said_kept (size ∷ sizes) [] one two k d below = absurd (omega arith)
said_kept (size ∷ sizes) (freq ∷ freqs) one two k d below =
    let s = or_none (outside 1 MOST_SIZE size) (list_any (outside 1 MOST_SIZE) sizes) one in
    let f = or_none (option_any (outside 1 MOST_FREQ) freq) (list_any (option_any (outside 1 MOST_FREQ)) freqs) two in
    at s.0 f.0 (said_kept sizes freqs s.1 f.1) k d below
  where
    at : outside 1 MOST_SIZE size ≡ false → option_any (outside 1 MOST_FREQ) freq ≡ false → All DiskKept (disks_said sizes freqs) → All DiskKept (record { size = size; freq = freq } ∷ disks_said sizes freqs)
    at s f more zero d below = let both = or_none (nat_lt size 1) (nat_lt MOST_SIZE size) s in record { some = grind (arith, nat_tests, both.0); few = grind (arith, nat_tests, both.1); freq = f }
    at s f more (suc k) d below = more k d (omega arith)

module _ (d : DraftValue) (k : Kept d) where
  pub kept_replan : (cycle : ℕ) (sizes : List ℕ) (freqs : List (Option ℕ)) → first_of (draft_tests d (e.DeclaredReplan cycle sizes freqs)) ≡ None → Kept (with_declaration d (e.DeclaredReplan cycle sizes freqs))
  kept_replan cycle sizes freqs none =
      let t = replan_tested (length d.replans) d.last_replan_cycle cycle sizes freqs none in
      let replan : ReplanSaid = record { cycle = cycle; disks = disks_said sizes freqs } in
      let few = t.few in let later = t.later in let few_disks = t.few_disks in
      record {
        items = k.items;
        disks = k.disks;
        replans = record {
          each = all_push ReplanKept d.replans replan k.replans.each (record {
            from_two = t.from_two;
            within_a_run = t.within_a_run;
            disks = record { each = said_kept sizes freqs t.sizes t.freqs; few = omega (arith, said_len sizes freqs t.lengths) };
          });
          few = omega (arith, length-append d.replans (replan ∷ []));
          rising = all_pairs_push (λ (a b : ReplanSaid). a.cycle < b.cycle) d.replans replan k.replans.rising (λ i x below. let low = k.replans.up_to_last i x below in omega arith);
          up_to_last = all_push (λ (r : ReplanSaid). r.cycle ≤ cycle) d.replans replan (λ i x below. let low = k.replans.up_to_last i x below in omega arith) (omega arith);
        };
        updates = k.updates;
        readers = k.readers;
        queries = k.queries;
        script = k.script;
        set = k.set;
      }
