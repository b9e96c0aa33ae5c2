use Rattle.std.proofs.Common.{◌≡◌, ◌∙◌, Some, Result, Ok, Err, List, ℕ, false, length, ap, sym, subst, arith}
use Rattle.std.specs.Prelude.{OnOk}
use Rattle.std.specs.Result.{is_err, result_ok}
use Rattle.std.proofs.lemmas.List.Elements.{All-cons, All-nil}
use Rattle.air_model.specs.Buckets.{Bucket, bucket_in}
use Rattle.air_model.specs.Tapes.{TapeRead}
use Rattle.air_index.specs.IndexedTapes.{AreBuckets}
use Rattle.program_cases.proofs.indexes.count_buckets.Goals as goal

-- The bytes are a bucket.
abbrev IsRead : List ℕ → Type 0
IsRead r = (b : Bucket) × (bucket_in r ≡ Some b)

-- A clause about Ok holds where the result is no error.
from_ok : {T E : Type 0} (r : Result T E) (P : Type 0) → is_err r ≡ false → OnOk r P → P
from_ok (Ok x) P fine holds = holds
from_ok (Err e) P fine holds = cc

pub loop-bytes-init : goal.loop-bytes-init
loop-bytes-init c = record {
  whole = ap (λ (t : TapeRead). t.cut) c.new-records.ensures ∙ from_ok c.check_tape.result _ (sym c.is_err.ensures.value ∙ c.if-is_err.false) c.check_tape.ensures.whole;
  counted = (let all = ap (λ (t : TapeRead). length t.records) c.new-records.ensures in omega arith);
  grammar = subst AreBuckets (ap (λ (t : TapeRead). t.records) c.new-records.ensures);
}

pub loop-bytes-preserved : goal.loop-bytes-preserved
loop-bytes-preserved c =
    let i = c.loop-bytes.invariant in
    let front = ap (λ (t : TapeRead). t.records) c.in-Some.ensures in
    record {
      whole = sym (ap (λ (t : TapeRead). t.cut) c.in-Some.ensures) ∙ i.whole;
      counted = (let more = ap length front in let before = i.counted in omega arith);
      grammar = λ rest. i.grammar (subst AreBuckets (sym front) (All-cons IsRead c.in-Some.bytes.now c.next_whole.new.self.records (c.in-Ok._bucket, sym (ap result_ok c.in-Ok.ensures.reading)) rest));
    }

pub returns-clause-counted : goal.returns-clause-counted
returns-clause-counted c =
    let none = ap (λ (t : TapeRead). length t.records) c.in_default.ensures.0 in
    let all = c.loop-bytes.invariant.counted in
    omega arith

pub returns-clause-grammar : goal.returns-clause-grammar
returns-clause-grammar c = c.loop-bytes.invariant.grammar (subst AreBuckets (sym (ap (λ (t : TapeRead). t.records) c.in_default.ensures.0)) (All-nil IsRead))
