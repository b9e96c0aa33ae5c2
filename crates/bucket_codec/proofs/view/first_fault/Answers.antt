use Rattle.std.proofs.Common.{arith, rules, inl, inr, sym, ◌∙◌}
use Rattle.bucket_codec.proofs.FaultLemmas.{fault_kind, fault_length, fault_magic, no_fault, fault_shape, fault_short, fault_version}
use Rattle.bucket_codec.proofs.view.first_fault.Goals as goal
use Rattle.bucket_codec.proofs.view.first_fault.Goals.{then-bytes-ne65-via-then-bytes-ne65, then-bytes-ne65-via-else-bytes-ne65+then-bytes-ne68}

pub returns-then-bytes-lt-HEAD_BYTES : goal.returns-then-bytes-lt-HEAD_BYTES
returns-then-bytes-lt-HEAD_BYTES c = sym (fault_short c.args.bytes.now (omega arith))

pub returns-then-bytes-ne65 : goal.returns-then-bytes-ne65
returns-then-bytes-ne65 c =
    elim c.then-bytes-ne65.branch [
      | then-bytes-ne65-via-then-bytes-ne65 w ↦ sym (fault_magic c.args.bytes.now (omega arith) (inl (search rules)))
      | then-bytes-ne65-via-else-bytes-ne65+then-bytes-ne68 w ↦ sym (fault_magic c.args.bytes.now (omega arith) (inr (search rules)))
    ]

pub returns-then-not-is_version : goal.returns-then-not-is_version
returns-then-not-is_version c = sym (fault_version c.args.bytes.now (omega arith) (search rules) (search rules) (sym c.is_version.ensures ∙ c.if-not-is_version.true))

pub returns-then-kind-gt2 : goal.returns-then-kind-gt2
returns-then-kind-gt2 c = sym (fault_kind c.args.bytes.now (omega arith) (search rules) (search rules) (sym c.is_version.ensures ∙ c.if-not-is_version.false) (search rules))

pub returns-then-bytes-entry_size : goal.returns-then-bytes-entry_size
returns-then-bytes-entry_size c =
    sym
    (fault_length c.args.bytes.now (omega arith) (search rules) (search rules) (sym c.is_version.ensures ∙ c.if-not-is_version.false) (search rules)
    c.entry_size.result c.entries-n.result (search rules) (search rules) (search rules))

pub returns-then-not-has_shape : goal.returns-then-not-has_shape
returns-then-not-has_shape c =
    sym
    (fault_shape c.args.bytes.now (omega arith) (search rules) (search rules) (sym c.is_version.ensures ∙ c.if-not-is_version.false) (search rules)
    c.entry_size.result c.entries-n.result (search rules) (search rules) (search rules) (search rules))

pub returns : goal.returns
returns c =
    sym
    (no_fault c.args.bytes.now (omega arith) (search rules) (search rules) (sym c.is_version.ensures ∙ c.if-not-is_version.false) (search rules)
    c.entry_size.result c.entries-n.result (search rules) (search rules) (search rules) (search rules))
