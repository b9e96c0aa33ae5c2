-- What the last write of an item before a cycle tells: the read's origin and its value.
use Rattle.std.proofs.Common.{◌≡◌, ℕ, zero, suc, ◌+◌, ◌-◌, ◌<◌, ◌≤◌, Bool, true, false, cond, ◌==◌, Option, Some, None, List, [], ◌∷◌, ◌++◌, length, get_or, take, refl, sym, ◌∙◌, ap, subst, inl, inr, arith, add-one, zero-add}
use Rattle.std.proofs.lemmas.Bool.{cases_eq, eq-eqb, ne_eqb}
use Rattle.std.proofs.lemmas.List.{append-nil, length_push, length-append, get_or_push, get_or_append_left}
use Rattle.air_history.specs.declared.histories.Event.{Event}
use Rattle.air_history.specs.Histories.{writes, event_at, front, writer_before}
use Rattle.air_history.specs.Reads.{origin, read_value}
use Rattle.air_history.specs.Tables.{table, values_of}
use Rattle.air_history.proofs.HistoryLemmas.{front_prefix, front_within}
use Rattle.air_history.proofs.OriginLemmas.{origin_whole}
use Rattle.air_history.proofs.ScanLemmas.{writer_before_none}
use Rattle.air_history.proofs.TableLemmas.{table_nil, table_push}
use Rattle.air_history.proofs.AloneLemmas.{not_written}
use Rattle.live_replay.specs.declared.writes.ItemWrite.{ItemWrite}
use Rattle.live_replay.specs.Findings.{read_in_cycle}
use Rattle.live_replay.specs.Private.Writes.{count_at, write_at, writes_from}
use Rattle.live_replay.proofs.WriteLemmas.{before_next, no_places, one_more, split_writes, take_next}

module _ (V : List ℕ) (H : List Event) (i : ℕ) where
  -- The writes of the item before place n.
  abbrev pub item_writes : ℕ → List ItemWrite
  item_writes n = writes_from V H i 0 n

  pub written_next : (n : ℕ) → item_writes (n + 1) ≡ item_writes n ++ cond (writes (event_at H n) i) (write_at V H i n ∷ []) []
  written_next n = one_more V H i 0 n ∙ ap (λ p. item_writes n ++ cond (writes (event_at H p) i) (write_at V H i p ∷ []) []) (zero-add n)

  -- Writes end with that of the last writer. If there is no last writer, there are no writes.
  abbrev pub EndWith : Option ℕ → List ItemWrite → Type 0
  EndWith None ws = ws ≡ []
  EndWith (Some w) ws = ws ≡ item_writes w ++ write_at V H i w ∷ []

  end_with : (n : ℕ) → EndWith (writer_before H n i) (item_writes n)
  end_with zero = subst (λ o. EndWith o (item_writes 0)) (sym (writer_before_none H i)) (no_places V H i 0)
  end_with (suc n) = subst (λ k. EndWith (writer_before H k i) (item_writes k)) (add-one n)
      (subst (λ o. EndWith o (item_writes (n + 1))) (sym (before_next H n i)) (more (writes (event_at H n) i) (writer_before H n i) refl (end_with n)))
    where
      more : (b : Bool) (o : Option ℕ) → writes (event_at H n) i ≡ b → EndWith o (item_writes n) → EndWith (cond b (Some n) o) (item_writes (n + 1))
      more true o e rest = written_next n ∙ ap (λ b. item_writes n ++ cond b (write_at V H i n ∷ []) []) e
      more false None e rest = written_next n ∙ ap (λ b. item_writes n ++ cond b (write_at V H i n ∷ []) []) e ∙ append-nil (item_writes n) ∙ rest
      more false (Some w) e rest = written_next n ∙ ap (λ b. item_writes n ++ cond b (write_at V H i n ∷ []) []) e ∙ append-nil (item_writes n) ∙ rest

  pub ends : (n : ℕ) (o : Option ℕ) → writer_before H n i ≡ o → EndWith o (item_writes n)
  ends n o e = subst (λ o. EndWith o (item_writes n)) e (end_with n)

  -- The value that a place left, or the first one.
  abbrev value_left_by : Option ℕ → ℕ
  value_left_by None = values_of V i
  value_left_by (Some w) = table (values_of V) (take (w + 1) H) i

  value_left : (n : ℕ) → n ≤ length H → table (values_of V) (take n H) i ≡ value_left_by (writer_before H n i)
  value_left zero l = table_nil (values_of V) i ∙ ap value_left_by (sym (writer_before_none H i))
  value_left (suc n) l =
      let e : suc n ≡ n + 1 = sym (add-one n) in
      ap (λ k. table (values_of V) (take k H) i) e ∙ more (writes (event_at H n) i) refl (value_left n (omega arith)) ∙ ap value_left_by (sym (before_next H n i)) ∙ ap (λ k. value_left_by (writer_before H k i)) (sym e)
    where
      more : (b : Bool) → writes (event_at H n) i ≡ b → table (values_of V) (take n H) i ≡ value_left_by (writer_before H n i) → table (values_of V) (take (n + 1) H) i ≡ value_left_by (cond b (Some n) (writer_before H n i))
      more true e rest = refl
      more false e rest =
          ap (λ G. table (values_of V) G i) (take_next H n (omega arith)) ∙ table_push (values_of V) (take n H) (event_at H n) i
          ∙ not_written (table (values_of V) (take n H)) (event_at H n) i e ∙ rest

  -- The number of writes before a cycle.
  abbrev count_before : ℕ → ℕ
  count_before c = count_at V H i c

  pub count_within : (c : ℕ) → count_before c ≤ length (item_writes (length H))
  count_within c =
      let whole : length H ≡ length (front H c) + (length H - length (front H c)) = omega (arith, front_within H c) in
      omega (arith, ap (λ n. length (item_writes n)) whole, ap length (split_writes V H i 0 (length (front H c)) (length H - length (front H c))), length-append (item_writes (length (front H c))) (writes_from V H i (0 + length (front H c)) (length H - length (front H c))))

  none_before : (c : ℕ) → count_before c ≡ 0 → writer_before H (length (front H c)) i ≡ None
  none_before c e = none (writer_before H (length (front H c)) i) refl
    where
      none : (o : Option ℕ) → writer_before H (length (front H c)) i ≡ o → writer_before H (length (front H c)) i ≡ None
      none None f = f
      none (Some w) f = absurd (let len = length_push (item_writes w) (write_at V H i w) in let same = ap length (ends (length (front H c)) (Some w) f) in omega arith)

  -- What a read's origin is, by the writes before its cycle.
  origin_at : (c : ℕ) → origin H (read_in_cycle i c) ≡ writer_before H (length (front H c)) i
  origin_at c = origin_whole H (read_in_cycle i c)

  -- There is no origin if there are no writes before the cycle.
  pub no_origin : (c : ℕ) → count_before c ≡ 0 → origin H (read_in_cycle i c) ≡ None
  no_origin c e = origin_at c ∙ none_before c e

  value_at : (c : ℕ) → read_value (values_of V) H (read_in_cycle i c) ≡ value_left_by (writer_before H (length (front H c)) i)
  value_at c = ap (λ G. table (values_of V) G i) (front_prefix H c) ∙ value_left (length (front H c)) (front_within H c)

  -- If nothing was written, the read has the catalog's value.
  pub none_written : (c : ℕ) → count_before c ≡ 0 → read_value (values_of V) H (read_in_cycle i c) ≡ values_of V i
  none_written c e = value_at c ∙ ap value_left_by (none_before c e)

  -- Else the last write before the cycle is the origin's, and has left the read's value.
  last_write : (c : ℕ) (d : ItemWrite) → 0 < count_before c → (w : ℕ) × (writer_before H (length (front H c)) i ≡ Some w) × (get_or (item_writes (length H)) (count_before c - 1) d ≡ write_at V H i w)
  last_write c d pos = some (writer_before H m i) refl
    where
      m : ℕ
      m = length (front H c)

      whole : item_writes (length H) ≡ item_writes m ++ writes_from V H i (0 + m) (length H - m)
      whole = let e : length H ≡ m + (length H - m) = omega (arith, front_within H c) in ap item_writes e ∙ split_writes V H i 0 m (length H - m)

      some : (o : Option ℕ) → writer_before H m i ≡ o → (w : ℕ) × (writer_before H m i ≡ Some w) × (get_or (item_writes (length H)) (count_before c - 1) d ≡ write_at V H i w)
      some None f = absurd (let same = ap length (ends m None f) in omega arith)
      some (Some w) f =
          let tail = ends m (Some w) f in
          let len : count_before c ≡ length (item_writes w) + 1 = ap length tail ∙ length_push (item_writes w) (write_at V H i w) in
          let at : get_or (item_writes (length H)) (count_before c - 1) d ≡ write_at V H i w =
          ap (λ ws. get_or ws (count_before c - 1) d) whole ∙ get_or_append_left (item_writes m) (writes_from V H i (0 + m) (length H - m)) d (count_before c - 1) (omega arith)
          ∙ ap (λ ws. get_or ws (count_before c - 1) d) tail ∙ get_or_push (item_writes w) (write_at V H i w) d (count_before c - 1) (omega arith) in
          (w, f, at)

  pub last_written : (c : ℕ) (d : ItemWrite) → 0 < count_before c → read_value (values_of V) H (read_in_cycle i c) ≡ (get_or (item_writes (length H)) (count_before c - 1) d).value
  unfolding write_at
  last_written c d pos = let last = last_write c d pos in value_at c ∙ ap value_left_by last.1 ∙ ap (λ (w : ItemWrite). w.value) (sym last.2)

  pub last_origin : (c : ℕ) (d : ItemWrite) → 0 < count_before c → origin H (read_in_cycle i c) ≡ Some (get_or (item_writes (length H)) (count_before c - 1) d).place
  unfolding write_at
  last_origin c d pos = let last = last_write c d pos in origin_at c ∙ last.1 ∙ ap (λ (w : ItemWrite). Some w.place) (sym last.2)

  -- So the last of the writes before the cycle is the origin.
  pub origin_of : (c n : ℕ) (d : ItemWrite) → n ≡ count_before c → cond (n == 0) None (Some (get_or (item_writes (length H)) (n - 1) d).place) ≡ origin H (read_in_cycle i c)
  origin_of c n d e = elim (cases_eq n 0) as (λ _. cond (n == 0) None (Some (get_or (item_writes (length H)) (n - 1) d).place) ≡ origin H (read_in_cycle i c)) [
    | inl none ↦ ap (λ b. cond b None (Some (get_or (item_writes (length H)) (n - 1) d).place)) (eq-eqb n 0 none) ∙ sym (no_origin c (sym e ∙ none))
    | inr some ↦ ap (λ b. cond b None (Some (get_or (item_writes (length H)) (n - 1) d).place)) (ne_eqb n 0 some)
        ∙ ap (λ (k : ℕ). Some (get_or (item_writes (length H)) (k - 1) d).place) e ∙ sym (last_origin c d (omega arith))
  ]
