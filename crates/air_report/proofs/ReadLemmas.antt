-- The place and the read that a text spells, by its leading digits.
--
-- `place_is` and `read_is` say what a text is that spells a place or a read, `place_made` and `read_made` that such a text spells one. `leading_is`
-- answers the reader of the first part, the others that of a whole place.
use Rattle.std.proofs.Common.{◌≡◌, ◌++◌, ◌∷◌, [], ℕ, List, Option, Some, None, Bool, true, false, cond, not, refl, sym, ap, ◌∙◌, append_assoc, nat_lt, arith}
use Rattle.std.specs.Prelude.{◌==◌, ◌^◌, drop}
use Rattle.std.specs.Char.{is_ascii_digit}
use Rattle.std.specs.List.{list_all}
use Rattle.std.proofs.lemmas.List.{append-nil}
use Rattle.std.proofs.lemmas.List.Folds.{list_all-append}
use Rattle.std.proofs.lemmas.Bool.Decides.{nat_tests}
use Rattle.air_base.specs.LeadingParts.{LeadingIs, after_digits, after_part, begins, behind, digits_of, first_part, is_no_space, leading_part}
use Rattle.air_base.specs.Numbers.{number_of}
use Rattle.air_base.specs.Parts.{parts_at, two_of}
use Rattle.air_base.specs.declared.verdicts.ReadOf.{ReadOf}
use Rattle.air_base.proofs.PartsAt.{Two, is_not, one_part, part_then, two_parts}
use Rattle.air_base.proofs.LeadingPartLemmas.{behind_past, leading_behind, leading_past}
use Rattle.air_base.proofs.LeadingNumberLemmas.{after_byte, all_such, part_with, spelled_digits}
use Rattle.item_catalog.specs.Spelled.{spelled_then}
use Rattle.air_report.specs.LineTexts.{below, short_of, spelled_item, spelled_place, spelled_read}
use Rattle.air_report.specs.Private.LeadingReads.{leading_place, leading_read}

-- ---- numbers

below_is : (bound : ℕ) (o : Option ℕ) (n : ℕ) → below bound o ≡ Some n → o ≡ Some n
below_is bound None n h = cc h
below_is bound (Some k) n h = by (nat_lt k bound) h
  where
    by : (b : Bool) → cond b (Some k) None ≡ Some n → Some k ≡ Some n
    by true h = h
    by false h = cc h

pub item_digits : (text : List ℕ) (n : ℕ) → spelled_item text ≡ Some n → list_all is_ascii_digit text ≡ true
unfolding spelled_item
item_digits text n h = spelled_digits text n (below_is (2 ^ 16) (number_of text) n h)

pub short_digits : (text : List ℕ) (n : ℕ) → short_of text ≡ Some n → list_all is_ascii_digit text ≡ true
unfolding short_of
short_digits text n h = spelled_digits text n (below_is (2 ^ 32) (number_of text) n h)

digit_is_not : (s : ℕ) → is_ascii_digit s ≡ false → (c : ℕ) → is_ascii_digit c ≡ true → is_not s c ≡ true
digit_is_not s other c digit = by (c == s) refl
  where
    by : (b : Bool) → (c == s) ≡ b → not b ≡ true
    by false e = refl
    by true e = let same : c ≡ s = grind (arith, nat_tests) in cc (ap is_ascii_digit same, other, digit)

digits_are_not : (s : ℕ) → is_ascii_digit s ≡ false → (a : List ℕ) → list_all is_ascii_digit a ≡ true → list_all (is_not s) a ≡ true
digits_are_not s other a digits = all_such is_ascii_digit (is_not s) (digit_is_not s other) a digits

-- ---- what a text is that spells a place or a read

-- A text is that of a place.
pub record PlaceText (text : List ℕ) (item cycle : ℕ) : Type 0 where
  pub first : List ℕ
  pub second : List ℕ
  pub text_is : text ≡ first ++ 64 ∷ second
  pub item_is : spelled_item first ≡ Some item
  pub cycle_is : short_of second ≡ Some cycle

pub place_is : (text : List ℕ) (p : ℕ × ℕ) → spelled_place text ≡ Some p → PlaceText text p.0 p.1
unfolding spelled_place
place_is text p h = by (two_of (parts_at 64 text)) (two_parts 64 text) h
  where
    both : (s : List ℕ × List ℕ) → Two 64 text (Some s) → (i c : Option ℕ) → spelled_item s.0 ≡ i → short_of s.1 ≡ c
        → ◌≡◌ {A = Option (ℕ × ℕ)} (spelled_then i λ item. spelled_then c λ cycle. Some (item, cycle)) (Some p) → PlaceText text p.0 p.1
    both s t None c ei ec h = cc h
    both s t (Some i) None ei ec h = cc h
    both s t (Some i) (Some c) ei ec h =
        let same : ◌≡◌ {A = ℕ × ℕ} (i, c) p = cc h in
        record { first = s.0; second = s.1; text_is = t; item_is = ei ∙ ap (λ (q : ℕ × ℕ). Some q.0) same; cycle_is = ec ∙ ap (λ (q : ℕ × ℕ). Some q.1) same }

    by : (sides : Option (List ℕ × List ℕ)) → Two 64 text sides
        → ◌≡◌ {A = Option (ℕ × ℕ)} (spelled_then sides λ s. spelled_then (spelled_item s.0) λ item. spelled_then (short_of s.1) λ cycle. Some (item, cycle)) (Some p) → PlaceText text p.0 p.1
    by None t h = cc h
    by (Some s) t h = both s t (spelled_item s.0) (short_of s.1) refl refl h

pub place_made : (a b : List ℕ) (item cycle : ℕ) → spelled_item a ≡ Some item → short_of b ≡ Some cycle → ◌≡◌ {A = Option (ℕ × ℕ)} (spelled_place (a ++ 64 ∷ b)) (Some (item, cycle))
unfolding spelled_place
place_made a b item cycle ha hb =
    rw (part_then 64 a b (digits_are_not 64 refl a (item_digits a item ha)), one_part 64 b (digits_are_not 64 refl b (short_digits b cycle hb)), ha, hb) refl

-- A text is that of a read.
pub record ReadText (text : List ℕ) (read : ReadOf) : Type 0 where
  pub first : List ℕ
  pub second : List ℕ
  pub third : List ℕ
  pub text_is : text ≡ first ++ 64 ∷ (second ++ 61 ∷ third)
  pub item_is : spelled_item first ≡ Some read.item
  pub cycle_is : short_of second ≡ Some read.cycle
  pub value_is : number_of third ≡ Some read.value

abbrev read_by : ℕ × ℕ → ℕ → ReadOf
read_by p value = record { item = p.0; cycle = p.1; value = value }

pub read_is : (text : List ℕ) (r : ReadOf) → spelled_read text ≡ Some r → ReadText text r
unfolding spelled_read
read_is text r h = by (two_of (parts_at 61 text)) (two_parts 61 text) h
  where
    both : (s : List ℕ × List ℕ) → Two 61 text (Some s) → (p : Option (ℕ × ℕ)) (v : Option ℕ) → spelled_place s.0 ≡ p → number_of s.1 ≡ v
        → (spelled_then p λ place. spelled_then v λ value. Some (read_by place value)) ≡ Some r → ReadText text r
    both s t None v ep ev h = cc h
    both s t (Some p) None ep ev h = cc h
    both s t (Some p) (Some v) ep ev h =
        let same : read_by p v ≡ r = cc h in let place = place_is s.0 p ep in
        record {
          first = place.first;
          second = place.second;
          third = s.1;
          text_is = t ∙ ap (λ l. l ++ 61 ∷ s.1) place.text_is ∙ append_assoc place.first (64 ∷ place.second) (61 ∷ s.1);
          item_is = place.item_is ∙ ap (λ (q : ReadOf). Some q.item) same;
          cycle_is = place.cycle_is ∙ ap (λ (q : ReadOf). Some q.cycle) same;
          value_is = ev ∙ ap (λ (q : ReadOf). Some q.value) same;
        }

    by : (sides : Option (List ℕ × List ℕ)) → Two 61 text sides
        → (spelled_then sides λ s. spelled_then (spelled_place s.0) λ place. spelled_then (number_of s.1) λ value. Some (read_by place value)) ≡ Some r → ReadText text r
    by None t h = cc h
    by (Some s) t h = both s t (spelled_place s.0) (number_of s.1) refl refl h

pub read_made : (a b q : List ℕ) (item cycle value : ℕ) → spelled_item a ≡ Some item → short_of b ≡ Some cycle → number_of q ≡ Some value
    → spelled_read (a ++ 64 ∷ (b ++ 61 ∷ q)) ≡ Some (record { item = item; cycle = cycle; value = value })
unfolding spelled_read
read_made a b q item cycle value ha hb hq =
    let da = item_digits a item ha in let db = short_digits b cycle hb in
    let none : list_all (is_not 61) (a ++ 64 ∷ b) ≡ true = list_all-append (is_not 61) a (64 ∷ b) ∙ rw (digits_are_not 61 refl a da, digits_are_not 61 refl b db) refl in
    rw (← append_assoc a (64 ∷ b) (61 ∷ q), part_then 61 (a ++ 64 ∷ b) q none, one_part 61 q (digits_are_not 61 refl q (spelled_digits q value hq)), place_made a b item cycle ha hb, hq) refl

-- ---- leading digits

digits_at : (a : List ℕ) (c : ℕ) (rest : List ℕ) → list_all is_ascii_digit a ≡ true → is_ascii_digit c ≡ false
    → (digits_of (a ++ c ∷ rest) ≡ a) × (after_digits (a ++ c ∷ rest) ≡ c ∷ rest)
unfolding digits_of after_digits
digits_at a c rest digits other =
    (leading_past is_ascii_digit a (c ∷ rest) digits ∙ rw other (append-nil a), behind_past is_ascii_digit a (c ∷ rest) digits ∙ rw other refl)

digits_all : (a : List ℕ) → list_all is_ascii_digit a ≡ true → (digits_of a ≡ a) × (after_digits a ≡ [])
unfolding digits_of after_digits
digits_all a digits = (
  ap (leading_part is_ascii_digit) (sym (append-nil a)) ∙ leading_past is_ascii_digit a [] digits ∙ append-nil a,
  ap (behind is_ascii_digit) (sym (append-nil a)) ∙ behind_past is_ascii_digit a [] digits,
)

-- ---- places

pub place_leads : (text : List ℕ) (p : ℕ × ℕ) → spelled_place text ≡ Some p → ◌≡◌ {A = Option (ℕ × ℕ × List ℕ)} (leading_place text) (Some (p.0, p.1, []))
unfolding leading_place
place_leads text p h =
    let t = place_is text p h in
    let at_leading = digits_at t.first 64 t.second (item_digits t.first p.0 t.item_is) refl in
    let back = digits_all t.second (short_digits t.second p.1 t.cycle_is) in
    rw (t.text_is, at_leading.0, at_leading.1, t.item_is, back.0, back.1, t.cycle_is) refl

-- A text begins with a place, and this comes after it.
pub record Led (text : List ℕ) (item cycle : ℕ) (rest : List ℕ) : Type 0 where
  pub more : List ℕ
  pub item_is : spelled_item (digits_of text) ≡ Some item
  pub after : after_digits text ≡ 64 ∷ more
  pub cycle_is : short_of (digits_of more) ≡ Some cycle
  pub rest_is : after_digits more ≡ rest

-- The text after this byte, if the text begins with it.
abbrev behind_byte : ℕ → List ℕ → Option (List ℕ)
behind_byte byte text = cond (begins byte text) (Some (drop 1 text)) None

behind_is : (byte : ℕ) (text more : List ℕ) → behind_byte byte text ≡ Some more → text ≡ byte ∷ more
behind_is byte [] more h = cc h
behind_is byte (c ∷ cs) more h = by (c == byte) refl h
  where
    by : (b : Bool) → (c == byte) ≡ b → cond b (Some cs) None ≡ Some more → c ∷ cs ≡ byte ∷ more
    by true e h = let same : c ≡ byte = grind (arith, nat_tests) in let rest : cs ≡ more = cc h in rw (same, rest) refl
    by false e h = cc h

pub led : (text : List ℕ) (item cycle : ℕ) (rest : List ℕ) → ◌≡◌ {A = Option (ℕ × ℕ × List ℕ)} (leading_place text) (Some (item, cycle, rest)) → Led text item cycle rest
unfolding leading_place
led text item cycle rest h = by (spelled_item (digits_of text)) (behind_byte 64 (after_digits text)) refl refl h
  where
    end : (i : ℕ) (more : List ℕ) (c : Option ℕ) → spelled_item (digits_of text) ≡ Some i → behind_byte 64 (after_digits text) ≡ Some more → short_of (digits_of more) ≡ c
        → ◌≡◌ {A = Option (ℕ × ℕ × List ℕ)} (spelled_then c λ cycle. Some (i, cycle, after_digits more)) (Some (item, cycle, rest)) → Led text item cycle rest
    end i more None ei em ec h = cc h
    end i more (Some c) ei em ec h =
        let same : ◌≡◌ {A = ℕ × ℕ × List ℕ} (i, c, after_digits more) (item, cycle, rest) = cc h in
        record {
          more = more;
          item_is = ei ∙ ap (λ (q : ℕ × ℕ × List ℕ). Some q.0) same;
          after = behind_is 64 (after_digits text) more em;
          cycle_is = ec ∙ ap (λ (q : ℕ × ℕ × List ℕ). Some q.1) same;
          rest_is = ap (λ (q : ℕ × ℕ × List ℕ). q.2) same;
        }

    by : (i : Option ℕ) (m : Option (List ℕ)) → spelled_item (digits_of text) ≡ i → behind_byte 64 (after_digits text) ≡ m
        → ◌≡◌ {A = Option (ℕ × ℕ × List ℕ)} (spelled_then i λ item. spelled_then m λ more. spelled_then (short_of (digits_of more)) λ cycle. Some (item, cycle, after_digits more)) (Some (item, cycle, rest)) → Led text item cycle rest
    by None m ei em h = cc h
    by (Some i) None ei em h = cc h
    by (Some i) (Some more) ei em h = end i more (short_of (digits_of more)) ei em refl h

text_whole : (text : List ℕ) → text ≡ digits_of text ++ after_digits text
unfolding digits_of after_digits
text_whole text = leading_behind is_ascii_digit text

pub whole_place : (text : List ℕ) (item cycle : ℕ) → ◌≡◌ {A = Option (ℕ × ℕ × List ℕ)} (leading_place text) (Some (item, cycle, [])) → ◌≡◌ {A = Option (ℕ × ℕ)} (spelled_place text) (Some (item, cycle))
whole_place text item cycle h =
    let l = led text item cycle [] h in
    let second : l.more ≡ digits_of l.more = text_whole l.more ∙ ap (λ z. digits_of l.more ++ z) l.rest_is ∙ append-nil (digits_of l.more) in
    let all : text ≡ digits_of text ++ 64 ∷ digits_of l.more = text_whole text ∙ ap (λ z. digits_of text ++ z) (l.after ∙ ap (λ m. 64 ∷ m) second) in
    ap spelled_place all ∙ place_made (digits_of text) (digits_of l.more) item cycle l.item_is l.cycle_is

pub no_place : (text : List ℕ) → ◌≡◌ {A = Option (ℕ × ℕ × List ℕ)} (leading_place text) None → ◌≡◌ {A = Option (ℕ × ℕ)} None (spelled_place text)
no_place text none = by (spelled_place text) refl
  where
    by : (p : Option (ℕ × ℕ)) → spelled_place text ≡ p → None ≡ p
    by None e = refl
    by (Some p) e = cc (sym none ∙ place_leads text p e)

pub no_whole_place : (text : List ℕ) (item cycle byte : ℕ) (more : List ℕ) → ◌≡◌ {A = Option (ℕ × ℕ × List ℕ)} (leading_place text) (Some (item, cycle, byte ∷ more)) → ◌≡◌ {A = Option (ℕ × ℕ)} None (spelled_place text)
no_whole_place text item cycle byte more some = by (spelled_place text) refl
  where
    rests : (p : ℕ × ℕ) → ◌≡◌ {A = Option (ℕ × ℕ × List ℕ)} (Some (item, cycle, byte ∷ more)) (Some (p.0, p.1, [])) → None ≡ Some p
    rests p h = let same : byte ∷ more ≡ [] = ap (λ (q : ℕ × ℕ × List ℕ). q.2) (let e : ◌≡◌ {A = ℕ × ℕ × List ℕ} (item, cycle, byte ∷ more) (p.0, p.1, []) = cc h in e) in cc same

    by : (p : Option (ℕ × ℕ)) → spelled_place text ≡ p → None ≡ p
    by None e = refl
    by (Some p) e = rests p (sym some ∙ place_leads text p e)

-- ---- the read of the first part

part_whole : (text : List ℕ) → text ≡ first_part text ++ after_part text
unfolding first_part after_part
part_whole text = leading_behind is_no_space text

digit_no_space : (c : ℕ) → is_ascii_digit c ≡ true → is_no_space c ≡ true
digit_no_space c h = grind (arith, nat_tests)

behind_again : (xs : List ℕ) → (leading_part is_no_space (behind is_no_space xs) ≡ []) × (behind is_no_space (behind is_no_space xs) ≡ behind is_no_space xs)
behind_again [] = (refl, refl)
behind_again (x ∷ xs) = by (is_no_space x) refl (behind_again xs)
  where
    by : (b : Bool) → is_no_space x ≡ b → (leading_part is_no_space (behind is_no_space xs) ≡ []) × (behind is_no_space (behind is_no_space xs) ≡ behind is_no_space xs)
        → (leading_part is_no_space (cond b (behind is_no_space xs) (x ∷ xs)) ≡ []) × (behind is_no_space (cond b (behind is_no_space xs) (x ∷ xs)) ≡ cond b (behind is_no_space xs) (x ∷ xs))
    by true e h = h
    by false e h = (rw e refl, rw e refl)

part_of_digits : (q text : List ℕ) → list_all is_ascii_digit q ≡ true → (first_part (q ++ after_part text) ≡ q) × (after_part (q ++ after_part text) ≡ after_part text)
unfolding first_part after_part
part_of_digits q text digits =
    let plain = all_such is_ascii_digit is_no_space digit_no_space q digits in let rest = behind_again text in (
      leading_past is_no_space q (behind is_no_space text) plain ∙ rw (rest.0) (append-nil q),
      behind_past is_no_space q (behind is_no_space text) plain ∙ rest.1,
    )

read_leads : (text : List ℕ) (r : ReadOf) → spelled_read (first_part text) ≡ Some r → ◌≡◌ {A = Option (ReadOf × List ℕ)} (leading_read text) (Some (r, after_part text))
unfolding leading_read leading_place
read_leads text r h =
    let t = read_is (first_part text) r h in
    let z = after_part text in
    let value = part_of_digits t.third text (spelled_digits t.third r.value t.value_is) in
    let all : text ≡ t.first ++ 64 ∷ (t.second ++ 61 ∷ (t.third ++ z)) =
    part_whole text ∙ ap (λ l. l ++ z) t.text_is ∙ append_assoc t.first (64 ∷ (t.second ++ 61 ∷ t.third)) z ∙ ap (λ l. t.first ++ 64 ∷ l) (append_assoc t.second (61 ∷ t.third) z) in
    let at_leading = digits_at t.first 64 (t.second ++ 61 ∷ (t.third ++ z)) (item_digits t.first r.item t.item_is) refl in
    let back = digits_at t.second 61 (t.third ++ z) (short_digits t.second r.cycle t.cycle_is) refl in
    let d : digits_of text ≡ t.first = ap digits_of all ∙ at_leading.0 in
    let a : after_digits text ≡ 64 ∷ (t.second ++ 61 ∷ (t.third ++ z)) = ap after_digits all ∙ at_leading.1 in
    rw (d, t.item_is, a, back.0, t.cycle_is, back.1, value.0, t.value_is, value.1) refl

read_led : (text : List ℕ) (r : ReadOf) (rest : List ℕ) → ◌≡◌ {A = Option (ReadOf × List ℕ)} (leading_read text) (Some (r, rest))
    → (spelled_read (first_part text) ≡ Some r) × (rest ≡ after_part text)
unfolding leading_read
read_led text r rest h = by (leading_place text) refl h
  where
    made : (item cycle : ℕ) (back more : List ℕ) (v : Option ℕ) → Led text item cycle back → back ≡ 61 ∷ more → number_of (first_part more) ≡ v
        → ◌≡◌ {A = Option (ReadOf × List ℕ)} (spelled_then v λ value. Some (read_by (item, cycle) value, after_part more)) (Some (r, rest)) → (spelled_read (first_part text) ≡ Some r) × (rest ≡ after_part text)
    made item cycle back more None l eb ev h = cc h
    made item cycle back more (Some v) l eb ev h =
        let same : ◌≡◌ {A = ReadOf × List ℕ} (read_by (item, cycle) v, after_part more) (r, rest) = cc h in
        let second = l.rest_is ∙ eb in
        let part : first_part text ≡ digits_of text ++ 64 ∷ (digits_of l.more ++ 61 ∷ first_part more) =
        part_with text 64 l.more l.after refl ∙ ap (λ p. digits_of text ++ 64 ∷ p) (part_with l.more 61 more second refl) in (
          ap spelled_read part ∙ read_made (digits_of text) (digits_of l.more) (first_part more) item cycle v l.item_is l.cycle_is ev ∙ ap (λ (q : ReadOf × List ℕ). Some q.0) same,
          sym (ap (λ (q : ReadOf × List ℕ). q.1) same) ∙ after_byte l.more 61 more second refl ∙ after_byte text 64 l.more l.after refl,
        )

    in_part : (p : ℕ × ℕ × List ℕ) (m : Option (List ℕ)) → leading_place text ≡ Some p → behind_byte 61 p.2 ≡ m
        → ◌≡◌ {A = Option (ReadOf × List ℕ)} (spelled_then m λ more. spelled_then (number_of (first_part more)) λ value. Some (read_by (p.0, p.1) value, after_part more)) (Some (r, rest)) → (spelled_read (first_part text) ≡ Some r) × (rest ≡ after_part text)
    in_part p None ep em h = cc h
    in_part p (Some more) ep em h = made p.0 p.1 p.2 more (number_of (first_part more)) (led text p.0 p.1 p.2 ep) (behind_is 61 p.2 more em) refl h

    by : (p : Option (ℕ × ℕ × List ℕ)) → leading_place text ≡ p
        → ◌≡◌ {A = Option (ReadOf × List ℕ)} (spelled_then p λ place. spelled_then (behind_byte 61 place.2) λ more. spelled_then (number_of (first_part more)) λ value. Some (read_by (place.0, place.1) value, after_part more)) (Some (r, rest)) → (spelled_read (first_part text) ≡ Some r) × (rest ≡ after_part text)
    by None ep h = cc h
    by (Some p) ep h = in_part p (behind_byte 61 p.2) ep refl h

-- The read of the first part is the leading one.
pub leading_is : (text : List ℕ) (o : Option (ReadOf × List ℕ)) → leading_read text ≡ o → LeadingIs spelled_read text o
leading_is text None none = by (spelled_read (first_part text)) refl
  where
    by : (r : Option ReadOf) → spelled_read (first_part text) ≡ r → r ≡ None
    by None e = refl
    by (Some r) e = cc (sym none ∙ read_leads text r e)
leading_is text (Some f) some = read_led text f.0 f.1 some
