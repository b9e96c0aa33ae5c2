-- A text that spells a number, a place or reads is the text that is printed of them. The numbers fit their types.
use Rattle.std.proofs.Common.{◌≡◌, ◌<◌, ◌^◌, ◌++◌, ◌∷◌, [], ℕ, List, All, Option, Some, None, Bool, true, false, cond, refl, sym, ap, ap₂, ◌∙◌, subst, map, nat_lt}
use Rattle.std.proofs.lemmas.Bool.{ltb-true}
use Rattle.std.proofs.lemmas.List.Elements.{All-cons, All-nil}
use Rattle.air_base.specs.NumberLists.{list_of, list_text, parts_of}
use Rattle.air_base.specs.Numbers.{number_of, number_text}
use Rattle.air_base.specs.declared.verdicts.ReadOf.{ReadOf}
use Rattle.air_base.proofs.ListLaws.{Some-all_some, list_text-parts_of}
use Rattle.air_base.proofs.LeadingNumberLemmas.{spelled_fits}
use Rattle.air_base.proofs.NumberLemmas.{one_spelling}
use Rattle.air_model.specs.Reports.{place_text, read_text}
use Rattle.air_report.specs.LineTexts.{below, short_of, spelled_item, spelled_place, spelled_read}
use Rattle.air_report.specs.ReportRules.{ReadWide}
use Rattle.air_report.proofs.ReadLemmas as read
use Rattle.air_report.proofs.TextLemmas as texts

-- ---- lists that are equal part by part

pub same_cons : {X : Type 0} {x y : X} {xs ys : List X} → x ≡ y → xs ≡ ys → x ∷ xs ≡ y ∷ ys
same_cons {X = X} h k = ap₂ (λ (x : X) (xs : List X). x ∷ xs) h k

pub same_append : {X : Type 0} {a b c d : List X} → a ≡ b → c ≡ d → a ++ c ≡ b ++ d
same_append {X = X} h k = ap₂ (λ (xs ys : List X). xs ++ ys) h k

-- ---- numbers, places and reads

below_fits : (bound : ℕ) (o : Option ℕ) (n : ℕ) → below bound o ≡ Some n → (o ≡ Some n) × (n < bound)
below_fits bound None n h = cc h
below_fits bound (Some k) n h = by (nat_lt k bound) refl h
  where
    by : (b : Bool) → nat_lt k bound ≡ b → cond b (Some k) None ≡ Some n → (Some k ≡ Some n) × (n < bound)
    by true e h = let same : k ≡ n = cc h in (h, subst (λ m. m < bound) same (ltb-true k bound e))
    by false e h = cc h

pub short_is : (text : List ℕ) (n : ℕ) → short_of text ≡ Some n → (text ≡ number_text n) × (n < 2 ^ 32)
unfolding short_of
short_is text n h = let both = below_fits (2 ^ 32) (number_of text) n h in (one_spelling text n both.0, both.1)

pub item_is : (text : List ℕ) (n : ℕ) → spelled_item text ≡ Some n → (text ≡ number_text n) × (n < 2 ^ 16)
unfolding spelled_item
item_is text n h = let both = below_fits (2 ^ 16) (number_of text) n h in (one_spelling text n both.0, both.1)

pub number_is : (text : List ℕ) (n : ℕ) → number_of text ≡ Some n → (text ≡ number_text n) × (n < 2 ^ 64)
number_is text n h = (one_spelling text n h, spelled_fits text n h)

pub place_is : (text : List ℕ) (p : ℕ × ℕ) → spelled_place text ≡ Some p → (text ≡ place_text p.0 p.1) × (p.0 < 2 ^ 16) × (p.1 < 2 ^ 32)
place_is text p h =
    let parts = read.place_is text p h in let item = item_is parts.first p.0 parts.item_is in let cycle = short_is parts.second p.1 parts.cycle_is in
    (parts.text_is ∙ same_append item.0 (same_cons refl cycle.0) ∙ sym (texts.place_is p.0 p.1), item.1, cycle.1)

read_is : (text : List ℕ) (r : ReadOf) → spelled_read text ≡ Some r → (text ≡ read_text r) × ReadWide r
read_is text r h =
    let parts = read.read_is text r h in let item = item_is parts.first r.item parts.item_is in let cycle = short_is parts.second r.cycle parts.cycle_is in
    let value = number_is parts.third r.value parts.value_is in (
      parts.text_is ∙ same_append item.0 (same_cons refl (same_append cycle.0 (same_cons refl value.0))) ∙ sym (texts.read_is r),
      record { item = item.1; cycle = cycle.1; value = value.1 },
    )

each_read : (parts : List (List ℕ)) (rs : List ReadOf) → map spelled_read parts ≡ map Some rs → (parts ≡ map read_text rs) × All ReadWide rs
each_read [] [] e = (refl, All-nil ReadWide)
each_read [] (r ∷ rs) e = cc e
each_read (part ∷ parts) [] e = cc e
each_read (part ∷ parts) (r ∷ rs) e =
    let here : spelled_read part ≡ Some r = cc e in let more : map spelled_read parts ≡ map Some rs = cc e in
    let one = read_is part r here in let rest = each_read parts rs more in
    (same_cons one.0 rest.0, All-cons ReadWide r rs one.1 rest.1)

pub reads_are : (text : List ℕ) (rs : List ReadOf) → list_of spelled_read text ≡ Some rs → (text ≡ list_text (map read_text rs)) × All ReadWide rs
reads_are text rs h =
    let all = each_read (parts_of text) rs (Some-all_some (map spelled_read (parts_of text)) rs h) in
    (sym (list_text-parts_of text) ∙ ap list_text all.0, all.1)
