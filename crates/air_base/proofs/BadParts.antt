-- The first bad part of a list that is read from its beginning: as long as no bad part was read, it is the first one of the
-- rest.
use Rattle.std.proofs.Common.{◌≡◌, ◌<◌, ◌≤◌, ◌+◌, ◌-◌, ◌∷◌, [], ℕ, suc, List, Option, Some, None, Bool, true, false, cond, nat_lt, length, take, refl, ap, ◌∙◌, arith, option_map, length-append}
use Rattle.std.specs.Prelude.{is_none}
use Rattle.std.specs.List.{position, position_or_len}
use Rattle.std.proofs.lemmas.Bool.Decides.{nat_tests}
use Rattle.std.proofs.lemmas.List.Sums.{sum_by-cons}
use Rattle.air_base.specs.LeadingParts.{after_part, first_part, is_no_space}
use Rattle.air_base.specs.NumberLists.{bad_part_at, part_start}
use Rattle.air_base.specs.Parts.{parts_at}
use Rattle.air_base.proofs.LeadingPartLemmas.{leading_behind}
use Rattle.air_base.proofs.LeadingListLemmas.{parts_leading}

-- The byte at which the first bad one of these parts begins.
abbrev pub bad_of : {A : Type 0} → (List ℕ → Option A) → List (List ℕ) → Option ℕ
bad_of value parts = option_map (part_start parts) (position (λ part. is_none (value part)) parts)

-- The first bad part of a text is that of its rest, moved by the number of bytes before the rest.
abbrev pub BadFrom : {A : Type 0} → (List ℕ → Option A) → List ℕ → List ℕ → Type 0
BadFrom value text rest = (length rest ≤ length text) × (bad_part_at value text ≡ option_map (λ at. length text - length rest + at) (bad_of value (parts_at 32 rest)))

less_next : (a b : ℕ) → nat_lt (suc a) (suc b) ≡ nat_lt a b
less_next a b = by (nat_lt a b) refl
  where
    by : (t : Bool) → nat_lt a b ≡ t → nat_lt (suc a) (suc b) ≡ t
    by true e = grind (arith, nat_tests, e)
    by false e = grind (arith, nat_tests, e)

module _ {A : Type 0} (value : List ℕ → Option A) where
  bad_first : (part : List ℕ) (parts : List (List ℕ)) → value part ≡ None → bad_of value (part ∷ parts) ≡ Some 0
  bad_first part parts none =
      let first : position_or_len (λ p. is_none (value p)) (part ∷ parts) ≡ 0 = rw none refl in
      let within : nat_lt 0 (length (part ∷ parts)) ≡ true = grind arith in
      rw (first, within) refl

  bad_later : (part : List ℕ) (parts : List (List ℕ)) (x : A) → value part ≡ Some x → bad_of value (part ∷ parts) ≡ option_map (λ at. length part + 1 + at) (bad_of value parts)
  bad_later part parts x one =
      let before = position_or_len (λ p. is_none (value p)) parts in
      let first : position_or_len (λ p. is_none (value p)) (part ∷ parts) ≡ suc before = rw one (omega arith) in
      rw (first, less_next before (length parts)) (by (nat_lt before (length parts)))
    where
      by : (b : Bool) → option_map (part_start (part ∷ parts)) (cond b (Some (suc (position_or_len (λ p. is_none (value p)) parts))) None)
          ≡ option_map (λ at. length part + 1 + at) (option_map (part_start parts) (cond b (Some (position_or_len (λ p. is_none (value p)) parts)) None))
      by true = ap Some (sum_by-cons (λ p. length p + 1) part (take (position_or_len (λ p. is_none (value p)) parts) parts))
      by false = refl

  pub bad_start : (text : List ℕ) → 0 < length text → BadFrom value text text
  unfolding bad_part_at
  bad_start [] some = absurd (omega arith)
  bad_start (c ∷ cs) some = (omega arith, by (bad_of value (parts_at 32 (c ∷ cs))))
    where
      by : (o : Option ℕ) → o ≡ option_map (λ at. length (c ∷ cs) - length (c ∷ cs) + at) o
      by None = refl
      by (Some k) = ap Some (omega arith)

  module _ (text rest : List ℕ) (from : BadFrom value text rest) where
    pub bad_here : value (first_part rest) ≡ None → bad_part_at value text ≡ Some (length text - length rest)
    bad_here none =
        from.1
        ∙ ap (option_map (λ at. length text - length rest + at)) (ap (bad_of value) (parts_leading rest) ∙ bad_first (first_part rest) _ none)
        ∙ ap Some (omega arith)

    pub bad_more : (x : A) (space : ℕ) (more : List ℕ) → value (first_part rest) ≡ Some x → after_part rest ≡ space ∷ more → BadFrom value text more
    unfolding first_part after_part
    bad_more x space more one after = (omega (arith, long, from.0), from.1 ∙ ap (option_map (λ at. length text - length rest + at)) parts ∙ by (bad_of value (parts_at 32 more)))
      where
        long : length rest ≡ length (first_part rest) + 1 + length more
        long = omega (arith, ap length (leading_behind is_no_space rest), length-append (first_part rest) (after_part rest), ap length after)

        parts : bad_of value (parts_at 32 rest) ≡ option_map (λ at. length (first_part rest) + 1 + at) (bad_of value (parts_at 32 more))
        parts = ap (bad_of value) (parts_leading rest) ∙ rw after (bad_later (first_part rest) (parts_at 32 more) x one)

        by : (o : Option ℕ) → option_map (λ at. length text - length rest + at) (option_map (λ at. length (first_part rest) + 1 + at) o) ≡ option_map (λ at. length text - length more + at) o
        by None = refl
        by (Some k) = ap Some (omega (arith, long, from.0))
