-- Lists of entries: a pass's own, those of others, and how one list continues another.
use Rattle.std.proofs.Common.{◌≡◌, ℕ, ◌+◌, ◌<◌, ◌≤◌, Bool, true, false, cond, leb, ⊎_elim, List, [], ◌∷◌, ◌++◌, length, length-append, get_or, sym, refl, ap, ◌∙◌, subst, arith, append_assoc, drop}
use Rattle.std.specs.Prelude.{All, Contains}
use Rattle.std.proofs.lemmas.List.{append-nil, get_or_append_left, get_or-append-add}
use Rattle.std.proofs.lemmas.List.Elements.{All-append, Contains-append_cases}
use Rattle.std.proofs.lemmas.Bool.{leb-true}
use Rattle.turnstile.specs.PassEntries.{Foreign, Own, Below, Continues, longer}
use Rattle.turnstile.proofs.Numbers.{shorter}

module _ {E : Type 0} where
  -- what holds of each entry of two lists holds of each of the first, and of each of the second
  all_front : (P : ℕ × E → Type 0) (xs ys : List (ℕ × E)) → All P (xs ++ ys) → All P xs
  all_front P xs ys h k d less = subst P (get_or_append_left xs ys d k less) (h k d (let l = length-append xs ys in omega arith))

  all_back : (P : ℕ × E → Type 0) (xs ys : List (ℕ × E)) → All P (xs ++ ys) → All P ys
  all_back P xs ys h k d less = subst P (get_or-append-add xs ys k d) (h (length xs + k) d (let l = length-append xs ys in omega arith))

  foreign_front : (ns : List ℕ) (xs ys : List (ℕ × E)) → Foreign ns (xs ++ ys) → Foreign ns xs
  foreign_front ns xs ys h = all_front (λ (e : ℕ × E). ¬ Contains ns e.0) xs ys h

  foreign_back : (ns : List ℕ) (xs ys : List (ℕ × E)) → Foreign ns (xs ++ ys) → Foreign ns ys
  foreign_back ns xs ys h = all_back (λ (e : ℕ × E). ¬ Contains ns e.0) xs ys h

  -- a list that continues what was seen still does after more entries of others
  pub goes_on : (ns : List ℕ) (seen now more later : List (ℕ × E)) → later ≡ now ++ more → Foreign ns more → Continues ns seen now → Continues ns seen later
  goes_on ns seen now more later is new c = (c.0 ++ more, is ∙ (ap (λ l. l ++ more) c.1 ∙ append_assoc seen c.0 more), All-append (λ (e : ℕ × E). ¬ Contains ns e.0) c.0 more c.2 new)

  pub all_seen : (ns : List ℕ) (now : List (ℕ × E)) → Continues ns now now
  all_seen ns now = ([], sym (append-nil now), λ k d less. absurd (omega arith))

  pub below_append : (n : ℕ) (xs ys : List (ℕ × E)) → Below n xs → Below n ys → Below n (xs ++ ys)
  below_append n xs ys p q = All-append (λ (e : ℕ × E). e.0 < n) xs ys p q

  pub own_below : (n : ℕ) (ns : List ℕ) (xs : List (ℕ × E)) → ((m : ℕ) → Contains ns m → m < n) → Own ns xs → Below n xs
  own_below n ns xs h p k d less = h (get_or xs k d).0 (p k d less)

  -- entries of one pass have no number of another
  pub own_foreign : (ns ms : List ℕ) (xs : List (ℕ × E)) → ((m : ℕ) → Contains ns m → Contains ms m → ⊥) → Own ns xs → Foreign ms xs
  own_foreign ns ms xs h p k d less c = h (get_or xs k d).0 (p k d less) c

  pub foreign_part : (ns ms : List ℕ) (xs : List (ℕ × E)) → ((m : ℕ) → Contains ms m → Contains ns m) → Foreign ns xs → Foreign ms xs
  foreign_part ns ms xs sub p k d less c = p k d less (sub (get_or xs k d).0 c)

  pub foreign_none : (xs : List (ℕ × E)) → Foreign [] xs
  foreign_none xs k d less c = let none = c.1 in absurd (omega arith)

  foreign_both : (ns ms : List ℕ) (xs : List (ℕ × E)) → Foreign ns xs → Foreign ms xs → Foreign (ns ++ ms) xs
  foreign_both ns ms xs p q k d less c = ⊎_elim (p k d less) (q k d less) (Contains-append_cases ns ms (get_or xs k d).0 c)

  abbrev head_or : ℕ × E → List (ℕ × E) → ℕ × E
  head_or d [] = d
  head_or d (x ∷ xs) = x

  -- if two lists begin the same list, the longer continues the shorter, and what follows the longer is part of what followed
  -- the shorter
  pub beyond : (ns : List ℕ) (a b ra rb : List (ℕ × E)) → a ++ ra ≡ b ++ rb → length a ≤ length b → Foreign ns ra → Continues ns a b × Foreign ns rb
  beyond ns [] b ra rb same less p = let q = subst (Foreign ns) same p in ((b, refl, foreign_front ns b rb q), foreign_back ns b rb q)
  beyond ns (x ∷ a) [] ra rb same less p = absurd (omega arith)
  beyond ns (x ∷ a) (y ∷ b) ra rb same less p = let t = beyond ns a b ra rb (ap (drop 1) same) (omega arith) p in let c = t.0 in
      ((c.0, ap (λ l. head_or x l ∷ b) (sym same) ∙ ap (λ l. x ∷ l) c.1, c.2), t.1)

  picks : (ns ms : List ℕ) (a b now : List (ℕ × E)) → Continues ns a now → Continues ms b now → (t : Bool) → leb (length a) (length b) ≡ t
      → Continues ns a (cond t b a) × Continues ms b (cond t b a) × Continues (ns ++ ms) (cond t b a) now
  picks ns ms a b now p q true is = let h = beyond ns a b p.0 q.0 (sym p.1 ∙ q.1) (leb-true (length a) (length b) is) p.2 in
      (h.0, all_seen ms b, (q.0, q.1, foreign_both ns ms q.0 h.1 q.2))
  picks ns ms a b now p q false is = let short = shorter (length a) (length b) is in let less : length b ≤ length a = omega arith in let h = beyond ms b a q.0 p.0 (sym q.1 ∙ p.1) less q.2 in
      (all_seen ns a, h.0, (p.0, p.1, foreign_both ns ms p.0 p.2 h.1))

  pub longer_goes_on : (ns ms : List ℕ) (a b now : List (ℕ × E)) → Continues ns a now → Continues ms b now
      → Continues ns a (longer a b) × Continues ms b (longer a b) × Continues (ns ++ ms) (longer a b) now
  longer_goes_on ns ms a b now p q = picks ns ms a b now p q (leb (length a) (length b)) refl

  none_left : (ns : List ℕ) (n : ℕ) (rest : List (ℕ × E)) → ((m : ℕ) → m < n → Contains ns m) → Below n rest → Foreign ns rest → rest ≡ []
  none_left ns n [] all b f = refl
  none_left ns n (x ∷ xs) all b f = absurd (f 0 x (omega arith) (all x.0 (b 0 x (omega arith))))

  -- a pass with all numbers has seen the whole list
  pub seen_whole : (ns : List ℕ) (n : ℕ) (seen now : List (ℕ × E)) → ((m : ℕ) → m < n → Contains ns m) → Below n now → Continues ns seen now → now ≡ seen
  seen_whole ns n seen now all b c =
      c.1 ∙ (ap (λ l. seen ++ l) (none_left ns n c.0 all (all_back (λ (e : ℕ × E). e.0 < n) seen c.0 (subst (Below n) c.1 b)) c.2) ∙ append-nil seen)
