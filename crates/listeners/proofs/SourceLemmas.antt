-- What a deck airs a cycle from: the board, or the board by groups if the deck has groups.
-- The calls of `sources` and `deck_cycles` cite these, and crates above that air a cycle.
use Rattle.std.proofs.Common.{◌≡◌, ℕ, ◌<◌, ◌≤◌, Bool, true, false, cond, Option, Some, None, List, [], ◌∷◌, ◌++◌, length, refl, sym, ◌∙◌, ap, subst, inl, inr, arith}
use Rattle.std.proofs.lemmas.Bool.{lt-ltb, ltb-true}
use Rattle.air_base.specs.declared.verdicts.Policy.{Policy}
use Rattle.air_base.specs.declared.verdicts.Policy.TheVariants.{FMatrix, Datacycle, RMatrix}
use Rattle.air_history.specs.declared.histories.Event.{Event}
use Rattle.air_history.specs.declared.histories.Event.TheVariants.{Start}
use Rattle.air_history.specs.Histories.{is_start}
use Rattle.air_history.specs.Columns.{Scheme, airs_groups, has_groups}
use Rattle.air_history.specs.Boards.{Board, board_of}
use Rattle.air_model.specs.Aired.{scheme_in}
use Rattle.air_model.specs.Decks.{Deck, IsDeck, values_in}
use Rattle.air_sender.specs.BoardBuckets.{EntriesBelow, aired_board, spread}
use Rattle.air_sender.specs.DeckGroups.{HasGroups}
use Rattle.air_sender.proofs.AiredLemmas.{board_started, plain_board, values_kept}
use Rattle.group_matrix.specs.GroupBoards.{GroupBoard, grouped}
use Rattle.listeners.specs.AiredCycles.{AirsAfter, AirsFrom}

-- ---- what a scheme airs from

-- What holds of each choice holds of what is chosen.
chosen : {X : Type 0} (P : X → Type 0) (b : Bool) (x y : X) → (b ≡ true → P x) → P y → P (cond b x y)
chosen P true x y if_so otherwise = if_so refl
chosen P false x y if_so otherwise = otherwise

-- It has the board's cycle and its values.
aired_cycle : (scheme : Scheme) (board : Board) → (aired_board scheme board).cycle ≡ board.cycle
aired_cycle scheme board = chosen (λ (b : Board). b.cycle ≡ board.cycle) (has_groups scheme) (spread (grouped scheme.group board)) board (λ groups. refl) refl

aired_values : (scheme : Scheme) (board : Board) → length (aired_board scheme board).values ≡ length board.values
aired_values scheme board = chosen (λ (b : Board). length b.values ≡ length board.values) (has_groups scheme) (spread (grouped scheme.group board)) board (λ groups. refl) refl

-- Groups have items.
some_group : (p : Policy) (g : ℕ) → airs_groups p g ≡ true → 0 < g
some_group FMatrix g e = ltb-true 0 g e
some_group Datacycle g e = cc
some_group RMatrix g e = cc

-- The statements of `below_law` and `groups_below_law`.
abbrev pub BelowLaw : Type 0
BelowLaw = (values : List ℕ) (G : List Event) → EntriesBelow (board_of values (G ++ Start ∷ []))

abbrev pub GroupsBelowLaw : Type 0
GroupsBelowLaw = (g : ℕ) (values : List ℕ) (G : List Event) → 0 < g → EntriesBelow (spread (grouped g (board_of values (G ++ Start ∷ []))))

-- ---- a deck's cycle

module _ (deck : Deck) (G : List Event) (source : Board) (from : AirsAfter deck G source) where
  abbrev pub board_after : Board
  board_after = board_of (values_in deck) (G ++ Start ∷ [])

  pub source_cycle : source.cycle ≡ board_after.cycle
  source_cycle = ap (λ (b : Board). b.cycle) from ∙ aired_cycle (scheme_in deck) board_after

  -- it has started
  pub source_started : 1 ≤ source.cycle
  unfolding is_start
  source_started = let started = board_started deck G Start board_after refl refl in omega (arith, source_cycle, started)

  -- there is a value for each item
  pub source_values : length source.values ≡ length deck.items
  source_values = ap (λ (b : Board). length b.values) from ∙ aired_values (scheme_in deck) board_after ∙ values_kept deck board_after (G ++ Start ∷ []) refl

  -- and the entries are below the cycle
  pub source_below : BelowLaw → GroupsBelowLaw → EntriesBelow source
  source_below below groups_below =
      let scheme = scheme_in deck in
      subst EntriesBelow (sym from)
      (chosen EntriesBelow (has_groups scheme) (spread (grouped scheme.group board_after)) board_after
      (λ groups. groups_below scheme.group (values_in deck) G (some_group scheme.policy scheme.group groups)) (below (values_in deck) G))

-- ---- the two sources

-- A deck with groups has the policy that airs columns.
grouped_policy : (deck : Deck) → IsDeck deck → 0 < deck.settings.group → deck.settings.policy ≡ FMatrix
grouped_policy deck made some = elim made.grouped as (λ _. deck.settings.policy ≡ FMatrix) [
  | inl columns ↦ columns
  | inr none ↦ absurd (omega arith)
]

grouped_scheme : (p : Policy) (g : ℕ) → p ≡ FMatrix → 0 < g → airs_groups p g ≡ true
grouped_scheme p g is some = ap (λ p. airs_groups p g) is ∙ lt-ltb 0 g some

-- Without groups the board itself is aired.
pub plain_source : (deck : Deck) (G : List Event) (board : Board) (kept : Option GroupBoard) → HasGroups deck kept → kept ≡ None → board ≡ board_of (values_in deck) (G ++ Start ∷ []) → AirsFrom deck G board kept
plain_source deck G board kept has none is =
    subst (AirsFrom deck G board) (sym none) (plain_board (scheme_in deck) board (subst (HasGroups deck) none has) ∙ ap (aired_board (scheme_in deck)) is)

module _ (deck : Deck) (board : Board) (kept : Option GroupBoard) (has : HasGroups deck kept) (before : GroupBoard) (some : kept ≡ Some before) where
  -- With groups there are as many items,
  pub same_items : (G : List Event) → board ≡ board_of (values_in deck) G → length before.values ≡ length board.values
  same_items G is = (subst (HasGroups deck) some has).2 ∙ sym (values_kept deck board G is)

  -- and the board by groups is aired, filled from the board
  pub group_source : (now : GroupBoard) (G : List Event) → IsDeck deck → now ≡ grouped before.group board → board ≡ board_of (values_in deck) (G ++ Start ∷ []) → AirsFrom deck G board (Some now)
  group_source now G made filled is =
      let scheme = scheme_in deck in
      let own = subst (HasGroups deck) some has in
      let policy = grouped_policy deck made own.0 in (
        ap spread (filled ∙ ap (λ g. grouped g board) own.1)
            ∙ ap (λ b. cond b (spread (grouped scheme.group board)) board) (sym (grouped_scheme deck.settings.policy deck.settings.group policy own.0))
            ∙ ap (aired_board scheme) is,
        policy,
      )

  -- and is still as the deck wants it
  pub still_grouped : (now : GroupBoard) (G : List Event) → now ≡ grouped before.group board → board ≡ board_of (values_in deck) G → HasGroups deck (Some now)
  still_grouped now G filled is =
      let own = subst (HasGroups deck) some has in
      (own.0, ap (λ (b : GroupBoard). b.group) filled ∙ own.1, ap (λ (b : GroupBoard). length b.values) filled ∙ values_kept deck board G is)
