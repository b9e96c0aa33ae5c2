-- A cycle of a deck, heard by all its readers from its source: what they know of it, and what they were given then.
-- The calls of `deck_cycles` cite these.
use Rattle.std.proofs.Common.{◌≡◌, ℕ, zero, suc, ◌+◌, ◌<◌, ◌≤◌, Some, List, [], ◌∷◌, ◌++◌, length, map, get_or, All, refl, sym, ◌∙◌, ap, subst, arith}
use Rattle.std.specs.Prelude.{IsTrue}
use Rattle.std.specs.List.{range_with_len}
use Rattle.std.proofs.lemmas.List.Elements.{All-map}
use Rattle.std.proofs.lemmas.Simd.{map-map}
use Rattle.air_base.specs.declared.verdicts.Form.{Form}
use Rattle.air_history.specs.declared.histories.Event.{Event}
use Rattle.air_history.specs.declared.histories.Event.TheVariants.{Start}
use Rattle.air_history.specs.Histories.{is_start}
use Rattle.air_history.specs.Boards.{Board}
use Rattle.air_model.specs.Aired.{Air, air_of, fits}
use Rattle.air_model.specs.AiredLaws.{CanAir}
use Rattle.air_model.specs.Buckets.{Bucket, bucket_in, spelling}
use Rattle.air_model.specs.Decks.{Deck, edition}
use Rattle.air_model.specs.Programs.{program}
use Rattle.air_sender.specs.AiredBytes.{aired_bytes}
use Rattle.air_sender.specs.BoardBuckets.{board_bytes, bucket_on, form_of}
use Rattle.air_sender.proofs.AiredLemmas.{start_aired, start_heard}
use Rattle.air_sender.proofs.StartedBoards.{OwnCycleLaw}
use Rattle.chunk_program.specs.Editions.{EditionDisks, edition_disks}
use Rattle.listeners.specs.AiredCycles.{AirsAfter, AreFitting}
use Rattle.listeners.specs.Hearings.{AreTogether}
use Rattle.listeners.specs.Listeners.{Listener, hears, listener_of}
use Rattle.listeners.proofs.SleepLemmas.{keeps_air}
use Rattle.listeners.proofs.SourceLemmas.{board_after, source_cycle}
use Rattle.listeners.proofs.TogetherLemmas.{together_heard}

-- ---- a deck's readers

-- They know the deck's air.
pub together_air : (deck : Deck) (pushed : List (List ℕ)) (listeners : List Listener) → AreTogether deck pushed listeners → All (λ l. l.air ≡ air_of deck) listeners
together_air deck pushed listeners are =
    let members = map bucket_in pushed in
    let knows : Listener → Type 0 = λ l. l.air ≡ air_of deck in
    subst (All knows) (sym are.heard)
    (All-map knows (hears members) (map (listener_of deck) (range_with_len 0 (length deck.readers)))
    (All-map (λ l. knows (hears members l)) (listener_of deck) (range_with_len 0 (length deck.readers))
    (λ k d below. keeps_air members (listener_of deck (get_or (range_with_len 0 (length deck.readers)) k d)))))

-- ---- a cycle

-- What one function makes of each slot another does, where they agree on the slots.
same_on : {X : Type 0} (f g : ℕ → X) (a n : ℕ) → ((s : ℕ) → a ≤ s → s < a + n → f s ≡ g s) → map f (range_with_len a n) ≡ map g (range_with_len a n)
same_on f g a zero same = refl
same_on f g a (suc n) same =
    ap (λ x. x ∷ map f (range_with_len (a + 1) n)) (same a (omega arith) (omega arith))
    ∙ ap (λ l. g a ∷ l) (same_on f g (a + 1) n (λ s from to. same s (omega arith) (omega arith)))

module _ (deck : Deck) (G : List Event) (source : Board) (from : AirsAfter deck G source) (own : OwnCycleLaw) (can : CanAir deck (G ++ Start ∷ [])) (form : Form) (p : EditionDisks)
    (formed : form ≡ form_of (air_of deck)) (in_force : p ≡ edition_disks deck (edition deck source.cycle)) where
  abbrev on : ℕ → Bucket
  on = bucket_on form p.edition (program p.disks) source

  abbrev board : Board
  board = board_after deck G source from

  forced : p ≡ edition_disks deck (edition deck board.cycle)
  forced = in_force ∙ ap (λ c. edition_disks deck (edition deck c)) (source_cycle deck G source from)

  pub slot_heard : (s : ℕ) → s < length (program p.disks) → IsTrue (fits (air_of deck) (on s)) × (bucket_in (spelling (on s)) ≡ Some (on s))
  unfolding is_start
  slot_heard s l = start_heard deck G Start board refl own can refl source from form p formed forced s l

  -- each bucket fits what the readers know
  pub cycle_fits : (air : Air) → air ≡ air_of deck → AreFitting air form p.edition (program p.disks) source
  cycle_fits air same s l = subst (λ air. IsTrue (fits air (on s))) (sym same) (slot_heard s l).0

  -- its records are aired next
  pub cycle_records : aired_bytes deck G ++ board_bytes form p.edition (program p.disks) source ≡ aired_bytes deck (G ++ Start ∷ [])
  unfolding is_start
  cycle_records = start_aired deck G Start board refl own can.made refl source from form p (aired_bytes deck G) (aired_bytes deck G ++ board_bytes form p.edition (program p.disks) source) formed forced refl refl

  -- and they are heard
  members : map bucket_in (board_bytes form p.edition (program p.disks) source) ≡ map (λ s. Some (on s)) (range_with_len 0 (length (program p.disks)))
  members =
      let slots = range_with_len 0 (length (program p.disks)) in
      ap (map bucket_in) (map-map spelling on slots) ∙ map-map bucket_in (λ s. spelling (on s)) slots
      ∙ same_on (λ s. bucket_in (spelling (on s))) (λ s. Some (on s)) 0 (length (program p.disks)) (λ s from to. (slot_heard s (omega arith)).1)

  pub cycle_heard : (before now : List Listener) → AreTogether deck (aired_bytes deck G) before
      → now ≡ map (hears (map (λ s. Some (on s)) (range_with_len 0 (length (program p.disks))))) before → AreTogether deck (aired_bytes deck (G ++ Start ∷ [])) now
  cycle_heard before now are heard =
      subst (λ rs. AreTogether deck rs now) cycle_records
      (together_heard deck (aired_bytes deck G) (board_bytes form p.edition (program p.disks) source) before now are (heard ∙ ap (λ os. map (hears os) before) (sym members)))
