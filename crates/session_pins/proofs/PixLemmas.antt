-- The PIX numbers of items on two disks.
use Rattle.std.proofs.Common.{◌≡◌, ◌∙◌, [], ◌∷◌, ap, refl}
use Rattle.air_model.specs.Aired.{air_of}
use Rattle.air_model.specs.Airings.{chunks_of, disk_number, pix_number}
use Rattle.air_model.specs.Decks.{Deck}
use Rattle.air_model.specs.Disks.{cut, order, order_with}
use Rattle.air_model.specs.Programs.{chunk, chunk_len, least_common_multiple, minor_cycle, num_chunks, num_minors, program}
use Rattle.session_pins.specs.SmallDecks.{tiered}

tiered_computed : (air_of tiered).pix ≡ (4 ∷ 3 ∷ []) ∷ []
unfolding chunks_of disk_number pix_number cut order order_with chunk chunk_len least_common_multiple minor_cycle num_chunks num_minors program
tiered_computed = refl

pub tiered_pix : (deck : Deck) → deck ≡ tiered → (air_of deck).pix ≡ (4 ∷ 3 ∷ []) ∷ []
tiered_pix deck is_tiered = ap (λ d. (air_of d).pix) is_tiered ∙ tiered_computed
