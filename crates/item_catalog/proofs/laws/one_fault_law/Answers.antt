use Rattle.std.proofs.Common.{◌+◌, ◌∙◌, ap, length, sym}
use Rattle.item_catalog.specs.Records.{records_of}
use Rattle.item_catalog.proofs.FaultPlaces.{one_kind, one_place}
use Rattle.item_catalog.specs.Faults.{kinds_at}
use Rattle.item_catalog.specs.Grammar.{HasFault}
use Rattle.item_catalog.proofs.laws.one_fault_law.Goals as goal

pub returns : goal.returns
unfolding HasFault
returns c = λ text row1 kind1 row2 kind2 first second.
    let kinds = kinds_at (records_of text) in let places = length (records_of text) + 1 in (
      first.1 ∙ ap (λ p. p + 1) (one_place kinds places first.0 second.0 kind1 kind2 first.2 second.2) ∙ sym second.1,
      one_kind kinds places first.0 second.0 kind1 kind2 first.2 second.2,
    )
