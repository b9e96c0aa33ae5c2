use Rattle.std.proofs.Common.{arith, refl, sym, ap, subst, ◌∙◌, ◌≡◌, ◌+◌, ℕ, List, [], length, Some}
use Rattle.std.specs.Prelude.{Contains, slice_index_or}
use Rattle.std.proofs.lemmas.List.{length-map}
use Rattle.std.proofs.lemmas.List.Elements.{Contains-get_or}
use Rattle.air_ether.specs.EtherFields.{ether_in}
use Rattle.air_ether.specs.HeardPlaces.{places_of}
use Rattle.air_ether.specs.HeardSoFar.{Ether, IsEtherAfter}
use Rattle.air_ether.specs.LentBuckets.{Gave}
use Rattle.air_ether.proofs.CursorLemmas.{queued_read}
use Rattle.air_ether.proofs.EtherLemmas.{due_is, given_bytes}
use Rattle.air_ether.proofs.ether.Ether.next.Goals as goal

pub returns-in_default : goal.returns-in_default
returns-in_default c =
    let old = c.args.self.now in
    let a = c.in_default.ensures.after in (
      (refl, λ _. tt, record { most = a.most; odds = a.odds; pushes = a.pushes; ended = a.ended; fewer = tt; quiet = a.quiet; follows = a.follows }),
      record {
        pushed = λ seed number given pushed f. tt;
        given = λ seed number given pushed f.
            c.in_default.ensures.given seed number given pushed f
            ∙ sym (ap length (due_is seed number old.odds pushed old.ended) ∙ length-map (places_of seed number old.odds (length pushed) old.ended) (λ place. slice_index_or pushed place []));
        after = tt;
      },
    )

pub returns : goal.returns
returns c =
    let old = c.args.self.now in
    let a = c.in-Some.ensures.after in
    let p = c.in-Some.place in
    let bytes = c.bytes.result in
    let within = c.in-Some.ensures.within in
    let read = queued_read c.self.inside.queue.items p c.index.result.now c.self.invariant.count c.index.ensures in
    let pushes : c.self.inside.pushes ≡ old.pushes = ap (λ (s : Ether). s.pushes) c.self.view_is ∙ a.pushes in
    let is : (seed number given : ℕ) (pushed : List (List ℕ)) → IsEtherAfter seed number pushed given old → slice_index_or pushed p [] ≡ bytes.now =
    λ seed number given pushed f.
    let now : IsEtherAfter seed number pushed (given + 1) (ether_in c.self.inside) = subst (IsEtherAfter seed number pushed (given + 1)) (sym c.self.view_is) (a.follows seed number given pushed f) in
    sym (now.bytes p (omega (arith, within.0)) (omega (arith, within.1))) ∙ ap (λ w. w.bytes) read ∙ sym c.bytes.ensures in (
      (
        refl,
        λ _. tt,
        subst (λ (s : Ether). Gave old (Some bytes) s) (sym c.self.view_is)
            (record { most = a.most; odds = a.odds; pushes = a.pushes; ended = a.ended; fewer = a.fewer; quiet = tt; follows = a.follows }),
      ),
      record {
        pushed = λ seed number given pushed f. subst (Contains pushed) (is seed number given pushed f) (Contains-get_or pushed p [] (omega (arith, f.pushes, within.0)));
        given = λ seed number given pushed f.
            given_bytes seed number given old.odds pushed old.ended p bytes.now (c.in-Some.ensures.given seed number given pushed f) (is seed number given pushed f);
        after = tt;
      },
    )
