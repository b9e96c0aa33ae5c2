use Rattle.std.proofs.Common.{◌≡◌, ◌∙◌, ◌++◌, ◌∷◌, [], ℕ, List, sym, ap, subst}
use Rattle.std.proofs.Math.ListN.{replicate}
use Rattle.std.proofs.lemmas.List.{replicate-append-replicate}
use Rattle.air_ether.specs.HeardPlaces.{IsPlacesAfter}
use Rattle.air_ether.specs.HeardSoFar.{IsEtherAfter}
use Rattle.air_ether.proofs.place_ether.PlaceEther.push.Goals as goal

pub returns-clause-follows : goal.returns-clause-follows
returns-clause-follows c = λ seed number given so_far.
    let e = c.self.inside.ether in
    let f : IsPlacesAfter seed number given e = subst (IsPlacesAfter seed number given) (sym c.self.view_is) so_far in
    let empty : List (List ℕ) = replicate e.pushes [] in
    let grew : empty ++ [] ∷ [] ≡ replicate c.push.new.self.pushes [] = replicate-append-replicate e.pushes 1 [] ∙ ap (λ n. replicate n []) (sym c.push.ensures.pushes) in
    subst (λ ps. IsEtherAfter seed number ps given c.push.new.self) grew (c.push.ensures.follows seed number given empty f)
