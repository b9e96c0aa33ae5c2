use Rattle.std.proofs.Common.{◌∙◌, [], ap, drop, sym}
use Rattle.air_index.specs.Searches.{SeekerState, seeker_tells, told_from}
use Rattle.air_index.proofs.SearchLemmas.{end_answer, end_first, end_index, end_item}
use Rattle.air_index.proofs.seeker.Seeker.end.Goals as goal

pub returns-in-First : goal.returns-in-First
returns-in-First c =
    let s = c.self.inside.search in
    end_first c.self.inside.item s.place s.skip ∙ ap (λ w. told_from c.self.inside.item s.place w (drop s.skip [])) (sym c.in-First.is) ∙ ap (λ (x : SeekerState). seeker_tells x []) c.self.view_is

pub returns-in-Index : goal.returns-in-Index
returns-in-Index c =
    let s = c.self.inside.search in
    end_index c.self.inside.item s.place s.skip ∙ ap (λ w. told_from c.self.inside.item s.place w (drop s.skip [])) (sym c.in-Index.is) ∙ ap (λ (x : SeekerState). seeker_tells x []) c.self.view_is

pub returns-in-Item : goal.returns-in-Item
returns-in-Item c =
    let s = c.self.inside.search in
    end_item c.self.inside.item s.place s.skip c.in-Item.opens ∙ ap (λ w. told_from c.self.inside.item s.place w (drop s.skip [])) (sym c.in-Item.is)
    ∙ ap (λ (x : SeekerState). seeker_tells x []) c.self.view_is

pub returns-in-Nothing : goal.returns-in-Nothing
returns-in-Nothing c =
    let s = c.self.inside.search in
    end_answer c.self.inside.item s.place s.skip c.in-Nothing.answer ∙ ap (λ w. told_from c.self.inside.item s.place w (drop s.skip [])) (sym c.in-Nothing.is)
    ∙ ap (λ (x : SeekerState). seeker_tells x []) c.self.view_is
