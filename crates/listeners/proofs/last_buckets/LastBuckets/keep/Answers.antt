use Rattle.std.proofs.Common.{◌≡◌, ◌%◌, ◌∙◌, ℕ, List, map, ap}
use Rattle.std.proofs.Math.ListN.{set}
use Rattle.std.proofs.lemmas.List.{map-set}
use Rattle.listeners.proofs.last_buckets.LastBuckets.keep.Goals as goal

pub returns : goal.returns
returns c =
    let i = c.args.place % 9 in
    let items = c.self.inside.buckets.items in
    let copied : c.in_ok-copy.copy.items ≡ c.args.bytes.now = c.in_ok-copy.ensures.items_if_clones_equal (λ x y e. e) in
    map-set (λ b. b.items) items i c.in_ok-copy.copy ∙ ap (set (map (λ b. b.items) items) i) copied ∙ ap (λ (l : List (List ℕ)). set l i c.args.bytes.now) c.self.view_is
