use Rattle.std.proofs.Common.{◌∙◌, sym, ap, subst, length}
use Rattle.cycle_snapshot.specs.SideRule.{Follows, Agrees}
use Rattle.cycle_snapshot.proofs.SightLemmas.{sees, follows_self, shown_values}
use Rattle.cycle_snapshot.proofs.monitors.take_frame.Goals as goal

pub enter_as-requires : goal.enter_as-requires
enter_as-requires c x = sees _ _ x x (follows_self x) (λ h. h)

pub copy-requires : goal.copy-requires
copy-requires c =
    let s = c.requires.seen in let y = c.in-Ok.reading.part.value in let o = c.in-Ok.ensures.1 in
    let follows : Follows s.0 y = subst (λ v. Agrees v y) s.1 o.1 in
    s.3 ∙ ap length (sym follows.values) ∙ sym (shown_values y o.2) ∙ ap (λ x. length x.board.values) (sym c.get-shown.ensures)
