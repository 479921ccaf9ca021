use Rattle.std.proofs.Common.{◌≡◌, ◌-◌, suc, length, arith, sym, ap, ◌∙◌}
use Rattle.ev_buffers.specs.BufferChain.{drawn, FitsChain}
use Rattle.ev_buffers.specs.Kept.{ShowsLast}
use Rattle.ev_buffers.proofs.Lasts.{drawn_none, drawn_some, borrowed, drawn_fits, drawn_shows, of_found}
use Rattle.ev_buffers.proofs.buffers.Buffers.last.Goals as goal

pub returns-then-is_none-clause-drawn : goal.returns-then-is_none-clause-drawn
returns-then-is_none-clause-drawn c =
    let place : suc (c.len-last.result - 1) ≡ length c.self.inside.marks.items = omega (arith, c.len-last.ensures, c.self.invariant.some) in
    sym (ap drawn c.self.view_is) ∙ drawn_none (record { w = c.self.inside.width; h = c.self.inside.height; pictures = c.self.inside.pictures.items; marks = c.self.inside.marks.items }) (c.len-last.result - 1) c.index.result.now place c.index.ensures c.if-is_none.ensures

pub returns-clause-drawn : goal.returns-clause-drawn
returns-clause-drawn c =
    let place : suc (c.len-last.result - 1) ≡ length c.self.inside.marks.items = omega (arith, c.len-last.ensures, c.self.invariant.some) in
    let paired : suc (c.len-last.result - 1) ≡ length c.self.inside.pictures.items = place ∙ sym c.self.invariant.paired in
    borrowed c.as_ref.result c.index-2.result.now _ c.as_ref.ensures.value
    (sym (ap drawn c.self.view_is) ∙ drawn_some (record { w = c.self.inside.width; h = c.self.inside.height; pictures = c.self.inside.pictures.items; marks = c.self.inside.marks.items }) (c.len-last.result - 1) c.index.result.now c.index-2.result.now place paired c.index.ensures c.if-is_none.ensures c.index-2.ensures)

pub returns-clause-size : goal.returns-clause-size
returns-clause-size c =
    of_found _ (drawn c.args.self.now) (FitsChain c.args.self.now.w c.args.self.now.h) (returns-clause-drawn c)
    (drawn_fits _ _ c.self.view_is c.self.invariant)

pub returns-clause-shows : goal.returns-clause-shows
returns-clause-shows c =
    of_found _ (drawn c.args.self.now) (ShowsLast c.args.self.now) (returns-clause-drawn c)
    (drawn_shows _ _ c.self.view_is c.self.invariant)
