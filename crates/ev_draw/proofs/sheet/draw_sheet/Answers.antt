use Rattle.std.proofs.Common.{List, arith, subst}
use Rattle.ev_cmds.specs.declared.sheet.Command.{Command}
use Rattle.ev_draw.specs.Making.{CarriesOutAll}
use Rattle.ev_draw.proofs.Drawing.{drawn}
use Rattle.ev_draw.proofs.sheet.draw_sheet.Goals as goal

pub returns-clause-drawn : goal.returns-clause-drawn
returns-clause-drawn c = λ work looks shows.
    drawn work looks c.args.left c.args.top _ _ c.args.plane.now c.clear_places.new.plane c.carry_out_all.new.plane (omega arith) (omega arith) c.requires.sheet.commands shows
    c.clear_places.ensures
    (subst (λ (cs : List Command). CarriesOutAll cs c.args.left c.args.top c.clear_places.new.plane c.carry_out_all.new.plane) c.deref.ensures.value c.carry_out_all.ensures)
