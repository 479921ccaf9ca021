use Rattle.ev_draw.proofs.Texting.{text_shows, no_text}
use Rattle.ev_draw.proofs.text.put_text_part.Goals as goal

pub put_text-requires-clause-content : goal.put_text-requires-clause-content
put_text-requires-clause-content c = text_shows c.args.command.now.object.value c.args.part.now _ _ _ c.requires.content c.in-Some.is c.font.ensures c.bytes.ensures

pub returns-in-None : goal.returns-in-None
returns-in-None c = no_text c.args.command.now c.args.part.now c.args.left c.args.top c.args.plane.now c.requires.content c.in-None.is
