use Rattle.std.proofs.Common.{subst, arith}
use Rattle.ev_image.specs.Reading.{Gives}
use Rattle.ev_image.proofs.Spellings.{is_found, image_again}
use Rattle.ev_image.proofs.reading.decode.Goals as goal

pub returns-clause-found : goal.returns-clause-found
returns-clause-found c = is_found c.args.bytes.now c.image_at.result (λ i. omega (arith, c.type_inv.bytes i)) c.image_at.ensures

pub returns-clause-only : goal.returns-clause-only
returns-clause-only c = λ image stands. subst (λ read. Gives (λ image. image) c.image_at.result read) (image_again c.args.bytes.now image stands) c.image_at.ensures
