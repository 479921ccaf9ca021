use Rattle.std.proofs.Common.{refl}
use Rattle.ev_scene.proofs.Deleting.{no_zero, emptied_more, emptied_all}
use Rattle.ev_scene.proofs.delete.clear_all.Goals as goal

pub ids-init : goal.ids-init
ids-init c = refl

pub clear-requires : goal.clear-requires
clear-requires c = record { serial = no_zero c.args.ids.now c.ids.id-index c.ids-test.true c.requires.serial }

pub ids-preserved : goal.ids-preserved
ids-preserved c = emptied_more c.args.ids.now c.ids.id-index c.ids-test.true c.ids.groups c.clear.new.self _ c.clear.ensures c.ids.invariant

pub returns : goal.returns
returns c = emptied_all c.args.ids.now c.ids.id-index c.ids-test.false c.ids.groups _ c.ids.invariant
