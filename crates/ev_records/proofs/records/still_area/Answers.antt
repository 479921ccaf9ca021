use Rattle.ev_records.proofs.Changing.{still_unmarked}
use Rattle.ev_records.proofs.records.still_area.Goals as goal

pub returns-in-Some-None : goal.returns-in-Some-None
returns-in-Some-None c = still_unmarked c.args.formers.now c.args.cell.now c.in-Some-None.now c.in-Some-None.is-0 c.in-Some-None.is-1
