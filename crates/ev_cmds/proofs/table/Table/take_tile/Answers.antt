use Rattle.std.proofs.Common.{arith, ◌-◌, refl}
use Rattle.std.proofs.lemmas.Result.{on_ok_weaker}
use Rattle.ev_cmds.proofs.Moving.{no_job, its_job, job_within, job_low}
use Rattle.ev_cmds.proofs.table.Table.take_tile.Goals as goal

pub returns-then-place-eq0 : goal.returns-then-place-eq0
returns-then-place-eq0 c = no_job c.args.self.now.places.items _ _ _ c.args.one.now c.args.seen.now c.args.tile c.args.jobs.now c.requires.table.places (omega (arith, c.place-place.ensures))

pub bounds-jobs-place : goal.bounds-jobs-place
bounds-jobs-place c = job_within c.args.self.now.places.items _ c.args.tile c.place-place.result c.args.jobs.now c.requires.table.places c.requires.tile c.place-place.ensures (omega arith)

pub returns : goal.returns
returns c =
    on_ok_weaker c.take.result (λ takes.
    its_job c.args.self.now.places.items _ c.args.self.now.w c.args.self.now.h c.args.one.now c.args.seen.now c.args.tile (c.place-place.result - 1) c.args.jobs.now c.index-jobs-place.result _ c.take.new.self
    c.requires.table.width c.requires.table.height c.requires.table.places c.requires.tile (omega (arith, c.place-place.ensures)) refl takes)
    c.take.ensures

pub offset_bounds-jobs-place : goal.offset_bounds-jobs-place
offset_bounds-jobs-place c =
    let low = job_low c.args.self.now.places.items _ c.args.tile c.place-place.result c.args.jobs.now c.requires.table.places c.requires.tile c.place-place.ensures (omega arith) c.requires.table.few in
    omega (arith, low)
