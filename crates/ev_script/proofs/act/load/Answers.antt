use Rattle.ev_script.proofs.Loading.{load_refused, load_ended}
use Rattle.ev_script.proofs.act.load.Goals as goal

pub returns-in-Err : goal.returns-in-Err
returns-in-Err g c frames faults = load_refused _ c.args.name.now c.in-Err.cause c.args.canvas.now c.preload.new.self c.in-Err.ensures.begins c.preload.ensures.alone

pub returns : goal.returns
returns g c frames faults =
    let number = c.number-number.ensures in
    load_ended frames faults _ _ _ _ c.args.name.now c.args.canvas.now c.preload.new.self c.hold.new.self c.collect.new.self c.next_event.new.self c.in-Ok.job c.collect.result c.in-Some.event c.load_one-end.result c.load_one-end.ensures.files (record {
      idle = c.requires.ready.running;
      preload = c.in-Ok.ensures.begins;
      begun_alone = c.preload.ensures.alone;
      by_files = c.load_one-end.ensures.end;
      of_kind = c.load_one-end.ensures.kind;
      counts = c.load_one-end.ensures.counts;
      later = c.load_one-end.ensures.later;
      holds = rw number at c.hold.ensures.holds;
      held_alone = c.hold.ensures.alone;
      collects = rw number at c.collect.ensures.collects;
      collected_setup = c.collect.ensures.setup;
      collected_painted = c.collect.ensures.painted;
      first = c.in-Some.ensures.first;
      rest = c.next_event.ensures.rest;
    })
