use Rattle.ev_script.proofs.session.carry_out.Goals as goal

pub returns-clause-carries : goal.returns-clause-carries
returns-clause-carries g c = record { outcome = c.act-outcome.result; acts = c.act-outcome.ensures; writes = c.tell.ensures.told }

pub tell-requires : goal.tell-requires
tell-requires g c = record { ended = (c.act-outcome.ensures.ready c.args.number c.requires.ready).idle }
