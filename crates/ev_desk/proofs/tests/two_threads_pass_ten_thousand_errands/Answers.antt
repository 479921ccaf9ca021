use Rattle.ev_desk.proofs.Stages.{fresh_idle}
use Rattle.ev_desk.proofs.tests.two_threads_pass_ten_thousand_errands.Goals as goal

pub pass_in_threads-requires-clause-idle : goal.pass_in_threads-requires-clause-idle
pass_in_threads-requires-clause-idle g c κs = fresh_idle _ c.in_ok-asker.ensures.asker
