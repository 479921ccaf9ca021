use Rattle.std.proofs.Common.{◌≡◌, ◌<◌, length, ap, arith, ◌∙◌}
use Rattle.std.proofs.lemmas.Bool.Decides.{nat_tests}
use Rattle.ev_lang.specs.Lines.{line_of}
use Rattle.ev_script.proofs.Costs.{pays}
use Rattle.ev_script.proofs.Playing.{at_start, one_line, at_end, stopped, ready_opened, reaches_on, in_order}
use Rattle.ev_script.proofs.script.play_alone.Goals as goal

pub loop-rest-init : goal.loop-rest-init
loop-rest-init g c = record {
  so_far = at_start c.args.canvas.now.setup c.args.script.now _ _ c.args.canvas.now c.requires.opening;
  ready = ready_opened c.args.canvas.now.setup c.args.canvas.now c.requires.opening;
  painted = let none = ap (λ v. v.painted) c.requires.opening in omega (arith, none);
  numbered = omega arith;
  faults = omega arith;
}

pub loop-rest-preserved : goal.loop-rest-preserved
loop-rest-preserved g c =
    let at = c.loop-rest.invariant in
    let some : 0 < length c.loop-rest.rest.now = grind (arith, nat_tests, c.is_empty.ensures, c.loop-rest-test.true) in
    let line = c.read_line.ensures.says ∙ ap line_of c.first_line.ensures.line in
    record {
      so_far = one_line _ _ _ _ _ _ _ _ c.loop-rest.canvas c.carry_out.new.canvas c.loop-rest.number c.loop-rest.rest.now c.read_line.result c.first_line.result.1.now _ some line c.first_line.ensures.rest at.so_far c.in-Ok.ensures.carries;
      ready = c.carry_out.ensures.carries.acts.ready c.loop-rest.number at.ready;
      painted = pays c.args.script.now c.loop-rest.rest.now c.first_line.result.1.now c.read_line.result c.loop-rest.canvas.painted c.carry_out.new.canvas.painted line c.first_line.ensures.rest c.carry_out.ensures.carries.acts.painted at.painted;
      numbered = omega (arith, at.numbered, c.first_line.ensures.shorter some);
      faults = omega (arith, at.faults, c.carry_out.ensures.cause.later);
    }

pub returns-clause-played : goal.returns-clause-played
returns-clause-played g c = λ _.
    let none : length c.loop-rest.rest.now ≡ 0 = grind (arith, nat_tests, c.is_empty.ensures, c.loop-rest-test.false) in
    at_end _ _ _ _ _ _ c.loop-rest.canvas c.loop-rest.number c.loop-rest.rest.now none c.loop-rest.invariant.so_far

pub returns-in-Err-clause-stopped : goal.returns-in-Err-clause-stopped
returns-in-Err-clause-stopped g c = λ _.
    let some : 0 < length c.loop-rest.rest.now = grind (arith, nat_tests, c.is_empty.ensures, c.loop-rest-test.true) in
    let line = c.read_line.ensures.says ∙ ap line_of c.first_line.ensures.line in
    stopped _ _ _ _ _ _ _ _ c.loop-rest.canvas c.carry_out.new.canvas c.loop-rest.number c.loop-rest.rest.now c.read_line.result c.first_line.result.1.now _ some line c.first_line.ensures.rest c.loop-rest.invariant.so_far c.in-Err.ensures.carries

pub returns-clause-in_order : goal.returns-clause-in_order
returns-clause-in_order g c = in_order _ _ _ c.loop-rest.canvas _ _ _ c.loop-rest.invariant.so_far.reaches

pub returns-in-Err-clause-in_order : goal.returns-in-Err-clause-in_order
returns-in-Err-clause-in_order g c =
    let so_far = c.loop-rest.invariant.so_far in
    let carries = c.carry_out.ensures.carries in
    in_order _ _ _ c.carry_out.new.canvas _ _ _ (reaches_on _ _ _ _ c.loop-rest.canvas c.carry_out.new.canvas c.loop-rest.number so_far.answered c.read_line.result so_far.replies so_far.older carries.outcome so_far.numbered so_far.reaches carries.acts)

pub returns-clause-setup : goal.returns-clause-setup
returns-clause-setup g c = ap (λ s. s.setup) c.loop-rest.invariant.so_far.reaches.settles

pub returns-in-Err-clause-setup : goal.returns-in-Err-clause-setup
returns-in-Err-clause-setup g c = c.carry_out.ensures.carries.acts.setup ∙ ap (λ s. s.setup) c.loop-rest.invariant.so_far.reaches.settles

pub returns-clause-files : goal.returns-clause-files
returns-clause-files g c = ap (λ s. s.files) c.loop-rest.invariant.so_far.reaches.settles

pub returns-in-Err-clause-files : goal.returns-in-Err-clause-files
returns-in-Err-clause-files g c = c.carry_out.ensures.carries.acts.files ∙ ap (λ s. s.files) c.loop-rest.invariant.so_far.reaches.settles

pub returns-in-Err-clause-taken : goal.returns-in-Err-clause-taken
returns-in-Err-clause-taken g c = (c.carry_out.ensures.carries.acts.ready c.loop-rest.number c.loop-rest.invariant.ready).events

pub carry_out-requires-clause-painted : goal.carry_out-requires-clause-painted
carry_out-requires-clause-painted g c =
    let paid = c.loop-rest.invariant.painted in
    let short = c.requires.short in
    omega (arith, paid, short)
