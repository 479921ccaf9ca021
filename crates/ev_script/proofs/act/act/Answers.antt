use Rattle.std.proofs.Common.{Ok, refl}
use Rattle.ev_lang.specs.declared.line.Line.TheVariants as line
use Rattle.ev_script.specs.declared.outcome.Outcome.TheVariants as outcome
use Rattle.ev_script.proofs.Turns.{still_acts}
use Rattle.ev_script.proofs.act.act.Goals as goal

pub returns-in-Empty : goal.returns-in-Empty
returns-in-Empty g c = rw c.in-Empty.is (still_acts line.Empty _ c.args.canvas.now (outcome.Done (Ok tt)) (λ n older. refl) (λ n. record { losses = refl; failures = refl }))

pub returns-in-Bad : goal.returns-in-Bad
returns-in-Bad g c = rw c.in-Bad.is (still_acts (line.Bad c.in-Bad.fault) _ c.args.canvas.now (outcome.Bad c.in-Bad.fault) (λ n older. refl) (λ n. record { losses = refl; failures = refl }))
