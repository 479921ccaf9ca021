use Rattle.std.proofs.Common.{◌+◌, ◌-◌, ◌≡◌, ◌∙◌, ℕ, Some, ap, drop, length, map, take, arith}
use Rattle.ev_fill.proofs.Places.{copied_run}
use Rattle.ev_fill.proofs.run.copy_run.Goals as goal

pub returns : goal.returns
returns g c =
    let n = length c.args.into.now in
    let all : c.args.from + n - c.args.from ≡ n = omega arith in
    c.copy.ensures
    ∙ ap (λ (n : ℕ). map (λ p. g.T.Form.form (Some p)) (take n (drop c.args.from c.args.row.now))) all
    ∙ copied_run g.T.Form.form c.args.row.now c.args.from n c.requires
