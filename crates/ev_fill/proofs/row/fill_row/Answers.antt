use Rattle.std.proofs.Common.{◌≡◌, ℕ, ◌+◌, ◌-◌, ◌%◌, ◌<◌, ◌≤◌, ◌∙◌, map, take, drop, length, sym, ap, arith}
use Rattle.std.specs.List.{range_with_len}
use Rattle.std.proofs.lemmas.List.{length-take, length-drop}
use Rattle.std.proofs.lemmas.Nat.{mod_below}
use Rattle.ev_model.proofs.Runs.{run_put, length-put_run}
use Rattle.ev_fill.specs.Parts.{place_sample}
use Rattle.ev_fill.proofs.Turns.{wrapped, run_ahead}
use Rattle.ev_fill.proofs.row.fill_row.Goals as goal

pub loop-done-preserved : goal.loop-done-preserved
loop-done-preserved g c =
    let axis = c.args.columns.now in
    let into = c.loop-done.into in
    let done = c.loop-done.done in
    let n = c.min-len.result in
    let some : 0 < axis.len = omega arith in
    let stays : c.loop-done.u + n ≤ axis.len = omega (arith, c.min-len.ensures, c.run_len.ensures.part.high) in
    let room : done + n ≤ length into = omega (arith, c.min-len.ensures) in
    let back : done + n - done ≡ n = omega arith in
    let len : length (take (done + n - done) (drop done into)) ≡ n = omega (arith, length-take (done + n - done) (drop done into), length-drop done into) in
    let is : c.fill_run.new.into ≡ map (λ u. g.T.Form.form (place_sample c.args.row.now axis c.args.hidden (u % axis.len))) (range_with_len (c.args.phase + done) n) =
    c.fill_run.ensures ∙ ap (λ (n : ℕ). map (λ (u : ℕ). g.T.Form.form (place_sample c.args.row.now axis c.args.hidden u)) (range_with_len c.loop-done.u n)) len
    ∙ run_ahead (λ (u : ℕ). g.T.Form.form (place_sample c.args.row.now axis c.args.hidden u)) c.args.phase done c.loop-done.u n axis.len some c.loop-done.invariant.ahead stays in
    record {
      so_far = rw back (run_put (λ (u : ℕ). g.T.Form.form (place_sample c.args.row.now axis c.args.hidden (u % axis.len))) into c.fill_run.new.into c.args.phase done n room c.loop-done.invariant.so_far is);
      ahead = wrapped c.args.phase done n c.loop-done.u axis.len some c.loop-done.invariant.ahead ∙ sym c.wrapped-u.ensures;
      place = rw c.wrapped-u.ensures (mod_below (c.loop-done.u + n) axis.len some);
      within = rw back (omega (arith, length-put_run (λ (u : ℕ). g.T.Form.form (place_sample c.args.row.now axis c.args.hidden (u % axis.len))) into c.fill_run.new.into (c.args.phase + done) done n room is));
    }
