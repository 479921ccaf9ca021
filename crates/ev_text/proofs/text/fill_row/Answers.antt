use Rattle.std.proofs.Common.{◌≡◌, ℕ, ◌+◌, ◌-◌, ◌≤◌, ◌<◌, ◌∙◌, ap, length, take, drop, map, get_or, replicate, None, arith}
use Rattle.std.specs.List.{range_with_len}
use Rattle.std.proofs.lemmas.List.{length-take, length-drop}
use Rattle.ev_model.specs.Glyphs.{width_of}
use Rattle.ev_model.specs.Sample.{text_sample}
use Rattle.ev_model.proofs.Runs.{run_put, run_end, length-put_run}
use Rattle.ev_text.proofs.Texts.{low_run, GoesOn, goes_on, glyph_run, end_run, in_first, glyph_args}
use Rattle.ev_text.proofs.text.fill_row.Goals as goal

pub returns-then-y-height : goal.returns-then-y-height
returns-then-y-height g c = c.empty.ensures ∙ low_run g.T.Form.form c.args.font.now c.args.text.now c.args.x c.args.y (length c.args.into.now) (rw (← c.height.ensures.value) c.if-y-height.true)

pub returns-in-empty : goal.returns-in-empty
returns-in-empty g c =
    let font = c.args.font.now in
    let text = c.args.text.now in
    let into = c.loop-done.into in
    let done = c.loop-done.done in
    let left = length into - done in
    let next = c.text_from-from.result.0.now in
    let from = c.text_from-from.result.1 in
    let ahead : GoesOn font next from text (c.args.x + done) = λ y j. c.text_from-from.ensures.same y j ∙ c.loop-done.invariant.ahead y j in
    let len : length (take left (drop done into)) ≡ left = omega (arith, length-take left (drop done into), length-drop done into) in
    let is : c.empty-in-empty.new.into ≡ map (λ column. g.T.Form.form (text_sample font text column c.args.y)) (range_with_len (c.args.x + done) left) =
    c.empty-in-empty.ensures ∙ ap (λ (n : ℕ). replicate n (g.T.Form.form None)) len ∙ end_run g.T.Form.form font next text from (c.args.x + done) c.args.y left ahead c.in-empty.len_below in
    run_end (λ (column : ℕ). g.T.Form.form (text_sample font text column c.args.y)) into c.empty-in-empty.new.into c.args.x done left (omega arith) c.loop-done.invariant.so_far is
    ∙ ap (λ (n : ℕ). map (λ (column : ℕ). g.T.Form.form (text_sample font text column c.args.y)) (range_with_len c.args.x n)) c.loop-done.auto.into

pub loop-done-preserved : goal.loop-done-preserved
loop-done-preserved g c =
    let font = c.args.font.now in
    let text = c.args.text.now in
    let into = c.loop-done.into in
    let done = c.loop-done.done in
    let next = c.text_from-from.result.0.now in
    let from = c.text_from-from.result.1 in
    let n = c.min-len.result in
    let shown = λ (column : ℕ). g.T.Form.form (text_sample font text column c.args.y) in
    let ahead : GoesOn font next from text (c.args.x + done) = λ y j. c.text_from-from.ensures.same y j ∙ c.loop-done.invariant.ahead y j in
    let room : done + n ≤ length into = omega (arith, c.min-len.ensures) in
    let back : done + n - done ≡ n = omega arith in
    let len : length (take (done + n - done) (drop done into)) ≡ n = omega (arith, length-take (done + n - done) (drop done into), length-drop done into) in
    let high : c.args.y < font.height = omega (arith, c.height.ensures.value, c.if-y-height.false) in
    let some : 0 < length next = omega (arith, c.in-len1-up.len_at_least) in
    let wide : from + n ≤ width_of font (get_or next 0 0) = omega (arith, in_first font next from c.text_from-from.ensures.first some, c.min-len.ensures, c.width_of.ensures.value) in
    let is : c.put_bits.new.into ≡ map shown (range_with_len (c.args.x + done) n) =
    c.put_bits.ensures ∙ glyph_args g.T.Form.form _ _ from _ n c.row_of.ensures len ∙ glyph_run g.T.Form.form font next text from (c.args.x + done) c.args.y n ahead some wide high in
    let put = run_put shown into c.put_bits.new.into c.args.x done n room c.loop-done.invariant.so_far is in
    let sum : c.args.x + (done + n) ≡ c.args.x + done + n = omega arith in
    record {
      so_far = rw back put;
      ahead = rw sum (goes_on font next c.loop-done.rest.now text from c.loop-done.column (c.args.x + done) n c.text_from-from.ensures.same c.loop-done.invariant.ahead);
      within = rw back (omega (arith, length-put_run shown into c.put_bits.new.into (c.args.x + done) done n room is));
      text = c.text_from-from.ensures.text;
    }
