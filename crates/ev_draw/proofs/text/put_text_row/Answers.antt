use Rattle.std.proofs.Common.{ℕ, ◌≡◌, ◌+◌, ◌-◌, ◌<◌, Bool, false, List, length, get_or, arith, ap, refl, ◌∙◌}
use Rattle.std.specs.Prelude.{is_some, if◌then◌else◌}
use Rattle.std.proofs.lemmas.List.FromFn.{get_or-map-range_with_len, length-map-range_with_len}
use Rattle.ev_argb.specs.Argb.{Argb}
use Rattle.ev_model.specs.Glyphs.{text_bit}
use Rattle.ev_model.specs.Paint.{put, put_sample}
use Rattle.ev_model.specs.Sample.{text_sample}
use Rattle.ev_draw.specs.Making.{span, put_where}
use Rattle.ev_draw.proofs.Patching.{repainted}
use Rattle.ev_draw.proofs.Texting.{put_bit}
use Rattle.ev_draw.proofs.text.put_text_row.Goals as goal

pub returns : goal.returns
returns c =
    let font = c.args.font.now in
    let text = c.args.text.now in
    let bits = c.text_row.new.into in
    let n = length c.args.bits.now in
    let x = c.args.x in
    let op = c.args.op in
    let f = λ (column : ℕ). is_some (text_sample font text column c.args.j) in
    let len : length bits ≡ n = ap length c.text_row.ensures ∙ length-map-range_with_len f c.args.i n in
    repainted (span x c.args.y (length bits)) (span x c.args.y n) (put_where bits op c.white_in.result x) (λ column line value. put_sample op c.args.color (text_sample font text (c.args.i + (column - x)) c.args.j) value)
    (length bits) n c.args.plane.now c.put_bits.new.plane (ap (λ (k : ℕ). span x c.args.y k) len) len
    (λ column line value has.
    let l = has.left in let r = has.right in
    let within : column - x < n = omega arith in
    ap (λ (b : Bool). if b then put op c.white_in.result value else value)
    (ap (λ (bs : List Bool). get_or bs (column - x) false) c.text_row.ensures ∙ get_or-map-range_with_len f c.args.i n (column - x) (c.args.i + (column - x)) false within refl)
    ∙ ap (λ (q : Argb). if f (c.args.i + (column - x)) then put op q value else value) c.white_in.ensures
    ∙ put_bit op c.args.color (text_bit font text (c.args.i + (column - x)) c.args.j) value)
    c.put_bits.ensures
