use Rattle.std.proofs.Common.{◌==◌, sym, ◌∙◌, subst, refl}
use Rattle.std.proofs.lemmas.List.Elements.{All-more}
use Rattle.std.proofs.lemmas.List.Folds.{list_all_more}
use Rattle.ev_argb.specs.Argb as argb
use Rattle.ev_argb.proofs.span.are_opaque.Goals as goal

pub loop-i-preserved : goal.loop-i-preserved
loop-i-preserved c =
    let p : argb.Argb = c.index-pixels-i.result in
    record {
      opaque = c.is_opaque_too-opaque.ensures.value
          ∙ rw (c.loop-i.invariant.opaque, sym c.index-pixels-i.is) refl
          ∙ sym (list_all_more (λ (q : argb.Argb). q.a == 255) c.args.pixels.now c.loop-i.i p c.loop-i-test.true);
      premultiplied = All-more argb.IsPremultiplied c.args.pixels.now c.loop-i.i p c.loop-i-test.true c.loop-i.invariant.premultiplied (subst argb.IsPremultiplied c.index-pixels-i.is c.is_opaque_too-opaque.ensures.premultiplied);
    }
