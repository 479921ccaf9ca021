use Rattle.std.proofs.Common.{◌≡◌, [], false, sum_by, length, replicate, Some, arith, sym, ap, ◌∙◌, subst, refl, append-nil}
use Rattle.std.proofs.lemmas.List.{length-replicate}
use Rattle.ev_argb.specs.Grid.{blank_grid}
use Rattle.ev_buffers.specs.Marks.{in_picture}
use Rattle.ev_buffers.specs.BufferChain.{IsLine, AreUnused, is_out, last_picture, painted_at_home}
use Rattle.ev_buffers.proofs.Blanks.{blank_fits, blank_line, blank_home, blanks_painted}
use Rattle.ev_buffers.proofs.Turns.{shows_new, covered_new, stale_new}
use Rattle.ev_buffers.proofs.Within.{within_new}
use Rattle.ev_buffers.proofs.buffers.Buffers.create.Goals as goal

pub invariant_of-result : goal.invariant_of-result
invariant_of-result c =
    let all : c.loop-k.k ≡ c.args.n = omega arith in
    let unused : AreUnused (in_picture c.args.w c.args.h) c.loop-k.marks.items = subst (AreUnused (in_picture c.args.w c.args.h)) (append-nil c.loop-k.marks.items) (c.loop-k.invariant.marks [] tt) in
    record {
      width_low = c.requires.width_low;
      width_high = c.requires.width_high;
      height_low = c.requires.height_low;
      height_high = c.requires.height_high;
      some = omega (arith, c.loop-k.invariant.count);
      few = omega (arith, c.loop-k.invariant.count);
      paired = ap length c.loop-k.invariant.pictures ∙ length-replicate c.loop-k.k (Some (blank_grid c.args.w c.args.h)) ∙ sym c.loop-k.invariant.count;
      line = subst (IsLine c.args.w c.args.h) (sym c.loop-k.invariant.pictures)
          (blank_line c.args.w c.args.h c.loop-k.k (blank_fits c.args.w c.args.h c.requires.width_low c.requires.width_high c.requires.height_low c.requires.height_high));
      within = within_new c.args.w c.args.h c.loop-k.marks.items unused;
      stale = stale_new c.args.w c.args.h c.loop-k.marks.items unused;
    }

pub returns : goal.returns
returns c =
    let all : c.loop-k.k ≡ c.args.n = omega arith in
    let unused : AreUnused (in_picture c.args.w c.args.h) c.loop-k.marks.items = subst (AreUnused (in_picture c.args.w c.args.h)) (append-nil c.loop-k.marks.items) (c.loop-k.invariant.marks [] tt) in
    let blanks : c.loop-k.pictures.items ≡ replicate c.args.n (Some (blank_grid c.args.w c.args.h)) = c.loop-k.invariant.pictures ∙ ap (λ k. replicate k (Some (blank_grid c.args.w c.args.h))) all in
    record {
      width = refl;
      height = refl;
      pictures = blanks;
      count = c.loop-k.invariant.count ∙ all;
      marks = unused;
      home = subst (λ pictures. is_out (last_picture pictures) ≡ false) (sym blanks) (blank_home (blank_grid c.args.w c.args.h) c.args.n c.requires.some);
      painted = ap (sum_by painted_at_home) blanks ∙ blanks_painted c.args.w c.args.h c.args.n;
      kept = λ paint. record {
        pixels = shows_new c.args.w c.args.h paint c.loop-k.pictures.items c.loop-k.marks.items (ap length c.loop-k.invariant.pictures ∙ length-replicate c.loop-k.k (Some (blank_grid c.args.w c.args.h)) ∙ sym c.loop-k.invariant.count);
        covered = covered_new c.args.w c.args.h c.loop-k.marks.items;
      };
    }
