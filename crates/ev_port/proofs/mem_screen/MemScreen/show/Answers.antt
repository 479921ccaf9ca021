use Rattle.std.proofs.Common.{◌≡◌, ◌*◌, length, false, refl, sym, subst, ◌∙◌, arith}
use Rattle.ev_port.specs.Frame.{frame_of}
use Rattle.ev_port.specs.Memory.{is_too_small}
use Rattle.ev_port.proofs.Rows.{length-pixels_of}
use Rattle.ev_port.proofs.Laying.{laid, as_read, read_back}
use Rattle.ev_port.proofs.Fitting.{HasRoom, has_room}
use Rattle.ev_port.proofs.mem_screen.MemScreen.show.Goals as goal

pub invariant_of-self : goal.invariant_of-self
invariant_of-self c =
    let old = c.self.inside in
    let picture = c.args.picture.now in
    let size : c.width.result * c.height.result ≡ picture.w * picture.h = rw (c.width.ensures.width, c.height.ensures.height) refl in
    let room : HasRoom old.room (length c.args.updates.now) (picture.w * picture.h) =
    has_room old.room _ _ (subst (λ value. is_too_small value.room (length c.args.updates.now) (picture.w * picture.h) ≡ false) (sym c.self.view_is) c.requires.room) in
    let flat = laid _ _ _ _ _ _ _ (frame_of c.args.n c.args.updates.now picture) _ _ _ _
    c.self.invariant.0 (length-pixels_of picture) c.width.ensures.width c.height.ensures.height
    (c.len.ensures ∙ old.updates.ok.0) (c.len-2.ensures ∙ old.pixels.ok.0)
    c.append.ensures.items c.append-2.ensures.items c.append_pixels.ensures.items in (
      as_read _ _ _ _ flat,
      omega (arith, c.append.ensures.len, c.append.ensures.capacity, c.self.invariant.1, room.frames),
      omega (arith, c.append-2.ensures.len, c.append-2.ensures.capacity, c.self.invariant.2, room.updates),
      omega (arith, c.append_pixels.ensures.len, c.append_pixels.ensures.capacity, c.self.invariant.3, room.pixels, size),
    )

pub returns : goal.returns
returns c =
    let old = c.self.inside in
    let picture = c.args.picture.now in
    let flat = laid _ _ _ _ _ _ _ (frame_of c.args.n c.args.updates.now picture) _ _ _ _
    c.self.invariant.0 (length-pixels_of picture) c.width.ensures.width c.height.ensures.height
    (c.len.ensures ∙ old.updates.ok.0) (c.len-2.ensures ∙ old.pixels.ok.0)
    c.append.ensures.items c.append-2.ensures.items c.append_pixels.ensures.items in
    rw (← c.self.view_is, read_back _ _ _ _ flat, c.width.ensures.width, c.height.ensures.height) refl
