use Rattle.std.proofs.Common.{◌∙◌, sym, refl}
use Rattle.ev_links.proofs.Views.{read, len_read}
use Rattle.ev_links.proofs.Faults.{clip_ready_in, up_whole}
use Rattle.ev_links.proofs.links.Links.clip_fault.Goals as goal

pub returns : goal.returns
returns c =
    let value = c.first_clip_fault.ensures
    ∙ rw (
      read c.self.inside.table c.args.self.now c.self.view_is,
      len_read c.self.inside.table c.args.self.now c.self.view_is c.meets-is_cycle.ensures.unique,
      c.contains.ensures,
      c.contains-2.ensures,
      c.is_rect-is_rect.ensures,
      c.kind.ensures,
      c.eq-are_siblings.ensures,
      c.parent.ensures,
      c.parent-2.ensures,
      c.meets-is_cycle.ensures.value,
    ) refl
    in
    record {
      value = value;
      whole = λ none. up_whole c.self.inside.table c.args.self.now c.args.clipper c.self.view_is c.self.invariant c.meets-is_cycle.ensures.unique
          (clip_ready_in c.self.inside.table c.args.self.now c.args.id c.args.clipper c.self.view_is (sym value ∙ none)).clipper_there;
    }
