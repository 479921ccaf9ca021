use Rattle.std.proofs.Common.{◌∙◌, sym, refl}
use Rattle.ev_links.proofs.Views.{read}
use Rattle.ev_links.proofs.Faults.{join_ready_in, places_whole, inside_read}
use Rattle.ev_links.proofs.links.Links.join_fault.Goals as goal

pub returns : goal.returns
returns c =
    let value = c.first_join_fault.ensures
    ∙ rw (
      c.is_clipping-is_clipping.ensures,
      c.is_inside-is_cycle.ensures.value ∙ inside_read c.self.inside.table c.args.self.now c.args.smart c.args.id c.self.view_is c.is_inside-is_cycle.ensures.unique,
      read c.self.inside.table c.args.self.now c.self.view_is,
      c.contains.ensures,
      c.contains-2.ensures,
      c.is_smart-is_smart.ensures,
      c.kind.ensures,
    ) refl
    in
    record {
      value = value;
      whole = λ none. places_whole c.self.inside.table c.args.self.now c.args.smart c.self.view_is c.self.invariant c.is_inside-is_cycle.ensures.unique
          (join_ready_in c.self.inside.table c.args.self.now c.args.id c.args.smart c.self.view_is (sym value ∙ none)).smart_there;
    }
