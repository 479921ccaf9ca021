-- Why ties refuse a change, told of an edit.
use Rattle.ev_model.specs.declared.refusal.Refusal.{Refusal}
use Rattle.ev_model.specs.declared.refusal.Refusal.TheVariants as refusal
use Rattle.ev_links.specs.declared.refusal.LinkErr.{LinkErr}
use Rattle.ev_links.specs.declared.refusal.LinkErr.TheVariants as link

abbrev pub refusal_of : LinkErr → Refusal
refusal_of link.Unknown = refusal.Unknown
refusal_of link.Itself = refusal.Itself
refusal_of link.Kind = refusal.Kind
refusal_of link.Sibling = refusal.Sibling
refusal_of link.Cycle = refusal.Cycle
refusal_of link.Clipping = refusal.Clipping
