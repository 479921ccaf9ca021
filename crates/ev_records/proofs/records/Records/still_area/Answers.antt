use Rattle.std.proofs.Common.{◌∙◌, Option, IfSome, ap, sym, subst}
use Rattle.ev_geom.specs.Area.{Area}
use Rattle.ev_geom.specs.Bands.{FitsRegion}
use Rattle.ev_records.specs.Cells.{showing_of, shown}
use Rattle.ev_records.specs.Turned.{still}
use Rattle.ev_records.proofs.Changing.{there, shows, still_fits}
use Rattle.ev_records.proofs.records.Records.still_area.Goals as goal

pub returns-clause-fits : goal.returns-clause-fits
returns-clause-fits c =
    let low = there c.self.inside.formers.items c.self.inside.cells.items c.args.self.now c.args.place c.self.view_is c.requires in
    let P : Option Area → Type 0 = λ o. IfSome o FitsRegion in
    subst P (sym (c.still_area.ensures
    ∙ ap (λ formers. still (showing_of formers c.index.result.now)) c.deref.ensures.value
    ∙ ap (λ cell. still (showing_of c.self.inside.formers.items cell)) c.index.ensures
    ∙ sym (ap still (shows c.self.inside.formers.items c.self.inside.cells.items c.args.place c.index.result.now low))))
    (still_fits (shown c.self.inside.formers.items c.self.inside.cells.items) c.args.place c.self.invariant.kept.places)
