use Rattle.std.proofs.Common.{◌∙◌, ap, All, List, subst, sym}
use Rattle.std.proofs.lemmas.Result.{IfOk-weaker}
use Rattle.ev_geom.specs.Area.{Area}
use Rattle.ev_geom.specs.Bands.{FitsRegion, IsBandsOf, has_pixel}
use Rattle.ev_damage.specs.Marked.{is_marked}
use Rattle.ev_records.specs.Showing.{Showing, HavePlaces}
use Rattle.ev_records.specs.Changes.{changes}
use Rattle.ev_records.specs.Cells.{shown, places_of}
use Rattle.ev_records.proofs.Lining.{Keeps}
use Rattle.ev_records.proofs.Changing.{keeps, same_changes, changes_fit}
use Rattle.ev_records.proofs.Turnings.{restacked_of}
use Rattle.ev_records.proofs.records.Records.damage.Goals as goal

pub united-requires : goal.united-requires
united-requires c =
    let P : List Area → Type 0 = All FitsRegion in
    subst P (sym c.deref-4.ensures.value)
    (c.in_ok-push_turned.ensures.fits (subst P (sym (c.in_ok-areas.ensures ∙ same_changes _ _ _ _ c.deref.ensures.value c.deref-2.ensures.value))
    (changes_fit (shown c.self.inside.formers.items c.self.inside.cells.items) (places_of c.self.inside.formers.items) c.self.invariant.kept.places)))

pub returns : goal.returns
returns c = λ before now rise rise' have. IfOk-weaker c.united.result _ _
    (λ region is.
    let P : List Showing → Type 0 = HavePlaces in
    let Q : List Showing → Type 0 = Keeps (places_of c.self.inside.formers.items) in
    let R : List Area → Type 0 = λ areas. IsBandsOf (has_pixel areas) region in
    restacked_of c.args.self.now c.args.ranks.now (places_of c.self.inside.formers.items) c.deref-3.result.now before now c.in_ok-areas.areas.items _ region
    (subst P c.self.view_is c.self.invariant.kept.places) (subst Q c.self.view_is (keeps c.self.inside.formers.items c.self.inside.cells.items c.self.invariant.kept.tied))
    (record { kept = λ place off. c.moved.ensures.stays.kept place (sym (c.in_ok-moved.ensures place) ∙ ap (λ places. is_marked places place) (sym c.deref-3.ensures.value) ∙ off) })
    (c.in_ok-areas.ensures ∙ same_changes _ _ _ _ c.deref.ensures.value c.deref-2.ensures.value ∙ ap (λ all. changes all (places_of c.self.inside.formers.items)) c.self.view_is)
    c.in_ok-push_turned.ensures rise rise' have (subst R c.deref-4.ensures.value is))
    c.united.ensures
