use Rattle.std.proofs.Common.{map, ◌∙◌, All, List, subst, sym}
use Rattle.std.proofs.lemmas.Result.{IfOk-weaker}
use Rattle.ev_geom.specs.Area.{Area}
use Rattle.ev_geom.specs.Bands.{FitsRegion}
use Rattle.ev_model.specs.Look.{look_of}
use Rattle.ev_damage.proofs.Stepping.{changes_fit, damage_of}
use Rattle.ev_damage.proofs.in_step.in_step.Goals as goal

pub united-requires : goal.united-requires
united-requires c =
    let P : List Area → Type 0 = All FitsRegion in
    subst P (sym (c.deref.ensures.value ∙ c.in_ok-areas.ensures)) (changes_fit c.args.old.now c.args.new.now c.requires.old_areas c.requires.new_areas)

pub returns : goal.returns
returns c = IfOk-weaker c.united.result _ _
    (λ region is. damage_of (map look_of c.args.old.now) (map look_of c.args.new.now) _ region c.requires.old_ids c.requires.new_ids c.requires.same_ids (c.deref.ensures.value ∙ c.in_ok-areas.ensures) is)
    c.united.ensures
