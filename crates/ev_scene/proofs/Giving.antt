-- What holds of all that loads gave to the objects of a scene, and what edits leave of it.
use Rattle.std.proofs.Common.{◌≡◌, ℕ, zero, suc, Bool, true, false, cond, if◌then◌else◌, List, [], ◌∷◌, ◌++◌, map, slice_set, Option, Some, None, ◌⊎◌, inl, inr, refl, sym, subst, ◌∙◌}
use Rattle.std.specs.List.{find}
use Rattle.std.specs.Option.{option_map, option_and_then, option_map_or, option_eq}
use Rattle.std.specs.Prelude.{nat_eq, All, IfSome, ℤ, ◌-ℤ◌}
use Rattle.std.proofs.lemmas.Option.{none-some, same_Some, IfSome_then}
use Rattle.ev_model.specs.Glyphs.{Glyphs}
use Rattle.ev_model.specs.Loaded.{Loaded}
use Rattle.ev_model.specs.Raster.{Raster}
use Rattle.ev_model.specs.Up.{is_smart}
use Rattle.ev_model.specs.declared.command.Edit.{Edit}
use Rattle.ev_model.specs.declared.command.Edit.TheVariants as edit
use Rattle.ev_model.specs.declared.content.Content.{Content}
use Rattle.ev_model.specs.declared.content.Content.TheVariants as content
use Rattle.ev_model.specs.declared.content.Fill.TheVariants.{Filled}
use Rattle.ev_model.specs.declared.content.Kind.{Kind}
use Rattle.ev_model.specs.declared.content.Kind.TheVariants as kind
use Rattle.ev_model.specs.declared.object.Object.{Object}
use Rattle.ev_links.specs.Ties.{has}
use Rattle.ev_scene.specs.Ids.{of_id, live}
use Rattle.ev_scene.specs.Board.{Board, named, is_named, inside, ids_in, stage_of}
use Rattle.ev_scene.specs.Change.{apply, change_image, change_text, fresh, color_of, fill_of, border_of}
use Rattle.ev_scene.specs.Edits.{effect, with_named, next_id, left, deleted, changed, shifted_by, shifted_all, moved, relaid, restacked, placed, rehomed, homed}
use Rattle.ev_scene.specs.Given.{image_of, font_of, HasImage, HasFont, HasLoads, HoldsLoads}
use Rattle.ev_scene.specs.ObjectLoads.{changed_at, with_image, with_font}
use Rattle.ev_scene.specs.declared.image_change.ImageChange.{ImageChange}
use Rattle.ev_scene.specs.declared.image_change.ImageChange.TheVariants as image_change
use Rattle.ev_scene.specs.declared.text_change.TextChange.{TextChange}
use Rattle.ev_scene.specs.declared.text_change.TextChange.TheVariants as text_change
use Rattle.ev_scene.specs.declared.change.Change.{Change}
use Rattle.ev_scene.specs.declared.change.Change.TheVariants as change
use Rattle.ev_scene.proofs.Capturing.{holds_in_order}
use Rattle.ev_scene.proofs.Places.{at_place, of_id_suc}

-- ---- what holds of each object that is there

abbrev Each : (Object → Type 0) → List (Option Object) → Type 0
Each H [] = Unit {0}
Each H (slot ∷ slots) = IfSome slot H × Each H slots

module _ (H : Object → Type 0) where
  each_in : (slots : List (Option Object)) → ((k : ℕ) (o : Object) → at_place slots k ≡ Some o → H o) → Each H slots
  each_in [] holds = tt
  each_in (None ∷ slots) holds = (tt, each_in slots (λ k. holds (suc k)))
  each_in (Some o ∷ slots) holds = (holds zero o refl, each_in slots (λ k. holds (suc k)))

  in_each : (slots : List (Option Object)) → Each H slots → (k : ℕ) (o : Object) → at_place slots k ≡ Some o → H o
  in_each [] each k o e = absurd (none-some o e)
  in_each (None ∷ slots) each zero o e = absurd (none-some o e)
  in_each (Some p ∷ slots) each zero o e = subst H (same_Some p o e) each.0
  in_each (slot ∷ slots) each (suc k) o e = in_each slots each.1 k o e

  each_of : (slots : List (Option Object)) → ((id : ℕ) (o : Object) → of_id slots id ≡ Some o → H o) → Each H slots
  each_of slots holds = each_in slots (λ k o e. holds (suc k) o (of_id_suc slots k ∙ e))

  of_each : (slots : List (Option Object)) → Each H slots → (id : ℕ) (o : Object) → of_id slots id ≡ Some o → H o
  of_each slots each zero o e = absurd (none-some o e)
  of_each slots each (suc k) o e = in_each slots each k o (sym (of_id_suc slots k) ∙ e)

  -- one in place of another
  each_set : (slots : List (Option Object)) (k : ℕ) (slot : Option Object) → Each H slots → IfSome slot H → Each H (slice_set slots k slot)
  each_set [] k slot each one = tt
  each_set (first ∷ slots) zero slot each one = (one, each.1)
  each_set (first ∷ slots) (suc k) slot each one = (each.0, each_set slots k slot each.1 one)

  each_end : (slots : List (Option Object)) (slot : Option Object) → Each H slots → IfSome slot H → Each H (slots ++ slot ∷ [])
  each_end [] slot each one = (one, tt)
  each_end (first ∷ slots) slot each one = (each.0, each_end slots slot each.1 one)

  each_map : (f : Option Object → Option Object) (slots : List (Option Object)) → ((slot : Option Object) → IfSome slot H → IfSome (f slot) H) → Each H slots → Each H (map f slots)
  each_map f [] keeps each = tt
  each_map f (slot ∷ slots) keeps each = (keeps slot each.0, each_map f slots keeps each.1)

  -- what is found among them
  each_found : (test : Object → Bool) (slots : List (Option Object)) → Each H slots → IfSome (find test (live slots)) H
  each_found test [] each = tt
  each_found test (None ∷ slots) each = each_found test slots each.1
  each_found test (Some o ∷ slots) each = go (test o) (each_found test slots each.1) where
    go : (b : Bool) → IfSome (find test (live slots)) H → IfSome (cond b (Some o) (find test (live slots))) H
    go true later = each.0
    go false later = later

  -- what is made of the object of a name
  each_named : (board : Board) (name : List ℕ) (make : Object → Board) → Each H board.objects → ((o : Object) → H o → Each H (make o).objects) → Each H (with_named board name make).objects
  each_named board name make each keeps = go (named board.objects name) (each_found (is_named name) board.objects each) where
    go : (found : Option Object) → IfSome found H → Each H (option_map_or make found board).objects
    go None one = each
    go (Some o) one = keeps o one

-- ---- what loads gave

module _ (P : Loaded Raster → Type 0) (Q : Loaded Glyphs → Type 0) where
  abbrev H : Object → Type 0
  H = HasLoads P Q

  abbrev Contents : Content → Type 0
  Contents c = IfSome (image_of c) P × IfSome (font_of c) Q

  of_contents : (o : Object) → Contents o.content → H o
  of_contents o h = record { image = h.0; font = h.1 }

  -- what a change of an image brings
  abbrev Draws : ImageChange → Type 0
  Draws (image_change.Load loaded) = P loaded
  Draws _ = Unit {0}

  draws : (d : ImageChange) (c : Content) → Draws d → Contents c → Contents (change_image d c)
  draws d (content.Text part) b h = h
  draws (image_change.File key) (content.Image part) b h = (tt, tt)
  draws (image_change.Load loaded) (content.Image part) b h = (b, tt)
  draws d other b h = h

  -- what a change of a text brings
  abbrev Writes : TextChange → Type 0
  Writes (text_change.Load loaded) = Q loaded
  Writes _ = Unit {0}

  writes : (w : TextChange) (c : Content) → Writes w → Contents c → Contents (change_text w c)
  writes w (content.Image part) b h = h
  writes (text_change.Font key) (content.Text part) b h = (tt, tt)
  writes (text_change.Load loaded) (content.Text part) b h = (tt, b)
  writes w other b h = h

  -- what a change brings
  abbrev Brings : Change → Type 0
  Brings (change.Image d) = Draws d
  Brings (change.Text w) = Writes w
  Brings _ = Unit {0}

  applies : (c : Change) (o : Object) → Brings c → H o → H (apply c o)
  applies (change.Image d) o b h = of_contents (apply (change.Image d) o) (draws d o.content b (h.image, h.font))
  applies (change.Text w) o b h = of_contents (apply (change.Text w) o) (writes w o.content b (h.image, h.font))
  applies other o b h = record { image = h.image; font = h.font }

  -- a new object has nothing from a load
  none_made : (id : ℕ) (name : List ℕ) (k : Kind) → H (fresh id name k)
  none_made id name kind.Rect = record { image = tt; font = tt }
  none_made id name other = record { image = tt; font = tt }

  leaves : (gone : List ℕ) (slot : Option Object) → IfSome slot H → IfSome (option_and_then (left gone) slot) H
  leaves gone None h = tt
  leaves gone (Some o) h = go (has gone o.id) (option_map_or (has gone) o.clipper false) where
    go : (a b : Bool) → IfSome (if a then None else Some (if b then record o { clipper = None } else o)) H
    go true b = tt
    go false true = record { image = h.image; font = h.font }
    go false false = h

  shifts : (dx dy : ℤ) (board : Board) (id : ℕ) (slot : Option Object) → IfSome slot H → IfSome (option_map (λ p. if has (inside board id) p.id then shifted_by dx dy p else p) slot) H
  shifts dx dy board id None h = tt
  shifts dx dy board id (Some p) h = go (has (inside board id) p.id) where
    go : (b : Bool) → H (if b then shifted_by dx dy p else p)
    go true = record { image = h.image; font = h.font }
    go false = h

  module _ (board : Board) (each : Each H board.objects) where
    changes : (c : Change) → Brings c → (o : Object) → H o → Each H (changed c board o).objects
    changes c b o h = each_set H board.objects _ (Some (apply c o)) each (applies c o b h)

    moves : (x y : ℤ) (o : Object) → H o → Each H (moved x y board o).objects
    moves x y o h = go (is_smart o) where
      go : (b : Bool) → Each H (if b then shifted_all (x -ℤ o.rect.x) (y -ℤ o.rect.y) board o.id else changed (change.Move x y) board o).objects
      go true = each_map H _ board.objects (shifts (x -ℤ o.rect.x) (y -ℤ o.rect.y) board o.id) each
      go false = changes (change.Move x y) tt o h

    homes : (parent : Option ℕ) (o : Object) → H o → Each H (homed parent board o).objects
    homes parent o h = go (option_eq nat_eq o.parent parent) where
      go : (b : Bool) → Each H (if b then board else rehomed parent board o).objects
      go true = each
      go false = changes (change.Parent parent) tt o h

    -- a change of the object of a name
    changes_named : (name : List ℕ) (c : Change) → Brings c → Each H (with_named board name (changed c board)).objects
    changes_named name c b = each_named H board name (changed c board) each (changes c b)

    edits : (e : Edit) → Each H (effect board e).objects
    edits (edit.Size w h) = each
    edits (edit.Make name k) = each_end H board.objects _ each (none_made (next_id board) name k)
    edits (edit.Delete name) = each_named H board name (λ o. deleted board o.id o.parent) each (λ o h. each_map H _ board.objects (leaves (inside board o.id)) each)
    edits (edit.Move name x y) = each_named H board name (moved x y board) each (moves x y)
    edits (edit.Resize name w h) = changes_named name (change.Resize w h) tt
    edits (edit.Show name on) = changes_named name (change.Show on) tt
    edits (edit.Color name r g b a) = changes_named name (change.Color (color_of r g b a)) tt
    edits (edit.SetOp name op) = changes_named name (change.Op op) tt
    edits (edit.Layer name layer) = each_named H board name (relaid layer board) each (changes (change.Layer layer) tt)
    edits (edit.Raise name up) = each_named H board name (restacked up board) each (λ o h. each)
    edits (edit.Place name other above) = each_named H board name _ each (λ o h. each_named H board other (placed above board o) each (λ p k. each))
    edits (edit.Clip name clipper) = each_named H board name _ each (λ o h. each_named H board clipper (λ c. changed (change.Clip (Some c.id)) board o) each (λ c k. changes (change.Clip (Some c.id)) tt o h))
    edits (edit.Unclip name) = changes_named name (change.Clip None) tt
    edits (edit.Member name smart) = each_named H board name _ each (λ o h. each_named H board smart (λ s. homed (Some s.id) board o) each (λ s k. homes (Some s.id) o h))
    edits (edit.Free name) = each_named H board name (homed None board) each (homes None)
    edits (edit.File name key) = changes_named name (change.Image (image_change.File key)) tt
    edits (edit.Font name key) = changes_named name (change.Text (text_change.Font key)) tt
    edits (edit.Say name text) = changes_named name (change.Text (text_change.Say text.now)) tt
    edits (edit.Fill name x y w h) = changes_named name (change.Image (image_change.Fill (fill_of x y w h))) tt
    edits (edit.Filled name) = changes_named name (change.Image (image_change.Fill Filled)) tt
    edits (edit.Border name l r t b) = changes_named name (change.Image (image_change.Border (border_of l r t b))) tt
    edits (edit.Center name on) = changes_named name (change.Image (image_change.Center on)) tt

    -- a change of the object of an id
    changes_at : (c : Change) → Brings c → (id : ℕ) → Each H (changed_at c board id).objects
    changes_at c b id = each_set H board.objects _ (option_map (apply c) (of_id board.objects id)) each (go (of_id board.objects id) (λ o e. of_each H board.objects each id o e)) where
      go : (f : Option Object) → ((o : Object) → f ≡ Some o → H o) → IfSome (option_map (apply c) f) H
      go None h = tt
      go (Some o) h = applies c o b (h o refl)

pub edits_hold : (P : Loaded Raster → Type 0) (Q : Loaded Glyphs → Type 0) (board : Board) (e : Edit) → HoldsLoads P Q board → HoldsLoads P Q (effect board e)
edits_hold P Q board e holds = of_each (HasLoads P Q) (effect board e).objects (edits P Q board (each_of (HasLoads P Q) board.objects holds) e)

pub image_holds : (P : Loaded Raster → Type 0) (Q : Loaded Glyphs → Type 0) (board : Board) (id number : ℕ) (image : Raster) → HoldsLoads P Q board → P (record { number = number; value = image }) → HoldsLoads P Q (with_image board id number image)
image_holds P Q board id number image holds new =
    let load : Change = change.Image (image_change.Load (record { number = number; value = image })) in
    of_each (HasLoads P Q) (with_image board id number image).objects (changes_at P Q board (each_of (HasLoads P Q) board.objects holds) load new id)

pub font_holds : (P : Loaded Raster → Type 0) (Q : Loaded Glyphs → Type 0) (board : Board) (id number : ℕ) (font : Glyphs) → HoldsLoads P Q board → Q (record { number = number; value = font }) → HoldsLoads P Q (with_font board id number font)
font_holds P Q board id number font holds new =
    let load : Change = change.Text (text_change.Load (record { number = number; value = font })) in
    of_each (HasLoads P Q) (with_font board id number font).objects (changes_at P Q board (each_of (HasLoads P Q) board.objects holds) load new id)

pub stage_holds : (P : Loaded Raster → Type 0) (Q : Loaded Glyphs → Type 0) (board : Board) → HoldsLoads P Q board → All (HasLoads P Q) (stage_of board).objects
stage_holds P Q board holds = holds_in_order (HasLoads P Q) board.objects (ids_in board None) holds

if_some : {T : Type 0} (f : Option T) (P : T → Type 0) → ((x : T) → f ≡ Some x → P x) → IfSome f P
if_some None P holds = tt
if_some (Some x) P holds = holds x refl

-- the loads of a board are those that its objects have
module _ (board : Board) where
  pub had : HoldsLoads (HasImage board) (HasFont board) board
  had id o there = record {
    image = if_some (image_of o.content) (HasImage board) (λ l e. record { id = id; object = o; there = there; has = e });
    font = if_some (font_of o.content) (HasFont board) (λ l e. record { id = id; object = o; there = there; has = e });
  }

  pub edits_had : (e : Edit) → HoldsLoads (HasImage board) (HasFont board) (effect board e)
  edits_had e = edits_hold (HasImage board) (HasFont board) board e had

  pub image_had : (id number : ℕ) (image : Raster) → HoldsLoads (λ l. HasImage board l ⊎ (l ≡ record { number = number; value = image })) (HasFont board) (with_image board id number image)
  image_had id number image =
      let Or : Loaded Raster → Type 0 = λ l. HasImage board l ⊎ (l ≡ record { number = number; value = image }) in
      image_holds Or (HasFont board) board id number image (λ at o there. let h = had at o there in record { image = IfSome_then (image_of o.content) h.image (λ l. inl); font = h.font }) (inr refl)

  pub font_had : (id number : ℕ) (font : Glyphs) → HoldsLoads (HasImage board) (λ l. HasFont board l ⊎ (l ≡ record { number = number; value = font })) (with_font board id number font)
  font_had id number font =
      let Or : Loaded Glyphs → Type 0 = λ l. HasFont board l ⊎ (l ≡ record { number = number; value = font }) in
      font_holds (HasImage board) Or board id number font (λ at o there. let h = had at o there in record { image = h.image; font = IfSome_then (font_of o.content) h.font (λ l. inl) }) (inr refl)

  pub stage_had : All (HasLoads (HasImage board) (HasFont board)) (stage_of board).objects
  stage_had = stage_holds (HasImage board) (HasFont board) board had
