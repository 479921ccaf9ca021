-- An edit that deletes nothing leaves each object there, and of its kind.
use Rattle.std.proofs.Common.{◌≡◌, ℕ, suc, ◌+◌, ◌-ℤ◌, ℤ, ◌==◌, arith, List, [], ◌∷◌, Bool, true, false, cond, find, if◌then◌else◌, Option, Some, None, Result, Ok, Err, is_some, length, refl, ap, subst, sym, ◌∙◌, inl, inr}
use Rattle.std.specs.Prelude.{nat_eq}
use Rattle.std.specs.Option.{option_map, option_map_or, option_and_then, option_eq}
use Rattle.std.proofs.lemmas.Bool.Decides.{eqb_tells}
use Rattle.std.proofs.lemmas.Option.{none-some}
use Rattle.std.proofs.Math.Bool.{true≢false}
use Rattle.ev_model.specs.Content.{kind_of}
use Rattle.ev_model.specs.Up.{is_smart}
use Rattle.ev_model.specs.declared.command.Edit.{Edit}
use Rattle.ev_model.specs.declared.command.Edit.TheVariants as edit
use Rattle.ev_model.specs.declared.content.Fill.TheVariants.{Filled}
use Rattle.ev_model.specs.declared.content.Kind.{Kind}
use Rattle.ev_model.specs.declared.object.Object.{Object}
use Rattle.ev_model.specs.declared.refusal.Refusal.{Refusal}
use Rattle.ev_links.specs.Ties.{has}
use Rattle.ev_scene.specs.Ids.{of_id, put, live}
use Rattle.ev_scene.specs.Board.{Board, Kept, board, named, inside, is_named}
use Rattle.ev_scene.specs.Cast.{IsCast, kept_of, board_of}
use Rattle.ev_scene.specs.Change.{apply, fresh, color_of, fill_of, border_of}
use Rattle.ev_scene.specs.Edits.{Edits, effect, with_named, left, deleted, changed, shifted_by, shifted_all, moved, made, next_id, homed, rehomed}
use Rattle.ev_scene.specs.Kinds.{kind_at, KeepsKinds, LeavesKinds, is_delete}
use Rattle.ev_scene.specs.declared.cast.Cast.{Cast}
use Rattle.ev_scene.specs.declared.change.Change.{Change}
use Rattle.ev_scene.specs.declared.change.Change.TheVariants as change
use Rattle.ev_scene.specs.declared.image_change.ImageChange.TheVariants as image_change
use Rattle.ev_scene.specs.declared.text_change.TextChange.TheVariants as text_change
use Rattle.ev_scene.proofs.Deleting.{of_id_each}
use Rattle.ev_scene.proofs.Places.{at_place, of_id_suc, of_id_put, of_id_end, of_id_map, past_end}
use Rattle.ev_scene.proofs.Standing.{image_change_kind, text_change_kind}

abbrev kind_in : Option Object → Option Kind
kind_in x = option_map (λ o. kind_of o.content) x

-- a change leaves the kind
change_kind : (c : Change) (o : Object) → kind_of (apply c o).content ≡ kind_of o.content
change_kind (change.Image d) o = image_change_kind d o.content
change_kind (change.Text w) o = text_change_kind w o.content
change_kind other o = refl

-- where each object stands under its id, so does the object of a name
stands_at : (objects : List (Option Object)) → ((id : ℕ) (o : Object) → of_id objects id ≡ Some o → o.id ≡ id) → (j : ℕ) (o : Object) → at_place objects j ≡ Some o → of_id objects o.id ≡ Some o
stands_at objects own j o at = let there = of_id_suc objects j ∙ at in ap (of_id objects) (own (suc j) o there) ∙ there

found_at : (test : Object → Bool) (slots : List (Option Object)) (o : Object) → find test (live slots) ≡ Some o → (j : ℕ) × (at_place slots j ≡ Some o)
found_at test [] o e = absurd (none-some o e)
found_at test (None ∷ slots) o e = let later = found_at test slots o e in (suc later.0, later.1)
found_at test (Some x ∷ slots) o e = go (test x) e (found_at test slots o) where
  go : (b : Bool) → cond b (Some x) (find test (live slots)) ≡ Some o → (find test (live slots) ≡ Some o → (j : ℕ) × (at_place slots j ≡ Some o)) → (j : ℕ) × (at_place (Some x ∷ slots) j ≡ Some o)
  go true e later = (0, e)
  go false e later = let found = later e in (suc found.0, found.1)

pub named_own : (objects : List (Option Object)) → ((id : ℕ) (o : Object) → of_id objects id ≡ Some o → o.id ≡ id) → (name : List ℕ) (o : Object) → named objects name ≡ Some o → of_id objects o.id ≡ Some o
named_own objects own name o e = let found = found_at (is_named name) objects o e in stands_at objects own found.0 o found.1

-- an object that is changed where it stands keeps its kind
pub keeps_put : (scene : Board) (c : Change) (id : ℕ) (o : Object) → of_id scene.objects id ≡ Some o → KeepsKinds scene (record scene { objects = put scene.objects id (Some (apply c o)) })
keeps_put scene c id o at other kind is = ap kind_in (of_id_put scene.objects id other o (Some (apply c o)) at) ∙ elim (eqb_tells other id) [
  | inl same ↦ rw same.0 (ap Some (change_kind c o) ∙ sym (ap kind_in at) ∙ ap (kind_at scene) (sym same.1) ∙ is)
  | inr differ ↦ rw differ.0 is
]

module _ (scene : Board) (own : (name : List ℕ) (o : Object) → named scene.objects name ≡ Some o → of_id scene.objects o.id ≡ Some o) where
  keeps_changed : (c : Change) (o : Object) → of_id scene.objects o.id ≡ Some o → KeepsKinds scene (changed c scene o)
  keeps_changed c o at = keeps_put scene c o.id o at

  keeps_named : (name : List ℕ) (make : Object → Board) → ((o : Object) → of_id scene.objects o.id ≡ Some o → KeepsKinds scene (make o)) → KeepsKinds scene (with_named scene name make)
  keeps_named name make each = go (named scene.objects name) (own name) where
    go : (x : Option Object) → ((o : Object) → x ≡ Some o → of_id scene.objects o.id ≡ Some o) → KeepsKinds scene (option_map_or make x scene)
    go None own = λ id kind is. is
    go (Some o) own = each o (own o refl)

  keeps_one : (c : Change) (name : List ℕ) → KeepsKinds scene (with_named scene name (changed c scene))
  keeps_one c name = keeps_named name (changed c scene) (keeps_changed c)

  keeps_shifted : (dx dy : ℤ) (top : ℕ) → KeepsKinds scene (shifted_all dx dy scene top)
  keeps_shifted dx dy top id kind is = ap kind_in (of_id_map (λ p. if has (inside scene top) p.id then shifted_by dx dy p else p) scene.objects id) ∙ go (of_id scene.objects id) ∙ is where
    one : (b : Bool) (p : Object) → kind_of (if b then shifted_by dx dy p else p).content ≡ kind_of p.content
    one true p = refl
    one false p = refl

    go : (x : Option Object) → kind_in (option_map (λ p. if has (inside scene top) p.id then shifted_by dx dy p else p) x) ≡ kind_in x
    go None = refl
    go (Some p) = ap Some (one (has (inside scene top) p.id) p)

  keeps_moved : (x y : ℤ) (o : Object) → of_id scene.objects o.id ≡ Some o → KeepsKinds scene (moved x y scene o)
  keeps_moved x y o at = go (is_smart o) where
    go : (b : Bool) → KeepsKinds scene (if b then shifted_all (x -ℤ o.rect.x) (y -ℤ o.rect.y) scene o.id else changed (change.Move x y) scene o)
    go true = keeps_shifted (x -ℤ o.rect.x) (y -ℤ o.rect.y) o.id
    go false = keeps_changed (change.Move x y) o at

  keeps_homed : (parent : Option ℕ) (o : Object) → of_id scene.objects o.id ≡ Some o → KeepsKinds scene (homed parent scene o)
  keeps_homed parent o at = go (option_eq nat_eq o.parent parent) where
    go : (b : Bool) → KeepsKinds scene (if b then scene else rehomed parent scene o)
    go true = λ id kind is. is
    go false = keeps_changed (change.Parent parent) o at

  keeps_made : (o : Object) → KeepsKinds scene (made scene o)
  keeps_made o id kind is = ap kind_in (of_id_end scene.objects id (Some o)) ∙ go (id == length scene.objects + 1) refl where
    same : (id == length scene.objects + 1) ≡ true → id ≡ length scene.objects + 1
    same e = grind arith

    go : (b : Bool) → (id == length scene.objects + 1) ≡ b → kind_in (cond b (Some o) (of_id scene.objects id)) ≡ Some kind
    go true e = absurd (none-some kind (sym (ap kind_in (ap (of_id scene.objects) (same e) ∙ past_end scene.objects)) ∙ is))
    go false e = is

  keeps_effect : (e : Edit) → is_delete e ≡ false → KeepsKinds scene (effect scene e)
  keeps_effect (edit.Size w h) other = λ id kind is. is
  keeps_effect (edit.Make name kind) other = keeps_made (fresh (next_id scene) name kind)
  keeps_effect (edit.Delete name) other = absurd (true≢false other)
  keeps_effect (edit.Move name x y) other = keeps_named name (moved x y scene) (keeps_moved x y)
  keeps_effect (edit.Resize name w h) other = keeps_one (change.Resize w h) name
  keeps_effect (edit.Show name on) other = keeps_one (change.Show on) name
  keeps_effect (edit.Color name r g b a) other = keeps_one (change.Color (color_of r g b a)) name
  keeps_effect (edit.SetOp name op) other = keeps_one (change.Op op) name
  keeps_effect (edit.Layer name layer) other = keeps_named name _ (keeps_changed (change.Layer layer))
  keeps_effect (edit.Raise name up) other = keeps_named name _ (λ o there id kind at. at)
  keeps_effect (edit.Place name next above) other = keeps_named name _ (λ o there. keeps_named next _ (λ p its id kind at. at))
  keeps_effect (edit.Clip name clipper) other = keeps_named name _ (λ o there. keeps_named clipper _ (λ c its. keeps_changed (change.Clip (Some c.id)) o there))
  keeps_effect (edit.Unclip name) other = keeps_one (change.Clip None) name
  keeps_effect (edit.Member name smart) other = keeps_named name _ (λ o there. keeps_named smart _ (λ s its. keeps_homed (Some s.id) o there))
  keeps_effect (edit.Free name) other = keeps_named name _ (keeps_homed None)
  keeps_effect (edit.File name key) other = keeps_one (change.Image (image_change.File key)) name
  keeps_effect (edit.Font name key) other = keeps_one (change.Text (text_change.Font key)) name
  keeps_effect (edit.Say name text) other = keeps_one (change.Text (text_change.Say text.now)) name
  keeps_effect (edit.Fill name x y w h) other = keeps_one (change.Image (image_change.Fill (fill_of x y w h))) name
  keeps_effect (edit.Filled name) other = keeps_one (change.Image (image_change.Fill Filled)) name
  keeps_effect (edit.Border name l r t b) other = keeps_one (change.Image (image_change.Border (border_of l r t b))) name
  keeps_effect (edit.Center name on) other = keeps_one (change.Image (image_change.Center on)) name

  leaves_effect : (e : Edit) → LeavesKinds scene (effect scene e)
  leaves_effect (edit.Delete name) = go (named scene.objects name) where
    left_kind : (ids : List ℕ) (x : Option Object) (kind : Kind) → kind_in x ≡ Some kind → is_some (option_and_then (left ids) x) ≡ true → kind_in (option_and_then (left ids) x) ≡ Some kind
    left_kind ids None kind is stays = absurd (none-some kind is)
    left_kind ids (Some o) kind is stays = one (has ids o.id) (option_map_or (has ids) o.clipper false) stays where
      one : (b d : Bool) → is_some (cond b None (Some (cond d (record o { clipper = None }) o))) ≡ true → kind_in (cond b None (Some (cond d (record o { clipper = None }) o))) ≡ Some kind
      one true d stays = absurd (true≢false (sym stays))
      one false true stays = is
      one false false stays = is

    go : (x : Option Object) → LeavesKinds scene (option_map_or (λ o. deleted scene o.id o.parent) x scene)
    go None id kind is stays = is
    go (Some o) id kind is stays =
        let each = of_id_each (left (inside scene o.id)) scene.objects id in
        ap kind_in each ∙ left_kind (inside scene o.id) (of_id scene.objects id) kind is (ap is_some (sym each) ∙ stays)
  leaves_effect other = λ id kind is stays. keeps_effect other refl id kind is

  pub leaves_edit : {T : Type 0} (new : Board) (e : Edit) (result : Result T Refusal) → Edits scene e result new → LeavesKinds scene new
  leaves_edit new e (Ok done) edits = subst (λ new. LeavesKinds scene new) (sym edits.1) (leaves_effect e)
  leaves_edit new e (Err cause) edits = subst (λ new. LeavesKinds scene new) (sym edits.1) (λ id kind is stays. is)

  pub keeps_edit : {T : Type 0} (new : Board) (e : Edit) (result : Result T Refusal) → Edits scene e result new → is_delete e ≡ false → KeepsKinds scene new
  keeps_edit new e (Ok done) edits other = subst (λ new. KeepsKinds scene new) (sym edits.1) (keeps_effect e other)
  keeps_edit new e (Err cause) edits other = subst (λ new. KeepsKinds scene new) (sym edits.1) (λ id kind is. is)

-- the same of what stands for a scene
pub edit_keeps : {T : Type 0} (old : Cast) (kept : Kept) → kept_of old ≡ kept → IsCast old → (new : Board) (e : Edit) (result : Result T Refusal) → Edits (board_of old) e result new → is_delete e ≡ false → KeepsKinds (board kept) new
edit_keeps old kept is whole new e result edits other =
    subst (λ kept. KeepsKinds (board kept) new) is (keeps_edit (board_of old) (named_own (board_of old).objects whole.own) new e result edits other)

pub edit_leaves : {T : Type 0} (old : Cast) (kept : Kept) → kept_of old ≡ kept → IsCast old → (new : Board) (e : Edit) (result : Result T Refusal) → Edits (board_of old) e result new → LeavesKinds (board kept) new
edit_leaves old kept is whole new e result edits =
    subst (λ kept. LeavesKinds (board kept) new) is (leaves_edit (board_of old) (named_own (board_of old).objects whole.own) new e result edits)
