-- What holds of each scene holds after each edit of one object.
use Rattle.std.proofs.Common.{◌≡◌, ◌≢◌, ℕ, zero, suc, ℤ, pos, neg_ℤ, ◌≤ℤ◌, ◌+◌, ◌-◌, ◌<◌, Bool, true, false, List, [], ◌∷◌, ◌++◌, length, get_or, slice_set, Option, Some, None, Ok, is_some, if◌then◌else◌, ◌==◌, refl, sym, ap, ap₂, ◌∙◌, subst, inl, inr, arith}
use Rattle.std.specs.FinMap.{get, insert, empty, get-empty, get-insert}
use Rattle.std.specs.Option.{option_map, option_and_then, option_eq}
use Rattle.std.specs.Prelude.{nat_eq}
use Rattle.std.proofs.Math.Bool.{true≢false}
use Rattle.std.proofs.lemmas.List.Elements.{All-nil}
use Rattle.std.proofs.lemmas.Option.{none-some, same_Some}
use Rattle.std.proofs.lemmas.Int.{ints}
use Rattle.std.proofs.lemmas.Bool.Decides.{nat_tests, eqb_tells}
use Rattle.std.proofs.lemmas.List.{length-map, map-append, length-append, length-set}
use Rattle.ev_state.specs.Held.{Held}
use Rattle.ev_model.specs.Content.{kind_of}
use Rattle.ev_model.specs.Glyphs.{IsCharacter}
use Rattle.ev_model.specs.Limits.{IsContent, IsObject}
use Rattle.ev_model.specs.declared.content.Content.{Content}
use Rattle.ev_model.specs.declared.content.Content.TheVariants as content
use Rattle.ev_model.specs.declared.object.Object.{Object}
use Rattle.ev_stack.specs.LayerOrder.{layer_in, put_top, without, IsApart, IsDistinct}
use Rattle.ev_stack.specs.StackCalls.{place_fault, raised, lowered, relayered, placed_above, placed_below}
use Rattle.ev_groups.specs.Groups.{place, group, with_group}
use Rattle.ev_model.specs.declared.content.Kind.{Kind}
use Rattle.ev_model.specs.declared.content.Kind.TheVariants.{Rect, Image, Text, Smart}
use Rattle.ev_links.specs.Ties.{Tie, Ties, alone, released, parent_at, clipper_at, IsSound}
use Rattle.ev_scene.specs.Ids.{of_id, put, value_of}
use Rattle.ev_scene.specs.Board.{values_of}
use Rattle.ev_scene.specs.Change.{apply, is_layer, fresh, change_image, IsImageChange, change_text, IsTextChange, IsLook, IsFit}
use Rattle.ev_scene.specs.ObjectTies.{tie_of, layer_at}
use Rattle.ev_scene.specs.Whole.{IsWhole}
use Rattle.ev_scene.specs.declared.image_change.ImageChange.{ImageChange}
use Rattle.ev_scene.specs.declared.image_change.ImageChange.TheVariants as image_change
use Rattle.ev_scene.specs.declared.text_change.TextChange.{TextChange}
use Rattle.ev_scene.specs.declared.text_change.TextChange.TheVariants as text_change
use Rattle.ev_scene.specs.declared.change.Change.{Change}
use Rattle.ev_scene.specs.declared.change.Change.TheVariants as change
use Rattle.ev_scene.proofs.Apart.{apart_absent}
use Rattle.ev_scene.proofs.Restacking.{layer_in-raised, layer_in-lowered, layer_in-relayered, layer_in-placed_above, layer_in-placed_below, layer_in-gone, layer_in-put_top, still_beside}
use Rattle.std.specs.Cmp.{nat_cmp_total}
use Rattle.ev_links.specs.LinkCalls.{with_clipper, with_parent, put_tie, Drops, known_fault}
use Rattle.ev_links.specs.declared.refusal.LinkErr.{LinkErr}
use Rattle.ev_links.specs.declared.refusal.LinkErr.TheVariants.{Unknown}
use Rattle.ev_links.proofs.Views.{same_test}
use Rattle.ev_scene.proofs.Places.{of_id_suc, of_id_put, of_id_end, some_choice, past_end}

-- a look is in range
pub look_fits : (c : Change) → IsLook c → IsFit c
look_fits (change.Layer layer) look = absurd look
look_fits (change.Clip clipper) look = absurd look
look_fits (change.Parent parent) look = absurd look
look_fits other look = look

-- a look leaves all that ties and places an object
pub record IsSameStand (o o' : Object) : Type 0 where
  pub id : o'.id ≡ o.id
  pub layer : o'.layer ≡ o.layer
  pub parent : o'.parent ≡ o.parent
  pub tie : tie_of o' ≡ tie_of o
  pub limits : IsObject o → IsObject o'

-- another way to draw leaves the kind, and keeps the limits
pub image_change_kind : (d : ImageChange) (content : Content) → kind_of (change_image d content) ≡ kind_of content
image_change_kind d (content.Image part) = refl
image_change_kind d other = refl

image_change_limits : (d : ImageChange) (content : Content) → IsImageChange d → IsContent content → IsContent (change_image d content)
image_change_limits d (content.Text part) fits old = old
image_change_limits (image_change.Fill fill) (content.Image part) fits old = (fits, old.1)
image_change_limits (image_change.Border border) (content.Image part) fits old = (old.0, fits)
image_change_limits d other fits old = old

-- another text or font leaves the kind, and keeps the limits
pub text_change_kind : (w : TextChange) (content : Content) → kind_of (change_text w content) ≡ kind_of content
text_change_kind w (content.Text part) = refl
text_change_kind w other = refl

text_change_limits : (w : TextChange) (content : Content) → IsTextChange w → IsContent content → IsContent (change_text w content)
text_change_limits w (content.Image part) fits old = old
text_change_limits (text_change.Say text) (content.Text part) fits old = fits
text_change_limits w other fits old = old

pub look_stands : (c : Change) (o : Object) → IsLook c → IsSameStand o (apply c o)
look_stands (change.Image d) o look = record {
  id = refl;
  layer = refl;
  parent = refl;
  tie = ap (λ kind. record { kind = kind; clipper = o.clipper; parent = o.parent }) (image_change_kind d o.content);
  limits = λ l. record { layer_low = l.layer_low; layer_high = l.layer_high; content = image_change_limits d o.content look l.content };
}
look_stands (change.Text w) o look = record {
  id = refl;
  layer = refl;
  parent = refl;
  tie = ap (λ kind. record { kind = kind; clipper = o.clipper; parent = o.parent }) (text_change_kind w o.content);
  limits = λ l. record { layer_low = l.layer_low; layer_high = l.layer_high; content = text_change_limits w o.content look l.content };
}
look_stands (change.Layer layer) o look = absurd look
look_stands (change.Clip clipper) o look = absurd look
look_stands (change.Parent parent) o look = absurd look
look_stands other o look = record { id = refl; layer = refl; parent = refl; tie = refl; limits = λ l. record { layer_low = l.layer_low; layer_high = l.layer_high; content = l.content } }

layer_low : (layer : ℤ) → is_layer layer ≡ true → neg_ℤ (pos 32768) ≤ℤ layer
layer_low layer h = grind (arith, ints)

layer_high : (layer : ℤ) → is_layer layer ≡ true → layer ≤ℤ pos 32767
layer_high layer h = grind (arith, ints)

-- a function of a choice
at_choice : {A B : Type 0} (f : A → B) (b : Bool) (x y : A) → f (if b then x else y) ≡ (if b then f x else f y)
at_choice f true x y = refl
at_choice f false x y = refl

-- one entry of a list in place of another
pub get_set : {A : Type 0} (xs : List A) (k j : ℕ) (x y : A) → k < length xs → get_or (slice_set xs k x) j y ≡ (if j == k then x else get_or xs j y)
get_set [] k j x y low = absurd (omega (arith, low))
get_set (one ∷ xs) zero zero x y low = refl
get_set (one ∷ xs) zero (suc j) x y low = let e : (suc j == 0) ≡ false = grind (arith, nat_tests) in rw e refl
get_set (one ∷ xs) (suc k) zero x y low = let e : (0 == suc k) ≡ false = grind (arith, nat_tests) in rw e refl
get_set (one ∷ xs) (suc k) (suc j) x y low = let e : (suc j == suc k) ≡ (j == k) = grind (arith, nat_tests) in rw e (get_set xs k j x y (omega (arith, low)))

-- the ties, once one of them was put
get_put_tie : (ties : Ties) (id : ℕ) (tie : Tie) (q : ℕ) → get (put_tie ties id (Some tie)) q ≡ (if q == id then Some tie else get ties q)
get_put_tie ties id tie q = get-insert nat_cmp_total ties id tie q ∙ ap (λ b. if b then Some tie else get ties q) (same_test q id)

module _ {w h : ℕ} {objects : List (Option Object)} {groups : List (List (ℕ × ℤ))} {ties : Ties} (whole : IsWhole (record { w = w; h = h; objects = objects; groups = groups }) ties) where
  -- each object that is there stands in the group of its parent
  pub stands_in : (id : ℕ) (o : Object) → of_id objects id ≡ Some o → layer_in (group groups o.parent) id ≡ Some o.layer
  stands_in id o there =
      let same : (place o.parent == place o.parent) ≡ true = grind (arith, nat_tests) in
      whole.stands (place o.parent) id ∙ ap (option_and_then (layer_at (place o.parent))) there ∙ ap (λ b. if b then Some o.layer else None) same

  -- groups with the same layers
  pub regrouped : (groups' : List (List (ℕ × ℤ))) → length groups' ≡ length groups → ((at q : ℕ) → layer_in (get_or groups' at []) q ≡ layer_in (get_or groups at []) q) → IsWhole (record { w = w; h = h; objects = objects; groups = groups' }) ties
  regrouped groups' size same = record {
    canvas = whole.canvas;
    own = whole.own;
    limits = whole.limits;
    stands = λ at q. same at q ∙ whole.stands at q;
    grouped = size ∙ whole.grouped;
    tied = whole.tied;
  }

  -- the group at one place with the same layers
  pub restacked : (parent : Option ℕ) (group' : List (ℕ × ℤ)) → place parent < length groups → ((q : ℕ) → layer_in group' q ≡ layer_in (group groups parent) q) → IsWhole (record { w = w; h = h; objects = objects; groups = with_group groups parent group' }) ties
  restacked parent group' known same = regrouped (with_group groups parent group') (length-set groups (place parent) group') (λ at q. go at q) where
    go : (at q : ℕ) → layer_in (get_or (with_group groups parent group') at []) q ≡ layer_in (get_or groups at []) q
    go at q = ap (λ g. layer_in g q) (get_set groups (place parent) at group' [] known) ∙ elim (eqb_tells at (place parent)) [
      | inl here ↦ rw here.0 (same q ∙ ap (λ at. layer_in (get_or groups at []) q) (sym here.1))
      | inr away ↦ rw away.0 refl
    ]

  -- another object in place of one
  module _ (id : ℕ) (o o' : Object) (there : of_id objects id ≡ Some o) (own' : o'.id ≡ id) (limits' : IsObject o') where
    replaced_fact : (P : ℕ → Object → Type 0) → P id o' → ((q : ℕ) (t : Object) → of_id objects q ≡ Some t → P q t) → (q : ℕ) (t : Object) → of_id (put objects id (Some o')) q ≡ Some t → P q t
    replaced_fact P new old q t at_q = some_choice (q == id) (Some o') (of_id objects q) t (P q t) (sym (of_id_put objects id q o (Some o') there) ∙ at_q)
        (λ e f. let same : q ≡ id = grind (arith, nat_tests, e) in subst (λ q. P q t) (sym same) (subst (λ t. P id t) (same_Some _ _ f) new)) (λ e f. old q t f)

    mapped : {B : Type 0} (f : Object → Option B) (q : ℕ) → option_and_then f (of_id (put objects id (Some o')) q) ≡ (if q == id then f o' else option_and_then f (of_id objects q))
    mapped f q = ap (option_and_then f) (of_id_put objects id q o (Some o') there) ∙ at_choice (option_and_then f) (q == id) (Some o') (of_id objects q)

    tied_map : (f : Object → Tie) (q : ℕ) → option_map f (of_id (put objects id (Some o')) q) ≡ (if q == id then Some (f o') else option_map f (of_id objects q))
    tied_map f q = ap (option_map f) (of_id_put objects id q o (Some o') there) ∙ at_choice (option_map f) (q == id) (Some o') (of_id objects q)

    pub replaced : (groups' : List (List (ℕ × ℤ))) (ties' : Ties) → length groups' ≡ length groups
        → ((at q : ℕ) → layer_in (get_or groups' at []) q ≡ (if q == id then layer_at at o' else layer_in (get_or groups at []) q))
        → ((q : ℕ) → get ties' q ≡ (if q == id then Some (tie_of o') else get ties q))
        → IsWhole (record { w = w; h = h; objects = put objects id (Some o'); groups = groups' }) ties'
    replaced groups' ties' size layers tied' = record {
      canvas = whole.canvas;
      own = replaced_fact (λ q t. t.id ≡ q) own' whole.own;
      limits = replaced_fact (λ q t. IsObject t) limits' whole.limits;
      stands = λ at q. layers at q ∙ ap (λ layer. if q == id then layer_at at o' else layer) (whole.stands at q) ∙ sym (mapped (layer_at at) q);
      grouped = size ∙ whole.grouped ∙ ap (λ n. n + 1) (sym (length-set objects (id - 1) (Some o')));
      tied = λ q. tied' q ∙ ap (λ tie. if q == id then Some (tie_of o') else tie) (whole.tied q) ∙ sym (tied_map tie_of q);
    }

    -- where the layer and the parent stay, so do the groups
    pub same_layers : o'.layer ≡ o.layer → o'.parent ≡ o.parent → (at q : ℕ) → layer_in (get_or groups at []) q ≡ (if q == id then layer_at at o' else layer_in (get_or groups at []) q)
    same_layers layer parent at q = elim (eqb_tells q id) [
      | inl same ↦ rw same.0 (ap (layer_in (get_or groups at [])) same.1 ∙ whole.stands at id ∙ ap (option_and_then (layer_at at)) there ∙ sym (ap₂ (λ p l. if place p == at then Some l else None) parent layer))
      | inr differ ↦ rw differ.0 refl
    ]

    -- where the ties of the object stay, so do all
    pub same_ties : tie_of o' ≡ tie_of o → (q : ℕ) → get ties q ≡ (if q == id then Some (tie_of o') else get ties q)
    same_ties tie q = elim (eqb_tells q id) [
      | inl same ↦ rw same.0 (ap (get ties) same.1 ∙ whole.tied id ∙ ap (option_map tie_of) there ∙ ap Some (sym tie))
      | inr differ ↦ rw differ.0 refl
    ]

  -- an object with another look
  pub looked : (id : ℕ) (o : Object) (c : Change) (objects' : List (Option Object)) → of_id objects id ≡ Some o → IsLook c → objects' ≡ put objects id (option_map (apply c) (of_id objects id)) → IsWhole (record { w = w; h = h; objects = objects'; groups = groups }) ties
  looked id o c objects' there look e =
      let stand : IsSameStand o (apply c o) = look_stands c o look in
      let own' : (apply c o).id ≡ id = stand.id ∙ whole.own id o there in
      let limits' : IsObject (apply c o) = stand.limits (whole.limits id o there) in
      let P : List (Option Object) → Type 0 = λ objects. IsWhole (record { w = w; h = h; objects = objects; groups = groups }) ties in
      subst P (sym (e ∙ ap (λ slot. put objects id (option_map (apply c) slot)) there))
      (replaced id o (apply c o) there own' limits' groups ties refl (same_layers id o (apply c o) there own' limits' stand.layer stand.parent) (same_ties id o (apply c o) there own' limits' stand.tie))

  -- the group of an object that is there has a place
  pub has_group : (id : ℕ) (o : Object) → of_id objects id ≡ Some o → place o.parent < length groups
  has_group id o there = low (place o.parent) (length groups) groups refl (stands_in id o there) where
    low : (k n : ℕ) (xs : List (List (ℕ × ℤ))) → length xs ≡ n → layer_in (get_or xs k []) id ≡ Some o.layer → k < n
    low k n [] e f = absurd (none-some o.layer f)
    low zero n (x ∷ xs) e f = omega (arith, e)
    low (suc k) n (x ∷ xs) e f = let later : k < length xs = low k (length xs) xs refl f in omega (arith, e, later)

  -- an object on top or at the bottom of its layer
  pub raised_to : (id : ℕ) (o : Object) (up : Bool) (groups' : List (List (ℕ × ℤ))) → of_id objects id ≡ Some o → IsDistinct (group groups o.parent)
      → groups' ≡ with_group groups o.parent ((if up then raised else lowered) (group groups o.parent) id) → IsWhole (record { w = w; h = h; objects = objects; groups = groups' }) ties
  raised_to id o up groups' there distinct e = subst (λ groups. IsWhole (record { w = w; h = h; objects = objects; groups = groups }) ties) (sym e) (restacked o.parent ((if up then raised else lowered) (group groups o.parent) id) (has_group id o there) (λ q. go up q)) where
    go : (up : Bool) (q : ℕ) → layer_in ((if up then raised else lowered) (group groups o.parent) id) q ≡ layer_in (group groups o.parent) q
    go true q = layer_in-raised (group groups o.parent) id o.layer (stands_in id o there) distinct q
    go false q = layer_in-lowered (group groups o.parent) id o.layer (stands_in id o there) distinct q

  -- an object beside another one
  pub placed_to : (id : ℕ) (o : Object) (other : ℕ) (above : Bool) (groups' : List (List (ℕ × ℤ))) → of_id objects id ≡ Some o → IsDistinct (group groups o.parent) → None ≡ place_fault (group groups o.parent) id other
      → groups' ≡ with_group groups o.parent ((if above then placed_above else placed_below) (group groups o.parent) id other) → IsWhole (record { w = w; h = h; objects = objects; groups = groups' }) ties
  placed_to id o other above groups' there distinct fault e =
      subst (λ groups. IsWhole (record { w = w; h = h; objects = objects; groups = groups }) ties) (sym e) (restacked o.parent ((if above then placed_above else placed_below) (group groups o.parent) id other) (has_group id o there)
      (λ q. still_beside {T = ℕ} (group groups o.parent) ((if above then placed_above else placed_below) (group groups o.parent) id other) ((if above then placed_above else placed_below) (group groups o.parent) id other) id other (Ok 0) fault refl tt
      (λ layer beside own near apart q. go above layer beside own near apart q) q))
    where
      go : (above : Bool) (layer beside : ℤ) → layer_in (group groups o.parent) id ≡ Some layer → layer_in (group groups o.parent) other ≡ Some beside → other ≢ id → (q : ℕ)
          → layer_in ((if above then placed_above else placed_below) (group groups o.parent) id other) q ≡ layer_in (group groups o.parent) q
      go true layer beside own near apart q = layer_in-placed_above (group groups o.parent) id layer own distinct other beside near apart q
      go false layer beside own near apart q = layer_in-placed_below (group groups o.parent) id layer own distinct other beside near apart q

  -- an object in another layer of its parent
  pub lifted : (id : ℕ) (o : Object) (layer : ℤ) (objects' : List (Option Object)) (groups' : List (List (ℕ × ℤ))) → of_id objects id ≡ Some o → is_layer layer ≡ true → IsDistinct (group groups o.parent)
      → objects' ≡ put objects id (option_map (apply (change.Layer layer)) (of_id objects id)) → groups' ≡ with_group groups o.parent (relayered (group groups o.parent) id layer) → IsWhole (record { w = w; h = h; objects = objects'; groups = groups' }) ties
  lifted id o layer objects' groups' there fits distinct e f =
      let old : IsObject o = whole.limits id o there in
      let new : Object = apply (change.Layer layer) o in
      let limits' : IsObject new = record { layer_low = layer_low layer fits; layer_high = layer_high layer fits; content = old.content } in
      let P : List (Option Object) → List (List (ℕ × ℤ)) → Type 0 = λ objects groups. IsWhole (record { w = w; h = h; objects = objects; groups = groups }) ties in
      subst (λ groups. P objects' groups) (sym f) (subst (λ objects. P objects (with_group groups o.parent (relayered (group groups o.parent) id layer))) (sym (e ∙ ap (λ slot. put objects id (option_map (apply (change.Layer layer)) slot)) there))
      (replaced id o new there (whole.own id o there) limits' (with_group groups o.parent (relayered (group groups o.parent) id layer)) ties (length-set groups (place o.parent) (relayered (group groups o.parent) id layer))
      (λ at q. layers at q) (same_ties id o new there (whole.own id o there) limits' refl)))
    where
      layers : (at q : ℕ) → layer_in (get_or (with_group groups o.parent (relayered (group groups o.parent) id layer)) at []) q ≡ (if q == id then layer_at at (apply (change.Layer layer) o) else layer_in (get_or groups at []) q)
      layers at q = ap (λ g. layer_in g q) (get_set groups (place o.parent) at (relayered (group groups o.parent) id layer) [] (has_group id o there)) ∙ elim (eqb_tells at (place o.parent)) [
        | inl here ↦ rw here.0 (layer_in-relayered (group groups o.parent) id o.layer (stands_in id o there) distinct layer q
            ∙ ap₂ (λ mine other. if q == id then mine else other) (own_layer at here.1) (ap (λ at. layer_in (get_or groups at []) q) (sym here.1)))
        | inr away ↦ rw away.0 (elim (eqb_tells q id) [
          | inl same ↦ rw same.0 (ap (layer_in (get_or groups at [])) same.1 ∙ whole.stands at id ∙ ap (option_and_then (layer_at at)) there ∙ elsewhere at away.1)
          | inr differ ↦ rw differ.0 refl
        ])
      ] where
        own_layer : (at : ℕ) → at ≡ place o.parent → Some layer ≡ layer_at at (apply (change.Layer layer) o)
        own_layer at here = let same : (place o.parent == at) ≡ true = grind (arith, nat_tests, here) in ap (λ b. if b then Some layer else None) (sym same)

        elsewhere : (at : ℕ) → at ≢ place o.parent → layer_at at o ≡ layer_at at (apply (change.Layer layer) o)
        elsewhere at away = let differ : (place o.parent == at) ≡ false = grind (arith, nat_tests, away) in rw differ refl

  -- an object with another clipper
  pub clipped : (id : ℕ) (o : Object) (clipper : Option ℕ) (objects' : List (Option Object)) (ties' : Ties) → of_id objects id ≡ Some o
      → objects' ≡ put objects id (option_map (apply (change.Clip clipper)) (of_id objects id)) → ties' ≡ with_clipper ties id clipper → IsWhole (record { w = w; h = h; objects = objects'; groups = groups }) ties'
  clipped id o clipper objects' ties' there e f =
      let old : IsObject o = whole.limits id o there in
      let new : Object = apply (change.Clip clipper) o in
      let limits' : IsObject new = record { layer_low = old.layer_low; layer_high = old.layer_high; content = old.content } in
      let P : List (Option Object) → Ties → Type 0 = λ objects ties. IsWhole (record { w = w; h = h; objects = objects; groups = groups }) ties in
      subst (λ ties. P objects' ties) (sym f) (subst (λ objects. P objects (with_clipper ties id clipper)) (sym (e ∙ ap (λ slot. put objects id (option_map (apply (change.Clip clipper)) slot)) there))
      (replaced id o new there (whole.own id o there) limits' groups (with_clipper ties id clipper) refl (same_layers id o new there (whole.own id o there) limits' refl refl)
      (λ q. tied q)))
    where
      tied : (q : ℕ) → get (with_clipper ties id clipper) q ≡ (if q == id then Some (tie_of (apply (change.Clip clipper) o)) else get ties q)
      tied q = ap (λ tie. get (put_tie ties id (option_map (λ (tie : Tie). record tie { clipper = clipper }) tie)) q) (whole.tied id ∙ ap (option_map tie_of) there)
          ∙ get_put_tie ties id (tie_of (apply (change.Clip clipper) o)) q

  -- an object that goes from one parent to another: its group and its ties change
  pub entered : (id : ℕ) (o : Object) (to : Option ℕ) (objects' : List (Option Object)) (groups' : List (List (ℕ × ℤ))) (ties' : Ties) → of_id objects id ≡ Some o → place to < length groups → place o.parent ≢ place to
      → IsDistinct (group groups o.parent) → IsApart id (group groups to)
      → objects' ≡ put objects id (option_map (apply (change.Parent to)) (of_id objects id))
      → groups' ≡ with_group (with_group groups to (put_top (group groups to) id o.layer)) o.parent (without (group groups o.parent) id)
      → ties' ≡ with_parent ties id to → IsWhole (record { w = w; h = h; objects = objects'; groups = groups' }) ties'
  entered id o to objects' groups' ties' there known other distinct apart e f g =
      let old : IsObject o = whole.limits id o there in
      let new : Object = apply (change.Parent to) o in
      let limits' : IsObject new = record { layer_low = old.layer_low; layer_high = old.layer_high; content = old.content } in
      let mid : List (List (ℕ × ℤ)) = with_group groups to (put_top (group groups to) id o.layer) in
      let after : List (List (ℕ × ℤ)) = with_group mid o.parent (without (group groups o.parent) id) in
      let P : List (Option Object) → List (List (ℕ × ℤ)) → Ties → Type 0 = λ objects groups ties. IsWhole (record { w = w; h = h; objects = objects; groups = groups }) ties in
      subst (λ ties. P objects' groups' ties) (sym g) (subst (λ groups. P objects' groups (with_parent ties id to)) (sym f)
      (subst (λ objects. P objects after (with_parent ties id to)) (sym (e ∙ ap (λ slot. put objects id (option_map (apply (change.Parent to)) slot)) there))
      (replaced id o new there (whole.own id o there) limits' after (with_parent ties id to)
      (length-set mid (place o.parent) (without (group groups o.parent) id) ∙ length-set groups (place to) (put_top (group groups to) id o.layer))
      (λ at q. layers at q) (λ q. tied q))))
    where
      tied : (q : ℕ) → get (with_parent ties id to) q ≡ (if q == id then Some (tie_of (apply (change.Parent to) o)) else get ties q)
      tied q = ap (λ tie. get (put_tie ties id (option_map (λ (tie : Tie). record tie { parent = to }) tie)) q) (whole.tied id ∙ ap (option_map tie_of) there)
          ∙ get_put_tie ties id (tie_of (apply (change.Parent to) o)) q

      from : (at q : ℕ) → at ≡ place o.parent → layer_in (without (group groups o.parent) id) q ≡ (if q == id then layer_at at (apply (change.Parent to) o) else layer_in (get_or groups at []) q)
      from at q here =
          let away : (place to == at) ≡ false = grind (arith, nat_tests, here, other) in
          layer_in-gone (group groups o.parent) id q distinct ∙ ap₂ (λ mine other. if q == id then mine else other) (ap (λ b. if b then Some o.layer else None) (sym away)) (ap (λ at. layer_in (get_or groups at []) q) (sym here))

      into : (at q : ℕ) → at ≡ place to → layer_in (put_top (group groups to) id o.layer) q ≡ (if q == id then layer_at at (apply (change.Parent to) o) else layer_in (get_or groups at []) q)
      into at q here =
          let same : (place to == at) ≡ true = grind (arith, nat_tests, here) in
          layer_in-put_top (group groups to) id o.layer q apart ∙ ap₂ (λ mine other. if q == id then mine else other) (ap (λ b. if b then Some o.layer else None) (sym same)) (ap (λ at. layer_in (get_or groups at []) q) (sym here))

      elsewhere : (at q : ℕ) → at ≢ place o.parent → at ≢ place to → layer_in (get_or groups at []) q ≡ (if q == id then layer_at at (apply (change.Parent to) o) else layer_in (get_or groups at []) q)
      elsewhere at q far near = elim (eqb_tells q id) [
        | inl same ↦
            let gone : (place o.parent == at) ≡ false = grind (arith, nat_tests, far) in
            let away : (place to == at) ≡ false = grind (arith, nat_tests, near) in
            rw (same.0, away) (ap (layer_in (get_or groups at [])) same.1 ∙ whole.stands at id ∙ ap (option_and_then (layer_at at)) there ∙ ap (λ b. if b then Some o.layer else None) gone)
        | inr differ ↦ rw differ.0 refl
      ]

      layers : (at q : ℕ) → layer_in (get_or (with_group (with_group groups to (put_top (group groups to) id o.layer)) o.parent (without (group groups o.parent) id)) at []) q
          ≡ (if q == id then layer_at at (apply (change.Parent to) o) else layer_in (get_or groups at []) q)
      layers at q =
          let low : place o.parent < length (with_group groups to (put_top (group groups to) id o.layer)) = let e : length (with_group groups to (put_top (group groups to) id o.layer)) ≡ length groups = length-set groups (place to) (put_top (group groups to) id o.layer) in let k : place o.parent < length groups = has_group id o there in omega (arith, e, k) in
          ap (λ g. layer_in g q) (get_set (with_group groups to (put_top (group groups to) id o.layer)) (place o.parent) at (without (group groups o.parent) id) [] low) ∙ elim (eqb_tells at (place o.parent)) [
            | inl here ↦ rw here.0 (from at q here.1)
            | inr far ↦ rw far.0 (ap (λ g. layer_in g q) (get_set groups (place to) at (put_top (group groups to) id o.layer) [] known) ∙ elim (eqb_tells at (place to)) [
              | inl here ↦ rw here.0 (into at q here.1)
              | inr near ↦ rw near.0 (elsewhere at q far.1 near.1)
            ])
          ]

  -- nothing has the next id yet
  pub next_untied : get ties (length objects + 1) ≡ None
  next_untied = whole.tied (length objects + 1) ∙ ap (option_map tie_of) (past_end objects)

  pub next_absent : (at : ℕ) → layer_in (get_or groups at []) (length objects + 1) ≡ None
  next_absent at = whole.stands at (length objects + 1) ∙ ap (option_and_then (layer_at at)) (past_end objects)

  module _ (sound : IsSound (get ties)) where
    -- nobody stands in what has no tie, and nobody is clipped by it
    parentless : (id other : ℕ) → get ties id ≡ None → parent_at (get ties) other ≢ Some id
    parentless id other none e = none-some Smart (sym (ap (option_and_then (λ tie. Some tie.kind)) none) ∙ sound.parents other id e)

    unclipped : (id other : ℕ) → get ties id ≡ None → clipper_at (get ties) other ≢ Some id
    unclipped id other none e = none-some Rect (sym (ap (option_and_then (λ tie. Some tie.kind)) none) ∙ sound.clippers other id e)

    -- the same, once a tie was added for it
    pub memberless : (id : ℕ) (kind : Kind) (ties' : Ties) → id ≡ length objects + 1 → ties' ≡ insert ties id (alone kind) → (other : ℕ) → parent_at (get ties') other ≢ Some id
    memberless id kind ties' next e other f =
        let none : get ties id ≡ None = ap (get ties) next ∙ next_untied in
        let now : get ties' other ≡ (if other == id then Some (alone kind) else get ties other) = ap (λ ties. get ties other) e ∙ get_put_tie ties id (alone kind) other in
        go (other == id) now
      where
        go : (b : Bool) → get ties' other ≡ (if b then Some (alone kind) else get ties other) → ⊥
        go true now = none-some id (sym (ap (option_and_then (λ tie. tie.parent)) now) ∙ f)
        go false now = parentless id other (ap (get ties) next ∙ next_untied) (sym (ap (option_and_then (λ tie. tie.parent)) now) ∙ f)

    -- a tie that was added and dropped again
    pub undone : (id : ℕ) (kind : Kind) (ties' ties'' : Ties) → id ≡ length objects + 1 → ties' ≡ insert ties id (alone kind) → Drops ties' id ties'' → IsWhole (record { w = w; h = h; objects = objects; groups = groups }) ties''
    undone id kind ties' ties'' next e drops = record {
      canvas = whole.canvas;
      own = whole.own;
      limits = whole.limits;
      stands = whole.stands;
      grouped = whole.grouped;
      tied = λ q. back q ∙ whole.tied q;
    } where
      none : get ties id ≡ None
      none = ap (get ties) next ∙ next_untied

      kept : (q : ℕ) (tie : Option Tie) → get ties q ≡ tie → option_map (released id) tie ≡ tie
      kept q None f = refl
      kept q (Some tie) f = go (option_eq nat_eq tie.clipper (Some id)) refl where
        go : (b : Bool) → option_eq nat_eq tie.clipper (Some id) ≡ b → Some (if b then record tie { clipper = None } else tie) ≡ Some tie
        go false g = refl
        go true g = absurd (unclipped id q none (ap (option_and_then (λ tie. tie.clipper)) f ∙ same_option tie.clipper g)) where
          same_option : (c : Option ℕ) → option_eq nat_eq c (Some id) ≡ true → c ≡ Some id
          same_option None g = absurd (true≢false (sym g))
          same_option (Some c) g = ap Some (nat_eq_is c g) where
            nat_eq_is : (c : ℕ) → nat_eq c id ≡ true → c ≡ id
            nat_eq_is c g = grind (arith, nat_tests)

      back : (q : ℕ) → get ties'' q ≡ get ties q
      back q = drops q ∙ elim (eqb_tells q id) [
        | inl same ↦ rw same.0 (sym (ap (get ties) same.1 ∙ none))
        | inr differ ↦ rw differ.0 (ap (option_map (released id)) (ap (λ ties. get ties q) e ∙ get_put_tie ties id (alone kind) q ∙ ap (λ b. if b then Some (alone kind) else get ties q) differ.0) ∙ kept q (get ties q) refl)
      ]

  -- a new object on top of those that stand in no other one
  pub made : (id : ℕ) (o : Object) (objects' : List (Option Object)) (groups' : List (List (ℕ × ℤ))) (ties' : Ties) → id ≡ length objects + 1 → o.id ≡ id → o.parent ≡ None → o.layer ≡ pos 0 → IsObject o
      → objects' ≡ objects ++ Some o ∷ [] → groups' ≡ with_group groups None (put_top (group groups None) id (pos 0)) ++ [] ∷ [] → ties' ≡ insert ties id (tie_of o) → IsWhole (record { w = w; h = h; objects = objects'; groups = groups' }) ties'
  made id o objects' groups' ties' next own free low limits e f g =
      subst (λ objects. IsWhole (record { w = w; h = h; objects = objects; groups = groups' }) ties') (sym e) (record {
        canvas = whole.canvas;
        own = new_fact (λ q t. t.id ≡ q) own whole.own;
        limits = new_fact (λ q t. IsObject t) limits whole.limits;
        stands = λ at q. ap (λ groups. layer_in (get_or groups at []) q) f ∙ ap (λ g. layer_in g q) (get_end (with_group groups None (put_top (group groups None) id (pos 0))) at) ∙ layers at q ∙ sym (mapped (layer_at at) q);
        grouped = ap length f ∙ length-append (with_group groups None (put_top (group groups None) id (pos 0))) ([] ∷ []) ∙ ap (λ n. n + 1) (length-set groups 0 (put_top (group groups None) id (pos 0)) ∙ whole.grouped) ∙ ap (λ n. n + 1) (sym (length-append objects (Some o ∷ [])));
        tied = λ q. ap (λ ties. get ties q) g ∙ get_put_tie ties id (tie_of o) q ∙ ap (λ tie. if q == id then Some (tie_of o) else tie) (whole.tied q) ∙ sym (tied_map q);
      })
    where
      end_of : (q : ℕ) → of_id (objects ++ Some o ∷ []) q ≡ (if q == id then Some o else of_id objects q)
      end_of q = of_id_end objects q (Some o) ∙ ap (λ n. if q == n then Some o else of_id objects q) (sym next)

      new_fact : (P : ℕ → Object → Type 0) → P id o → ((q : ℕ) (t : Object) → of_id objects q ≡ Some t → P q t) → (q : ℕ) (t : Object) → of_id (objects ++ Some o ∷ []) q ≡ Some t → P q t
      new_fact P new old q t at_q = some_choice (q == id) (Some o) (of_id objects q) t (P q t) (sym (end_of q) ∙ at_q)
          (λ e f. let same : q ≡ id = grind (arith, nat_tests, e) in subst (λ q. P q t) (sym same) (subst (λ t. P id t) (same_Some _ _ f) new)) (λ e f. old q t f)

      mapped : {B : Type 0} (f : Object → Option B) (q : ℕ) → option_and_then f (of_id (objects ++ Some o ∷ []) q) ≡ (if q == id then f o else option_and_then f (of_id objects q))
      mapped f q = ap (option_and_then f) (end_of q) ∙ at_choice (option_and_then f) (q == id) (Some o) (of_id objects q)

      tied_map : (q : ℕ) → option_map tie_of (of_id (objects ++ Some o ∷ []) q) ≡ (if q == id then Some (tie_of o) else option_map tie_of (of_id objects q))
      tied_map q = ap (option_map tie_of) (end_of q) ∙ at_choice (option_map tie_of) (q == id) (Some o) (of_id objects q)

      get_end : (xs : List (List (ℕ × ℤ))) (at : ℕ) → get_or (xs ++ [] ∷ []) at [] ≡ get_or xs at []
      get_end [] zero = refl
      get_end [] (suc at) = refl
      get_end (x ∷ xs) zero = refl
      get_end (x ∷ xs) (suc at) = get_end xs at

      absent : (at : ℕ) → layer_in (get_or groups at []) id ≡ None
      absent at = ap (layer_in (get_or groups at [])) next ∙ next_absent at

      layers : (at q : ℕ) → layer_in (get_or (with_group groups None (put_top (group groups None) id (pos 0))) at []) q ≡ (if q == id then layer_at at o else option_and_then (layer_at at) (of_id objects q))
      layers at q =
          let some : 0 < length groups = let e = whole.grouped in omega (arith, e) in
          ap (λ g. layer_in g q) (get_set groups 0 at (put_top (group groups None) id (pos 0)) [] some) ∙ elim (eqb_tells at 0) [
            | inl here ↦ rw here.0 (layer_in-put_top (group groups None) id (pos 0) q (apart_absent (group groups None) id (absent 0))
                ∙ ap₂ (λ mine other. if q == id then mine else other) (own_layer at here.1) (ap (λ at. layer_in (get_or groups at []) q) (sym here.1) ∙ whole.stands at q))
            | inr away ↦ rw away.0 (whole.stands at q ∙ elim (eqb_tells q id) [
              | inl same ↦ rw same.0 (ap (λ q. option_and_then (layer_at at) (of_id objects q)) same.1 ∙ sym (whole.stands at id) ∙ absent at ∙ nowhere at away.1)
              | inr differ ↦ rw differ.0 refl
            ])
          ]
        where
          own_layer : (at : ℕ) → at ≡ 0 → Some (pos 0) ≡ layer_at at o
          own_layer at here = ap (λ layer. Some layer) (sym low) ∙ ap₂ (λ p at. if place p == at then Some o.layer else None) (sym free) (sym here)

          nowhere : (at : ℕ) → at ≢ 0 → None ≡ layer_at at o
          nowhere at away = let differ : (0 == at) ≡ false = grind (arith, nat_tests, away) in ap (λ b. if b then Some o.layer else None) (sym differ) ∙ ap (λ p. if place p == at then Some o.layer else None) (sym free)

-- before anything was made
pub at_start : (states : List (Option (Held Object))) (groups : List (List (ℕ × ℤ))) (ties : Ties) → states ≡ [] → groups ≡ [] ∷ [] → ties ≡ empty → IsWhole (record { w = 320; h = 240; objects = values_of states; groups = groups }) ties
at_start states groups ties e f g = rw (e, f, g) (record {
  canvas = record { w_low = omega arith; w_high = omega arith; h_low = omega arith; h_high = omega arith };
  own = λ id o there. absurd (none-some o (sym (none id) ∙ there));
  limits = λ id o there. absurd (none-some o (sym (none id) ∙ there));
  stands = λ at id. nobody at id ∙ sym (ap (option_and_then (layer_at at)) (none id));
  grouped = refl;
  tied = λ id. get-empty _ id ∙ ap (option_map tie_of) (sym (none id));
}) where
  none : (id : ℕ) → of_id {A = Object} [] id ≡ None
  none zero = refl
  none (suc k) = of_id_suc {A = Object} [] k

  nobody : (at id : ℕ) → layer_in (get_or ([] ∷ []) at []) id ≡ None
  nobody zero id = refl
  nobody (suc at) id = refl

-- a tie that was added is known
pub known_tie : (ties ties' : Ties) (id : ℕ) (kind : Kind) (fault : LinkErr) → ties' ≡ insert ties id (alone kind) → Some fault ≡ known_fault ties' id → ⊥
known_tie ties ties' id kind fault e f =
    let there : get ties' id ≡ Some (alone kind) = ap (λ ties. get ties id) e ∙ get_put_tie ties id (alone kind) id ∙ (let same : (id == id) ≡ true = grind (arith, nat_tests) in ap (λ b. if b then Some (alone kind) else get ties id) same) in
    none-some fault (sym (f ∙ ap (λ tie. if is_some tie then None else Some Unknown) there))

-- the same of states
pub made_to : {w h : ℕ} (states : List (Option (Held Object))) {groups : List (List (ℕ × ℤ))} {ties : Ties} → IsWhole (record { w = w; h = h; objects = values_of states; groups = groups }) ties
    → (states' : List (Option (Held Object))) (s : Held Object) (name : List ℕ) (kind : Kind) (id : ℕ) (groups' : List (List (ℕ × ℤ))) (ties' : Ties) → id ≡ length states + 1 → s.value ≡ fresh id name kind
    → states' ≡ states ++ Some s ∷ [] → groups' ≡ with_group groups None (put_top (group groups None) (length groups) (pos 0)) ++ [] ∷ [] → ties' ≡ insert ties id (alone kind)
    → IsWhole (record { w = w; h = h; objects = values_of states'; groups = groups' }) ties'
made_to states {groups = groups} {ties = ties} whole states' s name kind id groups' ties' next new e f g =
    let objects : List (Option Object) = values_of states in
    let size : length objects ≡ length states = length-map states (λ slot. option_map value_of slot) in
    let next' : id ≡ length objects + 1 = next ∙ ap (λ n. n + 1) (sym size) in
    let place : length groups ≡ id = whole.grouped ∙ sym next' in
    made whole id s.value (values_of states') groups' ties' next'
    (ap (λ o. o.id) new) (ap (λ o. o.parent) new) (ap (λ o. o.layer) new) (subst (λ o. IsObject o) (sym new) (new_object id name kind))
    (ap values_of e ∙ map-append (λ slot. option_map value_of slot) states (Some s ∷ []))
    (f ∙ ap (λ n. with_group groups None (put_top (group groups None) n (pos 0)) ++ [] ∷ []) place)
    (g ∙ ap (insert ties id) (sym (ap tie_of new ∙ fresh_tie id name kind)))
  where
    new_object : (id : ℕ) (name : List ℕ) (kind : Kind) → IsObject (fresh id name kind)
    new_object id name Rect = record { layer_low = omega (arith, ints); layer_high = omega (arith, ints); content = tt }
    new_object id name Smart = record { layer_low = omega (arith, ints); layer_high = omega (arith, ints); content = tt }
    new_object id name Image = record { layer_low = omega (arith, ints); layer_high = omega (arith, ints); content = (tt, record { l = omega arith; r = omega arith; t = omega arith; b = omega arith }) }
    new_object id name Text = record { layer_low = omega (arith, ints); layer_high = omega (arith, ints); content = record { len = omega arith; characters = All-nil IsCharacter } }

    fresh_tie : (id : ℕ) (name : List ℕ) (kind : Kind) → tie_of (fresh id name kind) ≡ alone kind
    fresh_tie id name Rect = refl
    fresh_tie id name other = refl

pub next_of : (states : List (Option (Held Object))) (id : ℕ) → id ≡ length states + 1 → id ≡ length (values_of states) + 1
next_of states id next = next ∙ ap (λ n. n + 1) (sym (length-map states (λ slot. option_map value_of slot)))
