-- What is left to an object by all that stands over it.
use Rattle.std.proofs.Common.{◌≡◌, ℕ, zero, suc, Bool, true, false, not, ◌&&◌, ◌==◌, if◌then◌else◌, fold, List, [], ◌∷◌, length, map, Option, Some, None, option_map, refl, sym, ap, ap₂, ◌∙◌}
use Rattle.std.specs.List.{list_all}
use Rattle.std.specs.Option.{option_and_then}
use Rattle.std.proofs.Math.Bool.{true≢false}
use Rattle.std.proofs.lemmas.Bool.{eqb-true}
use Rattle.std.proofs.lemmas.Option.{none-some, same_Some}
use Rattle.ev_argb.specs.Argb.{tint}
use Rattle.ev_geom.specs.Area.{Area, meet}
use Rattle.ev_model.specs.Chain.{chain, ends}
use Rattle.ev_model.specs.Look.{has_pixels, look}
use Rattle.ev_model.specs.Stage.{Stage, canvas, canvas_on}
use Rattle.ev_model.specs.Up.{with_id, next, over_it, up, cut, is_smart, clip, colour, is_drawn}
use Rattle.ev_model.specs.declared.object.Object.{Object}
use Rattle.ev_looks.specs.Reached.{Left, left_by, LeaveSame, IsUnreached}

-- nothing comes after nothing
pub chain_none : {A : Type 0} (n : ℕ) (next : A → Option A) → chain n next None ≡ []
chain_none zero next = refl
chain_none (suc n) next = refl

-- an object that is found has the id
pub own_id : (objects : List Object) (id : ℕ) (u : Object) → with_id objects id ≡ Some u → u.id ≡ id
own_id [] id u found = absurd (none-some u found)
own_id (o ∷ objects) id u found = go (o.id == id) refl found (own_id objects id u) where
  go : (b : Bool) → (o.id == id) ≡ b → (if b then Some o else with_id objects id) ≡ Some u → (with_id objects id ≡ Some u → u.id ≡ id) → u.id ≡ id
  go true is found later = ap (λ (o : Object). o.id) (sym (same_Some o u found)) ∙ eqb-true o.id id is
  go false is found later = later found

-- so it is found by its own id
found_itself : (objects : List Object) (id : ℕ) (u : Object) → with_id objects id ≡ Some u → with_id objects u.id ≡ Some u
found_itself objects id u found = ap (with_id objects) (own_id objects id u found) ∙ found

module _ (before now : List Object) (left : LeaveSame before now) where
  -- it is found by its own id, if it is there
  abbrev IsThere : Option Object → Type 0
  IsThere b = (u : Object) → b ≡ Some u → with_id now u.id ≡ Some u

  -- what comes next leaves the same
  next_same : (u v : Object) → with_id now v.id ≡ Some v → left_by u ≡ left_by v → option_map left_by (next before u) ≡ option_map left_by (next now v)
  next_same u v there same = go (left_by v).over refl where
    go : (over : Option ℕ) → (left_by v).over ≡ over → option_map left_by (next before u) ≡ option_map left_by (next now v)
    go None is =
        ap (λ over. option_map left_by (option_and_then (with_id before) over)) (ap (λ (l : Left). l.over) same ∙ is)
        ∙ sym (ap (λ over. option_map left_by (option_and_then (with_id now) over)) is)
    go (Some id) is =
        ap (λ over. option_map left_by (option_and_then (with_id before) over)) (ap (λ (l : Left). l.over) same ∙ is) ∙ left v id there is
        ∙ sym (ap (λ over. option_map left_by (option_and_then (with_id now) over)) is)

  next_there : (v : Object) → IsThere (next now v)
  next_there v u is = go (left_by v).over is where
    go : (over : Option ℕ) → option_and_then (with_id now) over ≡ Some u → with_id now u.id ≡ Some u
    go None none = absurd (none-some u none)
    go (Some id) found = found_itself now id u found

  ways_same : (n m : ℕ) (a b : Option Object) → IsThere b → option_map left_by a ≡ option_map left_by b → ends n (next before) a ≡ true → ends m (next now) b ≡ true
      → map left_by (chain n (next before) a) ≡ map left_by (chain m (next now) b)
  ways_same n m None None there same end end' = ap (map left_by) (chain_none n (next before)) ∙ sym (ap (map left_by) (chain_none m (next now)))
  ways_same n m None (Some v) there same end end' = absurd (none-some (left_by v) same)
  ways_same n m (Some u) None there same end end' = absurd (none-some (left_by u) (sym same))
  ways_same zero m (Some u) (Some v) there same end end' = absurd (true≢false (sym end))
  ways_same (suc n) zero (Some u) (Some v) there same end end' = absurd (true≢false (sym end'))
  ways_same (suc n) (suc m) (Some u) (Some v) there same end end' =
      let one : left_by u ≡ left_by v = same_Some (left_by u) (left_by v) same in
      ap₂ ◌∷◌ one (ways_same n m (next before u) (next now v) (next_there v) (next_same u v (there v refl) one) end end')

-- what all of them leave
fold_same : {A : Type 0} (f : A → Object → A) (g : A → Left → A) → ((a : A) (u : Object) → f a u ≡ g a (left_by u)) → (a : A) (us : List Object) → fold f a us ≡ fold g a (map left_by us)
fold_same f g same a [] = refl
fold_same f g same a (u ∷ us) = ap (λ a. fold f a us) (same a u) ∙ fold_same f g same (g a (left_by u)) us

all_same : (us : List Object) → list_all (λ u. u.shown) us ≡ list_all (λ (l : Left). l.shown) (map left_by us)
all_same [] = refl
all_same (u ∷ us) = ap (λ b. u.shown && b) (all_same us)

abbrev cut_left : Area → Option Area → Area
cut_left a None = a
cut_left a (Some r) = meet a r

cut_same : (a : Area) (u : Object) → cut a u ≡ cut_left a (left_by u).area
cut_same a u = go (is_smart u) where
  go : (b : Bool) → (if b then a else meet a u.rect) ≡ cut_left a (if b then None else Some u.rect)
  go true = refl
  go false = refl

module _ (before now : Stage) (o : Object) (unreached : IsUnreached before now o) where
  over_same : map left_by (over_it before.objects o) ≡ map left_by (over_it now.objects o)
  over_same = ways_same before.objects now.objects unreached.left (length before.objects) (length now.objects) (next before.objects o) (next now.objects o)
      (next_there before.objects now.objects unreached.left o) (next_same before.objects now.objects unreached.left o o unreached.there refl) unreached.ended unreached.ends

  up_same : map left_by (up before.objects o) ≡ map left_by (up now.objects o)
  up_same = ap (λ more. left_by o ∷ more) over_same

  clip_same : clip before o ≡ clip now o
  clip_same =
      fold_same cut (λ a l. cut_left a l.area) cut_same (canvas before) (up before.objects o)
      ∙ ap₂ (fold (λ a l. cut_left a l.area)) (ap₂ canvas_on unreached.width unreached.height) up_same
      ∙ sym (fold_same cut (λ a l. cut_left a l.area) cut_same (canvas now) (up now.objects o))

  colour_same : colour before o ≡ colour now o
  colour_same =
      fold_same (λ c u. tint c u.color) (λ c l. tint c l.color) (λ c u. refl) o.color (over_it before.objects o)
      ∙ ap (fold (λ c (l : Left). tint c l.color) o.color) over_same
      ∙ sym (fold_same (λ c u. tint c u.color) (λ c l. tint c l.color) (λ c u. refl) o.color (over_it now.objects o))

  drawn_same : is_drawn before o ≡ is_drawn now o
  drawn_same =
      ap₂ (λ clipping shown. (not (is_smart o) && not clipping) && shown) unreached.clips
      (all_same (up before.objects o) ∙ ap (list_all (λ (l : Left). l.shown)) up_same ∙ sym (all_same (up now.objects o)))

  pub looks_same : look before o ≡ look now o
  looks_same =
      ap₂ (λ drawn area. if drawn && has_pixels area then Some (record { id = o.id; area = area; color = colour before o; object = o }) else None) drawn_same clip_same
      ∙ ap (λ color. if is_drawn now o && has_pixels (clip now o) then Some (record { id = o.id; area = clip now o; color = color; object = o }) else None) colour_same
