-- Commands, one after the other.
use Rattle.std.proofs.Common.{ℕ, zero, suc, ◌≡◌, ◌+◌, ◌<◌, ◌≤◌, Bool, true, false, List, [], ◌∷◌, length, get_or, drop, refl, sym, ap, ap₂, ◌∙◌, ⊎_elim, arith}
use Rattle.std.specs.Prelude.{if◌then◌else◌, Some, unsigned_abs, pos, ◌-ℤ◌}
use Rattle.std.proofs.lemmas.List.{drop_more}
use Rattle.ev_model.specs.declared.object.Object.{Object}
use Rattle.ev_model.specs.declared.content.Content.{Content}
use Rattle.ev_model.specs.declared.content.Content.TheVariants as content
use Rattle.std.proofs.lemmas.Bool.{cases_Bool}
use Rattle.ev_argb.specs.Argb.{Argb}
use Rattle.ev_argb.specs.Tile.{Tile, tile_at}
use Rattle.ev_model.specs.Paint.{put_sample, sample_at}
use Rattle.ev_model.specs.Sample.{white, sample}
use Rattle.ev_cmds.specs.Patches.{has_place, total, size_of}
use Rattle.ev_cmds.specs.Sheets.{put, put_all, op_of, patches_of}
use Rattle.ev_cmds.specs.declared.sheet.Command.{Command}
use Rattle.ev_draw.specs.Making.{Paints, CarriesOut, CarriesOutAll}

pub none_carried : (left top : ℕ) (old : Tile) → CarriesOutAll [] left top old old
unfolding put_all
none_carried left top old = record { width = refl; height = refl; pixels = λ x y w h. refl; count = omega arith }

pub carried_more : (c : Command) (cs : List Command) (left top : ℕ) (old now new : Tile) → CarriesOutAll cs left top old now → CarriesOut c left top now new → CarriesOutAll (c ∷ cs) left top old new
unfolding put_all
carried_more c cs left top old now new before one_more =
    record {
      width = one_more.width ∙ before.width;
      height = one_more.height ∙ before.height;
      pixels = λ x y w h.
          one_more.pixels x y (let e = before.width in omega arith) (let e = before.height in omega arith) ∙ ap (put c left top x y) (before.pixels x y w h);
      count = (let a = before.count in let b = one_more.count in omega arith);
    }

-- a patch that was painted as a command says
pub carried : (c : Command) (left top : ℕ) (old new : Tile) (make : ℕ → ℕ → Argb → Argb)
    → ((x y : ℕ) (value : Argb) → has_place c.patch x y ≡ true → make x y value ≡ put_sample (op_of c) c.color (sample_at c.object.value (left + x) (top + y)) value)
    → Paints c.patch make (size_of c.patch) old new → CarriesOut c left top old new
carried c left top old new make same painted =
    record {
      width = painted.width;
      height = painted.height;
      pixels = λ x y w h.
          ⊎_elim
          (λ (t : has_place c.patch x y ≡ true). painted.inside x y w h t ∙ same x y (tile_at old x y) t
          ∙ sym (ap (λ (b : Bool). if b then put_sample (op_of c) c.color (sample_at c.object.value (left + x) (top + y)) (tile_at old x y) else tile_at old x y) t))
          (λ (f : has_place c.patch x y ≡ false). painted.outside x y w h f
          ∙ sym (ap (λ (b : Bool). if b then put_sample (op_of c) c.color (sample_at c.object.value (left + x) (top + y)) (tile_at old x y) else tile_at old x y) f))
          (cases_Bool (has_place c.patch x y));
      count = painted.count;
    }

total_drop : (cs : List Command) (i : ℕ) → total (patches_of (drop i cs)) ≤ total (patches_of cs)
total_drop cs zero = omega arith
total_drop [] (suc i) = omega arith
total_drop (c ∷ cs) (suc i) = let rest = total_drop cs i in omega arith

-- one command of several, and those after it
pub total_rest : (cs : List Command) (i j : ℕ) (d : Command) → j ≡ i + 1 → i < length cs → size_of (get_or cs i d).patch + total (patches_of (drop j cs)) ≤ total (patches_of cs)
total_rest cs i j d e h =
    let more : drop i cs ≡ get_or cs i d ∷ drop (i + 1) cs = drop_more cs i d h in
    let all = total_drop cs i in
    let same : total (patches_of (drop i cs)) ≡ size_of (get_or cs i d).patch + total (patches_of (drop (i + 1) cs)) = ap (λ (xs : List Command). total (patches_of xs)) more in
    let next : total (patches_of (drop j cs)) ≡ total (patches_of (drop (i + 1) cs)) = ap (λ (n : ℕ). total (patches_of (drop n cs))) e in
    omega arith

pub rest_is : (cs : List Command) (i j : ℕ) (c : Command) → j ≡ i + 1 → i < length cs → c ≡ get_or cs i c → drop i cs ≡ c ∷ drop j cs
rest_is cs i j c e h is = drop_more cs i c h ∙ ap₂ (λ (x : Command) (xs : List Command). x ∷ xs) (sym is) (ap (λ (n : ℕ). drop n cs) (sym e))

pub rect_sample : (o : Object) (x y : ℕ) → o.content ≡ content.Rect → sample_at o x y ≡ Some white
rect_sample o x y e = ap (λ (k : Content). sample k (unsigned_abs o.rect.w) (unsigned_abs o.rect.h) (unsigned_abs (pos x -ℤ o.rect.x)) (unsigned_abs (pos y -ℤ o.rect.y))) e
