-- Looks that miss the work region may be left out.
use Rattle.std.proofs.Common.{ℕ, ◌≡◌, ◌+◌, Bool, true, false, not, ◌&&◌, ◌||◌, ℤ, pos, List, [], ◌∷◌, refl, sym, ap, ap₂, ◌∙◌, arith}
use Rattle.std.specs.Prelude.{if◌then◌else◌, filter}
use Rattle.ev_argb.specs.Argb.{Argb}
use Rattle.ev_geom.specs.Area.{holds}
use Rattle.ev_model.specs.Capture.{Capture}
use Rattle.ev_model.specs.Look.{Look}
use Rattle.ev_model.specs.Paint.{painted}
use Rattle.ev_cmds.specs.Cuts.{Cut, IsCutOf, Misses}
use Rattle.ev_cmds.specs.Opaque.{is_hidden, opaque_area, replaces}
use Rattle.ev_cmds.specs.Patches.{one}
use Rattle.ev_cmds.specs.Sheets.{Shows, layers, painted_looks}
use Rattle.ev_cmds.specs.declared.sheet.Command.{Command}
use Rattle.ev_cmds.proofs.Culling.{covers}
use Rattle.ev_cmds.proofs.Seeing.{and_false}

-- looks that don't come near have no pixel at a place
abbrev pub AreFar : (Look → Bool) → ℕ → ℕ → Type 0
AreFar near x y = (l : Look) → near l ≡ false → holds l.area (pos x) (pos y) ≡ false

hidden_all : (near : Look → Bool) (x y : ℕ) → AreFar near x y → (looks : List Look) → is_hidden (filter near looks) x y ≡ is_hidden looks x y
hidden_all near x y far [] = refl
hidden_all near x y far (l ∷ looks) = step (near l) refl (hidden_all near x y far looks)
  where
    step : (b : Bool) → near l ≡ b → is_hidden (filter near looks) x y ≡ is_hidden looks x y → is_hidden (if b then l ∷ filter near looks else filter near looks) x y ≡ is_hidden (l ∷ looks) x y
    step true is rest = ap (λ (h : Bool). holds (opaque_area l) (pos x) (pos y) || h) rest
    step false is rest = rest ∙ sym (ap (λ (h : Bool). h || is_hidden looks x y) (covers l (replaces l) x y refl ∙ ap (λ (h : Bool). replaces l && h) (far l is) ∙ and_false (replaces l)))

painted_all : (near : Look → Bool) (x y : ℕ) → AreFar near x y → (looks : List Look) (value : Argb) → painted_looks (filter near looks) x y value ≡ painted_looks looks x y value
painted_all near x y far [] value = refl
painted_all near x y far (l ∷ looks) value = step (near l) refl (painted_all near x y far looks (painted l x y value)) (painted_all near x y far looks value)
  where
    step : (b : Bool) → near l ≡ b → painted_looks (filter near looks) x y (painted l x y value) ≡ painted_looks looks x y (painted l x y value) → painted_looks (filter near looks) x y value ≡ painted_looks looks x y value
        → painted_looks (if b then l ∷ filter near looks else filter near looks) x y value ≡ painted_looks looks x y (painted l x y value)
    step true is rest same = rest
    step false is rest same = same ∙ ap (painted_looks looks x y) (sym (unpainted (far l is)))
      where
        unpainted : holds l.area (pos x) (pos y) ≡ false → painted l x y value ≡ value
        unpainted none = rw none refl

layers_all : (near : Look → Bool) (x y : ℕ) → AreFar near x y → (looks : List Look) → layers (filter near looks) x y ≡ layers looks x y
unfolding layers
layers_all near x y far [] = refl
layers_all near x y far (l ∷ looks) = step (near l) refl (layers_all near x y far looks) (hidden_all near x y far looks)
  where
    step : (b : Bool) → near l ≡ b → layers (filter near looks) x y ≡ layers looks x y → is_hidden (filter near looks) x y ≡ is_hidden looks x y
        → layers (if b then l ∷ filter near looks else filter near looks) x y ≡ one (holds l.area (pos x) (pos y) && not (is_hidden looks x y)) + layers looks x y
    step true is rest hidden = ap₂ (λ (h : Bool) (n : ℕ). one (holds l.area (pos x) (pos y) && not h) + n) hidden rest
    step false is rest hidden = rest ∙ (let e : layers looks x y ≡ 0 + layers looks x y = omega arith in e) ∙ sym (ap (λ (h : Bool). one (h && not (is_hidden looks x y)) + layers looks x y) (far l is))

-- what is shown of those that come near is shown of all
all_shown : (work : ℤ → ℤ → Bool) (near : Look → Bool) (looks : List Look) (left top : ℕ) (bare : List ℕ) (commands : List Command) → Misses work near
    → Shows work (filter near looks) left top bare commands → Shows work looks left top bare commands
all_shown work near looks left top bare commands misses shows = record {
  bare_places = λ x y wide tall. shows.bare_places x y wide tall ∙ where_inside (work (pos (left + x)) (pos (top + y))) _ _ (λ inside. ap not (hidden_all near (left + x) (top + y) (far x y inside) looks));
  inside = λ x y value wide tall inside good. shows.inside x y value wide tall inside good ∙ painted_all near (left + x) (top + y) (far x y inside) looks value;
  hidden = λ x y a b wide tall inside covered. shows.hidden x y a b wide tall inside (hidden_all near (left + x) (top + y) (far x y inside) looks ∙ covered);
  outside = shows.outside;
  command_places = λ x y wide tall. shows.command_places x y wide tall ∙ count_inside (work (pos (left + x)) (pos (top + y))) _ _ (λ inside. layers_all near (left + x) (top + y) (far x y inside) looks);
}
  where
    far : (x y : ℕ) → work (pos (left + x)) (pos (top + y)) ≡ true → AreFar near (left + x) (top + y)
    far x y inside l away = misses l (left + x) (top + y) away inside

    where_inside : (w a b : Bool) → (w ≡ true → a ≡ b) → (w && a) ≡ (w && b)
    where_inside true a b same = same refl
    where_inside false a b same = refl

    count_inside : (w : Bool) (m n : ℕ) → (w ≡ true → m ≡ n) → (if w then m else 0) ≡ (if w then n else 0)
    count_inside true m n same = same refl
    count_inside false m n same = refl

pub cut_of_all : (work : ℤ → ℤ → Bool) (near : Look → Bool) (capture : Capture) (cut : Cut) → Misses work near → IsCutOf work (record capture { looks = filter near capture.looks }) cut → IsCutOf work capture cut
cut_of_all work near capture cut misses of_near = record {
  width = of_near.width;
  height = of_near.height;
  tiles = of_near.tiles;
  shows = λ k d low. all_shown work near capture.looks _ _ _ _ misses (of_near.shows k d low);
}
