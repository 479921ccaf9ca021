-- The picture that was drawn last.
use Rattle.std.proofs.Common.{ℕ, suc, ◌≡◌, Bool, true, false, ◌||◌, List, [], ◌∷◌, length, get_or, ℤ, pos, Option, Some, None, MatchOption, IfSome, is_some, refl, sym, ap, ◌∙◌, subst, arith}
use Rattle.std.specs.Option.{option_copied}
use denote.Bor.{Bor}
use Rattle.ev_argb.specs.Argb.{Argb}
use Rattle.ev_argb.specs.Grid.{Grid}
use Rattle.ev_geom.specs.Area.{Area}
use Rattle.ev_geom.specs.Bands.{has_pixel}
use Rattle.ev_buffers.specs.declared.mark.Mark.{Mark}
use Rattle.ev_buffers.specs.Marks.{is_unused, IsStaleSince}
use Rattle.ev_buffers.specs.BufferChain.{Chain, last_picture, last_updates, once_drawn, drawn, FitsChain, IsAtHome, IsLine, IsChain}
use Rattle.ev_buffers.specs.Kept.{Shows, ShowsAtHome, AllShow, ShowsLast}
use Rattle.ev_buffers.proofs.Lines.{last_picture_at, last_updates_at}

undrawn : (updates : Option (List Area)) (picture : Option Grid) → is_some updates ≡ false → once_drawn updates picture ≡ None
undrawn None picture h = refl
undrawn (Some updates) picture h = absurd (cc)

there : (updates : Option (List Area)) (picture : Option Grid) → is_some updates ≡ true → once_drawn updates picture ≡ picture
there None picture h = absurd (cc)
there (Some updates) picture h = refl

pub drawn_none : (chain : Chain) (k : ℕ) (mark : Mark) → suc k ≡ length chain.marks → mark ≡ get_or chain.marks k mark → is_some mark.updates ≡ false → drawn chain ≡ None
drawn_none chain k mark n e h =
    undrawn (last_updates chain.marks) (last_picture chain.pictures)
    (ap is_some (last_updates_at chain.marks k mark n ∙ ap (λ m. m.updates) (sym e)) ∙ h)

pub drawn_some : (chain : Chain) (k : ℕ) (mark : Mark) (picture : Option Grid) → suc k ≡ length chain.marks → suc k ≡ length chain.pictures → mark ≡ get_or chain.marks k mark → is_some mark.updates ≡ true
    → picture ≡ get_or chain.pictures k picture → drawn chain ≡ picture
drawn_some chain k mark picture n m e h p =
    there (last_updates chain.marks) (last_picture chain.pictures) (ap is_some (last_updates_at chain.marks k mark n ∙ ap (λ m. m.updates) (sym e)) ∙ h)
    ∙ last_picture_at chain.pictures k picture m
    ∙ sym p

pub borrowed : (found : Option (Bor Grid)) (picture last : Option Grid) → option_copied found ≡ picture → last ≡ picture → MatchOption found (last ≡ None) (λ one. last ≡ Some one.now)
borrowed None picture last c e = e ∙ sym c
borrowed (Some one) picture last c e = e ∙ sym c

last_fits : (w h : ℕ) (ps : List (Option Grid)) (g : Grid) → IsLine w h ps → last_picture ps ≡ Some g → FitsChain w h g
last_fits w h [] g l e = absurd (cc)
last_fits w h (None ∷ []) g l e = absurd (cc)
last_fits w h (None ∷ (q ∷ ps)) g l e = absurd (let n = ap length l in omega arith)
last_fits w h (Some p ∷ []) g l e = subst (IsAtHome w h) e l.0
last_fits w h (Some p ∷ (q ∷ ps)) g l e = last_fits w h (q ∷ ps) g l.1 e

-- nothing is stale in the buffer that was lent last
last_shows : (w h : ℕ) (paint : ℕ → ℕ → Argb) (hidden : ℤ → ℤ → Bool) (ps : List (Option Grid)) (ms : List Mark) (g : Grid) → AllShow w h paint hidden ps ms → IsStaleSince w h ms → last_picture ps ≡ Some g
    → is_unused (last_updates ms) ≡ false → Shows w h paint hidden g
last_shows w h paint hidden [] ms g a s e u = absurd (cc)
last_shows w h paint hidden (p ∷ ps) [] g a s e u = absurd a
last_shows w h paint hidden (p ∷ []) (m ∷ []) g a s e u =
    let shown : Shows w h paint (λ x y. has_pixel m.stale x y || hidden x y) g = subst (ShowsAtHome w h paint (λ x y. has_pixel m.stale x y || hidden x y)) e a.0 in
    record {
      pixels = λ x y xw yh home shows.
          let fresh : has_pixel m.stale (pos x) (pos y) ≡ false = s.0 (pos x) (pos y) ∙ rw u refl in
          shown.pixels x y xw yh home (rw (fresh, shows) refl);
    }
last_shows w h paint hidden (p ∷ []) (m ∷ (n ∷ ms)) g a s e u = absurd a.1
last_shows w h paint hidden (p ∷ (q ∷ ps)) (m ∷ []) g a s e u = absurd a.1
last_shows w h paint hidden (p ∷ (q ∷ ps)) (m ∷ (n ∷ ms)) g a s e u = last_shows w h paint hidden (q ∷ ps) (n ∷ ms) g a.1 s.1 e u

is_last : (updates : Option (List Area)) (picture : Option Grid) (g : Grid) → once_drawn updates picture ≡ Some g → (picture ≡ Some g) × (is_unused updates ≡ false)
is_last None picture g e = absurd (cc)
is_last (Some updates) picture g e = (e, refl)

pub drawn_fits : (chain now : Chain) → chain ≡ now → IsChain chain → (g : Grid) → drawn now ≡ Some g → FitsChain now.w now.h g
drawn_fits chain now view c g e =
    subst (λ b. FitsChain b.w b.h g) view
    (last_fits chain.w chain.h chain.pictures g c.line (is_last (last_updates chain.marks) (last_picture chain.pictures) g (ap drawn view ∙ e)).0)

pub drawn_shows : (chain now : Chain) → chain ≡ now → IsChain chain → (g : Grid) → drawn now ≡ Some g → ShowsLast now g
drawn_shows chain now view c g e =
    let last = is_last (last_updates chain.marks) (last_picture chain.pictures) g (ap drawn view ∙ e) in
    subst (λ b. ShowsLast b g) view
    (λ paint hidden kept. last_shows chain.w chain.h paint hidden chain.pictures chain.marks g kept.pixels c.stale last.0 last.1)

-- what holds of the picture drawn last, of the one that was found
pub of_found : (found : Option (Bor Grid)) (last : Option Grid) (P : Grid → Type 0) → MatchOption found (last ≡ None) (λ one. last ≡ Some one.now) → ((g : Grid) → last ≡ Some g → P g) → IfSome found (λ one. P one.now)
of_found None last P m f = tt
of_found (Some one) last P m f = f one.now m
