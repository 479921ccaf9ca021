-- What ties objects to each other: clippers and parents.
use Rattle.std.specs.Prelude.{◌≡◌, ℕ, suc, zero, Bool, false, ◌||◌, ◌⊎◌, List, [], ◌∷◌, Option, Some, None, if◌then◌else◌, ◌==◌, length, nat_eq}
use Rattle.std.specs.Option.{option_and_then, option_or, option_eq}
use Rattle.std.specs.Ordering.{nat_cmp}
use Rattle.std.specs.FinMap.{FinMap, get, len}
use Rattle.ev_model.specs.declared.content.Kind.{Kind}
use Rattle.ev_model.specs.declared.content.Kind.TheVariants.{Rect, Smart}

-- what is kept of an object: its kind, its clipper and its parent by their ids
pub record Tie : Type 0 where
  pub kind : Kind
  pub clipper : Option ℕ
  pub parent : Option ℕ

-- an object without clipper and parent
abbrev pub alone : Kind → Tie
alone kind = record { kind = kind; clipper = None; parent = None }

-- the objects by their ids
abbrev pub Ties : Type 0
Ties = FinMap nat_cmp Tie

-- the object after this one: its clipper, or without one its parent
abbrev pub next_at : (ℕ → Option Tie) → ℕ → Option ℕ
next_at ties id = option_and_then (λ tie. option_or tie.clipper tie.parent) (ties id)

-- the clipper of an object, if it has one
abbrev pub clipper_at : (ℕ → Option Tie) → ℕ → Option ℕ
clipper_at ties id = option_and_then (λ tie. tie.clipper) (ties id)

-- the parent of an object, if it has one
abbrev pub parent_at : (ℕ → Option Tie) → ℕ → Option ℕ
parent_at ties id = option_and_then (λ tie. tie.parent) (ties id)

-- the kind of an object, if it is there
abbrev pub kind_at : (ℕ → Option Tie) → ℕ → Option Kind
kind_at ties id = option_and_then (λ tie. Some tie.kind) (ties id)

-- the objects on the way from an object, itself left out: each is the next of the one before, and the last has none
abbrev pub IsWay : (ℕ → Option ℕ) → ℕ → List ℕ → Type 0
IsWay next id [] = next id ≡ None
IsWay next id (later ∷ rest) = (next id ≡ Some later) × IsWay next later rest

-- the list is the object and the whole way from it
abbrev pub IsFrom : (ℕ → Option ℕ) → ℕ → List ℕ → Type 0
IsFrom next id [] = ⊥
IsFrom next id (first ∷ rest) = (first ≡ id) × IsWay next id rest

-- the list is the way up of the object: itself, then its clipper if it has one, else its parent, and so on to the end
abbrev pub IsUp : Ties → ℕ → List ℕ → Type 0
IsUp ties id list = IsFrom (next_at (get ties)) id list

-- the list has the number
abbrev pub Has : ℕ → List ℕ → Type 0
Has id [] = ⊥
Has id (one ∷ rest) = (one ≡ id) ⊎ Has id rest

-- no number stands twice
abbrev pub IsDistinct : List ℕ → Type 0
IsDistinct [] = Unit {0}
IsDistinct (one ∷ rest) = ¬ Has one rest × IsDistinct rest

-- an object and those on its way, as far as so many steps lead
abbrev pub walk : (ℕ → Option ℕ) → ℕ → Option ℕ → List ℕ
walk next zero from = []
walk next (suc steps) None = []
walk next (suc steps) (Some id) = id ∷ walk next steps (next id)

-- where so many steps lead, if so far
abbrev pub step_up : (ℕ → Option ℕ) → ℕ → Option ℕ → Option ℕ
step_up next zero from = from
step_up next (suc steps) None = None
step_up next (suc steps) (Some id) = step_up next steps (next id)

-- the way up of an object, as far as so many steps lead as there are objects. Ways end before, so this is the whole way
abbrev pub up_of : Ties → ℕ → List ℕ
up_of ties id = walk (next_at (get ties)) (len ties) (Some id)

-- the object and what it stands in: its parent, the parent of that, and so on
abbrev pub places_of : Ties → ℕ → List ℕ
places_of ties id = id ∷ walk (parent_at (get ties)) (len ties) (parent_at (get ties) id)

-- whether the list has the number
abbrev pub has : List ℕ → ℕ → Bool
has [] id = false
has (one ∷ rest) id = one == id || has rest id

-- the object is `of` or stands inside it
abbrev pub is_inside : Ties → ℕ → ℕ → Bool
is_inside ties id of = has (places_of ties id) of

-- a tie without this clipper
abbrev pub released : ℕ → Tie → Tie
released id tie = if option_eq nat_eq tie.clipper (Some id) then record tie { clipper = None } else tie

-- n is how many objects have this clipper: the length of a list of them all without repeats
pub record Counts (clipper_of : ℕ → Option ℕ) (id n : ℕ) : Type 0 where
  pub ids : List ℕ
  pub distinct : IsDistinct ids
  pub clipped : (other : ℕ) → Has other ids → clipper_of other ≡ Some id
  pub all : (other : ℕ) → clipper_of other ≡ Some id → Has other ids
  pub count : length ids ≡ n

-- what holds of the ties in every state: each way up ends, only rectangles clip, only smart objects have members, and an
-- object and its clipper are siblings
pub record IsSound (ties : ℕ → Option Tie) : Type 0 where
  pub ends : (id : ℕ) → (way : List ℕ) × IsWay (next_at ties) id way
  pub clippers : (id clipper : ℕ) → clipper_at ties id ≡ Some clipper → kind_at ties clipper ≡ Some Rect
  pub parents : (id parent : ℕ) → parent_at ties id ≡ Some parent → kind_at ties parent ≡ Some Smart
  pub siblings : (id clipper : ℕ) → clipper_at ties id ≡ Some clipper → parent_at ties clipper ≡ parent_at ties id
