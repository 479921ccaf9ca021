-- Edits of a scene: when each is refused, and what it does.
use Rattle.std.specs.Prelude.{◌≡◌, ◌≢◌, ℕ, ◌+◌, ℤ, ◌+ℤ◌, ◌-ℤ◌, ◌≤ℤ◌, pos, neg_ℤ, Bool, true, false, not, ◌&&◌, ◌==◌, nat_eq, nat_lt, unsigned_abs, if◌then◌else◌, List, [], ◌∷◌, ◌++◌, length, map, filter, filter_map, Option, Some, None, Result, MatchResult}
use Rattle.std.specs.List.{list_all}
use Rattle.std.specs.Option.{option_eq, option_map, option_map_or, option_and_then}
use Rattle.std.specs.Ordering.{int_eq}
use Rattle.ev_geom.specs.Area.{is_place, is_side}
use Rattle.ev_model.specs.Up.{is_smart, is_clipped_by}
use Rattle.ev_model.specs.declared.command.Edit.{Edit}
use Rattle.ev_model.specs.declared.command.Edit.TheVariants as edit
use Rattle.ev_model.specs.declared.content.Content.{Content}
use Rattle.ev_model.specs.declared.content.Content.TheVariants as content
use Rattle.ev_model.specs.declared.content.Fill.TheVariants.{Filled}
use Rattle.ev_model.specs.declared.object.Object.{Object}
use Rattle.ev_model.specs.declared.refusal.Refusal.{Refusal}
use Rattle.ev_model.specs.declared.refusal.Refusal.TheVariants as refusal
use Rattle.ev_stack.specs.LayerOrder.{put_top, without}
use Rattle.ev_stack.specs.StackCalls.{raised, lowered, relayered, placed_above, placed_below}
use Rattle.ev_links.specs.LinkCalls.{clip_fault, join_fault, leave_fault}
use Rattle.ev_links.specs.Ties.{has}
use Rattle.ev_groups.specs.Groups.{group, with_group, siblings}
use Rattle.ev_scene.specs.Ids.{of_id, put, live}
use Rattle.ev_scene.specs.Board.{Board, Kept, named, inside, ties_on}
use Rattle.ev_scene.specs.TieFaults.{refusal_of}
use Rattle.ev_scene.specs.Change.{apply, fresh, is_layer, is_canvas, are_channels, color_of, is_fill, fill_of, is_border, border_of}
use Rattle.ev_scene.specs.declared.image_change.ImageChange.TheVariants as image_change
use Rattle.ev_scene.specs.declared.text_change.TextChange.TheVariants as text_change
use Rattle.ev_scene.specs.declared.change.Change.{Change}
use Rattle.ev_scene.specs.declared.change.Change.TheVariants as change
use Rattle.ev_scene.specs.declared.change.Target.{Target}
use Rattle.ev_scene.specs.declared.change.Target.TheVariants as target

-- refused, unless a test holds
abbrev pub unless : Bool → Refusal → Option Refusal
unless holds cause = if holds then None else Some cause

-- refused as unknown where no object has the name, and else by what a test says of that object
abbrev pub known : Board → List ℕ → (Object → Option Refusal) → Option Refusal
known board name test = option_map_or test (named board.objects name) (Some refusal.Unknown)

-- why o cannot stand next to p
abbrev pub beside : Object → Object → Option Refusal
beside o p =
    if o.id == p.id then Some refusal.Itself
    else if not (option_eq nat_eq o.parent p.parent) then Some refusal.Sibling
    else unless (int_eq o.layer p.layer) refusal.Layer

-- why c cannot clip o, by the ties of all objects
abbrev pub clip_verdict : Board → Object → Object → Option Refusal
clip_verdict board o c = option_map refusal_of (clip_fault (ties_on board) o.id c.id)

-- why o cannot join s
abbrev pub join_verdict : Board → Object → Object → Option Refusal
join_verdict board o s = option_map refusal_of (join_fault (ties_on board) o.id s.id)

-- why o cannot leave what it stands in
abbrev pub leave_verdict : Board → Object → Option Refusal
leave_verdict board o = option_map refusal_of (leave_fault (ties_on board) o.id)

-- whether an object's place is in range, once it has moved by dx and dy
abbrev pub may_shift : ℤ → ℤ → Object → Bool
may_shift dx dy o = is_place (o.rect.x +ℤ dx) && is_place (o.rect.y +ℤ dy)

-- an object and all objects that stand inside it
abbrev pub objects_in : Board → ℕ → List Object
objects_in board id = filter_map (of_id board.objects) (inside board id)

-- a smart object takes along all that stands inside it, and each of these needs a place in range
abbrev pub move_verdict : ℤ → ℤ → Board → Object → Option Refusal
move_verdict x y board o =
    unless (if is_smart o then list_all (may_shift (x -ℤ o.rect.x) (y -ℤ o.rect.y)) (objects_in board o.id) else is_place x && is_place y) refusal.Range

abbrev pub is_image : Content → Bool
is_image (content.Image part) = true
is_image other = false

abbrev pub is_text : Content → Bool
is_text (content.Text part) = true
is_text other = false

-- whether a change is for an object
abbrev pub is_target : Target → Object → Bool
is_target target.Any o = true
is_target target.Painted o = not (is_smart o)
is_target target.Image o = is_image o.content
is_target target.Text o = is_text o.content

-- only an object that a change is for looks different by it, by numbers in range
abbrev pub look_verdict : Target → Bool → Object → Option Refusal
look_verdict target in_range o = if not (is_target target o) then Some refusal.Kind else unless in_range refusal.Range

-- a new object needs a free name, and fewer than 65,536 objects that are there
abbrev pub make_verdict : Board → List ℕ → Option Refusal
make_verdict board name = option_map_or (λ o. Some refusal.Exists) (named board.objects name) (unless (nat_lt (length (live board.objects)) 65536) refusal.Full)

-- the first refusal of an edit, if there is one
abbrev pub verdict : Board → Edit → Option Refusal
verdict board (edit.Size w h) = unless (is_canvas w h) refusal.Range
verdict board (edit.Make name kind) = make_verdict board name
verdict board (edit.Delete name) = known board name (λ o. None)
verdict board (edit.Move name x y) = known board name (move_verdict x y board)
verdict board (edit.Resize name w h) = known board name (look_verdict target.Any (is_side w && is_side h))
verdict board (edit.Show name on) = known board name (look_verdict target.Any true)
verdict board (edit.Color name r g b a) = known board name (look_verdict target.Any (are_channels r g b a))
verdict board (edit.SetOp name op) = known board name (look_verdict target.Painted true)
verdict board (edit.Layer name layer) = known board name (λ o. unless (is_layer layer) refusal.Range)
verdict board (edit.Raise name up) = known board name (λ o. None)
verdict board (edit.Place name other above) = known board name (λ o. known board other (beside o))
verdict board (edit.Clip name clipper) = known board name (λ o. known board clipper (clip_verdict board o))
verdict board (edit.Unclip name) = known board name (λ o. None)
verdict board (edit.Member name smart) = known board name (λ o. known board smart (join_verdict board o))
verdict board (edit.Free name) = known board name (leave_verdict board)
verdict board (edit.File name key) = known board name (look_verdict target.Image true)
verdict board (edit.Font name key) = known board name (look_verdict target.Text true)
verdict board (edit.Say name text) = known board name (look_verdict target.Text true)
verdict board (edit.Fill name x y w h) = known board name (look_verdict target.Image (is_fill x y w h))
verdict board (edit.Filled name) = known board name (look_verdict target.Image true)
verdict board (edit.Border name l r t b) = known board name (look_verdict target.Image (is_border l r t b))
verdict board (edit.Center name on) = known board name (look_verdict target.Image true)

-- what is made of the object of a name; where there is none, nothing changes
abbrev pub with_named : Board → List ℕ → (Object → Board) → Board
with_named board name make = option_map_or make (named board.objects name) board

-- the groups, with an object on top of its layer in a parent
abbrev pub entered : Option ℕ → Object → List (List (ℕ × ℤ)) → List (List (ℕ × ℤ))
entered parent o groups = with_group groups parent (put_top (group groups parent) o.id o.layer)

-- the groups, where an id is gone from a parent
abbrev pub gone_from : Option ℕ → ℕ → List (List (ℕ × ℤ)) → List (List (ℕ × ℤ))
gone_from parent id groups = with_group groups parent (without (group groups parent) id)

-- a new object stands in no other one, and has no members
abbrev pub made : Board → Object → Board
made board o = record board { objects = board.objects ++ Some o ∷ []; groups = entered None o board.groups ++ [] ∷ [] }

-- the next id goes to the new object
abbrev pub next_id : Board → ℕ
next_id board = length board.objects + 1

-- what stays of an object where some ids go: nothing if it goes itself, and else it without a clipper that goes
abbrev pub left : List ℕ → Object → Option Object
left gone o = if has gone o.id then None else Some (if option_map_or (has gone) o.clipper false then record o { clipper = None } else o)

-- the groups, where nothing stands in any of these ids
abbrev pub emptied : List ℕ → List (List (ℕ × ℤ)) → List (List (ℕ × ℤ))
emptied [] groups = groups
emptied (id ∷ ids) groups = emptied ids (with_group groups (Some id) [])

-- an object goes from its parent, with all that stands inside it
abbrev pub deleted : Board → ℕ → Option ℕ → Board
deleted board id parent = record board {
  objects = map (λ slot. option_and_then (left (inside board id)) slot) board.objects;
  groups = emptied (inside board id) (gone_from parent id board.groups);
}

abbrev pub changed : Change → Board → Object → Board
changed change board o = record board { objects = put board.objects o.id (Some (apply change o)) }

-- an object moved by dx and dy
abbrev pub shifted_by : ℤ → ℤ → Object → Object
shifted_by dx dy o = apply (change.Move (o.rect.x +ℤ dx) (o.rect.y +ℤ dy)) o

-- an object and all that stands inside it moved by dx and dy
abbrev pub shifted_all : ℤ → ℤ → Board → ℕ → Board
shifted_all dx dy board id = record board { objects = map (λ slot. option_map (λ p. if has (inside board id) p.id then shifted_by dx dy p else p) slot) board.objects }

-- an object goes to x, y, and takes along all that stands inside it
abbrev pub moved : ℤ → ℤ → Board → Object → Board
moved x y board o = if is_smart o then shifted_all (x -ℤ o.rect.x) (y -ℤ o.rect.y) board o.id else changed (change.Move x y) board o

-- two places in range lie no further apart than this
pub record IsShift (d : ℤ) : Type 0 where
  pub low : neg_ℤ (pos 2000000) ≤ℤ d
  pub high : d ≤ℤ pos 2000000

-- other siblings in an object's group
abbrev pub regrouped : (List (ℕ × ℤ) → List (ℕ × ℤ)) → Board → Object → Board
regrouped move board o = record board { groups = with_group board.groups o.parent (move (group board.groups o.parent)) }

abbrev pub relaid : ℤ → Board → Object → Board
relaid layer board o = regrouped (λ group. relayered group o.id layer) (changed (change.Layer layer) board o) o

abbrev pub restacked : Bool → Board → Object → Board
restacked up board o = regrouped (λ group. (if up then raised else lowered) group o.id) board o

abbrev pub placed : Bool → Board → Object → Object → Board
placed above board o p = regrouped (λ group. if above then placed_above group o.id p.id else placed_below group o.id p.id) board o

-- an object goes from where it stands to the top of its layer in another parent, or in none
abbrev pub rehomed : Option ℕ → Board → Object → Board
rehomed parent board o = record (changed (change.Parent parent) board o) { groups = gone_from o.parent o.id (entered parent o board.groups) }

-- a member stays where it is
abbrev pub homed : Option ℕ → Board → Object → Board
homed parent board o = if option_eq nat_eq o.parent parent then board else rehomed parent board o

-- what an edit does
abbrev pub effect : Board → Edit → Board
effect board (edit.Size w h) = record board { w = unsigned_abs w; h = unsigned_abs h }
effect board (edit.Make name kind) = made board (fresh (next_id board) name kind)
effect board (edit.Delete name) = with_named board name (λ o. deleted board o.id o.parent)
effect board (edit.Move name x y) = with_named board name (moved x y board)
effect board (edit.Resize name w h) = with_named board name (changed (change.Resize w h) board)
effect board (edit.Show name on) = with_named board name (changed (change.Show on) board)
effect board (edit.Color name r g b a) = with_named board name (changed (change.Color (color_of r g b a)) board)
effect board (edit.SetOp name op) = with_named board name (changed (change.Op op) board)
effect board (edit.Layer name layer) = with_named board name (relaid layer board)
effect board (edit.Raise name up) = with_named board name (restacked up board)
effect board (edit.Place name other above) = with_named board name (λ o. with_named board other (placed above board o))
effect board (edit.Clip name clipper) = with_named board name (λ o. with_named board clipper (λ c. changed (change.Clip (Some c.id)) board o))
effect board (edit.Unclip name) = with_named board name (changed (change.Clip None) board)
effect board (edit.Member name smart) = with_named board name (λ o. with_named board smart (λ s. homed (Some s.id) board o))
effect board (edit.Free name) = with_named board name (homed None board)
effect board (edit.File name key) = with_named board name (changed (change.Image (image_change.File key)) board)
effect board (edit.Font name key) = with_named board name (changed (change.Text (text_change.Font key)) board)
effect board (edit.Say name text) = with_named board name (changed (change.Text (text_change.Say text.now)) board)
effect board (edit.Fill name x y w h) = with_named board name (changed (change.Image (image_change.Fill (fill_of x y w h))) board)
effect board (edit.Filled name) = with_named board name (changed (change.Image (image_change.Fill Filled)) board)
effect board (edit.Border name l r t b) = with_named board name (changed (change.Image (image_change.Border (border_of l r t b))) board)
effect board (edit.Center name on) = with_named board name (changed (change.Image (image_change.Center on)) board)

-- an edit is refused by its first refusal; where there is none, memory may be wanting
abbrev pub Refuses : Option Refusal → Refusal → Type 0
Refuses (Some first) cause = cause ≡ first
Refuses None cause = cause ≡ refusal.NoMemory

-- what an edit of this verdict and this effect answers, and what stands after it
abbrev pub Answers : {T : Type 0} → Option Refusal → Board → Board → Result T Refusal → Board → Type 0
Answers verdict old after result new = MatchResult result
    (λ done. (verdict ≡ None) × (new ≡ after))
    (λ cause. Refuses verdict cause × (new ≡ old))

abbrev pub Edits : {T : Type 0} → Board → Edit → Result T Refusal → Board → Type 0
Edits old edit result new = Answers (verdict old edit) old (effect old edit) result new

-- a refused edit leaves all as it was, the states and their serials too. Only where memory was wanting, states may have been made
pub record IsLeft (old : Kept) (cause : Refusal) (new : Kept) : Type 0 where
  pub stays : new ≡ record old { made = new.made }
  pub free : cause ≢ refusal.NoMemory → new.made ≡ old.made

-- the objects of some ids that have this clipper
abbrev pub clipped_among : List (Option Object) → List ℕ → ℕ → List Object
clipped_among objects ids clipper = filter (is_clipped_by clipper) (filter_map (of_id objects) ids)

-- what an object clips stands beside it, in the same parent
abbrev pub clipped_by : Board → ℕ → Option ℕ → List Object
clipped_by board id parent = clipped_among board.objects (siblings board.groups parent) id

-- an object stands at x, y
abbrev pub is_at : ℤ → ℤ → Object → Bool
is_at x y o = int_eq x o.rect.x && int_eq y o.rect.y

-- how many objects a move changes, the named one counted: a move to where that one stands changes no other one
abbrev pub move_writes : ℤ → ℤ → Board → Object → ℕ
move_writes x y board o = if is_at x y o then 1 else length (inside board o.id)

-- how many states an edit makes at most: one for the object that it names, and one for each other object that it changes and that stays
abbrev pub writes : Board → Edit → ℕ
writes board (edit.Size w h) = 0
writes board (edit.Move name x y) = option_map_or (move_writes x y board) (named board.objects name) 1
writes board (edit.Delete name) = option_map_or (λ o. length (clipped_by board o.id o.parent) + 1) (named board.objects name) 1
writes board other = 1
