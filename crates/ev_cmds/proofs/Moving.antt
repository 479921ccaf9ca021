-- The tiles of a frame take in a record one after the other.
use Rattle.std.proofs.Common.{ℕ, ◌≡◌, ◌+◌, ◌-◌, ◌*◌, ◌/◌, ◌%◌, ◌<◌, ◌≤◌, Bool, true, false, ◌&&◌, ◌||◌, nat_le, nat_lt, ℤ, pos, List, ◌∷◌, length, get_or, refl, sym, ap, ap₂, ◌∙◌, subst, ⊎_elim, arith}
use Rattle.std.specs.Prelude.{slice_index, slice_set, if◌then◌else◌, ◌==◌}
use Rattle.std.proofs.Math.Seq.{map-set_same}
use Rattle.std.proofs.lemmas.Bool.{cases_lt, cases_eq, lt-ltb, le-leb, eq-eqb, ne_eqb, and_parts, and_cases}
use Rattle.std.proofs.lemmas.List.{get_or-map, get_or-set_same, get_or-set_other, length-map, length-set}
use Rattle.std.proofs.lemmas.Nat.{mod-mul-add, div-mul-add, div-add-mod'}
use Rattle.ev_geom.specs.Area.{holds}
use Rattle.ev_geom.specs.Tiles.{tiles_along}
use Rattle.ev_model.specs.Capture.{IsLookOn}
use Rattle.ev_model.specs.Look.{Look, look_of}
use Rattle.ev_model.specs.declared.scene.Record.{Record}
use Rattle.ev_areas.specs.Edges.{has_pixel_at, meet, AreEdgesOf}
use Rattle.ev_cmds.specs.Patches.{lies}
use Rattle.ev_cmds.specs.TileJobs.{IsTileOf, IsTable, IsTaken, TakesIn, Clips, Bounds, Moves, MovesTile, TakesAll, tiles_of, taken_where, waits_from, waits_in}
use Rattle.ev_cmds.specs.Sheets.{IsPaintable}
use Rattle.ev_areas.specs.declared.edges.Edges.{Edges}
use Rattle.ev_cmds.specs.declared.table.Table.{Table}
use Rattle.ev_cmds.specs.declared.tile.TileCommands.{TileCommands}
use Rattle.ev_cmds.proofs.Placing.{lies_in, lies_before, lies_after}
use Rattle.ev_cmds.proofs.Seeing.{meet_has, and_false}
use Rattle.ev_cmds.proofs.Taking.{unseen_tile}

div-add-mod_is : (t across row column : ℕ) → t / across ≡ row → t % across ≡ column → t ≡ row * across + column
div-add-mod_is t across row column e f = sym (div-add-mod' t across) ∙ ap₂ (λ (a b : ℕ). a * across + b) e f

-- the number of a job's tile
tile_at : (jobs : List TileCommands) (k : ℕ) (d : TileCommands) → k < length jobs → slice_index (tiles_of jobs) k ≡ (get_or jobs k d).tile
tile_at jobs k d low = get_or-map (λ (job : TileCommands). job.tile) jobs k d 0 low

as_many : (jobs : List TileCommands) → length (tiles_of jobs) ≡ length jobs
as_many jobs = length-map jobs (λ (job : TileCommands). job.tile)

-- the table tells the job of a tile
place_of : (places : List ℕ) (n : ℕ) (jobs : List TileCommands) (k : ℕ) (d : TileCommands) → IsTable places n (tiles_of jobs) → k < length jobs → slice_index places (get_or jobs k d).tile ≡ k + 1
place_of places n jobs k d table low =
    ap (slice_index places) (sym (tile_at jobs k d low)) ∙ (table.at_job k (omega (arith, as_many jobs))).1

pub job_within : (places : List ℕ) (n tile place : ℕ) (jobs : List TileCommands) → IsTable places n (tiles_of jobs) → tile < n → place ≡ slice_index places tile → 0 < place → place - 1 < length jobs
job_within places n tile place jobs table within is some =
    let found = table.at_tile tile (place - 1) within (omega arith) in omega (arith, found.0, as_many jobs)

pub job_low : (places : List ℕ) (n tile place : ℕ) (jobs : List TileCommands) → IsTable places n (tiles_of jobs) → tile < n → place ≡ slice_index places tile → 0 < place → length (tiles_of jobs) ≤ 4096 → place - 1 < 4096
job_low places n tile place jobs table within is some few = let low = job_within places n tile place jobs table within is some in omega (arith, low, few, as_many jobs)

-- looks that don't change
same_looks : (work : ℤ → ℤ → Bool) (w h : ℕ) (l : Look) (looks : List Look) (job : TileCommands) (b c : Bool) → b ≡ c → IsTileOf work (if b then looks else l ∷ looks) w h job → IsTileOf work (if c then looks else l ∷ looks) w h job
same_looks work w h l looks job b c e tile = subst (λ (a : Bool). IsTileOf work (if a then looks else l ∷ looks) w h job) e tile

-- a tile that isn't drawn
pub no_job : (places : List ℕ) (n w h : ℕ) (r : Record) (seen : Edges) (tile : ℕ) (jobs : List TileCommands) → IsTable places n (tiles_of jobs) → slice_index places tile ≡ 0 → MovesTile w h r seen tile jobs jobs
no_job places n w h r seen tile jobs table none = record {
  tiles = refl;
  more = λ waits waits' on off same work looks taken all k d low.
      same_looks work w h (look_of r) looks (get_or jobs k d) (waits (get_or jobs k d).tile) (waits' (get_or jobs k d).tile)
      (sym (same (get_or jobs k d).tile (λ (e : (get_or jobs k d).tile ≡ tile). other k d low e))) (all k d low);
}
  where
    other : (k : ℕ) (d : TileCommands) → k < length jobs → (get_or jobs k d).tile ≡ tile → ⊥
    other k d low e = let f : slice_index places tile ≡ k + 1 = ap (slice_index places) (sym e) ∙ place_of places n jobs k d table low in absurd (omega arith)

-- a tile that is drawn
pub its_job : (places : List ℕ) (n w h : ℕ) (r : Record) (seen : Edges) (tile k : ℕ) (jobs : List TileCommands) (d old new : TileCommands) → w ≤ 4096 → h ≤ 4096 → IsTable places n (tiles_of jobs) → tile < n → slice_index places tile ≡ k + 1
    → old ≡ get_or jobs k d → TakesIn r seen old new → MovesTile w h r seen tile jobs (slice_set jobs k new)
its_job places n w h r seen tile k jobs d old new wide tall table within place is takes = record {
  tiles = map-set_same (λ (job : TileCommands). job.tile) jobs k new d (takes.tile ∙ ap (λ (job : TileCommands). job.tile) is);
  more = λ waits waits' on off same work looks taken all j e low.
      ⊎_elim
      (λ (here : j ≡ k).
      subst (λ (job : TileCommands). IsTileOf work (taken_where waits' (look_of r) looks job.tile) w h job)
      (sym (ap (λ (i : ℕ). get_or (slice_set jobs k new) i e) here ∙ get_or-set_same jobs k new e inside))
      (same_looks work w h (look_of r) looks new false (waits' new.tile) (sym (ap waits' (takes.tile ∙ mine) ∙ off))
      (takes.more work looks w h wide tall taken
      (same_looks work w h (look_of r) looks old (waits old.tile) true (ap waits mine ∙ on)
      (subst (λ (job : TileCommands). IsTileOf work (taken_where waits (look_of r) looks job.tile) w h job) (sym is) (all k d inside))))))
      (λ (other : j ≡ k → ⊥).
      let length_is = length-set jobs k new in
      let low' : j < length jobs = omega arith in
      subst (λ (job : TileCommands). IsTileOf work (taken_where waits' (look_of r) looks job.tile) w h job)
      (sym (get_or-set_other jobs k j new e other))
      (same_looks work w h (look_of r) looks (get_or jobs j e) (waits (get_or jobs j e).tile) (waits' (get_or jobs j e).tile)
      (sym (same (get_or jobs j e).tile (λ (f : (get_or jobs j e).tile ≡ tile). apart j e low' other f))) (all j e low')))
      (cases_eq j k);
}
  where
    found : (k < length (tiles_of jobs)) × (slice_index (tiles_of jobs) k ≡ tile)
    found = table.at_tile tile k within place

    inside : k < length jobs
    inside = omega (arith, found, as_many jobs)

    mine : old.tile ≡ tile
    mine = ap (λ (job : TileCommands). job.tile) is ∙ sym (tile_at jobs k d inside) ∙ found.1

    apart : (j : ℕ) (e : TileCommands) → j < length jobs → (j ≡ k → ⊥) → (get_or jobs j e).tile ≡ tile → ⊥
    apart j e low other f =
        let g : slice_index places tile ≡ j + 1 = ap (slice_index places) (sym f) ∙ place_of places n jobs j e table low in
        other (omega arith)

-- where the same tiles wait
same_waiting : (w h : ℕ) (r : Record) (seen : Edges) (from to to' : ℕ → Bool) (old new : List TileCommands) → ((t : ℕ) → to t ≡ to' t) → Moves w h r seen from to old new → Moves w h r seen from to' old new
same_waiting w h r seen from to to' old new same moves = record {
  tiles = moves.tiles;
  more = λ work looks taken all k d low. same_looks work w h (look_of r) looks (get_or new k d) (to (get_or new k d).tile) (to' (get_or new k d).tile) (same (get_or new k d).tile) (moves.more work looks taken all k d low);
}

no_move : (w h : ℕ) (r : Record) (seen : Edges) (from : ℕ → Bool) (jobs : List TileCommands) → Moves w h r seen from from jobs jobs
no_move w h r seen from jobs = record { tiles = refl; more = λ work looks taken all. all }

or_false : (b : Bool) → (b || false) ≡ b
or_false true = refl
or_false false = refl

-- a row of tiles begins with all of its columns
first_of : (across : ℕ) (e : Edges) (row t : ℕ) → row < tiles_along e.bottom → waits_from across e row t ≡ waits_in across e row (e.left / 64) t
first_of across e row t within = ⊎_elim
    (λ (here : t / across ≡ row).
    let a : lies row (tiles_along e.bottom) (t / across) ≡ true = lies_in row (tiles_along e.bottom) (t / across) (omega arith) (omega arith) in
    let b : lies (row + 1) (tiles_along e.bottom) (t / across) ≡ false = lies_before (row + 1) (tiles_along e.bottom) (t / across) (omega arith) in
    let c : (t / across == row) ≡ true = eq-eqb (t / across) row here in
    rw (a, b, c) (now (lies (e.left / 64) (tiles_along e.right) (t % across))))
    (λ (other : t / across ≡ row → ⊥).
    let c : (t / across == row) ≡ false = ne_eqb (t / across) row other in
    let same = next_rows row (tiles_along e.bottom) (t / across) other in
    rw c (ap (λ (b : Bool). lies (e.left / 64) (tiles_along e.right) (t % across) && b) same ∙ sym (or_false (lies (e.left / 64) (tiles_along e.right) (t % across) && lies (row + 1) (tiles_along e.bottom) (t / across)))))
    (cases_eq (t / across) row)
  where
    now : (b : Bool) → (b && true) ≡ ((b && false) || (true && b))
    now true = refl
    now false = refl

    next_rows : (row end at : ℕ) → (at ≡ row → ⊥) → lies row end at ≡ lies (row + 1) end at
    next_rows row end at other = ⊎_elim
        (λ (low : at < row). lies_before row end at low ∙ sym (lies_before (row + 1) end at (omega arith)))
        (λ (low : row ≤ at). ⊎_elim
        (λ (near : at < row + 1). absurd (other (omega arith)))
        (λ (far : row + 1 ≤ at). ap (λ (b : Bool). b && nat_lt at end) (le-leb row at low ∙ sym (le-leb (row + 1) at far)))
        (cases_lt at (row + 1)))
        (cases_lt at row)

pub row_begins : (w h across : ℕ) (r : Record) (seen : Edges) (row : ℕ) (jobs : List TileCommands) → row < tiles_along seen.bottom → Moves w h r seen (waits_from across seen row) (waits_in across seen row (seen.left / 64)) jobs jobs
row_begins w h across r seen row jobs within =
    same_waiting w h r seen (waits_from across seen row) (waits_from across seen row) (waits_in across seen row (seen.left / 64)) jobs jobs (λ t. first_of across seen row t within) (no_move w h r seen (waits_from across seen row) jobs)

-- and ends with none
pub row_ends : (w h across : ℕ) (r : Record) (seen : Edges) (row column : ℕ) (old new : List TileCommands) → tiles_along seen.right ≤ column → Moves w h r seen (waits_from across seen row) (waits_in across seen row column) old new
    → Moves w h r seen (waits_from across seen row) (waits_from across seen (row + 1)) old new
row_ends w h across r seen row column old new past moves =
    same_waiting w h r seen (waits_from across seen row) (waits_in across seen row column) (waits_from across seen (row + 1)) old new (λ t. none_left t) moves
  where
    none_left : (t : ℕ) → waits_in across seen row column t ≡ waits_from across seen (row + 1) t
    none_left t =
        ap (λ (b : Bool). waits_from across seen (row + 1) t || ((t / across == row) && b)) (empty t)
        ∙ ap (λ (b : Bool). waits_from across seen (row + 1) t || b) (and_false (t / across == row))
        ∙ or_false (waits_from across seen (row + 1) t)
      where
        empty : (t : ℕ) → lies column (tiles_along seen.right) (t % across) ≡ false
        empty t = ⊎_elim
            (λ (a : t % across < column). lies_before column (tiles_along seen.right) (t % across) a)
            (λ (a : column ≤ t % across). lies_after column (tiles_along seen.right) (t % across) (omega arith))
            (cases_lt (t % across) column)

-- one tile of the row more
pub tile_more : (w h across : ℕ) (r : Record) (seen : Edges) (row column : ℕ) (old mid new : List TileCommands) → column < tiles_along seen.right → column < across
    → Moves w h r seen (waits_from across seen row) (waits_in across seen row column) old mid → MovesTile w h r seen (row * across + column) mid new
    → Moves w h r seen (waits_from across seen row) (waits_in across seen row (column + 1)) old new
tile_more w h across r seen row column old mid new low within before one = record {
  tiles = one.tiles ∙ before.tiles;
  more = λ work looks taken all. one.more (waits_in across seen row column) (waits_in across seen row (column + 1)) on off same work looks taken (before.more work looks taken all);
}
  where
    column_is : (row * across + column) % across ≡ column
    column_is = mod-mul-add row across column within

    row_is : (row * across + column) / across ≡ row
    row_is = div-mul-add row across column within

    or_true : (b : Bool) → (b || true) ≡ true
    or_true true = refl
    or_true false = refl

    on : waits_in across seen row column (row * across + column) ≡ true
    on =
        let a : ((row * across + column) / across == row) ≡ true = eq-eqb ((row * across + column) / across) row row_is in
        let b : lies column (tiles_along seen.right) ((row * across + column) % across) ≡ true = lies_in column (tiles_along seen.right) ((row * across + column) % across) (omega (arith, column_is)) (omega (arith, column_is)) in
        ap₂ (λ (c d : Bool). waits_from across seen (row + 1) (row * across + column) || (c && d)) a b ∙ or_true (waits_from across seen (row + 1) (row * across + column))

    off : waits_in across seen row (column + 1) (row * across + column) ≡ false
    off =
        let a : lies (row + 1) (tiles_along seen.bottom) ((row * across + column) / across) ≡ false = lies_before (row + 1) (tiles_along seen.bottom) ((row * across + column) / across) (omega (arith, row_is)) in
        let b : lies (column + 1) (tiles_along seen.right) ((row * across + column) % across) ≡ false = lies_before (column + 1) (tiles_along seen.right) ((row * across + column) % across) (omega (arith, column_is)) in
        ap₂ (λ (c d : Bool). (lies (seen.left / 64) (tiles_along seen.right) ((row * across + column) % across) && c) || (((row * across + column) / across == row) && d)) a b
        ∙ ap₂ ◌||◌ (and_false (lies (seen.left / 64) (tiles_along seen.right) ((row * across + column) % across))) (and_false ((row * across + column) / across == row))

    same : (t : ℕ) → (t ≡ row * across + column → ⊥) → waits_in across seen row (column + 1) t ≡ waits_in across seen row column t
    same t other = ⊎_elim
        (λ (here : t / across ≡ row). ap (λ (b : Bool). waits_from across seen (row + 1) t || ((t / across == row) && b)) (next_columns column (tiles_along seen.right) (t % across) (λ (e : t % across ≡ column). other (whole t here e))))
        (λ (elsewhere : t / across ≡ row → ⊥).
        let c : (t / across == row) ≡ false = ne_eqb (t / across) row elsewhere in
        ap (λ (b : Bool). waits_from across seen (row + 1) t || (b && lies (column + 1) (tiles_along seen.right) (t % across))) c
        ∙ sym (ap (λ (b : Bool). waits_from across seen (row + 1) t || (b && lies column (tiles_along seen.right) (t % across))) c))
        (cases_eq (t / across) row)
      where
        whole : (t : ℕ) → t / across ≡ row → t % across ≡ column → t ≡ row * across + column
        whole t e f = div-add-mod_is t across row column e f

        next_columns : (from end at : ℕ) → (at ≡ from → ⊥) → lies (from + 1) end at ≡ lies from end at
        next_columns from end at other = ⊎_elim
            (λ (low : at < from). lies_before (from + 1) end at (omega arith) ∙ sym (lies_before from end at low))
            (λ (low : from ≤ at). ⊎_elim
            (λ (near : at < from + 1). absurd (other (omega arith)))
            (λ (far : from + 1 ≤ at). ap (λ (b : Bool). b && nat_lt at end) (le-leb (from + 1) at far ∙ sym (le-leb from at low)))
            (cases_lt at (from + 1)))
            (cases_lt at from)

-- one row more
pub row_more : (w h across : ℕ) (r : Record) (seen : Edges) (first row : ℕ) (old mid new : List TileCommands) → Moves w h r seen (waits_from across seen first) (waits_from across seen row) old mid
    → Moves w h r seen (waits_from across seen row) (waits_from across seen (row + 1)) mid new → Moves w h r seen (waits_from across seen first) (waits_from across seen (row + 1)) old new
row_more w h across r seen first row old mid new before one = record {
  tiles = one.tiles ∙ before.tiles;
  more = λ work looks taken all. one.more work looks taken (before.more work looks taken all);
}

pub rows_begin : (w h across : ℕ) (r : Record) (seen : Edges) (first : ℕ) (jobs : List TileCommands) → Moves w h r seen (waits_from across seen first) (waits_from across seen first) jobs jobs
rows_begin w h across r seen first jobs = no_move w h r seen (waits_from across seen first) jobs

-- a tile outside of the edges' columns and rows
outside : (from to at x : ℕ) → x < 64 → lies (from / 64) (tiles_along to) at ≡ false → (nat_le from (at * 64 + x) && nat_lt (at * 64 + x) to) ≡ false
outside from to at x tile none = ⊎_elim
    (λ (low : at < from / 64). lies_before from to (at * 64 + x) (omega arith))
    (λ (low : from / 64 ≤ at). ⊎_elim
    (λ (high : at < tiles_along to). absurd (let in_it : lies (from / 64) (tiles_along to) at ≡ true = lies_in (from / 64) (tiles_along to) at low high in cc))
    (λ (high : tiles_along to ≤ at). lies_after from to (at * 64 + x) (omega arith))
    (cases_lt at (tiles_along to)))
    (cases_lt at (from / 64))

no_pixel : (e : Edges) (across t x y : ℕ) → x < 64 → y < 64 → waits_from across e (e.top / 64) t ≡ false → has_pixel_at e (t % across * 64 + x) (t / across * 64 + y) ≡ false
no_pixel e across t x y wide tall none = ⊎_elim
    (λ (c : lies (e.left / 64) (tiles_along e.right) (t % across) ≡ false). ap (λ (b : Bool). b && (nat_le e.top (t / across * 64 + y) && nat_lt (t / across * 64 + y) e.bottom)) (outside e.left e.right (t % across) x wide c))
    (λ (r : lies (e.top / 64) (tiles_along e.bottom) (t / across) ≡ false).
    ap (λ (b : Bool). (nat_le e.left (t % across * 64 + x) && nat_lt (t % across * 64 + x) e.right) && b) (outside e.top e.bottom (t / across) y tall r)
    ∙ and_false (nat_le e.left (t % across * 64 + x) && nat_lt (t % across * 64 + x) e.right))
    (and_cases (lies (e.left / 64) (tiles_along e.right) (t % across)) (lies (e.top / 64) (tiles_along e.bottom) (t / across)) none)

-- before the first row, the tiles that see nothing of a record have it already
begin_tile : (work : ℤ → ℤ → Bool) (w h : ℕ) (r : Record) (seen : Edges) (looks : List Look) (job : TileCommands) (b : Bool) → waits_from (tiles_along w) seen (seen.top / 64) job.tile ≡ b → IsTaken work looks w h r seen
    → IsTileOf work looks w h job → IsTileOf work (if b then looks else look_of r ∷ looks) w h job
begin_tile work w h r seen looks job true e taken tile = tile
begin_tile work w h r seen looks job false e taken tile =
    unseen_tile work r looks w h seen job taken
    (λ x y wide tall.
    ap₂ (λ (left top : ℕ). has_pixel_at seen (left + x) (top + y)) tile.placed.left tile.placed.top
    ∙ no_pixel seen (tiles_along w) job.tile x y wide tall e)
    tile

-- what lies between the edges of an area and the bounds of the work region
clips : (work : ℤ → ℤ → Bool) (table : Table) (r : Record) (e : Edges) → Bounds work table → AreEdgesOf r.area table.w table.h e → Clips work table.w table.h r.area (meet e table.bounds)
clips work table r e bounds are = record {
  right = omega (arith, are.right);
  bottom = omega (arith, are.bottom);
  held = λ x y here.
      let both = and_parts (has_pixel_at e x y) (has_pixel_at table.bounds x y) (sym (meet_has e table.bounds x y) ∙ here) in
      (and_parts (holds r.area (pos x) (pos y)) (nat_lt x table.w && nat_lt y table.h) (sym (are.pixels x y) ∙ both.0)).0;
  whole = λ x y inside here.
      meet_has e table.bounds x y ∙ ap₂ ◌&&◌ (are.pixels x y ∙ ap₂ ◌&&◌ here (on_canvas x y inside)) (bounds.edges x y inside);
}
  where
    on_canvas : (x y : ℕ) → work (pos x) (pos y) ≡ true → (nat_lt x table.w && nat_lt y table.h) ≡ true
    on_canvas x y inside = ap₂ ◌&&◌
        (⊎_elim (λ (a : x < table.w). lt-ltb x table.w a) (λ (a : table.w ≤ x). absurd (let none = bounds.canvas.right x y a in cc)) (cases_lt x table.w))
        (⊎_elim (λ (a : y < table.h). lt-ltb y table.h a) (λ (a : table.h ≤ y). absurd (let none = bounds.canvas.below x y a in cc)) (cases_lt y table.h))

pub all_taken : (table : Table) (r : Record) (e : Edges) (seen : Edges) (row : ℕ) (old new : List TileCommands) → IsLookOn table.w table.h (look_of r) → IsPaintable (look_of r) → AreEdgesOf r.area table.w table.h e
    → seen ≡ meet e table.bounds → tiles_along seen.bottom ≤ row → Moves table.w table.h r seen (waits_from (tiles_along table.w) seen (seen.top / 64)) (waits_from (tiles_along table.w) seen row) old new → TakesAll table r old new
all_taken table r e seen row old new look paintable are is past moves = record {
  tiles = moves.tiles;
  paintable = paintable;
  more = λ work looks bounds above all k d low.
      let taken : IsTaken work looks table.w table.h r seen = record { look = look; paintable = paintable; above = above; clips = subst (Clips work table.w table.h r.area) (sym is) (clips work table r e bounds are) } in
      same_looks work table.w table.h (look_of r) looks (get_or new k d) (waits_from (tiles_along table.w) seen row (get_or new k d).tile) false (none_waits (get_or new k d).tile)
      (moves.more work looks taken
      (λ j f less. begin_tile work table.w table.h r seen looks (get_or old j f) (waits_from (tiles_along table.w) seen (seen.top / 64) (get_or old j f).tile) refl taken (all j f less))
      k d low);
}
  where
    none_waits : (t : ℕ) → waits_from (tiles_along table.w) seen row t ≡ false
    none_waits t =
        ap (λ (b : Bool). lies (seen.left / 64) (tiles_along seen.right) (t % tiles_along table.w) && b) (empty (t / tiles_along table.w))
        ∙ and_false (lies (seen.left / 64) (tiles_along seen.right) (t % tiles_along table.w))
      where
        empty : (at : ℕ) → lies row (tiles_along seen.bottom) at ≡ false
        empty at = ⊎_elim
            (λ (a : at < row). lies_before row (tiles_along seen.bottom) at a)
            (λ (a : row ≤ at). lies_after row (tiles_along seen.bottom) at (omega arith))
            (cases_lt at row)
