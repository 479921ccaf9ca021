-- The tiles of a frame are opened one after the other.
use Rattle.std.proofs.Common.{ℕ, zero, suc, ◌≡◌, ◌+◌, ◌*◌, ◌/◌, ◌%◌, ◌<◌, ◌≤◌, Bool, true, false, ◌&&◌, ℤ, pos, List, [], ◌∷◌, ◌++◌, length, replicate, filter, All, refl, sym, ap, ap₂, ◌∙◌, subst, ⊎_elim, arith}
use Rattle.std.specs.Prelude.{slice_index, slice_set, if◌then◌else◌}
use Rattle.std.specs.List.{range_with_len}
use Rattle.std.proofs.Math.Nat.{mul-le-mul_left}
use Rattle.std.proofs.Math.Seq.{get_or-append_seam}
use Rattle.std.proofs.lemmas.Bool.{cases_Bool, cases_lt, cases_eq}
use Rattle.std.proofs.lemmas.List.{get_or_append_left, get_or-set_same, get_or-set_other, get_or-replicate, length-map, length-set, length-append, length-replicate, map-append}
use Rattle.std.proofs.lemmas.List.Elements.{All-push, All-nil}
use Rattle.std.proofs.lemmas.Nat.{mod-mul-add, div-mul-add, mul-add-lt}
use Rattle.ev_argb.specs.Grid.{side_of}
use Rattle.ev_geom.specs.Tiles.{tiles_along, holds_tile}
use Rattle.ev_geom.proofs.Tilings.{held, holds, kept_tile, left_tile}
use Rattle.ev_region.specs.Count.{LiesWithin}
use Rattle.ev_areas.specs.Edges.{has_pixel_at}
use Rattle.ev_cmds.specs.SeenEdges.{any_has}
use Rattle.ev_cmds.specs.Frames.{IsSized, IsClosed, IsLike, AreOpen, PushesJob, OpensTile, OpensRow, IsOpened}
use Rattle.ev_cmds.specs.TileJobs.{HasNone, HasOne, IsTileOf, IsTable, tiles_of}
use Rattle.ev_cmds.specs.Masks.{has_bit}
use Rattle.ev_cmds.specs.Sheets.{Shows, Fits, put_all, layers}
use Rattle.ev_areas.specs.declared.edges.Edges.{Edges}
use Rattle.ev_cmds.specs.declared.frame.Frame.{Frame}
use Rattle.ev_cmds.specs.declared.table.Table.{Table}
use Rattle.ev_cmds.specs.declared.tile.TileCommands.{TileCommands}

and_true : (b : Bool) → (b && true) ≡ b
and_true true = refl
and_true false = refl

-- a table with one job more
table_more : (places : List ℕ) (n : ℕ) (tiles : List ℕ) (tile place : ℕ) → IsTable places n tiles → All (λ t. t < tile) tiles → tile < n → place ≡ length tiles + 1 → IsTable (slice_set places tile place) n (tiles ++ tile ∷ [])
table_more places n tiles tile place table below within is = record {
  count = length-set places tile place ∙ table.count;
  at_job = λ k low. ⊎_elim (λ (h : k < length tiles). before k h) (λ (h : length tiles ≤ k). last k (omega (arith, length-append tiles (tile ∷ [])))) (cases_lt k (length tiles));
  at_tile = λ t k low e. ⊎_elim
      (λ (here : t ≡ tile).
      let f : place ≡ k + 1 = sym (get_or-set_same places tile place 0 inside) ∙ ap (slice_index (slice_set places tile place)) (sym here) ∙ e in
      let g : k ≡ length tiles = omega arith in
      (omega (arith, length-append tiles (tile ∷ [])), ap (slice_index (tiles ++ tile ∷ [])) g ∙ get_or-append_seam tiles tile [] 0 ∙ sym here))
      (λ (other : t ≡ tile → ⊥).
      let old = table.at_tile t k low (sym (get_or-set_other places tile t place 0 other) ∙ e) in
      (omega (arith, length-append tiles (tile ∷ []), old.0), get_or_append_left tiles (tile ∷ []) 0 k old.0 ∙ old.1))
      (cases_eq t tile);
}
  where
    inside : tile < length places
    inside = omega (arith, table.count)

    before : (k : ℕ) → k < length tiles → (slice_index (tiles ++ tile ∷ []) k < n) × (slice_index (slice_set places tile place) (slice_index (tiles ++ tile ∷ []) k) ≡ k + 1)
    before k low =
        let same : slice_index (tiles ++ tile ∷ []) k ≡ slice_index tiles k = get_or_append_left tiles (tile ∷ []) 0 k low in
        let old = table.at_job k low in
        let less : slice_index tiles k < tile = below k 0 low in
        (omega (arith, same, old.0), ap (slice_index (slice_set places tile place)) same ∙ get_or-set_other places tile (slice_index tiles k) place 0 (λ (e : slice_index tiles k ≡ tile). absurd (omega arith)) ∙ old.1)

    last : (k : ℕ) → k ≡ length tiles → (slice_index (tiles ++ tile ∷ []) k < n) × (slice_index (slice_set places tile place) (slice_index (tiles ++ tile ∷ []) k) ≡ k + 1)
    last k e =
        let same : slice_index (tiles ++ tile ∷ []) k ≡ tile = ap (slice_index (tiles ++ tile ∷ [])) e ∙ get_or-append_seam tiles tile [] 0 in
        (omega (arith, same), ap (slice_index (slice_set places tile place)) same ∙ get_or-set_same places tile place 0 inside ∙ (let f : place ≡ k + 1 = omega arith in f))

-- a tile on which nothing is painted
shown_bare : (work : ℤ → ℤ → Bool) (left top : ℕ) (rows : List ℕ) → ((x y : ℕ) → x < 64 → y < 64 → has_bit rows x y ≡ work (pos (left + x)) (pos (top + y))) → Shows work [] left top rows []
unfolding put_all layers
shown_bare work left top rows bare = record {
  bare_places = λ x y wide tall. bare x y wide tall ∙ sym (and_true (work (pos (left + x)) (pos (top + y))));
  inside = λ x y value wide tall inside good. refl;
  hidden = λ x y a b wide tall inside h. absurd (cc);
  outside = λ x y value wide tall out. refl;
  command_places = λ x y wide tall. no_layers (work (pos (left + x)) (pos (top + y))) 0;
}
  where
    no_layers : (b : Bool) (n : ℕ) → n ≡ (if b then n else n)
    no_layers true n = refl
    no_layers false n = refl

-- the numbers of the tile in a column and a row
column_of : (across row column : ℕ) → column < across → (row * across + column) % across ≡ column
column_of across row column within = mod-mul-add row across column within

row_of : (across row column : ℕ) → column < across → (row * across + column) / across ≡ row
row_of across row column within = div-mul-add row across column within

-- the edges that are near have the pixels of the work region on the tile
abbrev pub IsNear : (ℤ → ℤ → Bool) → List Edges → ℕ → ℕ → Type 0
IsNear work near left top = (x y : ℕ) → x < 64 → y < 64 → any_has near (left + x) (top + y) ≡ work (pos (left + x)) (pos (top + y))

is_job : (work : ℤ → ℤ → Bool) (near : List Edges) (across row column : ℕ) → column < across → IsNear work near (column * 64) (row * 64) → HasOne (any_has near) (column * 64) (row * 64) → holds_tile work across (row * across + column) ≡ true
is_job work near across row column within same one =
    held work across (row * across + column) (record {
      column = column * 64 + one.column;
      row = row * 64 + one.row;
      held = sym (same one.column one.row one.wide one.tall) ∙ one.held;
      across = omega (arith, one.wide, column_of across row column within);
      down = omega (arith, one.tall, row_of across row column within);
    })

no_job : (work : ℤ → ℤ → Bool) (near : List Edges) (across row column : ℕ) → column < across → IsNear work near (column * 64) (row * 64) → HasNone (any_has near) (column * 64) (row * 64) → holds_tile work across (row * across + column) ≡ false
no_job work near across row column within same none = ⊎_elim
    (λ (h : holds_tile work across (row * across + column) ≡ true).
    let cell = holds work across (row * across + column) h in
    let x : cell.column ≡ column * 64 + cell.column % 64 = omega (arith, cell.across, column_of across row column within) in
    let y : cell.row ≡ row * 64 + cell.row % 64 = omega (arith, cell.down, row_of across row column within) in
    let out : work (pos (column * 64 + cell.column % 64)) (pos (row * 64 + cell.row % 64)) ≡ false = sym (same (cell.column % 64) (cell.row % 64) (omega arith) (omega arith)) ∙ none (cell.column % 64) (cell.row % 64) (omega arith) (omega arith) in
    let in_it : work (pos (column * 64 + cell.column % 64)) (pos (row * 64 + cell.row % 64)) ≡ true = ap₂ (λ (a b : ℕ). work (pos a) (pos b)) (sym x) (sym y) ∙ cell.held in
    absurd (let two = in_it in let one = out in cc))
    (λ (h : holds_tile work across (row * across + column) ≡ false). h)
    (cases_Bool (holds_tile work across (row * across + column)))

weaker : (n : ℕ) (tiles : List ℕ) → All (λ t. t < n) tiles → All (λ t. t < n + 1) tiles
weaker n tiles all k d low = let less = all k d low in omega arith

pub none_opened : (near : List Edges) (row column : ℕ) (frame : Frame) → column < tiles_along frame.table.w → HasNone (any_has near) (column * 64) (row * 64) → OpensTile near row column frame frame
none_opened near row column frame within none = record {
  like = record { width = refl; height = refl; columns = refl; bounds = refl; count = refl };
  more = λ work same opens. record {
    tiles = left_tile (holds_tile work (tiles_along frame.table.w)) (row * tiles_along frame.table.w + column) (tiles_of frame.jobs.items) (no_job work near (tiles_along frame.table.w) row column within same none) opens.tiles;
    below = weaker (row * tiles_along frame.table.w + column) (tiles_of frame.jobs.items) opens.below;
    few = omega (arith, opens.few);
    table = opens.table;
    each = opens.each;
  };
}

tiles_more : (jobs : List TileCommands) (job : TileCommands) → tiles_of (jobs ++ job ∷ []) ≡ tiles_of jobs ++ job.tile ∷ []
tiles_more jobs job = map-append (λ (j : TileCommands). j.tile) jobs (job ∷ [])

pub one_opened : (near : List Edges) (row column : ℕ) (rows : List ℕ) (old new : Frame) (job : TileCommands) → column < tiles_along old.table.w → row * tiles_along old.table.w + column < tiles_along old.table.h * tiles_along old.table.w
    → HasOne (any_has near) (column * 64) (row * 64) → ((x y : ℕ) → x < 64 → y < 64 → has_bit rows x y ≡ any_has near (column * 64 + x) (row * 64 + y))
    → job.tile ≡ row * tiles_along old.table.w + column → job.left ≡ column * 64 → job.top ≡ row * 64 → job.sheet.bare ≡ rows → job.sheet.commands.items ≡ []
    → IsLike old.table new.table → new.jobs.items ≡ old.jobs.items ++ job ∷ [] → new.table.places.items ≡ slice_set old.table.places.items (row * tiles_along old.table.w + column) (length (old.jobs.items ++ job ∷ []))
    → OpensTile near row column old new
one_opened near row column rows old new job within inside one bits tile left top bare commands like jobs places = record {
  like = like;
  more = λ work same opens.
      let is = is_job work near (tiles_along old.table.w) row column within same one in
      let after : tiles_of new.jobs.items ≡ tiles_of old.jobs.items ++ (row * tiles_along old.table.w + column) ∷ [] = ap tiles_of jobs ∙ tiles_more old.jobs.items job ∙ ap (λ (t : ℕ). tiles_of old.jobs.items ++ t ∷ []) tile in
      record {
        tiles = subst (λ (w : ℕ). tiles_of new.jobs.items ≡ filter (holds_tile work (tiles_along w)) (range_with_len 0 (row * tiles_along old.table.w + column + 1))) (sym like.width)
            (kept_tile (holds_tile work (tiles_along old.table.w)) (row * tiles_along old.table.w + column) (tiles_of old.jobs.items) (tiles_of new.jobs.items) is opens.tiles after);
        below = subst (All (λ t. t < row * tiles_along old.table.w + column + 1)) (sym after)
            (All-push (λ t. t < row * tiles_along old.table.w + column + 1) (tiles_of old.jobs.items) (row * tiles_along old.table.w + column)
            (weaker (row * tiles_along old.table.w + column) (tiles_of old.jobs.items) opens.below) (omega arith));
        few = omega (arith, opens.few, ap length after, length-append (tiles_of old.jobs.items) ((row * tiles_along old.table.w + column) ∷ []));
        table =
            subst (λ (ps : List ℕ). IsTable ps (tiles_along new.table.h * tiles_along new.table.w) (tiles_of new.jobs.items)) (sym places)
            (subst (IsTable (slice_set old.table.places.items (row * tiles_along old.table.w + column) (length (old.jobs.items ++ job ∷ []))) (tiles_along new.table.h * tiles_along new.table.w)) (sym after)
            (rw (like.width, like.height)
            (table_more old.table.places.items (tiles_along old.table.h * tiles_along old.table.w) (tiles_of old.jobs.items) (row * tiles_along old.table.w + column) (length (old.jobs.items ++ job ∷ [])) opens.table opens.below inside
            (length-append old.jobs.items (job ∷ []) ∙ ap (λ (n : ℕ). n + 1) (sym (length-map old.jobs.items (λ (j : TileCommands). j.tile)))))));
        each = subst (All (IsTileOf work [] new.table.w new.table.h)) (sym jobs) (rw (like.width, like.height) (All-push (IsTileOf work [] old.table.w old.table.h) old.jobs.items job opens.each (opened work same)));
      };
}
  where
    opened : (work : ℤ → ℤ → Bool) → IsNear work near (column * 64) (row * 64) → IsTileOf work [] old.table.w old.table.h job
    opened work same = record {
      placed = record {
        left = left ∙ ap (λ (n : ℕ). n * 64) (sym (ap (λ (t : ℕ). t % tiles_along old.table.w) tile ∙ column_of (tiles_along old.table.w) row column within));
        top = top ∙ ap (λ (n : ℕ). n * 64) (sym (ap (λ (t : ℕ). t / tiles_along old.table.w) tile ∙ row_of (tiles_along old.table.w) row column within));
        within = omega (arith, tile, inside);
      };
      shows = rw (left, top, bare, commands) (shown_bare work (column * 64) (row * 64) rows (λ x y wide tall. bits x y wide tall ∙ same x y wide tall));
      fits = rw commands (All-nil (Fits job.left job.top (side_of old.table.w (job.tile % tiles_along old.table.w)) (side_of old.table.h (job.tile / tiles_along old.table.w))));
    }

like_is : (old new : Table) (tile place : ℕ) → new.places.items ≡ slice_set old.places.items tile place → new ≡ record old { places = new.places } → IsLike old new
like_is old new tile place places others = record {
  width = ap (λ (t : Table). t.w) others;
  height = ap (λ (t : Table). t.h) others;
  columns = ap (λ (t : Table). t.columns) others;
  bounds = ap (λ (t : Table). t.bounds) others;
  count = ap length places ∙ length-set old.places.items tile place;
}

pub pushed : (tile left top : ℕ) (bare : List ℕ) (old new : Frame) (job : TileCommands) (table : Table) (place : ℕ) → new.jobs.items ≡ old.jobs.items ++ job ∷ [] → table.places.items ≡ slice_set old.table.places.items tile place → table ≡ record old.table { places = table.places }
    → place ≡ length new.jobs.items → job.tile ≡ tile → job.left ≡ left → job.top ≡ top → job.sheet.bare ≡ bare → job.sheet.commands.items ≡ [] → new.table ≡ table → PushesJob tile left top bare old new
pushed tile left top bare old new job table place jobs places others is a b c d e same = record {
  like = subst (IsLike old.table) (sym same) (like_is old.table table tile place places others);
  job = job;
  tile_is = a;
  left_is = b;
  top_is = c;
  bare_is = d;
  commands = e;
  jobs = jobs;
  places = ap (λ (t : Table). t.places.items) same ∙ places ∙ ap (slice_set old.table.places.items tile) (is ∙ ap length jobs);
}

pub push_opens : (near : List Edges) (row column : ℕ) (rows : List ℕ) (old new : Frame) → IsSized old.table → row < tiles_along old.table.h → column < tiles_along old.table.w
    → HasOne (any_has near) (column * 64) (row * 64) × ((x y : ℕ) → x < 64 → y < 64 → has_bit rows x y ≡ any_has near (column * 64 + x) (row * 64 + y))
    → PushesJob (row * old.table.columns + column) (column * 64) (row * 64) rows old new → OpensTile near row column old new
push_opens near row column rows old new sized high within bare pushed =
    let tile : row * old.table.columns + column ≡ row * tiles_along old.table.w + column = ap (λ (n : ℕ). row * n + column) sized.columns in
    one_opened near row column rows old new pushed.job within (let less = mul-add-lt row (tiles_along old.table.w) column (tiles_along old.table.h) high within in omega (arith, less)) bare.0 bare.1
    (pushed.tile_is ∙ tile) pushed.left_is pushed.top_is pushed.bare_is pushed.commands pushed.like pushed.jobs
    (pushed.places ∙ ap (λ (t : ℕ). slice_set old.table.places.items t (length (old.jobs.items ++ pushed.job ∷ []))) tile)

pub like_itself : (table : Table) → IsLike table table
like_itself table = record { width = refl; height = refl; columns = refl; bounds = refl; count = refl }

pub like_both : (a b c : Table) → IsLike a b → IsLike b c → IsLike a c
like_both a b c f g = record { width = g.width ∙ f.width; height = g.height ∙ f.height; columns = g.columns ∙ f.columns; bounds = g.bounds ∙ f.bounds; count = g.count ∙ f.count }

pub sized_like : (old new : Table) → IsSized old → IsLike old new → IsSized new
sized_like old new sized like = record {
  width = subst (λ (w : ℕ). w ≤ 4096) (sym like.width) sized.width;
  height = subst (λ (h : ℕ). h ≤ 4096) (sym like.height) sized.height;
  columns = like.columns ∙ sized.columns ∙ ap tiles_along (sym like.width);
  count = like.count ∙ sized.count ∙ ap₂ (λ (w h : ℕ). tiles_along h * tiles_along w) (sym like.width) (sym like.height);
}

-- the tiles of a row before a column are opened
pub record OpensColumns (near : List Edges) (row column : ℕ) (old new : Frame) : Type 0 where
  pub like : IsLike old.table new.table
  pub more : (work : ℤ → ℤ → Bool) → ((x y : ℕ) → row * 64 ≤ y → y < row * 64 + 64 → any_has near x y ≡ work (pos x) (pos y))
      → AreOpen work (row * tiles_along old.table.w) old → AreOpen work (row * tiles_along old.table.w + column) new

pub no_columns : (near : List Edges) (row : ℕ) (frame : Frame) → OpensColumns near row 0 frame frame
no_columns near row frame = record {
  like = like_itself frame.table;
  more = λ work same opens. subst (λ (n : ℕ). AreOpen work n frame) (let e : row * tiles_along frame.table.w ≡ row * tiles_along frame.table.w + 0 = omega arith in e) opens;
}

pub columns_more : (near : List Edges) (row column : ℕ) (old mid new : Frame) → OpensColumns near row column old mid → OpensTile near row column mid new → OpensColumns near row (column + 1) old new
columns_more near row column old mid new before one = record {
  like = like_both old.table mid.table new.table before.like one.like;
  more = λ work same opens.
      let now = one.more work (λ x y wide tall. same (column * 64 + x) (row * 64 + y) (omega arith) (omega arith))
      (subst (λ (w : ℕ). AreOpen work (row * tiles_along w + column) mid) (sym before.like.width) (before.more work same opens)) in
      subst (λ (n : ℕ). AreOpen work n new) (ap (λ (w : ℕ). row * tiles_along w + column + 1) before.like.width ∙ (let e : row * tiles_along old.table.w + column + 1 ≡ row * tiles_along old.table.w + (column + 1) = omega arith in e)) now;
}

pub columns_all : (near : List Edges) (row column : ℕ) (old new : Frame) → column ≡ tiles_along old.table.w → OpensColumns near row column old new → OpensRow near row old new
columns_all near row column old new all opens = record {
  like = opens.like;
  more = λ work same before. subst (λ (n : ℕ). AreOpen work n new) (ap (λ (c : ℕ). row * tiles_along old.table.w + c) all ∙ one_more row (tiles_along old.table.w)) (opens.more work same before);
}
  where
    one_more : (a b : ℕ) → a * b + b ≡ (a + 1) * b
    one_more a b = omega arith

-- where no edges are near, no tile of the row is opened
pub left_row : (near : List Edges) (row : ℕ) (frame : Frame) → length near ≡ 0 → OpensRow near row frame frame
left_row [] row frame none = columns_all [] row (tiles_along frame.table.w) frame frame refl (columns (tiles_along frame.table.w) (omega arith))
  where
    columns : (column : ℕ) → column ≤ tiles_along frame.table.w → OpensColumns [] row column frame frame
    columns zero within = no_columns [] row frame
    columns (suc n) within =
        subst (λ (k : ℕ). OpensColumns [] row k frame frame) (let e : n + 1 ≡ suc n = omega arith in e)
        (columns_more [] row n frame frame frame (columns n (omega arith)) (none_opened [] row n frame (omega arith) (λ x y wide tall. refl)))
left_row (e ∷ near) row frame none = absurd (omega (arith, none))

-- the rows of tiles before a row are opened
pub record OpensRows (work : ℤ → ℤ → Bool) (row : ℕ) (old new : Frame) : Type 0 where
  pub like : IsLike old.table new.table
  pub opened : AreOpen work (row * tiles_along old.table.w) new

pub no_rows : (work : ℤ → ℤ → Bool) (bounds : Edges) (w h : ℕ) (frame : Frame) → IsClosed bounds w h frame → OpensRows work 0 frame frame
no_rows work bounds w h frame closed = record {
  like = like_itself frame.table;
  opened = record {
    tiles = ap tiles_of closed.jobs ∙ ap (λ (n : ℕ). filter (holds_tile work (tiles_along frame.table.w)) (range_with_len 0 n)) none;
    below = subst (λ (js : List TileCommands). All (λ t. t < 0 * tiles_along frame.table.w) (tiles_of js)) (sym closed.jobs) (All-nil (λ t. t < 0 * tiles_along frame.table.w));
    few = omega (arith, ap (λ (js : List TileCommands). length (tiles_of js)) closed.jobs);
    table = rw (closed.jobs, closed.places, closed.width, closed.height) (none_stand (tiles_along h * tiles_along w));
    each = subst (All (IsTileOf work [] frame.table.w frame.table.h)) (sym closed.jobs) (All-nil (IsTileOf work [] frame.table.w frame.table.h));
  };
}
  where
    none : 0 ≡ 0 * tiles_along frame.table.w
    none = omega arith

    none_stand : (n : ℕ) → IsTable (replicate n 0) n []
    none_stand n = record {
      count = length-replicate n 0;
      at_job = λ k low. absurd (omega arith);
      at_tile = λ t k low e. absurd (let f : 0 ≡ k + 1 = sym (get_or-replicate n t 0 0 low) ∙ e in omega arith);
    }

pub rows_more : (work : ℤ → ℤ → Bool) (all near : List Edges) (row : ℕ) (old mid new : Frame) → ((x y : ℕ) → any_has all x y ≡ work (pos x) (pos y)) → ((x y : ℕ) → row * 64 ≤ y → y < row * 64 + 64 → any_has near x y ≡ any_has all x y)
    → OpensRows work row old mid → OpensRow near row mid new → OpensRows work (row + 1) old new
rows_more work all near row old mid new same kept before one = record {
  like = like_both old.table mid.table new.table before.like one.like;
  opened = subst (λ (w : ℕ). AreOpen work ((row + 1) * tiles_along w) new) before.like.width
      (one.more work (λ x y low high. kept x y low high ∙ same x y) (subst (λ (w : ℕ). AreOpen work (row * tiles_along w) mid) (sym before.like.width) before.opened));
}

at_most : (a b n : ℕ) → a ≤ 64 → b ≤ 64 → n ≤ a * b → n ≤ 4096
at_most a b n p q h = let most : a * b ≤ a * 64 = mul-le-mul_left a q in omega arith

pub all_opened : (work : ℤ → ℤ → Bool) (bounds : Edges) (w h row : ℕ) (old new : Frame) → IsClosed bounds w h old → LiesWithin w h work → ((x y : ℕ) → x < w → y < h → work (pos x) (pos y) ≡ true → has_pixel_at bounds x y ≡ true)
    → row ≡ tiles_along h → OpensRows work row old new → IsOpened work w h new
all_opened work bounds w h row old new closed within around end opens =
    let width : new.table.w ≡ w = opens.like.width ∙ closed.width in
    let height : new.table.h ≡ h = opens.like.height ∙ closed.height in
    record {
      sized = sized_like old.table new.table closed.sized opens.like;
      width = width;
      height = height;
      bounds = record {
        canvas = rw (width, height) within;
        edges = λ x y inside. subst (λ (e : Edges). has_pixel_at e x y ≡ true) (sym (opens.like.bounds ∙ closed.bounds_kept)) (around x y (column_within x y inside) (row_within x y inside) inside);
      };
      tiles = opens.opened.tiles ∙ ap₂ (λ (across n : ℕ). filter (holds_tile work across) (range_with_len 0 n)) (ap tiles_along width) (ap₂ (λ (r v : ℕ). r * tiles_along v) end closed.width);
      few = at_most row (tiles_along old.table.w) (length (tiles_of new.jobs.items)) (omega (arith, end, closed.height, closed.sized.height)) (omega (arith, closed.sized.width)) opens.opened.few;
      table = subst (λ (n : ℕ). IsTable new.table.places.items n (tiles_of new.jobs.items)) (ap₂ (λ (a b : ℕ). tiles_along b * tiles_along a) width height) opens.opened.table;
      each = subst (λ (a : ℕ). All (IsTileOf work [] a h) new.jobs.items) width (subst (λ (b : ℕ). All (IsTileOf work [] new.table.w b) new.jobs.items) height opens.opened.each);
    }
  where
    column_within : (x y : ℕ) → work (pos x) (pos y) ≡ true → x < w
    column_within x y inside = ⊎_elim (λ (a : x < w). a) (λ (a : w ≤ x). absurd (let none = within.right x y a in cc)) (cases_lt x w)

    row_within : (x y : ℕ) → work (pos x) (pos y) ≡ true → y < h
    row_within x y inside = ⊎_elim (λ (a : y < h). a) (λ (a : h ≤ y). absurd (let none = within.below x y a in cc)) (cases_lt y h)
