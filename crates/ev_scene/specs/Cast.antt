-- What is kept of a scene, and how it stands for a board.
use Rattle.ev_scene.specs.declared.cast.Cast.{Cast}
use Rattle.ev_scene.specs.Board.{Kept, Board, board}
use Rattle.ev_scene.specs.Whole.{IsWhole}

abbrev pub kept_of : Cast → Kept
kept_of cast = record { w = cast.w; h = cast.h; made = cast.roll.made; states = cast.roll.states; groups = cast.groups }

abbrev pub board_of : Cast → Board
board_of cast = board (kept_of cast)

-- what holds of a scene holds of it
abbrev pub IsCast : Cast → Type 0
IsCast cast = IsWhole (board_of cast) cast.links
