-- A frame that fits into the room of a screen.
use Rattle.std.proofs.Common.{ℕ, ◌≡◌, ◌≤◌, false, arith}
use Rattle.ev_port.specs.Memory.{is_too_small}
use Rattle.ev_port.specs.declared.mem_screen.ScreenRoom.{ScreenRoom}

-- there is room for one more frame with so many updates and pixels
pub record HasRoom (room : ScreenRoom) (some_updates some_pixels : ℕ) : Type 0 where
  pub frames : 1 ≤ room.frames
  pub updates : some_updates ≤ room.updates
  pub pixels : some_pixels ≤ room.pixels

pub has_room : (room : ScreenRoom) (updates pixels : ℕ) → is_too_small room updates pixels ≡ false → HasRoom room updates pixels
has_room room updates pixels e = record { frames = grind arith; updates = grind arith; pixels = grind arith }
