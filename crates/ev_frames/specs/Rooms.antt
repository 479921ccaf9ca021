-- The memory of a frame.
use Rattle.std.specs.Prelude.{◌≡◌, ◌≤◌, [], length, vec_capacity, All}
use Rattle.std.specs.Arc.{arc_value}
use Rattle.ev_frames.specs.declared.room.Room.{Room}

-- a share of the commands for each job, and room for the jobs before and after they are drawn
pub record IsRoom (room : Room) : Type 0 where
  pub count : length room.shares.items ≡ length (arc_value room.commands).jobs
  pub shares : All (λ share. arc_value share ≡ arc_value room.commands) room.shares.items
  pub none_left : room.jobs.items ≡ []
  pub none_drawn : room.done.items ≡ []
  pub jobs : length (arc_value room.commands).jobs ≤ vec_capacity room.jobs
  pub done : length (arc_value room.commands).jobs ≤ vec_capacity room.done
