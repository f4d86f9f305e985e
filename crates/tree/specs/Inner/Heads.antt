-- What private functions ask of a room's head.
use Rattle.std.specs.Prelude.{ℕ, ◌≤◌, List, length}
use Rattle.tree.specs.Room.{object_limit, step_limit, objects, kept_steps, room_for}

-- limits and counts in their ranges, and room enough, as `counts_ok` tests them
pub record Head (r : List ℕ) : Type 0 where
  pub long : 1048 ≤ length r
  pub some-limit : 1 ≤ object_limit r
  pub limit-64 : object_limit r ≤ 64
  pub steps-64 : step_limit r ≤ 64
  pub within : objects r ≤ object_limit r
  pub kept-within : kept_steps r ≤ step_limit r
  pub room-enough : room_for (object_limit r) (step_limit r) ≤ length r
