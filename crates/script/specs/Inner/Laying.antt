-- How the code writes a text: d with as much of s at `at` as there is room for.
use Rattle.std.specs.Prelude.{ℕ, List, ◌++◌, take, drop}
use Rattle.octets.specs.Bytes.{put_on}

unfoldable pub laid_at : ℕ → List ℕ → List ℕ → List ℕ
laid_at at s d = take at d ++ put_on s (drop at d)
