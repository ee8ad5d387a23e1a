-- What functions of this crate and of the link ask of each other, on the way to the promises. A reader of the promises may pass over this file.
-- Assumes nothing.
use Rattle.std.specs.Prelude.{ℕ, ◌≤◌, get_or}
use Rattle.reading.specs.Corner.{most_height}
use Rattle.path.specs.Inside.{SoundPath}
use Rattle.profile.specs.Profile.{Link}

-- a path with a profile that was read: its numbers are within their bounds
pub record SoundLink (l : Link) : Type 0 where
  pub path : SoundPath l.path
  pub heights : (i : ℕ) → get_or l.profile.heights i 0 ≤ most_height
  pub codes : (i : ℕ) → get_or l.profile.codes i 0 ≤ 7
