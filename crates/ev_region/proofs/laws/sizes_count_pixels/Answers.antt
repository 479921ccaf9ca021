use Rattle.ev_region.proofs.Counts.{sizes_within}
use Rattle.ev_region.proofs.laws.sizes_count_pixels.Goals as goal

pub returns : goal.returns
returns c = sizes_within
