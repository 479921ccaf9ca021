use Rattle.ev_region.proofs.Flats.{IsFlat-start}
use Rattle.ev_region.proofs.merge.edges_of.Goals as goal

pub split_at-requires : goal.split_at-requires
split_at-requires c = IsFlat-start _ _ _ c.requires
