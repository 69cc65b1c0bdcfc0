-- `fits_at` meets its contract: what fits the rooms is small. Assumes nothing.
use Rattle.build.proofs.Walk.{via_true}
use Rattle.build.proofs.Laws.{counts_small}
use Rattle.build.proofs.fits_at.Goals as goal

pub idle_fits-requires : goal.idle_fits-requires
idle_fits-requires c = counts_small _ _ _ c.requires (via_true _ _ c.counts_fit.ensures c.if-not-counts_fit.false)

pub busy_fits-requires : goal.busy_fits-requires
busy_fits-requires c = counts_small _ _ _ c.requires (via_true _ _ c.counts_fit.ensures c.if-not-counts_fit.false)
