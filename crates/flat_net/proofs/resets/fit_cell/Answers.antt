use Rattle.std.proofs.Common.{◌∙◌, sym}
use Rattle.flat_net.proofs.Fitting.{fits_none, fits_some}
use Rattle.flat_net.proofs.resets.fit_cell.Goals as goal

pub returns-in_ok-fitting_shape : goal.returns-in_ok-fitting_shape
returns-in_ok-fitting_shape c = record { fit = fits_some c.args.cell.now c.as_slice.result.now c.in-Some.kind (sym c.in-Some.is ∙ c.kind_of.ensures.value) c.as_slice.ensures.value c.in_ok-fitting_shape.ensures.fits }

pub returns-in_default : goal.returns-in_default
returns-in_default c = record { fit = fits_none c.args.cell.now c.as_slice.result.now (sym c.in_default.is ∙ c.kind_of.ensures.value) c.as_slice.ensures.value }
