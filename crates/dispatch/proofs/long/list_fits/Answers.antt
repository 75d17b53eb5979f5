-- `dispatch::long::list_fits` meets its contract.
use native.Mathlib.Omega.{arith}
use Rattle.dispatch.proofs.LongPackets.{fits_identity, fits_link, fits_long_term, fits_none}
use Rattle.dispatch.proofs.long.list_fits.Goals as goal

pub returns-in-18 : goal.returns-in-18
returns-in-18 c = rw c.u16_at.ensures.0 (fits_link _ _ _ c.in-18.is)

pub returns-in-19 : goal.returns-in-19
returns-in-19 c = rw c.u16_at-in-19.ensures.0 (fits_long_term _ _ _ c.in-19.is)

pub returns-in-48 : goal.returns-in-48
returns-in-48 c = rw c.u16_at-in-48.ensures.0 (fits_identity _ _ _ c.in-48.is)

pub returns-in_default : goal.returns-in_default
returns-in_default c = fits_none _ _ _ (λ e. omega (arith, e)) (λ e. omega (arith, e)) (λ e. omega (arith, e))
