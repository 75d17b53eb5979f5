-- `image::save_name` meets its contract: the length of the used part, then that part, where it lies in the state.
use native.Mathlib.Omega.{arith}
use lib.ListN.{length}
use Rattle.image.proofs.SaveLaws.{name_written, octet_put}
use Rattle.image.proofs.save_name.Goals as goal

pub returns : goal.returns
returns c =
    let used = c.used_name-used.result.now in
    name_written _ _ _ _ _ _ c.used_name-used.ensures.0 c.used_name-used.ensures.1 (octet_put _ _ _ _ (length used) c.put8.ensures (omega arith))
    c.copy_into.ensures
