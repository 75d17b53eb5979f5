-- `layout::adv_data` meets its contract. The data lie where the instance has them.
use mathlib.Core.Path.{◌∙◌}
use Rattle.layout.proofs.Advertising.{adv_there}
use Rattle.layout.proofs.adv_data.Goals as goal

-- src/lib.rt:425:5
pub data_part-requires : goal.data_part-requires
data_part-requires c =
    let p = c.requires in
    let d = adv_there _ _ p.0 _ _ p.1 p.2 (c.data_place.ensures ∙ rw c.block_place-b.ensures) in
    (d.inside, d.short)

-- src/lib.rt:420:1
pub returns : goal.returns
returns c =
    let p = c.requires in
    let d = adv_there _ _ p.0 _ _ p.1 p.2 (c.data_place.ensures ∙ rw c.block_place-b.ensures) in
    (c.data_part.ensures ∙ d.means, rw (c.data_part.ensures, d.means) d.most)
