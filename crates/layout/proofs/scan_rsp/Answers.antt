-- `layout::scan_rsp` meets its contract. The data lie where the instance has them.
use mathlib.Core.Path.{◌∙◌}
use Rattle.layout.proofs.Advertising.{scan_there}
use Rattle.layout.proofs.scan_rsp.Goals as goal

-- src/lib.rt:434:5
pub data_part-requires : goal.data_part-requires
data_part-requires c =
    let p = c.requires in
    let d = scan_there _ _ p.0 _ _ p.1 p.2 (c.data_place.ensures ∙ rw c.block_place-b.ensures) in
    (d.inside, d.short)

-- src/lib.rt:429:1
pub returns : goal.returns
returns c =
    let p = c.requires in
    let d = scan_there _ _ p.0 _ _ p.1 p.2 (c.data_place.ensures ∙ rw c.block_place-b.ensures) in
    (c.data_part.ensures ∙ d.means, rw (c.data_part.ensures, d.means) d.most)
