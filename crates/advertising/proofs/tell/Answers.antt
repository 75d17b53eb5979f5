-- `advertising::tell` meets its contract. Five writes behind one another.
use mathlib.Core.Path.{refl, ◌∙◌}
use Rattle.advertising.proofs.Telling.{told_on_air}
use Rattle.advertising.proofs.tell.Goals as goal

-- src/lib.rt:158:1
pub returns : goal.returns
returns c =
    let a = c.adv_data-adv.ensures in
    let b = c.scan_rsp-scan.ensures in
    let p = c.requires in
    told_on_air _ _ _ _ _ _ _ _ p.0 p.1 p.4 p.3 a.0 b.0 a.1 b.1 refl
    (c.copy_into-2.ensures ∙ rw (
      c.copy_into.ensures,
      c.put8-3.ensures,
      c.put8-2.ensures,
      c.put8.ensures,
    ))
