-- `image::save_controller` meets its contract: the fixed part, the names and the tables, one behind the other.
use native.Mathlib.Omega.{arith}
use Rattle.image.proofs.SaveLaws.{controller_written, names_by}
use Rattle.image.proofs.save_controller.Goals as goal

pub save_tables-requires : goal.save_tables-requires
save_tables-requires c =
    let r = c.requires.0 in
    let b = (names_by _ _ r).1 in let n = c.save_name-short.ensures.0 in
    let m = c.save_name-tables.ensures.0 in let i = c.save_fixed.auto.out in
    let j = c.save_name-short.auto.out in
    let k = c.save_name-tables.auto.out in (r, omega arith)

pub returns : goal.returns
returns c =
    let e = controller_written _ _ _ _ _ _ _ _ _ _ _ _
    c.requires.0
    c.settings_at-m.ensures
    c.save_fixed.ensures
    c.save_name-short.ensures.0
    c.save_name-short.ensures.2
    c.save_name-tables.ensures.0
    c.save_name-tables.ensures.2 c.save_tables.ensures.0
    c.save_tables.ensures.2 in
    let b = (names_by _ _ c.requires.0).1 in
    let n = c.save_name-short.ensures.0 in
    let m = c.save_name-tables.ensures.0 in let t = c.save_tables.ensures.1 in
    (e.0, omega arith, e.1)
