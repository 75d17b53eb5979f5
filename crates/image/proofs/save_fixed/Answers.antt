-- `image::save_fixed` meets its contract: four writes, each of a part of the fixed image.
use mathlib.Core.Path.{◌≡◌, sym, ◌∙◌}
use native.Mathlib.Omega.{arith}
use lib.ListN.{length}
use Rattle.image.proofs.SaveLaws.{fixed_written}
use borrow.Author.Rules.{rules}
use Rattle.image.proofs.save_fixed.Goals as goal

pub copy_into-requires : goal.copy_into-requires
copy_into-requires c =
    let o : 6 ≡ length c.args.m.radio.static_address = (search rules) in omega arith

pub copy_into-requires-2 : goal.copy_into-requires-2
copy_into-requires-2 c =
    let k = c.copy_into.auto.s in
    let o : 6 ≡ length
    c.args.m.radio.hardware.public_address = (search rules) in omega arith

pub returns : goal.returns
returns c =
    fixed_written _ _ _ _ _ _ _ _
    c.requires.1
    (sym ((search rules)))
    c.copy_into.ensures c.copy_into-2.ensures
    (c.copy_into-3.ensures
    ∙ rw
    c.numbers.ensures) c.put8.ensures
