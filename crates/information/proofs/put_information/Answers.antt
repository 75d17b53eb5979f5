-- `information::put_information` meets its contract.
use mathlib.Core.Path.{◌≡◌, refl, ◌∙◌}
use Prim.Native.Nat.{◌+◌, ◌-◌, ◌≤◌}
use native.Mathlib.Omega.{arith}
use lib.ListN.{length}
use Rattle.octets.specs.Parts.{part}
use Rattle.information.proofs.Controller.{information_put, uuids_fit}
use Rattle.information.proofs.Name.{name_fits}
use borrow.Author.Rules.{rules}
use Rattle.information.proofs.put_information.Goals as goal

pub or_octets-hints-requires : goal.or_octets-hints-requires
or_octets-hints-requires c =
    let f = uuids_fit _ _ c.requires.0.below c.table_place.ensures in
    let l = c.requires.0.long in (omega arith, search rules)

pub overflow_add-name : goal.overflow_add-name
overflow_add-name c = let f = name_fits _ _ c.requires.0.below c.name_place-name.ensures in omega arith

pub slice_bounds-copy_into-end-3 : goal.slice_bounds-copy_into-end-3
slice_bounds-copy_into-end-3 c =
    let f = name_fits _ _ c.requires.0.below c.name_place-name.ensures in
    let h : c.name_place-name.result + 260 ≤ length c.args.state.now = omega (arith, c.requires.0.long) in
    search rules

pub returns : goal.returns
unfolding part
returns c =
    let e : c.name_place-name.result + 260 - c.name_place-name.result ≡ 260 = omega arith in
    information_put _ _ _ _ _ _ _ _ _ _ _ _ _ _
    c.requires.0
    c.requires.1
    c.settings_at.ensures
    c.hardware_at-hardware.ensures
    c.current_settings-current.ensures
    c.table_place.ensures
    c.or_octets-hints.ensures
    c.information_head.ensures refl ((search rules))
    c.name_place-name.ensures
    c.copy_into.ensures
    c.copy_into-2.ensures (c.copy_into-3.ensures ∙ rw e refl)
