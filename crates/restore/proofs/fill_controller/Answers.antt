-- `restore::fill_controller` meets its contract: hardware, settings, names and tables, each written into a well-formed state.
use Rattle.std.proofs.Common.{arith}
use Rattle.model.proofs.Model.Tables.{slice_bytes}
use Rattle.restore.proofs.Controllers.{Awaited, address_long, controller_filled, fixed_room, hardware_ready, names_ready, names_room, settings_ready}
use Rattle.restore.proofs.fill_controller.Goals as goal

pub settings_in-m-requires : goal.settings_in-m-requires
settings_in-m-requires c =
    let p = c.requires in
    let g : Awaited c.args.version c.args.state.now c.args.index c.args.image.now c.args.at =
    record { ok = p.0; below = p.1; gone = p.2; wide = slice_bytes _ (λ j. omega (arith, c.type_inv.image j)); some = p.3 } in
    fixed_room _ _ _ _ _ g

pub fill_block-requires : goal.fill_block-requires
fill_block-requires c =
    let p = c.requires in
    let g : Awaited c.args.version c.args.state.now c.args.index c.args.image.now c.args.at =
    record { ok = p.0; below = p.1; gone = p.2; wide = slice_bytes _ (λ j. omega (arith, c.type_inv.image j)); some = p.3 } in
    (g.ok, g.below, g.gone, address_long _ _ _ _ _ g _ c.settings_in-m.ensures)

pub put_settings-requires : goal.put_settings-requires
put_settings-requires c =
    let p = c.requires in
    let g : Awaited c.args.version c.args.state.now c.args.index c.args.image.now c.args.at =
    record { ok = p.0; below = p.1; gone = p.2; wide = slice_bytes _ (λ j. omega (arith, c.type_inv.image j)); some = p.3 } in
    hardware_ready _ _ _ _ _ g _ c.settings_in-m.ensures _ c.fill_block.ensures

pub fill_names-tables-requires : goal.fill_names-tables-requires
fill_names-tables-requires c =
    let p = c.requires in
    let g : Awaited c.args.version c.args.state.now c.args.index c.args.image.now c.args.at =
    record { ok = p.0; below = p.1; gone = p.2; wide = slice_bytes _ (λ j. omega (arith, c.type_inv.image j)); some = p.3 } in
    (settings_ready _ _ _ _ _ g _ c.settings_in-m.ensures _ c.fill_block.ensures _ c.put_settings.ensures, names_room _ _ _ _ _ g)

pub fill_tables-requires : goal.fill_tables-requires
fill_tables-requires c =
    let p = c.requires in
    let g : Awaited c.args.version c.args.state.now c.args.index c.args.image.now c.args.at =
    record { ok = p.0; below = p.1; gone = p.2; wide = slice_bytes _ (λ j. omega (arith, c.type_inv.image j)); some = p.3 } in
    names_ready _ _ _ _ _ g _ c.settings_in-m.ensures _ c.fill_block.ensures _ c.put_settings.ensures _ _ c.fill_names-tables.ensures.0
    c.fill_names-tables.ensures.1

pub returns : goal.returns
returns c =
    let p = c.requires in
    let g : Awaited c.args.version c.args.state.now c.args.index c.args.image.now c.args.at =
    record { ok = p.0; below = p.1; gone = p.2; wide = slice_bytes _ (λ j. omega (arith, c.type_inv.image j)); some = p.3 } in
    controller_filled _ _ _ _ _ g _ c.settings_in-m.ensures _ c.fill_block.ensures _ c.put_settings.ensures _ _ c.fill_names-tables.ensures.0
    c.fill_names-tables.ensures.1 _ c.fill_tables.result c.fill_tables.ensures
