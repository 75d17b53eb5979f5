-- `moves::move_fixed` meets its contract: the octets before the flags, the flags, and the static address behind them.
use Rattle.std.specs.Prelude.{◌≡◌, ◌+◌, ◌-◌}
use Rattle.std.proofs.Common.{arith}
use Rattle.octets.specs.Parts.{part}
use Rattle.moves.proofs.Pieces.{fixed_written}
use Rattle.moves.proofs.move_fixed.Goals as goal

pub returns : goal.returns
unfolding part
returns c =
    let first : c.args.at + 14 - c.args.at ≡ 14 = omega arith in
    let last : c.args.at + 24 - (c.args.at + 18) ≡ 6 = omega arith in
    fixed_written _ _ _ _ _ _ _ _ _ _ _ c.requires.0 c.other.ensures c.settings_in.ensures c.flags_of-flags.ensures
    (rw first at c.copy_into.ensures) c.put_be32.ensures (rw last at c.copy_into-2.ensures)
