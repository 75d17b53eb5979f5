-- `restore::fill_names` meets its contract: both names, behind their length octets, where the fixed part has them.
use Rattle.std.proofs.Common.{arith, length-take}
use Rattle.restore.proofs.Names.{names_at, names_lent, slice_is}
use Rattle.restore.proofs.fill_names.Goals as goal

pub put_names-requires : goal.put_names-requires
put_names-requires c =
    let h = names_at _ _ _ c.requires.1 _ _ c.name_size.ensures.0 c.name_size-2.ensures.0 in
    (c.requires.0, simp length-take (omega (arith, c.length_octets-head.ensures, h.room.0)), simp length-take (omega (arith, c.length_octets-head.ensures, h.room.1)))

pub returns : goal.returns
returns c =
    let p = c.requires.1 in
    let en = c.name_size.ensures.0 in
    let em = c.name_size-2.ensures.0 in (
      omega (arith, (names_at _ _ _ p _ _ en em).end),
      names_lent _ _ _ p _ _ _ _ _ _ _ _ en em c.length_octets-head.ensures c.put_names.ensures (slice_is _ _ _ _ _ (omega arith) (omega arith))
          (slice_is _ _ _ _ _ (omega arith) (omega arith)),
    )
