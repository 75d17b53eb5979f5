-- `layout::waiting::octet_in` meets its contract.
use mathlib.Core.Path.{◌∙◌}
use native.Mathlib.Omega.{arith}
use Prim.Native.Nat.{◌+◌, ◌-◌}
use Rattle.layout.proofs.WaitingOctets.{octet_kept, octet_lump, octet_none}
use Rattle.layout.proofs.waiting.octet_in.Goals as goal

pub returns-then-k-n : goal.returns-then-k-n
returns-then-k-n c =
    let p = c.requires in
    (c.from.ensures ∙ octet_kept _ p.0 _ _ _ p.2 p.3 c.if-k-n.true, omega (arith, c.from.ensures, c.type_inv.s (17496 + c.args.k)))

pub returns-then-k-n-2 : goal.returns-then-k-n-2
returns-then-k-n-2 c =
    let p = c.requires in (
      c.from-then-k-n-2.ensures ∙ octet_lump _ p.0 _ _ _ p.2 p.3 c.if-k-n.false,
      omega (arith, c.from-then-k-n-2.ensures, c.type_inv.lump (c.args.k - c.args.n)),
    )

pub returns : goal.returns
returns c =
    let p = c.requires in
    (octet_none _ p.0 _ _ _ p.2 p.3 c.if-k-n.false c.if-k-n-2.false, omega arith)
