-- `advertising::keep` meets its contract. Turns and data are those of the packet.
use mathlib.Core.Path.{refl, ap, ◌∙◌}
use Prim.Native.Nat.{ℕ, ◌+◌}
use Rattle.advertising.proofs.Adding.{kept, tail_short}
use Rattle.model.specs.Advertising.{added_instance, whole_turn}
use Rattle.octets.specs.Parts.{part}
use borrow.Author.Rules.{rules}
use Rattle.advertising.proofs.keep.Goals as goal

-- src/lib.rt:86:5
pub put_instance-requires : goal.put_instance-requires
put_instance-requires c =
    let p = c.requires in (
      p.0,
      p.3,
      p.4,
      search rules,
      rw c.from-mid.ensures (tail_short c.args.ps.now _ _ p.2 p.6),
    )

-- src/lib.rt:68:1
pub returns : goal.returns
unfolding part
returns c =
    kept _ _ _ _ _ _ _ _ _ _ _ _ refl (c.whole_turn-duration.ensures
    ∙ ap whole_turn c.u16_at.ensures.0)
    c.u16_at-timeout.ensures.0 (ap (λ (x : ℕ). 11 + x) c.from-mid.ensures)
    (c.add-next.ensures
    ∙ ap (added_instance _ _ _ _) c.requires.7) refl refl c.put_instance.ensures
