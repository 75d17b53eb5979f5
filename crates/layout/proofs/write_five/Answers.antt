-- `layout::write_five` meets its contract. Five numbers, one behind the other.
use Rattle.std.proofs.Common.{arith, refl, ◌∙◌, add-one}
use Rattle.std.proofs.lemmas.List.{take_all}
use Rattle.model.specs.Commands.{words}
use Rattle.octets.specs.Parts.{write_at}
use Rattle.layout.proofs.Writes.{word_more}
use Rattle.layout.proofs.write_five.Goals as goal

pub loop-k-init : goal.loop-k-init
unfolding words write_at
loop-k-init c = refl

pub loop-k-preserved : goal.loop-k-preserved
loop-k-preserved c =
    c.put16.ensures ∙ rw (c.loop-k.invariant, add-one, c.from.ensures) (word_more _ _ _ _ (omega arith))

pub returns : goal.returns
returns c = c.loop-k.invariant ∙ rw (take_all c.loop-k.k c.args.l (omega arith))
