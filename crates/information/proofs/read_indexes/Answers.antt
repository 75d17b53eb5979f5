-- `information::read_indexes` meets its contract.
use mathlib.Core.Path.{refl}
use native.Mathlib.Omega.{arith}
use Rattle.information.proofs.General.{front_is, front_long}
use Rattle.model.specs.Commands.{read_indexes}
use Rattle.model.proofs.Model.Demand3.{state_long}
use borrow.Author.Rules.{rules}
use Rattle.information.proofs.read_indexes.Goals as goal

pub list_indexes-n-requires : goal.list_indexes-n-requires
list_indexes-n-requires c = (state_long _ c.requires.0, refl)

pub slice_bounds-general_reply-end : goal.slice_bounds-general_reply-end
slice_bounds-general_reply-end c =
    front_long c.list_indexes-n.new.out c.list_indexes-n.result 10
    c.list_indexes-n.auto.out c.list_indexes-n.ensures.1

pub general_reply-requires : goal.general_reply-requires
general_reply-requires c =
    let e = front_long c.list_indexes-n.new.out c.list_indexes-n.result 10 c.list_indexes-n.auto.out c.list_indexes-n.ensures.1 in
    let k = c.list_indexes-n.ensures.1 in (search rules, omega arith)

pub returns : goal.returns
returns c =
    c.general_reply.ensures.gives _ read_indexes (search rules)
    (front_is _ _ _ _ c.list_indexes-n.ensures.1
    c.list_indexes-n.ensures.0
    c.list_indexes-n.ensures.2)
