-- `information::general_reply` meets its contract.
use mathlib.Core.Path.{refl, sym, ◌∙◌}
use Rattle.information.proofs.General.{reply_done, reply_length, reply_index}
use borrow.Author.Rules.{rules}
use Rattle.std.proofs.lemmas.Bool.{eqb-false}
use Rattle.model.proofs.Model.Tests.{equal}
use Rattle.information.proofs.general_reply.Goals as goal

pub returns-then-index-ne65535 : goal.returns-then-index-ne65535
returns-then-index-ne65535 c = reply_index _ _ _ _ _ _ _ (search rules) c.if-index-ne65535.true c.refuse.ensures.0 c.refuse.ensures.1

pub returns-then-not-is_empty : goal.returns-then-not-is_empty
returns-then-not-is_empty c =
    reply_length _ _ _ _ _ _ _ (search rules) c.if-index-ne65535.false (eqb-false _ _ (sym c.is_empty.ensures ∙ c.if-not-is_empty.true))
    c.refuse-then-not-is_empty.ensures.0 c.refuse-then-not-is_empty.ensures.1

pub returns : goal.returns
returns c =
    reply_done _ _ _ _ _ _ _ (search rules) c.if-index-ne65535.false (equal _ _ (sym c.is_empty.ensures ∙ c.if-not-is_empty.false))
    (search rules) refl c.command_complete.ensures
