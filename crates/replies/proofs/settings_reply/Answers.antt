-- `replies::settings_reply` meets its contract. Where the settings are the same the reply is all; else New Settings follows it.
use mathlib.Core.Path.{◌∙◌}
use Rattle.replies.proofs.Laws.{length_same, settings_same, length_new, settings_new}
use Rattle.replies.proofs.settings_reply.Goals as goal

pub returns-then-old-new : goal.returns-then-old-new
returns-then-old-new c = (length_same _ _ _ _ c.if-old-new.true, (cc) ∙ settings_same _ _ _ _ _ c.if-old-new.true)

pub returns : goal.returns
returns c = (length_new _ _ _ _ c.if-old-new.false, (cc) ∙ settings_new _ _ _ _ _ c.if-old-new.false)
