-- `calls::unplug` meets its contract.
use mathlib.Core.Path.{refl, sym, ◌∙◌}
use Rattle.layout.proofs.Reading.{ready, present_below}
use Rattle.calls.proofs.Plugs.{unplug_absent, unplug_quiet, unplug_open}
use borrow.Author.Rules.{rules}
use Rattle.calls.proofs.unplug.Goals as goal

pub open_code-code-requires : goal.open_code-code-requires
open_code-code-requires c = (search rules, present_below _ _ (sym c.present.ensures ∙ c.if-present.true))

pub empty_block-requires : goal.empty_block-requires
empty_block-requires c =
    ready _ _ c.requires.0
    (sym c.present.ensures ∙ c.if-present.true)

pub returns-then-code-eq0 : goal.returns-then-code-eq0
returns-then-code-eq0 c =
    unplug_quiet _ _ _ _ _ _
    (ready _ _
    c.requires.0
    (sym c.present.ensures
    ∙ c.if-present.true))
    c.requires.2
    c.empty_block.ensures _
    c.open_code-code.ensures c.if-code-eq0.true
    refl c.index_event.ensures

pub returns-then-present : goal.returns-then-present
returns-then-present c =
    unplug_open _ _ _ _ _ _
    (ready _ _
    c.requires.0
    (sym
    c.present.ensures
    ∙ c.if-present.true))
    c.requires.2 c.empty_block.ensures _
    c.open_code-code.ensures
    c.if-code-eq0.false refl _
    c.command_status.ensures c.index_event-then-present.ensures

pub returns : goal.returns
returns c = unplug_absent _ _ _ _ c.requires.0 (sym c.present.ensures ∙ c.if-present.false) refl
