-- `calls::plug` meets its contract.
use mathlib.Core.Path.{refl, sym, ◌∙◌}
use Rattle.calls.proofs.Plugs.{plug_present, plug_above, plug_short, made_given, six_long}
use Rattle.calls.specs.Given.{hardware_given}
use Rattle.calls.proofs.Plugs.{made_unfit, made_done}
use borrow.Author.Rules.{rules}
use Rattle.calls.proofs.plug.Goals as goal

pub returns-then-present : goal.returns-then-present
returns-then-present c = plug_present _ _ _ _ _ c.requires.0 (sym c.present.ensures ∙ c.if-present.true) refl

pub returns-then-index-gt3 : goal.returns-then-index-gt3
returns-then-index-gt3 c =
    plug_above _ _ _ _ _ c.requires.0
    (sym c.present.ensures ∙ c.if-present.false) c.if-index-gt3.true refl

pub returns-then-address-ne6 : goal.returns-then-address-ne6
unfolding hardware_given
returns-then-address-ne6 c =
    plug_short _ _ _ _ _ c.requires.0
    (sym c.present.ensures ∙ c.if-present.false) c.if-address-ne6.true refl

pub fill_block-requires : goal.fill_block-requires
fill_block-requires c = (
  search rules,
  search rules,
  sym c.present.ensures
      ∙ c.if-present.false,
  six_long _ _ c.if-address-ne6.false
      c.six.ensures,
)

pub returns-then-hardware_ok : goal.returns-then-hardware_ok
returns-then-hardware_ok c =
    made_done _ _ _ _ _ _ (made_given _ _ _ _ _ c.if-address-ne6.false
    c.six.ensures)
    c.requires.0
    (sym c.present.ensures
    ∙ c.if-present.false) _ _
    c.requires.2 c.if-index-gt3.false
    (sym c.hardware_ok.ensures
    ∙ c.if-hardware_ok.true)
    c.fill_block.ensures c.index_event.ensures refl

pub returns : goal.returns
returns c =
    made_unfit _ _ _ _ _ _ (made_given _ _ _ _ _ c.if-address-ne6.false c.six.ensures)
    c.requires.0
    (sym c.present.ensures ∙ c.if-present.false)
    (sym c.hardware_ok.ensures ∙ c.if-hardware_ok.false) refl
