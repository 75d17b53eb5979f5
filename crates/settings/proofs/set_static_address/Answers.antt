-- `settings::set_static_address` meets its contract.
use Rattle.settings.proofs.Turns.{static_address_acts}
use Rattle.settings.proofs.Bridge.{concluded, ends_length, static_address_never_waits, static_address_size}
use borrow.Author.Rules.{rules}
use Rattle.settings.proofs.set_static_address.Goals as goal

pub returns-then-ps-ne6 : goal.returns-then-ps-ne6
returns-then-ps-ne6 c =
    ends_length _ _ _ _ _ _ _ _ (search rules) (search rules) _ static_address_size c.if-ps-ne6.true
    c.refuse.ensures.0 c.refuse.ensures.1

pub carry_out-requires : goal.carry_out-requires
carry_out-requires c = (
  search rules,
  search rules,
  search rules,
  search rules,
  static_address_never_waits _ _ _ c.decide_static_address-d.ensures,
  c.settings_at-old.ensures,
)

pub returns : goal.returns
returns c =
    concluded _ _ _ _ _ _ _ _ _ _ _ _ _ c.requires.0
    static_address_acts static_address_size
    c.if-ps-ne6.false
    c.settings_at-old.ensures
    c.decide_static_address-d.ensures
    c.effect_static_address-new.ensures c.carry_out.ensures
