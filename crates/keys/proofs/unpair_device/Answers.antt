-- `keys::unpair_device` meets its contract. Each way out is one law of Unpairs.
use Rattle.model.proofs.Model.Tests.{not-false, not-true}
use Rattle.keys.proofs.Unpairs.{type_refuses, disconnect_refuses, power_refuses, pair_refuses, unpair_done, unpair_length}
use Rattle.keys.proofs.unpair_device.Goals as goal

pub returns-then-ps-gt2 : goal.returns-then-ps-gt2
returns-then-ps-gt2 c =
    type_refuses _ _ _ _ _ _ c.requires.0
    c.requires.1
    c.if-ps-ne8.false c.if-ps-gt2.true
    c.refuse_address.ensures.0 c.refuse_address.ensures.1

pub returns-then-ps-gt1 : goal.returns-then-ps-gt1
returns-then-ps-gt1 c =
    disconnect_refuses _ _ _ _ _ _ c.requires.0
    c.requires.1
    c.if-ps-ne8.false c.if-ps-gt2.false
    c.if-ps-gt1.true c.refuse_address-then-ps-gt1.ensures.0 c.refuse_address-then-ps-gt1.ensures.1

pub returns : goal.returns
returns c =
    unpair_done _ _ _ _ _ _
    c.requires.0
    c.requires.1
    c.if-ps-ne8.false
    c.if-ps-gt2.false c.if-ps-gt1.false _
    c.settings_at.ensures
    (not-false _ c.if-not-settings_at.false) _
    c.paired.ensures
    c.if-not-paired.false _
    c.forget_device.ensures c.unpaired_reply.ensures.0
    c.unpaired_reply.ensures.1

pub returns-then-not-paired : goal.returns-then-not-paired
returns-then-not-paired c =
    pair_refuses _ _ _ _ _ _
    c.requires.0
    c.requires.1
    c.if-ps-ne8.false
    c.if-ps-gt2.false
    c.if-ps-gt1.false _
    c.settings_at.ensures
    (not-false _ c.if-not-settings_at.false) _ c.paired.ensures
    c.if-not-paired.true c.refuse_address-then-not-paired.ensures.0 c.refuse_address-then-not-paired.ensures.1

pub returns-then-not-settings_at : goal.returns-then-not-settings_at
returns-then-not-settings_at c =
    power_refuses _ _ _ _ _ _
    c.requires.0
    c.requires.1
    c.if-ps-ne8.false
    c.if-ps-gt2.false
    c.if-ps-gt1.false _
    c.settings_at.ensures (not-true _ c.if-not-settings_at.true)
    c.refuse_address-then-not-settings_at.ensures.0 c.refuse_address-then-not-settings_at.ensures.1

pub returns-then-ps-ne8 : goal.returns-then-ps-ne8
returns-then-ps-ne8 c =
    unpair_length _ _ _ _ _ _ c.requires.0
    c.requires.1 c.if-ps-ne8.true
    c.refuse.ensures.0 c.refuse.ensures.1
