-- `keys::forget_device` meets its contract. The three writes together are the model's `unpaired`.
use Rattle.keys.proofs.Unpairs.{three_gone}
use Rattle.keys.proofs.forget_device.Goals as goal

pub returns : goal.returns
returns c =
    three_gone _ _ _ _ _ _ c.forget_keys.ensures
    c.forget_keys-2.ensures c.forget_keys-3.ensures
