-- `devices::store_uuid` meets its contract.
use Rattle.devices.proofs.Uuids.{hints_stored, store_answers, store_writes}
use borrow.Author.Rules.{rules}
use Rattle.devices.proofs.store_uuid.Goals as goal

pub returns : goal.returns
returns c =
    let e = hints_stored
    c.args.state.now
    c.args.at
    (search rules) _ _
    c.args.ps.now _
    (search rules) c.store.ensures
    c.or_octets-new.ensures in (
      c.store.ensures,
      store_answers _ _ _ _ _ _
          c.or_octets-old.ensures e
          c.class_reply.ensures.0,
      store_writes _ _ _ _ _ _ _
          c.or_octets-old.ensures e
          c.class_reply.ensures.1,
    )
