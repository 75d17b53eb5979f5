-- `wording::put_place` meets its contract: the pieces of each kind of place, one behind the other.
use Rattle.why.specs.Spelling.{spelled}
use Rattle.why.specs.Wording.{place_words}
use Rattle.wording.proofs.Writing.{ends_behind, ends_nothing}
use Rattle.wording.proofs.put_place.Goals as goal

pub returns-in-Nowhere : goal.returns-in-Nowhere
unfolding place_words
returns-in-Nowhere c = rw c.in-Nowhere.is (ends_nothing _ _)

pub returns-in-AtOctet : goal.returns-in-AtOctet
unfolding place_words spelled
returns-in-AtOctet c = rw c.in-AtOctet.is (ends_behind _ _ _ _ _ _ _ _ c.put-from.ensures (
  c.put_decimal.ensures.0,
  c.put_decimal.ensures.1,
))

pub returns-in-InRecord : goal.returns-in-InRecord
unfolding place_words spelled
returns-in-InRecord c = rw c.in-InRecord.is (ends_behind _ _ _ _ _ _ _ _ c.put-from-in-InRecord.ensures (ends_behind _ _ _ _ _ _ _ _ (
  c.put_decimal-next.ensures.0,
  c.put_decimal-next.ensures.1,
) (ends_behind _ _ _ _ _ _ _ _ c.put-last.ensures (
  c.put_decimal-in-InRecord.ensures.0,
  c.put_decimal-in-InRecord.ensures.1,
))))

pub returns-in-Records : goal.returns-in-Records
unfolding place_words spelled
returns-in-Records c = rw c.in-Records.is (ends_behind _ _ _ _ _ _ _ _ c.put-from-in-Records.ensures (ends_behind _ _ _ _ _ _ _ _ (
  c.put_decimal-next-in-Records.ensures.0,
  c.put_decimal-next-in-Records.ensures.1,
) (ends_behind _ _ _ _ _ _ _ _ c.put-last-in-Records.ensures (
  c.put_decimal-in-Records.ensures.0,
  c.put_decimal-in-Records.ensures.1,
))))
