-- `hub::hub_stream` meets its contract: the answer, its count and the octets taken in one number.
use mathlib.Core.Path.{refl}
use native.Mathlib.Omega.{arith}
use borrow.Author.Rules.{rules}
use Rattle.model.proofs.Model.Tables.{slice_bytes}
use Rattle.hub.proofs.Entries.{count_lump, packed_most, returns_taken}
use Rattle.hub.proofs.hub_stream.Goals as goal

pub pack-requires : goal.pack-requires
pack-requires c =
    (count_lump _ _ _ _ _ _ _ (slice_bytes c.args.octets.now (λ k. omega (arith, c.type_inv.octets k)))
    c.stream-a.ensures).0

pub overflow_mul-result : goal.overflow_mul-result
overflow_mul-result c = omega (
  arith,
  (count_lump _ _ _ _ _ _ _ (slice_bytes c.args.octets.now (λ k. omega (arith, c.type_inv.octets k)))
      c.stream-a.ensures).1,
)

pub overflow_add-result : goal.overflow_add-result
overflow_add-result c =
    let k = count_lump _ _ _ _ _ _ _ (slice_bytes c.args.octets.now (λ k. omega (arith, c.type_inv.octets k)))
    c.stream-a.ensures in
    omega (arith, packed_most c.stream-a.result.answer k.0, k.1, c.pack.ensures)

pub returns : goal.returns
returns c = returns_taken _ _ _ _ _ _ _ c.stream-a.ensures c.pack.ensures refl
