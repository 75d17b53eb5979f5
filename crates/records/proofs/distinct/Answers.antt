-- `records::distinct` meets its contract. The words of the records' identities tell what their keys tell.
use mathlib.Core.Path.{◌∙◌}
use native.Mathlib.Omega.{arith}
use Rattle.model.proofs.Model.Tables.{slice_bytes}
use Rattle.records.proofs.Identities.{slots_told}
use borrow.Author.Rules.{rules}
use Rattle.records.proofs.distinct.Goals as goal

pub returns : goal.returns
returns c =
    let a = c.args in
    let s = a.s.now in
    let wide = slice_bytes s (λ k. omega (arith, c.type_inv.s k)) in
    c.distinct_identities.ensures
    ∙ rw c.collect-found.ensures.2 (slots_told a.k s a.place a.n a.w (search rules) (search rules) wide)
