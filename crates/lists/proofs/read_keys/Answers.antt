-- `lists::read_keys` meets its contract. The key that the reader hands out is the record there: where it breaks its rule the list is not kept, and else one
-- more is read.
use Rattle.std.proofs.Common.{◌≡◌, sym, ◌∙◌, rules}
use Rattle.lists.specs.Lists.{key_at}
use Rattle.lists.proofs.Laws.{place_at, place_next, reached_end, reached_fails, reached_more}
use Rattle.lists.proofs.read_keys.Goals as goal

pub returns-then-not-note : goal.returns-then-not-note
returns-then-not-note c =
    let a = c.args in
    let v = c.loop-i.invariant in
    let p = v.lent in
    let q = v.here in
    let n = c.next-key.ensures.0 in
    let e : c.next-key.result ≡ key_at a.packet.now (place_at a.k a.from c.loop-i.i) a.k = cc in
    rw c.note.ensures.1
    (reached_fails a.k a.packet.now a.from a.n c.loop-i.i c.loop-i.low v.reached (search rules) (search rules) c.next-key.result e
    (sym c.note.ensures.0 ∙ c.if-not-note.true))

pub loop-i-preserved : goal.loop-i-preserved
loop-i-preserved c =
    let a = c.args in
    let v = c.loop-i.invariant in
    let p = v.lent in
    let q = v.here in
    let n = c.next-key.ensures.0 in
    let e : c.next-key.result ≡ key_at a.packet.now (place_at a.k a.from c.loop-i.i) a.k = cc in
    record {
      lent = rw c.next-key.ensures.1 p;
      here = rw (c.next-key.ensures.2, q) (place_next a.k a.from c.loop-i.i);
      reached =
          rw c.note.ensures.1
          (reached_more a.k a.packet.now a.from a.n c.loop-i.i c.loop-i.low v.reached (search rules) (search rules) c.next-key.result e
          (sym c.note.ensures.0 ∙ c.if-not-note.false));
    }

pub returns : goal.returns
returns c = reached_end _ _ _ _ _ _ c.loop-i.invariant.reached (search rules)
