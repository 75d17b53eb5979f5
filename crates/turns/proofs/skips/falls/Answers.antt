-- `turns::skips::falls` meets its contract. Place by place.
use Rattle.std.proofs.Common.{◌-◌, ◌*◌, ◌∙◌, ℕ, suc, get_or, arith, length-set}
use Rattle.std.proofs.lemmas.List.Edits.{fill_by_more}
use Rattle.std.proofs.lemmas.List.FromFn.{fill_by_all}
use Rattle.model.specs.Advertising.{value_of}
use Rattle.turns.specs.Walk.{later, falls}
use Rattle.turns.proofs.skips.falls.Goals as goal

pub later-requires : goal.later-requires
unfolding value_of
later-requires c = c.requires (suc c.loop-p.p)

pub loop-p-preserved : goal.loop-p-preserved
loop-p-preserved c =
    let i = c.loop-p.invariant in
    record {
      five = length-set _ _ _ ∙ i.five;
      so_far = rw c.later.ensures
          (fill_by_more (λ (k : ℕ). get_or c.args.t k 0 - c.args.r * get_or c.args.d k 0) c.loop-p.fallen c.loop-p.p 0 (omega arith) i.so_far);
    }

pub returns : goal.returns
unfolding falls later value_of
returns c =
    let i = c.loop-p.invariant in
    fill_by_all (λ (k : ℕ). get_or c.args.t k 0 - c.args.r * get_or c.args.d k 0) c.loop-p.fallen 5 0 i.five (λ k h. i.so_far k (omega arith))
