-- `turns::power_off` meets its contract. Place by place.
use Rattle.std.proofs.Common.{◌≡◌, ◌∙◌, arith, rules, length-set}
use Rattle.std.proofs.lemmas.List.Edits.{fill_by_more}
use Rattle.model.specs.Advertising.{lasting}
use Rattle.turns.proofs.Changes.{lasts, power_left}
use Rattle.turns.proofs.power_off.Goals as goal

pub loop-p-preserved : goal.loop-p-preserved
unfolding lasting
loop-p-preserved c =
    let i = c.loop-p.invariant in
    let e : c.lasting.result ≡ lasts c.args.s.durations c.args.s.timeouts c.loop-p.p = cc in
    record {
      five = length-set _ _ _ ∙ i.five;
      so_far = rw e (fill_by_more (lasts c.args.s.durations c.args.s.timeouts) c.loop-p.durations c.loop-p.p 0 (omega arith) i.so_far);
    }

pub returns : goal.returns
returns c =
    let i = c.loop-p.invariant in
    power_left c.args.s (search rules) (search rules) c.loop-p.durations i.five (λ k h. i.so_far k (omega arith))
