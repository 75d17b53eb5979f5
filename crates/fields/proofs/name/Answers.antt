-- `fields::name` meets its contract: the field is whole, then right.
use Rattle.std.specs.Prelude.{◌≡◌, ◌+◌, ◌-◌}
use Rattle.std.proofs.Common.{arith, length-drop}
use Rattle.octets.specs.Parts.{part}
use Rattle.fields.specs.Reads.{Reads}
use Rattle.fields.proofs.Checks.{size_in}
use Rattle.fields.proofs.Reach.{handed_on, name_good, name_none, name_short, name_wrong}
use Rattle.fields.proofs.name.Goals as goal

pub returns-in_err-whole : goal.returns-in_err-whole
returns-in_err-whole c =
    let e = c.in_err-whole.ensures in
    handed_on (Reads _ _) _ _ _ c.from_residual.ensures.1 e.1 (name_none _ _ _ _ c.requires.0 c.requires.1 (omega (arith, e.0)))

pub returns-in_err-whole-2 : goal.returns-in_err-whole-2
returns-in_err-whole-2 c =
    let e = c.in_err-whole-2.ensures in
    handed_on (Reads _ _) _ _ _ c.from_residual-in_err-whole-2.ensures.1 e.1 (name_short _ _ _ _ _ c.requires.1 c.name_size-size.ensures.0 e.0)

pub name_right-requires : goal.name_right-requires
name_right-requires c =
    let e : c.args.at + c.name_size-size.result - c.args.at ≡ c.name_size-size.result = omega arith in
    let l = c.in_ok-whole-2.ensures in
    (c.requires.0, rw (e, c.name_size-size.ensures.0) (size_in _ _ _ (omega (arith, l, c.name_size-size.ensures.0, length-drop c.args.at c.args.image.now))))

pub returns-in_err-kept : goal.returns-in_err-kept
unfolding part
returns-in_err-kept c =
    let e : c.args.at + c.name_size-size.result - c.args.at ≡ c.name_size-size.result = omega arith in
    let k = c.in_err-kept.ensures in
    handed_on (Reads _ _) _ _ _ c.from_residual-in_err-kept.ensures.1 k.1 (name_wrong _ _ _ _ _ _ c.requires.1 c.name_size-size.ensures.0
    c.in_ok-whole-2.ensures (rw (e, c.name_size-size.ensures.0) at c.name_right.ensures) k.0)

pub returns : goal.returns
unfolding part
returns c =
    let e : c.args.at + c.name_size-size.result - c.args.at ≡ c.name_size-size.result = omega arith in
    name_good _ _ _ _ _ _ c.requires.1 c.name_size-size.ensures.0
    c.in_ok-whole-2.ensures (rw (e, c.name_size-size.ensures.0) at c.name_right.ensures) c.in_ok-kept.ensures
