-- `advertising::add_advertising` meets its contract. The tests that led to each return pick the case of the model's definition.
use Rattle.std.proofs.Common.{length-take, ◌≤◌, length, sym, refl, ap, ◌∙◌, arith}
use Rattle.model.specs.declared.RadioSettings.{RadioSettings}
use Rattle.octets.specs.Parts.{part}
use Rattle.advertising.proofs.Adding.{add_changed, add_length, add_new, add_refused, keep_asks, radio_of, refusal_here}
use Rattle.advertising.proofs.Refusals.{checks_passed, none_refuses, size_true}
use Rattle.advertising.proofs.add_advertising.Goals as goal

pub returns-then-not-sized : goal.returns-then-not-sized
returns-then-not-sized c = add_length _ _ _ _ _ _ c.requires.0 c.requires.1 (sym c.sized.ensures ∙ c.if-not-sized.true) c.refuse.ensures.0 c.refuse.ensures.1

pub refusal-requires : goal.refusal-requires
refusal-requires c = (size_true _ (sym c.sized.ensures ∙ c.if-not-sized.false)).0

pub returns-in-Some : goal.returns-in-Some
returns-in-Some c =
    add_refused _ _ _ _ _ _ c.requires.0 c.requires.1 _ (sym c.sized.ensures ∙ c.if-not-sized.false) (sym (refusal_here _ _ _ _ c.refusal.ensures c.settings_at.ensures) ∙ c.in-Some.is)
    c.refuse-in-Some.ensures.0 c.refuse-in-Some.ensures.1

pub keep-requires : goal.keep-requires
keep-requires c = keep_asks _ _ _ _ c.requires.0 (sym c.sized.ensures ∙ c.if-not-sized.false) (none_refuses _ (sym (refusal_here _ _ _ _ c.refusal.ensures c.settings_at.ensures) ∙ c.in_default.is)) c.schedule_at-old.ensures

pub slice_bounds-command_complete-end : goal.slice_bounds-command_complete-end
slice_bounds-command_complete-end c = let l : 11 ≤ length c.args.ps.now = (size_true _ (sym c.sized.ensures ∙ c.if-not-sized.false)).0 in simp length-take (omega arith)

pub bounds-ps-0 : goal.bounds-ps-0
bounds-ps-0 c = let l : 11 ≤ length c.args.ps.now = (size_true _ (sym c.sized.ensures ∙ c.if-not-sized.false)).0 in omega arith

pub is_present-requires : goal.is_present-requires
is_present-requires c = (checks_passed _ _ (none_refuses _ (sym (refusal_here _ _ _ _ c.refusal.ensures c.settings_at.ensures) ∙ c.in_default.is))).1

pub returns-then-is_present : goal.returns-then-is_present
unfolding part
returns-then-is_present c =
    add_changed _ _ _ _ _ _ c.requires.0 c.requires.1 _ _ _ (sym c.sized.ensures ∙ c.if-not-sized.false) (none_refuses _ (sym (refusal_here _ _ _ _ c.refusal.ensures c.settings_at.ensures) ∙ c.in_default.is)) c.schedule_at-old.ensures
    (ap (λ (x : RadioSettings). x.powered) (radio_of _ _ c.settings_at.ensures)) (sym c.is_present.ensures ∙ c.if-is_present.true) refl c.command_complete.ensures c.keep.ensures

pub bounds-ps-0-2 : goal.bounds-ps-0-2
bounds-ps-0-2 c = let l : 11 ≤ length c.args.ps.now = (size_true _ (sym c.sized.ensures ∙ c.if-not-sized.false)).0 in omega arith

pub returns : goal.returns
unfolding part
returns c =
    add_new _ _ _ _ _ _ c.requires.0 c.requires.1 _ _ _ (sym c.sized.ensures ∙ c.if-not-sized.false) (none_refuses _ (sym (refusal_here _ _ _ _ c.refusal.ensures c.settings_at.ensures) ∙ c.in_default.is)) c.schedule_at-old.ensures
    (ap (λ (x : RadioSettings). x.powered) (radio_of _ _ c.settings_at.ensures)) (sym c.is_present.ensures ∙ c.if-is_present.false) refl (c.advertising_added.ensures ∙ rw c.command_complete.ensures) c.keep.ensures
