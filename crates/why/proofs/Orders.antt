-- Findings one after the other: code that makes one check after the other finds what the model's list of checks finds.
use mathlib.Core.Path.{◌≡◌, refl, sym, ap, ◌∙◌}
use mathlib.Core.Bool.{Bool, true, false}
use mathlib.Core.List.{List, [], ◌∷◌, ◌++◌}
use lib.ListN.{length}
use borrow.Author.Tests.{eq-eqb, ne_eqb}
use Rattle.std.specs.Prelude.{Ok, Err}
use Rattle.model.specs.Octets.{Octets}
use Rattle.model.specs.State.{Controller}
use Rattle.model.specs.declared.RadioSettings.{RadioSettings}
use Rattle.model.specs.Reasons.{Check, further, moved, moved_check}
use Rattle.model.specs.declared.Place.{Place}
use Rattle.model.specs.declared.Place.TheVariants.{AtOctet}
use Rattle.model.specs.declared.Reason.{Reason}
use Rattle.model.specs.declared.Reason.TheVariants.{LengthWrong}
use Rattle.model.specs.Rules.{ImmediateRule, RadioRule}
use Rattle.why.specs.declared.Objection.{Objection}
use Rattle.why.specs.declared.Objection.TheVariants.{Wrong}
use Rattle.why.specs.Findings.{Finding, and_then, busy_if, checked, first_wrong, in_packet, why_immediate, why_radio}

-- nothing more is found
pub then_taken : (f : Finding) → and_then f (Ok tt) ≡ f
unfolding and_then
then_taken (Ok _) = refl
then_taken (Err _) = refl

-- findings may be taken together from either end
pub then_assoc : (f g h : Finding) → and_then (and_then f g) h ≡ and_then f (and_then g h)
unfolding and_then
then_assoc (Ok _) g h = refl
then_assoc (Err _) g h = refl

-- the checks that are made one after the other, from a finding on
abbrev pub judge : Finding → List Check → Finding
judge f [] = f
judge f (c ∷ cs) = judge (and_then f (checked c.fails c.reason c.place)) cs

-- what they find: that finding, or else the first that fails
pub judged_from : (f : Finding) (cs : List Check) → judge f cs ≡ and_then f (first_wrong cs)
unfolding first_wrong
judged_from f [] = sym (then_taken f)
judged_from f (c ∷ cs) =
    judged_from (and_then f (checked c.fails c.reason c.place)) cs ∙ then_assoc f (checked c.fails c.reason c.place) (first_wrong cs)

-- from the first check on
pub judged : (cs : List Check) → judge (Ok tt) cs ≡ first_wrong cs
unfolding and_then
judged cs = judged_from (Ok tt) cs

-- a check that is met: the rest tells
pub ok_then : (g : Finding) → and_then (Ok tt) g ≡ g
unfolding and_then
ok_then g = refl

-- one that is not: its objection is the first
pub err_then : (o : Objection) (g : Finding) → and_then (Err o) g ≡ Err o
unfolding and_then
err_then o g = refl

-- a check is met where its condition does not hold
pub met : (b : Bool) (r : Reason) (p : Place) → Ok tt ≡ checked b r p → b ≡ false
unfolding checked
met true r p e = cc
met false r p e = refl

-- it is not where it holds: then this is the objection
pub unmet : (b : Bool) (r : Reason) (p : Place) (o : Objection) → Err o ≡ checked b r p → (b ≡ true) × (o ≡ Wrong r p)
unfolding checked
unmet true r p o e = (refl, cc)
unmet false r p o e = cc

-- the steps of a function that makes its checks one after the other
pub ruleset check_steps = (ok_then, err_then, then_taken, met)

-- places moved in two parts
pub moved_append : (f : Place → Place) (cs ds : List Check) → moved f (cs ++ ds) ≡ moved f cs ++ moved f ds
unfolding moved
moved_append f [] ds = refl
moved_append f (c ∷ cs) ds = ap (λ (xs : List Check). moved_check f c ∷ xs) (moved_append f cs ds)

-- checks in two parts
pub first_append : (cs ds : List Check) → first_wrong (cs ++ ds) ≡ and_then (first_wrong cs) (first_wrong ds)
unfolding first_wrong and_then
first_append [] ds = refl
first_append (c ∷ cs) ds =
    ap (λ (f : Finding). and_then (checked c.fails c.reason c.place) f) (first_append cs ds)
    ∙ sym (then_assoc (checked c.fails c.reason c.place) (first_wrong cs) (first_wrong ds))

-- the same of checks of parameters
pub packet_append : (cs ds : List Check) → first_wrong (in_packet (cs ++ ds)) ≡ and_then (first_wrong (in_packet cs)) (first_wrong (in_packet ds))
unfolding in_packet
packet_append cs ds = rw (moved_append (further 6) cs ds) (first_append (moved (further 6) cs) (moved (further 6) ds))

-- a command of the wrong length: nothing else is told
pub length_wrong : (q : ImmediateRule) (c : Controller) (ps : Octets) → q.size ps ≡ false
    → Err (Wrong LengthWrong (AtOctet (q.length_at ps))) ≡ why_immediate q c ps
unfolding why_immediate first_wrong and_then checked
length_wrong q c ps e = rw e

-- one of the right length: its checks tell
pub length_right : (q : ImmediateRule) (c : Controller) (ps : Octets) → q.size ps ≡ true → first_wrong (in_packet (q.checks c ps)) ≡ why_immediate q c ps
unfolding why_immediate first_wrong and_then checked
length_right q c ps e = rw e

-- also where they are made one after the other
pub immediate_right : (q : ImmediateRule) (c : Controller) (ps : Octets) → q.size ps ≡ true → judge (Ok tt) (in_packet (q.checks c ps)) ≡ why_immediate q c ps
immediate_right q c ps e = judged (in_packet (q.checks c ps)) ∙ length_right q c ps e

-- a settings command of the wrong length
pub radio_wrong : (r : RadioRule) (x : RadioSettings) (b : Bool) (ps : Octets) → (length ps ≡ r.size → ⊥)
    → Err (Wrong LengthWrong (AtOctet 4)) ≡ why_radio r x b ps
unfolding why_radio first_wrong and_then checked
radio_wrong r x b ps n = rw (ne_eqb (length ps) r.size n)

-- one of the right length, whose checks are made one after the other
pub radio_right : (r : RadioRule) (x : RadioSettings) (b : Bool) (ps : Octets) → length ps ≡ r.size
    → judge (and_then (judge (Ok tt) (in_packet (r.before_busy x ps))) (busy_if b)) (in_packet (r.after_busy x ps)) ≡ why_radio r x b ps
unfolding why_radio first_wrong and_then checked
radio_right r x b ps e =
    let before : List Check = in_packet (r.before_busy x ps) in
    let after : List Check = in_packet (r.after_busy x ps) in
    judged_from (and_then (judge (Ok tt) before) (busy_if b)) after ∙ rw (judged before, eq-eqb (length ps) r.size e)
    (then_assoc (first_wrong before) (busy_if b) (first_wrong after))
