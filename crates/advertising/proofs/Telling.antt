-- What is told of the instance on air: from what the steps leave to what the model says of it.
use Prim.Native.Nat.{ℕ, ◌+◌, ◌≤◌}
use native.Mathlib.Omega.{arith}
use mathlib.Core.Path.{◌≡◌, refl, sym, ◌∙◌}
use mathlib.Core.Bool.{true, false}
use mathlib.Core.List.{[], ◌∷◌, ◌++◌}
use lib.ListN.{length, length-append}
use lib.Dec.{eqb}
use borrow.Author.Tests.{ne_eqb}
use Rattle.model.specs.Lengths as Lengths
use Rattle.model.specs.declared.Answer.{Answer}
use Rattle.model.specs.declared.Answer.TheVariants.{BadArgument, Done}
use Rattle.model.specs.declared.Schedule.{Schedule}
use Rattle.model.specs.Advertising.{data_of, on_air_octets}
use Rattle.model.specs.Octets.{Octets}
use Rattle.model.specs.State.{Controller}
use Rattle.model.specs.Hub.{answer_of, octets_of, state_of}
use Rattle.model.specs.Layout.{decode}
use Rattle.model.specs.Meanings.{on_air_out, state_ok}
use Rattle.model.proofs.Model.Advertising.{advertising_fit}
use Rattle.model.proofs.Model.Demand3.{state_back}
use Rattle.model.proofs.Model.Schedule.{on_air_five}
use Rattle.octets.specs.Parts.{write_at}
use Rattle.octets.proofs.Parts.{write_split}
use Rattle.layout.specs.Places.{Ready, controller_of, present_at}
use Rattle.layout.proofs.Advertising.{advertising_fine}
use Rattle.layout.proofs.Reading.{absent_controller, present_controller, ready}
use Rattle.replies.specs.Answers.{Gives}
use Rattle.outcomes.specs.Outcomes.{on_air_read}
use Rattle.outcomes.proofs.Endings.{ends_done, ends_silent}

-- five writes behind one another are one
five_writes : (d : Octets) (k : ℕ) (a b : Octets)
    → write_at (write_at (write_at (write_at (write_at d 0 (k ∷ [])) 1 (length a ∷ [])) 2 (length b ∷ [])) 3 a) (3 + length a) b
    ≡ write_at d 0 (k ∷ length a ∷ length b ∷ (a ++ b))
five_writes d k a b =
    let p = write_at d 0 (k ∷ []) in
    let q = write_at p 1 (length a ∷ []) in
    let r = write_at q 2 (length b ∷ []) in
    sym (write_split d 0 (k ∷ []) (length a ∷ length b ∷ (a ++ b)) ∙ write_split p 1 (length a ∷ []) (length b ∷ (a ++ b))
    ∙ write_split q 2 (length b ∷ []) (a ++ b) ∙ write_split r 3 a b)

-- what is said of an instance on air
on_air_is : (c : Controller) (k : ℕ) → k ≡ c.host.advertising.schedule.on_air → 1 ≤ k
    → on_air_octets c.host.advertising ≡ k ∷ length (data_of c.host.advertising.adv_data k) ∷ length (data_of c.host.advertising.scan_rsp k)
    ∷ (data_of c.host.advertising.adv_data k ++ data_of c.host.advertising.scan_rsp k)
unfolding on_air_octets
on_air_is c k e l =
    let n : eqb c.host.advertising.schedule.on_air 0 ≡ false = ne_eqb c.host.advertising.schedule.on_air 0 (λ z. omega arith) in
    rw (e, n, on_air_octets)

-- the one on air is told
pub told_on_air : (s : Octets) (i k : ℕ) (a b d d' : Octets) (r : Answer) → Ready s i → 1 ≤ k → k ≡ (controller_of s i).host.advertising.schedule.on_air
    → Lengths.reply_buffer ≤ length d → a ≡ data_of (controller_of s i).host.advertising.adv_data k → b ≡ data_of (controller_of s i).host.advertising.scan_rsp k
    → length a ≤ 31 → length b ≤ 31 → r ≡ Done (3 + length a + length b)
    → d' ≡ write_at (write_at (write_at (write_at (write_at d 0 (k ∷ [])) 1 (length a ∷ [])) 2 (length b ∷ [])) 3 a) (3 + length a) b
    → Gives (on_air_read s i) r d d' s
unfolding on_air_read on_air_out
told_on_air s i k a b d d' r g l ek big ea eb na nb er w =
    let c = controller_of s i in
    let o = k ∷ length a ∷ length b ∷ (a ++ b) in
    let eo : on_air_octets c.host.advertising ≡ o = on_air_is c k ek l ∙ rw (← ea, ← eb) in
    let n : length o ≡ 3 + length a + length b = (let m = length-append a b in omega arith) in
    rw (present_controller s i g, eo)
    (ends_done s o (decode s).plain (3 + length a + length b) d d' s r er n (omega arith) (w ∙ five_writes d k a b) (state_back s g.ok))

-- none is on air: nothing is told
pub told_none : (s : Octets) (i : ℕ) (t : Schedule) (d : Octets) (r : Answer) → Ready s i → t ≡ (controller_of s i).host.advertising.schedule → t.on_air ≡ 0
    → r ≡ Done 0 → Gives (on_air_read s i) r d d s
unfolding on_air_read on_air_out on_air_octets write_at
told_none s i t d r g et ez er =
    let z : (controller_of s i).host.advertising.schedule.on_air ≡ 0 = rw et at ez in
    let eo : on_air_octets (controller_of s i).host.advertising ≡ [] = rw (z, on_air_octets) in
    rw (present_controller s i g, eo, er) (ends_done s [] (decode s).plain 0 d d s (Done 0) refl refl (omega arith) (refl) (state_back s g.ok))

-- an index without a controller
pub told_absent : (s : Octets) (i : ℕ) (d : Octets) (r : Answer) → state_ok s ≡ true → present_at s i ≡ false → r ≡ BadArgument → Gives (on_air_read s i) r d d s
unfolding on_air_read on_air_out answer_of octets_of state_of
told_absent s i d r ok gone er = rw (absent_controller s i gone, er) (ends_silent s d _ BadArgument ok refl refl refl refl)

-- the one on air is one of five
pub on_air_most : (s : Octets) (i : ℕ) (t : Schedule) → Ready s i → t ≡ (controller_of s i).host.advertising.schedule → t.on_air ≤ 5
on_air_most s i t g e = rw e (on_air_five _ _ _ (advertising_fit _ _ _ (advertising_fine s i g)).schedule)

-- a well-formed state with a controller there
pub is_ready : (s : Octets) (i : ℕ) → state_ok s ≡ true → present_at s i ≡ true → Ready s i
is_ready s i ok p = ready s i ok p

-- a number that is not zero is at least one
pub not_zero : (k : ℕ) → (k ≡ 0 → ⊥) → 1 ≤ k
not_zero k n = omega arith
