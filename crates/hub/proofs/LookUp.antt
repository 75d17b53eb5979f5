-- Where a record stands: the ways out of `hub_look_up`, each as one law over plain variables, and what a host reads of its number.
use Prim.Native.Nat.{ℕ, ◌+◌, ◌*◌, ◌≤◌}
use native.Mathlib.Omega.{arith}
use mathlib.Core.Path.{◌≡◌, ◌∙◌}
use mathlib.Core.Bool.{Bool, true, false}
use lib.ListN.{length}
use Rattle.model.specs.Octets.{Octets}
use Rattle.model.specs.State.{Table, controller_at}
use Rattle.model.specs.declared.LookUpReply.{LookUpReply}
use Rattle.model.specs.declared.Answer.TheVariants.{BadState}
use Rattle.model.specs.LookUp.{look_up}
use Rattle.model.specs.Layout.{decode}
use Rattle.model.specs.Meanings.{hub_look_up, look_up_out, told_look_up, refused_look_up, state_ok}
use Rattle.model.specs.Written.{LookUpAnswer, told, bad_state, wrong}
use Rattle.model.proofs.Model.LookUp.{first_le, walked_le}
use Rattle.model.proofs.Theorems.{look_ups_answered}
use Rattle.hub.specs.Entries.{look_up_number}
use Rattle.hub.specs.Runs.{answer_in, count_in, slot_in, walked_in}

module _ (s : Octets) (i k : ℕ) (key : Octets) where
  -- a well-formed state: what stands at the index tells
  pub look_up_well : (r : LookUpReply) → state_ok s ≡ true → r ≡ look_up_out k key (controller_at (decode s).plain i) → r ≡ hub_look_up s i k key
  unfolding hub_look_up
  look_up_well r e n = n ∙ rw (hub_look_up, e)

  -- one that is not: 5
  pub look_up_bad : (r : LookUpReply) → state_ok s ≡ false → r ≡ refused_look_up BadState → r ≡ hub_look_up s i k key
  unfolding hub_look_up
  look_up_bad r e n = n ∙ rw (hub_look_up, e)

-- the answer and what is told are small
small : (a x : ℕ) → LookUpAnswer a x → (a ≤ 6) × (x ≤ 8224)
small a x (told h l) = (omega arith, omega arith)
small a x bad_state = (omega arith, omega arith)
small a x wrong = (omega arith, omega arith)

-- so the number that holds both fits 64 bits
pub look_up_small : (s : Octets) (i k : ℕ) (key : Octets) (r : LookUpReply) → r ≡ hub_look_up s i k key → (r.answer ≤ 6) × (r.extra ≤ 8224)
look_up_small s i k key r e = rw e (small (hub_look_up s i k key).answer (hub_look_up s i k key).extra (look_ups_answered s i k key))

-- the number of what is told
pub look_up_number_lem : (s : Octets) (i k : ℕ) (key : Octets) (u : LookUpReply) (r : ℕ) → u ≡ hub_look_up s i k key → r ≡ u.answer + 0x100000000 * u.extra
    → r ≡ look_up_number (hub_look_up s i k key)
unfolding look_up_number
look_up_number_lem s i k key u r e n = rw (← e) n

-- A HOST READS BACK the answer of a look-up, whatever it lent; the count is 0
pub looked_answer : (s : Octets) (i k : ℕ) (key : Octets)
    → (answer_in (look_up_number (hub_look_up s i k key)) ≡ (hub_look_up s i k key).answer) × (count_in (look_up_number (hub_look_up s i k key)) ≡ 0)
unfolding look_up_number answer_in count_in
looked_answer s i k key =
    let h = small (hub_look_up s i k key).answer (hub_look_up s i k key).extra (look_ups_answered s i k key) in
    (omega arith, omega arith)

-- and slot and slots walked of a look-up that was made in a table of 32 slots
pub looked_told : (m : Octets → Bool) (t : Table) → length t ≡ 32
    → (slot_in (look_up_number (told_look_up (look_up m t))) ≡ (look_up m t).slot) × (walked_in (look_up_number (told_look_up (look_up m t))) ≡ (look_up m t).walked)
unfolding look_up_number slot_in walked_in told_look_up look_up
looked_told m t n =
    let h = first_le m t in
    let w = walked_le m t in
    (omega arith, omega arith)
