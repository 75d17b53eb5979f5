-- The look-up for a host: from what its steps leave to what the model says of it, over plain values.
use mathlib.Core.Path.{◌≡◌, sym, ◌∙◌}
use Prim.Native.Nat.{ℕ, zero, suc, ◌+◌, ◌*◌, ◌≤◌, ◌<◌}
use native.Mathlib.Omega.{arith}
use mathlib.Core.Bool.{Bool, true, false, ◌&&◌}
use lib.ListN.{length}
use lib.Dec.{eqb, lit≤, ltb}
use borrow.Author.Tests.{eq-eqb, eqb-true, le-ltb, lt-ltb, ltb-true, ne_eqb}
use Rattle.model.specs.Octets.{Octets}
use Rattle.model.specs.State.{controller_at, table_of}
use Rattle.model.specs.Tables.{begins, rule_at, table_rules, uuid_rule}
use Rattle.model.specs.LookUp.{key_length, look_up}
use Rattle.model.specs.declared.LookUp.{LookUp}
use Rattle.model.specs.declared.LookUpReply.{LookUpReply}
use Rattle.model.specs.Answers.{number_of}
use Rattle.model.specs.declared.Answer.{Answer}
use Rattle.model.specs.declared.Answer.TheVariants.{BadArgument}
use Rattle.model.specs.Layout.{decode}
use Rattle.model.specs.Meanings.{look_up_out, told_look_up, refused_look_up, state_ok}
use Rattle.model.proofs.Model.LookUp.{first_le, walked_le}
use Rattle.model.proofs.Model.Tests.{and_true}
use Rattle.table.specs.Slots.{table_at}
use Rattle.layout.specs.Places.{Ready, controller_of, present_at, table_place}
use Rattle.layout.proofs.Reading.{absent_controller, present_controller, ready}
use Rattle.layout.proofs.Tables.{table_at_lem, table_fits, table_long}
use Rattle.records.proofs.Laws.{size_least}
use Rattle.information.specs.LookUp.{LooksUp}

-- the number of an answer, and nothing told
pub refused_told : (a : Answer) (n : ℕ) → n ≡ number_of a → ◌≡◌ {A = LookUpReply} (record { answer = n; extra = 0 }) (refused_look_up a)
unfolding refused_look_up
refused_told a n e = rw e

-- a UUID is looked for by 16 octets
pub key_of_uuid : (k : ℕ) → k ≡ 0 → 16 ≡ key_length k
unfolding key_length
key_of_uuid k e = rw (eq-eqb k 0 e, key_length)

-- any other record by 7
pub key_of_device : (k : ℕ) → (k ≡ 0 → ⊥) → 7 ≡ key_length k
unfolding key_length
key_of_device k e = rw (ne_eqb k 0 e, key_length)

-- a key is no longer than a record of its table
key_fits : (k : ℕ) → k < 6 → key_length k ≤ (rule_at k).size
unfolding key_length rule_at table_rules uuid_rule
key_fits zero l = lit≤ tt
key_fits (suc k) l = rw (sym (key_of_device (suc k) (λ e. omega arith))) (size_least (suc k) l)

module _ (s : Octets) (i k : ℕ) (key : Octets) (place size : ℕ) (g : Ready s i) (l : k < 6) (n : length key ≡ key_length k) (ep : place ≡ table_place i k)
    (ez : size ≡ (rule_at k).size) where
  -- the table lies inside the state, and a key is as long as a record at most
  pub look_up_fits : (place + (4 + size * 32) ≤ length s) × (length key ≤ size)
  look_up_fits = (rw (ep, ez, g.long) (table_fits i k g.below l), rw (n, ez) (key_fits k l))

  -- the look-up there is that in the controller's table
  pub looks_up : (u : LookUp) → u ≡ look_up (begins (length key) key) (table_at s place size) → LooksUp s i k key u
  unfolding look_up
  looks_up u e =
      let t = table_of (controller_of s i).host k in
      let m : Octets → Bool = begins (key_length k) key in
      let f : table_at s place size ≡ t = rw (ep, ez) (table_at_lem s i g k l) in
      let h : u ≡ look_up m t = rw (← n, ← f) e in
      record {
        looked = h;
        slot = rw h (omega (arith, first_le m t, table_long s i g k l));
        walked = rw h (omega (arith, walked_le m t, table_long s i g k l));
      }

module _ (s : Octets) (i k : ℕ) (key : Octets) (ok : state_ok s ≡ true) where
  -- no controller stands at the index: 6
  pub no_controller_lem : (r : LookUpReply) → present_at s i ≡ false → r ≡ refused_look_up BadArgument → r ≡ look_up_out k key (controller_at (decode s).plain i)
  unfolding look_up_out
  no_controller_lem r e n = n ∙ rw (absent_controller s i e)

  module _ (here : present_at s i ≡ true) where
    -- what stands there decides, with whether the question is right
    there : (b : Bool) → (ltb k 6 && eqb (length key) (key_length k)) ≡ b
        → ◌≡◌ {A = LookUpReply} (elim b [ true ↦ told_look_up (look_up (begins (key_length k) key) (table_of (controller_of s i).host k)) | false ↦ refused_look_up BadArgument ])
        (look_up_out k key (controller_at (decode s).plain i))
    unfolding look_up_out
    there b e = rw (present_controller s i (ready s i ok here), ← e)

    -- the table or the key's length is wrong: 6
    pub asked_wrong : (r : LookUpReply) → (ltb k 6 && eqb (length key) (key_length k)) ≡ false → r ≡ refused_look_up BadArgument
        → r ≡ look_up_out k key (controller_at (decode s).plain i)
    asked_wrong r e n = n ∙ there false e

    -- both are right: a table of the six, and a key of its length
    pub asked_right : (ltb k 6 && eqb (length key) (key_length k)) ≡ true → Ready s i × (k < 6) × (length key ≡ key_length k)
    asked_right e = let a = and_true (ltb k 6) _ e in (ready s i ok here, ltb-true k 6 a.0, eqb-true (length key) (key_length k) a.1)

    -- then the look-up is told
    pub look_up_told : (u : LookUp) → (ltb k 6 && eqb (length key) (key_length k)) ≡ true → LooksUp s i k key u
        → ◌≡◌ {A = LookUpReply} (record { answer = 0; extra = u.slot + 256 * u.walked }) (look_up_out k key (controller_at (decode s).plain i))
    unfolding told_look_up
    look_up_told u e h = rw h.looked (there true e)
