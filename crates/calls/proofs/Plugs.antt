-- Unplug and plug: from what their steps leave to what the model says of them, over plain values.
-- Assumes nothing.
use mathlib.Core.Path.{◌≡◌, refl, sym, ◌∙◌}
use Prim.Native.Nat.{ℕ, ◌≤◌, ◌<◌}
use native.Mathlib.Omega.{arith}
use mathlib.Core.Bool.{Bool, true, false, ◌&&◌}
use mathlib.Core.List.{[], ◌++◌}
use mathlib.Core.Option.{Option, none, some}
use lib.ListN.{length, take, drop, length-append}
use lib.Dec.{ltb, lit≤}
use lib.Seq.{take_all}
use borrow.Author.Tests.{ne_eqb, lt-ltb, le-ltb}
use Rattle.model.specs.Statuses as Statuses
use Rattle.model.specs.Events as Events
use Rattle.model.specs.Lengths as Lengths
use Rattle.model.specs.declared.Hardware.{Hardware}
use Rattle.model.specs.Octets.{Octets, u16, event, command_status}
use Rattle.model.specs.State.{OpenCommand, PlainHub, controller_at, hardware_ok, plugged, with_controller}
use Rattle.model.specs.Hub.{Outcome, finished, bad_argument, answer_of, octets_of, state_of, owed_to, plug_out, under_way, unplug_out, unplugged}
use Rattle.model.specs.Layout.{encode, decode}
use Rattle.model.specs.Meanings.{laid_out, state_ok}
use Rattle.octets.specs.Parts.{part, write_at}
use Rattle.octets.proofs.Parts.{length_part}
use Rattle.layout.specs.Places.{Ready, emptied, open_at, place_of, present_at, put_controller}
use Rattle.layout.proofs.Reading.{absent_controller, present_controller, ready}
use Rattle.layout.proofs.Open.{open_nothing, open_command}
use Rattle.replies.specs.Answers.{Gives}
use Rattle.model.specs.declared.Answer.{Answer}
use Rattle.model.specs.declared.Answer.TheVariants.{Done, BadArgument}
use Rattle.replies.proofs.Laws.{gives_written, length_event, then}
use Rattle.outcomes.specs.Outcomes.{ended}
use Rattle.outcomes.proofs.Endings.{ends_silent, ends_done}
use Rattle.calls.specs.Given.{hardware_given}
use Rattle.model.proofs.Model.Room.{length_status}

-- 1. Arguments that are wrong -------------------------------------------------------------------------------------------------------------------

-- nothing is written, nothing changes
pub bad_argument_lem : (s d : Octets) (o : Outcome) (r : Answer) → state_ok s ≡ true → o ≡ bad_argument → r ≡ BadArgument → Gives (ended s o) r d d s
unfolding answer_of octets_of state_of
bad_argument_lem s d o r ok e n = rw (e, n) (ends_silent s d bad_argument BadArgument ok refl refl refl refl)

-- 2. Unplug -------------------------------------------------------------------------------------------------------------------------------------

-- no controller is there to unplug: 6 (01, What a call answers)
pub unplug_absent : (s : Octets) (i : ℕ) (d : Octets) (r : Answer) → state_ok s ≡ true → present_at s i ≡ false → r ≡ BadArgument
    → Gives (laid_out (unplugged (decode s) i (unplug_out (decode s).plain i (controller_at (decode s).plain i)))) r d d s
unfolding unplug_out unplugged ended
unplug_absent s i d r ok e n = rw (absent_controller s i e) (bad_argument_lem s d bad_argument r ok refl n)

module _ (s : Octets) (i : ℕ) (d d' s' : Octets) (r : Answer) (g : Ready s i) (big : Lengths.reply_buffer ≤ length d)
    (gone : s' ≡ encode (emptied (decode s) i)) where
  -- with what is owed to a command under way
  removed : (x : Option OpenCommand) (n : ℕ) → open_at s i ≡ x → length (owed_to i x ++ event Events.index_removed i []) ≡ n → n ≤ Lengths.reply_buffer
      → r ≡ Done n → d' ≡ write_at d 0 (owed_to i x ++ event Events.index_removed i [])
      → Gives (laid_out (unplugged (decode s) i (unplug_out (decode s).plain i (controller_at (decode s).plain i)))) r d d' s'
  unfolding unplug_out unplugged laid_out emptied open_at under_way
  removed x n e l f m w =
      rw (present_controller s i g, e, m)
      (gives_written (record { answer = 0; octets = owed_to i x ++ event Events.index_removed i []; state = encode (emptied (decode s) i) }) (Done n) d
      d' s' refl (sym l) (omega arith) w gone)

  -- the octets of the open command hold code 0, so nothing is under way: Index Removed is all that is written
  pub unplug_quiet : (code : ℕ) → code ≡ u16 s (place_of i 1) → code ≡ 0 → r ≡ Done 6 → d' ≡ write_at d 0 (event Events.index_removed i [])
      → Gives (laid_out (unplugged (decode s) i (unplug_out (decode s).plain i (controller_at (decode s).plain i)))) r d d' s'
  unfolding owed_to
  unplug_quiet code e z m w = removed none 6 (open_nothing s i g (sym e ∙ z)) (length_event Events.index_removed i [] 0 refl) (lit≤ tt) m w

  -- another code is under way: Command Status Invalid Index for it, then Index Removed
  pub unplug_open : (code : ℕ) → code ≡ u16 s (place_of i 1) → (code ≡ 0 → ⊥) → r ≡ Done 15 → (d₁ : Octets)
      → d₁ ≡ write_at d 0 (command_status i code Statuses.invalid_index) → d' ≡ write_at d₁ 9 (event Events.index_removed i [])
      → Gives (laid_out (unplugged (decode s) i (unplug_out (decode s).plain i (controller_at (decode s).plain i)))) r d d' s'
  unfolding owed_to
  unplug_open code e z m d₁ w₁ w =
      let a = length_status i code Statuses.invalid_index in
      let b = length_event Events.index_removed i [] 0 refl in
      let l : length (command_status i code Statuses.invalid_index ++ event Events.index_removed i []) ≡ 15 = rw (length-append, a, b) in
      removed (some (record { code = u16 s (place_of i 1); params = _ })) 15 (open_command s i g (λ q. z (e ∙ q))) (rw (← e) l) (lit≤ tt) m
      (rw (← e) (w ∙ rw w₁ (then d 0 (command_status i code Statuses.invalid_index) (event Events.index_removed i []) 9 (rw a))))

-- 3. Plug ---------------------------------------------------------------------------------------------------------------------------------------

-- an absent index below 4 and hardware that plug may give: Index Added, and the controller stands there
plug_true : (p : PlainHub) (i : ℕ) (f : Hardware) → ltb i 4 ≡ true → hardware_ok f ≡ true
    → plug_out p i f none ≡ finished (event Events.index_added i []) (with_controller p i (some (plugged f)))
unfolding plug_out
plug_true p i f e h = rw (e, h, plug_out)

-- an index above 3, or hardware that plug may not give: 6
plug_false : (p : PlainHub) (i : ℕ) (f : Hardware) → (ltb i 4 && hardware_ok f) ≡ false → plug_out p i f none ≡ bad_argument
unfolding plug_out
plug_false p i f e = rw (e, plug_out)

-- two tests do not both hold if the second fails
and_false : (a : Bool) → (a && false) ≡ false
and_false true = refl
and_false false = refl

-- an address of another length
not_six : (f : Hardware) → (length f.public_address ≡ 6 → ⊥) → hardware_ok f ≡ false
unfolding hardware_ok
not_six f e = rw (ne_eqb (length f.public_address) 6 e)

module _ (s : Octets) (i : ℕ) (f : Hardware) (d : Octets) (r : Answer) (ok : state_ok s ≡ true) where
  -- 6 for an index that is present
  pub plug_present : present_at s i ≡ true → r ≡ BadArgument → Gives (ended s (plug_out (decode s).plain i f (controller_at (decode s).plain i))) r d d s
  unfolding plug_out
  plug_present e n = rw (present_controller s i (ready s i ok e)) (bad_argument_lem s d bad_argument r ok refl n)

  module _ (gone : present_at s i ≡ false) where
    -- the index is no place for a controller: 6 (01, What a call answers)
    pub plug_above : 3 < i → r ≡ BadArgument → Gives (ended s (plug_out (decode s).plain i f (controller_at (decode s).plain i))) r d d s
    plug_above l n =
        rw (absent_controller s i gone) (bad_argument_lem s d (plug_out (decode s).plain i f none) r ok
        (plug_false (decode s).plain i f (rw (le-ltb i 4 (omega arith)))) n)

    -- 6 for hardware that plug may not give
    pub plug_unfit : hardware_ok f ≡ false → r ≡ BadArgument → Gives (ended s (plug_out (decode s).plain i f (controller_at (decode s).plain i))) r d d s
    plug_unfit e n =
        rw (absent_controller s i gone) (bad_argument_lem s d (plug_out (decode s).plain i f none) r ok
        (plug_false (decode s).plain i f (rw e (and_false (ltb i 4)))) n)

    -- the address has too few octets or too many: 6 (01, What a call answers)
    pub plug_short : (length f.public_address ≡ 6 → ⊥) → r ≡ BadArgument
        → Gives (ended s (plug_out (decode s).plain i f (controller_at (decode s).plain i))) r d d s
    plug_short e n = plug_unfit (not_six f e) n

    -- else the plugged controller is put at its index, and Index Added is written
    pub plug_done : (d' s' : Octets) → Lengths.reply_buffer ≤ length d → i ≤ 3 → hardware_ok f ≡ true
        → s' ≡ encode (put_controller (decode s) i (plugged f)) → d' ≡ write_at d 0 (event Events.index_added i []) → r ≡ Done 6
        → Gives (ended s (plug_out (decode s).plain i f (controller_at (decode s).plain i))) r d d' s'
    unfolding put_controller
    plug_done d' s' big l h k w n =
        rw (absent_controller s i gone, plug_true (decode s).plain i f (lt-ltb i 4 (omega arith)) h)
        (ends_done s (event Events.index_added i []) (with_controller (decode s).plain i (some (plugged f))) 6 d d' s' r n
        (length_event Events.index_added i [] 0 refl) (omega arith) w k)

-- the hardware made of the arguments
pub made_given : (address a : Octets) (v m n : ℕ) → length address ≡ 6 → a ≡ part address 0 6
    → ◌≡◌ {A = Hardware} (record { public_address = a; version = v; manufacturer = m; supported = n }) (hardware_given address v m n)
unfolding hardware_given part
made_given address a v m n l e =
    let q : take 6 (drop 0 address) ≡ address = take_all 6 address (omega arith) in
    rw (e, q)

-- and its address is six octets long
pub six_long : (address a : Octets) → length address ≡ 6 → a ≡ part address 0 6 → length a ≡ 6
six_long address a l e = rw e (length_part address 0 6 (omega arith))

-- the two ways on with the hardware that the code makes
module _ (s : Octets) (i : ℕ) (f g : Hardware) (d : Octets) (r : Answer) (e : g ≡ f) (ok : state_ok s ≡ true) (gone : present_at s i ≡ false) where
  -- plug may not give it: 6
  pub made_unfit : hardware_ok g ≡ false → r ≡ BadArgument → Gives (ended s (plug_out (decode s).plain i f (controller_at (decode s).plain i))) r d d s
  made_unfit h n = plug_unfit s i f d r ok gone (rw (← e) h) n

  -- plug may give it: the controller is put at its index, and Index Added is written
  pub made_done : (d' s' : Octets) → Lengths.reply_buffer ≤ length d → i ≤ 3 → hardware_ok g ≡ true
      → s' ≡ encode (put_controller (decode s) i (plugged g)) → d' ≡ write_at d 0 (event Events.index_added i []) → r ≡ Done 6
      → Gives (ended s (plug_out (decode s).plain i f (controller_at (decode s).plain i))) r d d' s'
  made_done d' s' big l h k w n = plug_done s i f d r ok gone d' s' big l (rw (← e) h) (rw (← e) k) w n
