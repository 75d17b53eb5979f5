-- How the frames are put together from what the code writes, how long they are, and what a write at the front leaves.
-- Assumes nothing.
use mathlib.Core.Path.{◌≡◌, refl, sym, ◌∙◌}
use Prim.Native.Nat.{ℕ, ◌+◌, ◌≤◌}
use native.Mathlib.Omega.{arith}
use native.Mathlib.Nat.{add_assoc}
use mathlib.Core.Bool.{Bool, true, false}
use mathlib.Core.List.{[], ◌∷◌, ◌++◌, append_assoc, append-nil}
use lib.ListN.{length, drop, length-append}
use lib.Dec.{eqb}
use borrow.Author.Tests.{eq-eqb, ne_eqb}
use Rattle.model.specs.Events as Events
use Rattle.model.specs.Octets.{Octets, le16, le32, event, command_complete, command_status}
use Rattle.model.specs.Hub.{Result}
use Rattle.octets.specs.Parts.{write_at}
use Rattle.octets.proofs.Parts.{write_split, write_front}
use Rattle.replies.specs.Frames.{event_head, complete_head, changed_event, settings_reply}
use Rattle.model.specs.Answers.{number_of, count_of}
use Rattle.replies.specs.Answers.{Gives}
use Rattle.model.specs.declared.Answer.{Answer}
use Rattle.model.proofs.Model.Room.{length_le16, length_le32}

-- LENGTHS -------------------------------------------------------------------------------------------------------------------------------------

-- the head of an event takes six: code, index and length
pub length_event_head : (e i n : ℕ) → length (event_head e i n) ≡ 6
unfolding event_head
length_event_head e i n = simp (length-append, length_le16)

-- the head of Command Complete takes nine: the event's, the command's code and the status
pub length_complete_head : (i c s n : ℕ) → length (complete_head i c s n) ≡ 9
unfolding complete_head
length_complete_head i c s n = simp (length-append, length_le16, length_event_head)

-- the code's row of writes is one write of the joined pieces
pub ruleset writes = (write_split, length_le16, length_le32, length_event_head, length_complete_head, length-append, add_assoc)

-- an event is its head and its parameters
pub event_is : (e i : ℕ) (ps : Octets) (n : ℕ) → length ps ≡ n → event e i ps ≡ event_head e i n ++ ps
unfolding event event_head
event_is e i ps n l = rw l (simp append_assoc)

-- Command Status is an event with three octets: the command's code and the status
pub status_is : (i c s : ℕ) → command_status i c s ≡ event_head Events.command_status i 3 ++ (le16 c ++ (s ∷ []))
unfolding command_status le16
status_is i c s = event_is Events.command_status i (le16 c ++ (s ∷ [])) 3 refl

-- Command Complete is its head and its return parameters
pub complete_is : (i c s : ℕ) (ps : Octets) (n : ℕ) → length ps ≡ n → command_complete i c s ps ≡ complete_head i c s n ++ ps
unfolding command_complete complete_head
complete_is i c s ps n l =
    let m : length (le16 c ++ (s ∷ ps)) ≡ 3 + n = simp (length-append, length_le16) (omega arith) in
    event_is Events.command_complete i (le16 c ++ (s ∷ ps)) (3 + n) m ∙ simp append_assoc

-- an event is six octets longer than its parameters
pub length_event : (e i : ℕ) (ps : Octets) (n : ℕ) → length ps ≡ n → length (event e i ps) ≡ 6 + n
length_event e i ps n l = rw (event_is e i ps n l) (simp (length-append, length_event_head) (rw l))

-- Command Complete is nine octets longer than its return parameters
pub length_complete : (i c s : ℕ) (ps : Octets) (n : ℕ) → length ps ≡ n → length (command_complete i c s ps) ≡ 9 + n
length_complete i c s ps n l = rw (complete_is i c s ps n l) (simp (length-append, length_complete_head) (rw l))

-- New Settings is ten octets long
pub length_new_settings : (i w : ℕ) → length (event Events.new_settings i (le32 w)) ≡ 10
length_new_settings i w = length_event Events.new_settings i (le32 w) 4 (length_le32 w)

-- Command Complete with Current_Settings is 13 octets long
pub length_settings_complete : (i c w : ℕ) → length (command_complete i c 0 (le32 w)) ≡ 13
length_settings_complete i c w = length_complete i c 0 (le32 w) 4 (length_le32 w)

-- WRITES --------------------------------------------------------------------------------------------------------------------------------------

-- two writes, one after the other, are a write of both
pub then : (d : Octets) (at : ℕ) (a b : Octets) (k : ℕ) → at + length a ≡ k → write_at (write_at d at a) k b ≡ write_at d at (a ++ b)
then d at a b k e = sym (write_split d at a b ∙ rw e)

-- so the head of an event, and its parameters six octets on, are a write of the event
pub event_write : (d : Octets) (at e i : ℕ) (ps : Octets) (n : ℕ) → length ps ≡ n
    → write_at (write_at d at (event_head e i n)) (at + 6) ps ≡ write_at d at (event e i ps)
event_write d at e i ps n l = then d at (event_head e i n) ps (at + 6) (rw length_event_head) ∙ rw (event_is e i ps n l)

-- the same, of Command Complete and its return parameters nine octets on
pub complete_write : (d : Octets) (at i c s : ℕ) (ps : Octets) (n : ℕ) → length ps ≡ n
    → write_at (write_at d at (complete_head i c s n)) (at + 9) ps ≡ write_at d at (command_complete i c s ps)
complete_write d at i c s ps n l = then d at (complete_head i c s n) ps (at + 9) (rw length_complete_head) ∙ rw (complete_is i c s ps n l)

-- THE SETTINGS REPLY --------------------------------------------------------------------------------------------------------------------------

-- where Current_Settings stay as they were, no event follows
pub changed_none : (i a b : ℕ) → a ≡ b → changed_event i a b ≡ []
unfolding changed_event
changed_none i a b e = rw (eq-eqb a b e, changed_event)

-- where they change, New Settings follows
pub changed_some : (i a b : ℕ) → (a ≡ b → ⊥) → changed_event i a b ≡ event Events.new_settings i (le32 b)
unfolding changed_event
changed_some i a b e = rw (ne_eqb a b e, changed_event)

-- what the code writes where they stay: Command Complete with Current_Settings
pub settings_same : (d : Octets) (i c old new : ℕ) → old ≡ new
    → write_at (write_at d 0 (complete_head i c 0 4)) 9 (le32 new) ≡ write_at d 0 (settings_reply i c old new)
unfolding settings_reply
settings_same d i c old new e = complete_write d 0 i c 0 (le32 new) 4 (length_le32 new) ∙ rw (changed_none i old new e, append-nil)

-- what it writes where they change: the same, and New Settings 13 octets on
pub settings_new : (d : Octets) (i c old new : ℕ) → (old ≡ new → ⊥)
    → write_at (write_at (write_at d 0 (complete_head i c 0 4)) 9 (le32 new)) 13 (event Events.new_settings i (le32 new)) ≡ write_at d 0 (settings_reply i c old new)
unfolding settings_reply
settings_new d i c old new e =
    rw (complete_write d 0 i c 0 (le32 new) 4 (length_le32 new), changed_some i old new e)
    (then d 0 (command_complete i c 0 (le32 new)) (event Events.new_settings i (le32 new)) 13 (rw length_settings_complete))

-- where they stay, the reply is 13 octets long
pub length_same : (i c old new : ℕ) → old ≡ new → 13 ≡ length (settings_reply i c old new)
unfolding settings_reply
length_same i c old new e = rw (changed_none i old new e, append-nil) (sym (length_settings_complete i c new))

-- where they change, it is 23 octets long
pub length_new : (i c old new : ℕ) → (old ≡ new → ⊥) → 23 ≡ length (settings_reply i c old new)
unfolding settings_reply
length_new i c old new e = rw (changed_some i old new e, length-append, length_settings_complete i c new, length_new_settings i new)

-- the settings reply never needs more than 23 octets
pub settings_short : (i c old new : ℕ) → length (settings_reply i c old new) ≤ 23
unfolding settings_reply changed_event
settings_short i c old new = go (eqb old new)
  where
    go : (b : Bool) → length (command_complete i c 0 (le32 new) ++ elim b [ true ↦ [] | false ↦ event Events.new_settings i (le32 new) ]) ≤ 23
    go true = rw (length-append, length_settings_complete i c new) (omega arith)
    go false = rw (length-append, length_settings_complete i c new, length_new_settings i new) (omega arith)

-- THE REPLY BUFFER ----------------------------------------------------------------------------------------------------------------------------

-- what was written at the front, and behind it the buffer as it was: the field `reply` of Gives
pub gives_reply : (before after octets : Octets) → length octets ≤ length before → after ≡ write_at before 0 octets
    → after ≡ octets ++ drop (length octets) before
gives_reply before after octets h e = e ∙ write_front before octets h

-- a call that writes what the model says at the front of the reply buffer
pub gives_written : (o : Result Octets) (r : Answer) (before after left : Octets) → number_of r ≡ o.answer → count_of r ≡ length o.octets
    → length o.octets ≤ length before → after ≡ write_at before 0 o.octets → left ≡ o.state → Gives o r before after left
gives_written o r before after left n k h w s = record { answer = n; count = k; reply = gives_reply before after o.octets h w; state = s }
