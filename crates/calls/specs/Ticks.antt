-- One index's part of a clock reading, as the code does it.
-- Assumes nothing.
use Rattle.std.specs.Prelude.{ℕ, ◌+◌, ◌≤◌, ◌≡◌, Bool, true, false, [], ◌++◌, length, get_or}
use Rattle.std.proofs.Math.Option.{Option, none, some}
use Rattle.model.specs.Events as Events
use Rattle.model.specs.Lengths as Lengths
use Rattle.model.specs.declared.Settings.{Settings}
use Rattle.model.specs.Octets.{Octets, event, le32}
use Rattle.model.specs.Advertising.{advertising_removed}
use Rattle.model.specs.State.{Controller, Hub, current_settings, settings_of, with_controller}
use Rattle.model.specs.Hub.{ends, tick, tick_slot}
use Rattle.model.specs.Layout.{decode}
use Rattle.model.specs.Meanings.{state_ok}
use Rattle.octets.specs.Parts.{write_at}

-- the hub with the controller at index i taken the step on
unfoldable pub ticked_at : ℕ → ℕ → Hub → Hub
ticked_at step i h = record {
  plain = with_controller h.plain i (tick_slot step (get_or h.plain.controllers i none));
  open_commands = h.open_commands;
  waiting = h.waiting;
}

-- New Settings, if a timer ends and leaves these settings
unfoldable pub end_event : Bool → ℕ → Settings → Octets
end_event over i m = elim over [ true ↦ event Events.new_settings i (le32 (current_settings m)) | false ↦ [] ]

-- what is due at index i: New Settings if the timer ends, then Advertising Removed for each instance that went
unfoldable pub tick_event : ℕ → ℕ → Option Controller → Octets
tick_event step i none = []
tick_event step i (some c) =
    end_event (ends step c.host.settings.timer) i (settings_of (tick step c))
    ++ advertising_removed i c.host.advertising (tick step c).host.advertising

-- the state s, with index i taken the step on, is the state left; what is due is written at a place of the reply, and r is the place behind it
pub record Ticked (s : Octets) (step i place r : ℕ) (before after left : Octets) : Type 0 where
  pub hub : decode left ≡ ticked_at step i (decode s)
  pub ok : state_ok left ≡ true
  pub long : length left ≡ Lengths.state
  pub far : r ≤ place + 45
  pub count : r ≡ place + length (tick_event step i (get_or (decode s).plain.controllers i none))
  pub reply : after ≡ write_at before place (tick_event step i (get_or (decode s).plain.controllers i none))
