-- The model's frames in the pieces in which the code writes them, and the reply of a settings command.
-- Assumes nothing.
use Rattle.std.specs.Prelude.{ℕ, ◌+◌, true, false, ◌&&◌, not, [], ◌∷◌, ◌++◌, eqb}
use Rattle.model.specs.Events as Events
use Rattle.model.specs.Octets.{Octets, le16, le32, event, command_complete}

-- the head of an event: its code, the controller's index, and the length n of the parameters
unfoldable pub event_head : ℕ → ℕ → ℕ → Octets
event_head code index n = le16 code ++ (le16 index ++ le16 n)

-- Command Complete up to its n octets of return parameters: the head, the command's code, the status
unfoldable pub complete_head : ℕ → ℕ → ℕ → ℕ → Octets
complete_head index code status n = event_head Events.command_complete index (3 + n) ++ (le16 code ++ (status ∷ []))

-- New Settings, if they changed: of a controller whose Current_Settings were `old` and are `new` (01, Commands, paragraph on events)
unfoldable pub changed_event : ℕ → ℕ → ℕ → Octets
changed_event index old new = elim (eqb old new) [ true ↦ [] | false ↦ event Events.new_settings index (le32 new) ]

-- what a settings command writes when it acts: a reply with Current_Settings (01, Commands, paragraph on settings), then the event (on events)
unfoldable pub settings_reply : ℕ → ℕ → ℕ → ℕ → Octets
settings_reply index code old new = command_complete index code 0 (le32 new) ++ changed_event index old new

-- Advertising Removed, if instance k was there and no longer is: of the seconds of its turn before and after, 0 where it is absent
unfoldable pub instance_removed : ℕ → ℕ → ℕ → ℕ → Octets
instance_removed index k before after =
    elim (not (eqb before 0) && not (not (eqb after 0))) [ true ↦ event Events.advertising_removed index (k ∷ []) | false ↦ [] ]
