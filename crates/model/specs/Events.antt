-- The codes of the events, the two replies among them (001, Events).
use Rattle.std.specs.Prelude.{ℕ}

-- Command Complete
abbrev pub command_complete : ℕ
command_complete = 0x0001

-- Command Status
abbrev pub command_status : ℕ
command_status = 0x0002

-- Index Added
abbrev pub index_added : ℕ
index_added = 0x0004

-- Index Removed
abbrev pub index_removed : ℕ
index_removed = 0x0005

-- New Settings
abbrev pub new_settings : ℕ
new_settings = 0x0006

-- Class Of Device Changed
abbrev pub class_changed : ℕ
class_changed = 0x0007

-- Local Name Changed
abbrev pub local_name_changed : ℕ
local_name_changed = 0x0008

-- Device Blocked
abbrev pub device_blocked : ℕ
device_blocked = 0x0014

-- Device Unblocked
abbrev pub device_unblocked : ℕ
device_unblocked = 0x0015

-- Device Unpaired
abbrev pub device_unpaired : ℕ
device_unpaired = 0x0016

-- Device Added
abbrev pub device_added : ℕ
device_added = 0x001A

-- Device Removed
abbrev pub device_removed : ℕ
device_removed = 0x001B

-- Advertising Added
abbrev pub advertising_added : ℕ
advertising_added = 0x0023

-- Advertising Removed
abbrev pub advertising_removed : ℕ
advertising_removed = 0x0024
