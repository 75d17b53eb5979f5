-- The statuses of replies, by their numbers (001, Error Codes).
use Rattle.std.specs.Prelude.{ℕ}

-- Success
abbrev pub success : ℕ
success = 0x00

-- Unknown Command
abbrev pub unknown_command : ℕ
unknown_command = 0x01

-- Failed
abbrev pub failed : ℕ
failed = 0x03

-- Not Paired
abbrev pub not_paired : ℕ
not_paired = 0x06

-- No Resources
abbrev pub no_resources : ℕ
no_resources = 0x07

-- Busy
abbrev pub busy : ℕ
busy = 0x0A

-- Rejected
abbrev pub rejected : ℕ
rejected = 0x0B

-- Not Supported
abbrev pub not_supported : ℕ
not_supported = 0x0C

-- Invalid Parameters
abbrev pub invalid_parameters : ℕ
invalid_parameters = 0x0D

-- Not Powered
abbrev pub not_powered : ℕ
not_powered = 0x0F

-- Invalid Index
abbrev pub invalid_index : ℕ
invalid_index = 0x11

-- the highest status that a report may tell
abbrev pub highest : ℕ
highest = 0x14
