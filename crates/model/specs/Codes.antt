-- The codes of the 24 commands (01, Commands; 02, E1 and E5).
use Rattle.std.specs.Prelude.{ℕ}

-- Read Management Version Information
abbrev pub read_version : ℕ
read_version = 0x0001

-- Read Management Supported Commands
abbrev pub read_commands : ℕ
read_commands = 0x0002

-- Read Controller Index List
abbrev pub read_indexes : ℕ
read_indexes = 0x0003

-- Read Controller Information
abbrev pub read_information : ℕ
read_information = 0x0004

-- Set Powered
abbrev pub set_powered : ℕ
set_powered = 0x0005

-- Set Discoverable
abbrev pub set_discoverable : ℕ
set_discoverable = 0x0006

-- Set Connectable
abbrev pub set_connectable : ℕ
set_connectable = 0x0007

-- Set Bondable
abbrev pub set_bondable : ℕ
set_bondable = 0x0009

-- Set Low Energy
abbrev pub set_low_energy : ℕ
set_low_energy = 0x000D

-- Set Local Name
abbrev pub set_local_name : ℕ
set_local_name = 0x000F

-- Add UUID
abbrev pub add_uuid : ℕ
add_uuid = 0x0010

-- Remove UUID
abbrev pub remove_uuid : ℕ
remove_uuid = 0x0011

-- Load Link Keys
abbrev pub load_link_keys : ℕ
load_link_keys = 0x0012

-- Load Long Term Keys
abbrev pub load_long_term_keys : ℕ
load_long_term_keys = 0x0013

-- Unpair Device
abbrev pub unpair_device : ℕ
unpair_device = 0x001B

-- Block Device
abbrev pub block_device : ℕ
block_device = 0x0026

-- Unblock Device
abbrev pub unblock_device : ℕ
unblock_device = 0x0027

-- Set BR/EDR
abbrev pub set_bredr : ℕ
set_bredr = 0x002A

-- Set Static Address
abbrev pub set_static_address : ℕ
set_static_address = 0x002B

-- Load Identity Resolving Keys
abbrev pub load_identity_keys : ℕ
load_identity_keys = 0x0030

-- Add Device
abbrev pub add_device : ℕ
add_device = 0x0033

-- Remove Device
abbrev pub remove_device : ℕ
remove_device = 0x0034

-- Add Advertising
abbrev pub add_advertising : ℕ
add_advertising = 0x003E

-- Remove Advertising
abbrev pub remove_advertising : ℕ
remove_advertising = 0x003F
