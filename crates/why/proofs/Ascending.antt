-- In every rule the values stand in octet order, and what comes behind them has no place (02, E3).
use Prim.Native.Nat.{ℕ}
use mathlib.Core.Path.{◌≡◌, refl}
use mathlib.Core.Bool.{Bool, true, false, ◌&&◌}
use mathlib.Core.List.{List, [], ◌∷◌, ◌++◌}
use lib.Dec.{leb, ltb}
use Rattle.model.specs.Octets.{Octets}
use Rattle.model.specs.State.{Controller}
use Rattle.model.specs.declared.RadioSettings.{RadioSettings}
use Rattle.model.specs.declared.Place.TheVariants.{Nowhere, AtOctet, InRecord, Records}
use Rattle.model.specs.Reasons.{Check}
use Rattle.model.specs.Tables.{TableRule, blocked_rule, device_rule, identity_key_rule, le_address_checks, link_key_rule, long_term_key_rule, uuid_rule}
use Rattle.model.specs.Rules.{ImmediateRule, RadioRule, set_bredr, set_connectable, set_discoverable, set_low_energy, set_powered, set_static_address}
use Rattle.model.specs.Immediate.{add_advertising, add_device, add_uuid, advertising_checks, block_device, read_information, remove_advertising}
use Rattle.model.specs.Immediate.{remove_device, remove_uuid}
use Rattle.model.specs.Immediate.{set_bondable, set_local_name, unblock_device, unpair_device}

-- from octet n on and below octet m the places ascend, and behind the first that is nowhere all are
unfoldable pub ascends : (n m : ℕ) → Bool → List Check → Bool
ascends n m b [] = true
ascends n m b (c ∷ cs) = elim c.place [
  | Nowhere ↦ ascends n m false cs
  | AtOctet k ↦ b && (leb n k && (ltb k m && ascends k m b cs))
  | InRecord j k ↦ false
  | Records j k ↦ false
]

-- a settings command's values
abbrev pub Radio : RadioRule → Type 0
Radio r = (x : RadioSettings) (ps : Octets) → ascends 0 r.size true (r.before_busy x ps ++ r.after_busy x ps) ≡ true

-- another command's, within m octets
abbrev pub Immediate : ℕ → ImmediateRule → Type 0
Immediate m q = (c : Controller) (ps : Octets) → ascends 0 m true (q.checks c ps) ≡ true

-- a record's
abbrev pub Record : TableRule → Type 0
Record u = (r : Octets) → ascends 0 u.size true (u.checks r) ≡ true

-- the six settings commands that can be Busy
pub settings_ascend : Radio set_powered × Radio set_discoverable × Radio set_connectable × Radio set_low_energy × Radio set_bredr × Radio set_static_address
unfolding ascends set_powered set_discoverable set_connectable set_low_energy set_bredr set_static_address
settings_ascend = (λ x ps. refl, λ x ps. refl, λ x ps. refl, λ x ps. refl, λ x ps. refl, λ x ps. refl)

-- the records of the six tables
pub records_ascend : Record uuid_rule × Record link_key_rule × Record long_term_key_rule × Record identity_key_rule × Record blocked_rule × Record device_rule
unfolding ascends uuid_rule link_key_rule long_term_key_rule identity_key_rule blocked_rule device_rule le_address_checks
records_ascend = (λ r. refl, λ r. refl, λ r. refl, λ r. refl, λ r. refl, λ r. refl)

-- the commands that are never Busy, the key lists aside, whose records are numbered
pub immediate_ascend : Immediate 1 set_bondable × Immediate 260 set_local_name × Immediate 17 add_uuid × Immediate 16 remove_uuid × Immediate 8 unpair_device
    × Immediate 7 block_device × Immediate 7 unblock_device × Immediate 8 add_device × Immediate 7 remove_device × Immediate 11 add_advertising
    × Immediate 1 remove_advertising × Immediate 0 read_information
unfolding ascends set_bondable set_local_name add_uuid remove_uuid unpair_device block_device unblock_device add_device remove_device add_advertising
    remove_advertising read_information uuid_rule blocked_rule device_rule advertising_checks
immediate_ascend = (
  λ c ps. refl,
  λ c ps. refl,
  λ c ps. refl,
  λ c ps. refl,
  λ c ps. refl,
  λ c ps. refl,
  λ c ps. refl,
  λ c ps. refl,
  λ c ps. refl,
  λ c ps. refl,
  λ c ps. refl,
  λ c ps. refl,
)
