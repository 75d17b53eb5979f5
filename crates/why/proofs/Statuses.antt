-- What holds of the status of every reason: it is not 0, and its name is there and does not begin as "would be taken" does.
use Prim.Native.Nat.{ℕ}
use native.Mathlib.Omega.{arith}
use mathlib.Core.Path.{◌≡◌, refl, sym, ap, ◌∙◌}
use mathlib.Core.Bool.{Bool, true, false, ◌&&◌, not}
use mathlib.Core.List.{[], ◌∷◌, ◌++◌}
use mathlib.Core.Logic.{◌↔◌}
use lib.ListN.{get_or}
use lib.Dec.{eqb}
use borrow.Author.Tests.{eq-eqb}
use Rattle.std.specs.Prelude.{Ok, Err}
use Rattle.model.specs.Statuses as Statuses
use Rattle.model.specs.Octets.{Octets}
use Rattle.model.specs.Reasons.{status_of}
use Rattle.model.specs.declared.Reason.{Reason}
use Rattle.model.specs.declared.Reason.TheVariants.{CodeUnknown, IndexNotNone, ControllerAbsent, LengthWrong, CountAbove32}
use Rattle.model.specs.declared.Reason.TheVariants.{DebugFlagAbove1, KeyTypeAbove8, KeyTypeAbove4, MasterAbove1, KeySizeNot7To16}
use Rattle.model.specs.declared.Reason.TheVariants.{RecordRepeated, AddressTypeNotBredr, AddressTypeNotLe, AddressTypeAbove2, AddressZero}
use Rattle.model.specs.declared.Reason.TheVariants.{AddressNotStaticRandom, AddressZeroNotBredr, ValueAbove1, ValueAbove2}
use Rattle.model.specs.declared.Reason.TheVariants.{TimeoutWithValue0, NoTimeoutWithValue2, NameNotEnded, ShortNameNotEnded, UuidZero}
use Rattle.model.specs.declared.Reason.TheVariants.{DisconnectAbove1, ActionAbove2, ActionNot1ForBredr, InstanceNot1To5, AdvertisingFlags}
use Rattle.model.specs.declared.Reason.TheVariants.{AdvDataAbove31, ScanRspAbove31, BredrNotSupported, LeNotSupported}
use Rattle.model.specs.declared.Reason.TheVariants.{DiscoverableTimeoutUnpowered, Unpowered, NoAddressForPower, NotConnectable}
use Rattle.model.specs.declared.Reason.TheVariants.{BredrOff, LowEnergyNeeded, PoweredForBredrOff, StaticAddressForBredr, PoweredForStaticAddress}
use Rattle.model.specs.declared.Reason.TheVariants.{LowEnergyOff, AdvertisingTimeoutUnpowered}
use Rattle.model.specs.declared.Reason.TheVariants.{NoFreeSlot, UuidAbsent, NoKeyOfDevice, AlreadyBlocked, NotBlocked, DeviceAbsent}
use Rattle.model.specs.declared.Reason.TheVariants.{InstanceAbsent}
use Rattle.model.proofs.Model.Tests.{and_true, no_way, not-true}
use Rattle.why.specs.declared.Objection.TheVariants.{Busy, Wrong}
use Rattle.why.specs.Findings.{Finding, status_in}
use Rattle.why.specs.Spelling.{open_spelling, spelled}
use Rattle.why.specs.Wording.{open_wording, status_name, text_of}

-- the first octet of "would be taken"
abbrev w : ℕ
w = 119

-- octets of which the first is there and is not that
unfoldable begins_otherwise : Octets → Bool
begins_otherwise [] = false
begins_otherwise (x ∷ xs) = not (eqb x w)

-- a status that refuses
unfoldable refusing : ℕ → Bool
refusing s = not (eqb s 0) && begins_otherwise (spelled (status_name s))

-- every reason has one
status_refuses : (r : Reason) → refusing (status_of r) ≡ true
unfolding refusing begins_otherwise status_of open_wording open_spelling
status_refuses CodeUnknown = refl
status_refuses IndexNotNone = refl
status_refuses ControllerAbsent = refl
status_refuses LengthWrong = refl
status_refuses CountAbove32 = refl
status_refuses DebugFlagAbove1 = refl
status_refuses KeyTypeAbove8 = refl
status_refuses KeyTypeAbove4 = refl
status_refuses MasterAbove1 = refl
status_refuses KeySizeNot7To16 = refl
status_refuses RecordRepeated = refl
status_refuses AddressTypeNotBredr = refl
status_refuses AddressTypeNotLe = refl
status_refuses AddressTypeAbove2 = refl
status_refuses AddressZero = refl
status_refuses AddressNotStaticRandom = refl
status_refuses AddressZeroNotBredr = refl
status_refuses ValueAbove1 = refl
status_refuses ValueAbove2 = refl
status_refuses TimeoutWithValue0 = refl
status_refuses NoTimeoutWithValue2 = refl
status_refuses NameNotEnded = refl
status_refuses ShortNameNotEnded = refl
status_refuses UuidZero = refl
status_refuses DisconnectAbove1 = refl
status_refuses ActionAbove2 = refl
status_refuses ActionNot1ForBredr = refl
status_refuses InstanceNot1To5 = refl
status_refuses AdvertisingFlags = refl
status_refuses AdvDataAbove31 = refl
status_refuses ScanRspAbove31 = refl
status_refuses BredrNotSupported = refl
status_refuses LeNotSupported = refl
status_refuses DiscoverableTimeoutUnpowered = refl
status_refuses Unpowered = refl
status_refuses NoAddressForPower = refl
status_refuses NotConnectable = refl
status_refuses BredrOff = refl
status_refuses LowEnergyNeeded = refl
status_refuses PoweredForBredrOff = refl
status_refuses StaticAddressForBredr = refl
status_refuses PoweredForStaticAddress = refl
status_refuses LowEnergyOff = refl
status_refuses AdvertisingTimeoutUnpowered = refl
status_refuses NoFreeSlot = refl
status_refuses UuidAbsent = refl
status_refuses NoKeyOfDevice = refl
status_refuses AlreadyBlocked = refl
status_refuses NotBlocked = refl
status_refuses DeviceAbsent = refl
status_refuses InstanceAbsent = refl

-- Busy has one too
busy_refuses : begins_otherwise (spelled (status_name Statuses.busy)) ≡ true
unfolding begins_otherwise open_wording open_spelling
busy_refuses = refl

-- what begins otherwise is not "would be taken", whatever follows
otherwise : (xs ys : Octets) → begins_otherwise xs ≡ true → xs ++ ys ≡ spelled "would be taken" → ⊥
unfolding begins_otherwise open_spelling
otherwise [] ys e q = no_way (sym e)
otherwise (x ∷ xs) ys e q = let z : x ≡ w = ap (λ (o : Octets). get_or o 0 0) q in no_way (sym (rw z at e))

-- "would be taken" is said of nothing but what would be taken
pub text_taken : (f : Finding) → (f ≡ Ok tt) ↔ (text_of f ≡ spelled "would be taken")
unfolding text_of refusing
text_taken (Ok _) = (λ _. refl, λ _. refl)
text_taken (Err Busy) = (λ e. let z : ◌≡◌ {A = ℕ} 0 1 = cc in absurd (omega arith), λ e. absurd (otherwise _ _ busy_refuses e))
text_taken (Err (Wrong r p)) = (
  λ e. let z : ◌≡◌ {A = ℕ} 0 1 = cc in absurd (omega arith),
  λ e. absurd (otherwise _ _ (and_true (not (eqb (status_of r) 0)) _ (status_refuses r)).1 e),
)

-- a status of 0 is told of nothing else either
pub status_taken : (f : Finding) → (f ≡ Ok tt) ↔ (status_in f ≡ 0)
unfolding status_in refusing
status_taken (Ok _) = (λ _. refl, λ _. refl)
status_taken (Err Busy) = (λ e. let z : ◌≡◌ {A = ℕ} 0 1 = cc in absurd (omega arith), λ e. absurd (omega arith))
status_taken (Err (Wrong r p)) = (
  λ e. let z : ◌≡◌ {A = ℕ} 0 1 = cc in absurd (omega arith),
  λ e. no_way (sym (eq-eqb (status_of r) 0 e) ∙ not-true _ (and_true (not (eqb (status_of r) 0)) _ (status_refuses r)).0),
)
