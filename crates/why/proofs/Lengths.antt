-- The text is short, whatever is found and wherever it is, and it begins with the name of the status.
use Prim.Native.Nat.{ℕ, zero, suc, ◌+◌, ◌/◌, ◌%◌, ◌≤◌}
use native.Mathlib.Omega.{arith}
use Prim.Native.String.{String}
use mathlib.Core.Path.{◌≡◌}
use mathlib.Core.Bool.{Bool, true, false}
use mathlib.Core.List.{List, [], ◌∷◌, ◌++◌}
use lib.ListN.{length, length-append, take}
use lib.Dec.{eqb, ltb, lit≤}
use lib.Seq.{take-append_seam}
use Rattle.std.specs.Prelude.{Ok, Err}
use Rattle.model.specs.Statuses.{busy}
use Rattle.model.specs.Reasons.{status_of}
use Rattle.model.specs.declared.Place.{Place}
use Rattle.model.specs.declared.Place.TheVariants.{Nowhere, AtOctet, InRecord, Records}
use Rattle.model.specs.declared.Reason.{Reason}
use Rattle.model.specs.declared.Reason.TheVariants.{CodeUnknown, IndexNotNone, ControllerAbsent, LengthWrong, CountAbove32, DebugFlagAbove1, KeyTypeAbove8}
use Rattle.model.specs.declared.Reason.TheVariants.{KeyTypeAbove4, MasterAbove1, KeySizeNot7To16, RecordRepeated, AddressTypeNotBredr, AddressTypeNotLe}
use Rattle.model.specs.declared.Reason.TheVariants.{AddressTypeAbove2, AddressZero, AddressNotStaticRandom, AddressZeroNotBredr, ValueAbove1, ValueAbove2}
use Rattle.model.specs.declared.Reason.TheVariants.{TimeoutWithValue0, NoTimeoutWithValue2, NameNotEnded, ShortNameNotEnded, UuidZero, DisconnectAbove1}
use Rattle.model.specs.declared.Reason.TheVariants.{ActionAbove2, ActionNot1ForBredr, InstanceNot1To5, AdvertisingFlags, AdvDataAbove31, ScanRspAbove31}
use Rattle.model.specs.declared.Reason.TheVariants.{BredrNotSupported, LeNotSupported, DiscoverableTimeoutUnpowered, Unpowered, NoAddressForPower}
use Rattle.model.specs.declared.Reason.TheVariants.{NotConnectable, BredrOff, LowEnergyNeeded, PoweredForBredrOff, StaticAddressForBredr}
use Rattle.model.specs.declared.Reason.TheVariants.{PoweredForStaticAddress, LowEnergyOff, AdvertisingTimeoutUnpowered}
use Rattle.model.specs.declared.Reason.TheVariants.{NoFreeSlot, UuidAbsent, NoKeyOfDevice, AlreadyBlocked, NotBlocked, DeviceAbsent, InstanceAbsent}
use Rattle.why.specs.declared.Objection.TheVariants.{Busy, Wrong}
use Rattle.why.specs.Findings.{Finding}
use Rattle.why.specs.Spelling.{spelled, decimal, digits}
use Rattle.why.specs.Wording.{status_names, named, status_name, condition, place_words, text_of}

-- a number has at most as many digits as are asked for
digits_short : (k n : ℕ) → length (digits k n) ≤ k
unfolding digits
digits_short zero n = lit≤ tt
digits_short (suc k) n = go (ltb n 10) (digits_short k (n / 10))
  where
    go : (b : Bool) → length (digits k (n / 10)) ≤ k → length {A = ℕ} (elim b [
      | true ↦ (48 + n) ∷ []
      | false ↦ digits k (n / 10) ++ ((48 + n % 10) ∷
          [])
    ]) ≤ suc k
    go true e = omega arith
    go false e = rw (length-append (digits k (n / 10)) ((48 + n % 10) ∷ [])) (omega arith)

-- a number in decimal takes at most 20 octets
decimal_short : (n : ℕ) → length (decimal n) ≤ 20
unfolding decimal
decimal_short n = digits_short 20 n

-- a place takes at most 60 octets, whatever its numbers are
place_short : (p : Place) → length (place_words p) ≤ 60
unfolding place_words spelled
place_short Nowhere = lit≤ tt
place_short (AtOctet n) = let a = decimal_short n in simp length-append (omega arith)
place_short (InRecord k n) = let a = decimal_short k in let b = decimal_short n in simp length-append (omega arith)
place_short (Records a b) = let h = decimal_short a in let i = decimal_short b in simp length-append (omega arith)

-- every name in a list has at most 18 octets
abbrev Short : List (ℕ × String) → Type 0
Short [] = Unit {0}
Short (n ∷ ns) = (length (spelled n.1) ≤ 18) × Short ns

-- so the name found in it has, also where none is found
named_short : (s : ℕ) (ns : List (ℕ × String)) → Short ns → length (spelled (named s ns)) ≤ 18
unfolding named spelled
named_short s [] h = lit≤ tt
named_short s (n ∷ ns) h = go (eqb s n.0) (named_short s ns h.1)
  where
    go : (b : Bool) → length (spelled (named s ns)) ≤ 18 → length (spelled (elim b [ true ↦ n.1 | false ↦ named s ns ])) ≤ 18
    go true e = h.0
    go false e = e

-- the name of a status takes at most 18 octets
pub name_short : (s : ℕ) → length (spelled (status_name s)) ≤ 18
unfolding status_name status_names spelled
name_short s = named_short s status_names (lit≤ tt, (lit≤ tt, (lit≤ tt, (lit≤ tt, (lit≤ tt, (lit≤ tt, (lit≤ tt, (lit≤ tt, (lit≤ tt, (lit≤ tt, tt))))))))))

-- a condition takes at most 70 octets
pub condition_short : (r : Reason) → length (spelled (condition r)) ≤ 70
unfolding condition spelled
condition_short CodeUnknown = lit≤ tt
condition_short IndexNotNone = lit≤ tt
condition_short ControllerAbsent = lit≤ tt
condition_short LengthWrong = lit≤ tt
condition_short CountAbove32 = lit≤ tt
condition_short DebugFlagAbove1 = lit≤ tt
condition_short KeyTypeAbove8 = lit≤ tt
condition_short KeyTypeAbove4 = lit≤ tt
condition_short MasterAbove1 = lit≤ tt
condition_short KeySizeNot7To16 = lit≤ tt
condition_short RecordRepeated = lit≤ tt
condition_short AddressTypeNotBredr = lit≤ tt
condition_short AddressTypeNotLe = lit≤ tt
condition_short AddressTypeAbove2 = lit≤ tt
condition_short AddressZero = lit≤ tt
condition_short AddressNotStaticRandom = lit≤ tt
condition_short AddressZeroNotBredr = lit≤ tt
condition_short ValueAbove1 = lit≤ tt
condition_short ValueAbove2 = lit≤ tt
condition_short TimeoutWithValue0 = lit≤ tt
condition_short NoTimeoutWithValue2 = lit≤ tt
condition_short NameNotEnded = lit≤ tt
condition_short ShortNameNotEnded = lit≤ tt
condition_short UuidZero = lit≤ tt
condition_short DisconnectAbove1 = lit≤ tt
condition_short ActionAbove2 = lit≤ tt
condition_short ActionNot1ForBredr = lit≤ tt
condition_short InstanceNot1To5 = lit≤ tt
condition_short AdvertisingFlags = lit≤ tt
condition_short AdvDataAbove31 = lit≤ tt
condition_short ScanRspAbove31 = lit≤ tt
condition_short BredrNotSupported = lit≤ tt
condition_short LeNotSupported = lit≤ tt
condition_short DiscoverableTimeoutUnpowered = lit≤ tt
condition_short Unpowered = lit≤ tt
condition_short NoAddressForPower = lit≤ tt
condition_short NotConnectable = lit≤ tt
condition_short BredrOff = lit≤ tt
condition_short LowEnergyNeeded = lit≤ tt
condition_short PoweredForBredrOff = lit≤ tt
condition_short StaticAddressForBredr = lit≤ tt
condition_short PoweredForStaticAddress = lit≤ tt
condition_short LowEnergyOff = lit≤ tt
condition_short AdvertisingTimeoutUnpowered = lit≤ tt
condition_short NoFreeSlot = lit≤ tt
condition_short UuidAbsent = lit≤ tt
condition_short NoKeyOfDevice = lit≤ tt
condition_short AlreadyBlocked = lit≤ tt
condition_short NotBlocked = lit≤ tt
condition_short DeviceAbsent = lit≤ tt
condition_short InstanceAbsent = lit≤ tt

-- the text of every finding fits the shortest buffer that is taken
pub text_short : (f : Finding) → length (text_of f) ≤ 256
unfolding text_of spelled
text_short (Ok _) = lit≤ tt
text_short (Err Busy) = let a = name_short busy in simp length-append (omega arith)
text_short (Err (Wrong r p)) =
    let a = name_short (status_of r) in
    let b = condition_short r in
    let c = place_short p in
    simp length-append (omega arith)

-- the text of what is wrong begins with the name of its status
pub names_status : (r : Reason) (p : Place) → take (length (spelled (status_name (status_of r)))) (text_of (Err (Wrong r p))) ≡ spelled (status_name (status_of r))
unfolding text_of
names_status r p = take-append_seam (spelled (status_name (status_of r))) _
