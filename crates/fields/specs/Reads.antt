-- What reading fields of an image comes to, for one who is told only how far it came.
use Rattle.std.specs.Prelude.{ℕ, Bool, true, false, ◌-◌, ◌<◌, ◌≤◌, ◌≡◌, length, drop, Result, Ok, Err}
use Rattle.std.proofs.Math.Option.{Option, none, some}
use Rattle.model.specs.declared.ImageFault.{ImageFault}
use Rattle.model.specs.declared.ImageFault.TheVariants.{BadLength}
use Rattle.model.specs.Octets.{Octets}
use Rattle.model.specs.Reading as Reading
use Rattle.model.specs.Reading.{Reading, right, wrong, short}
use Rattle.fields.specs.declared.FaultAt.{FaultAt}

-- the first fault of what was read
unfoldable pub fault_of : {A : Type 0} → Reading A → Option Reading.Fault
fault_of (right a o) = none
fault_of (wrong x a o) = some x
fault_of (short x) = some x

-- a fault of this kind begins at this place of an image
abbrev pub Begins : Octets → Option Reading.Fault → ImageFault → ℕ → Type 0
Begins image x k at = (y : Reading.Fault) × (x ≡ some y) × (y.kind ≡ k) × (length image - y.left ≡ at)

-- a fault of this kind, told at this place
abbrev pub told : ImageFault → ℕ → Result ℕ FaultAt
told k at = Err (record { fault = k; at = at })

-- all is right up to a place, and the octets from there on are left; or the first fault begins at a place
abbrev pub Reads : {A : Type 0} → Octets → Reading A → Result ℕ FaultAt → Type 0
Reads {A} image r (Ok p) = (p ≤ length image) × (a : A) × (r ≡ right a (drop p image))
Reads image r (Err f) = Begins image (fault_of r) f.fault f.at

-- a thing of so many octets at a place is whole; or the image ends before it is, and the fault is told there
abbrev pub Whole : Octets → (at size : ℕ) → Result (Unit {0}) FaultAt → Type 0
Whole image at size (Ok u) = size ≤ length image - at
Whole image at size (Err f) = (length image - at < size) × (f ≡ record { fault = BadLength; at = length image })

-- a rule is kept; or it is not, and a thing at a place has this fault
abbrev pub Kept : Bool → ImageFault → (at : ℕ) → Result (Unit {0}) FaultAt → Type 0
Kept rule k at (Ok u) = rule ≡ true
Kept rule k at (Err f) = (rule ≡ false) × (f ≡ record { fault = k; at = at })
