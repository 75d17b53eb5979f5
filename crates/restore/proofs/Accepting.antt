-- What load answers, by what the image was found to be.
use mathlib.Core.Path.{◌≡◌, refl}
use Prim.Native.Nat.{ℕ}
use lib.ListN.{length, drop}
use borrow.Author.Tests.{eq-eqb, ne_eqb}
use Rattle.model.specs.declared.ImageFault.{ImageFault}
use Rattle.model.specs.declared.Version.{Version}
use Rattle.model.specs.Lengths as Lengths
use Rattle.model.specs.Octets.{Octets}
use Rattle.model.specs.State.{idle}
use Rattle.model.specs.Reading.{acceptable, either_version, faulty, hub_of, judge, walk}
use Rattle.model.specs.Layout.{encode}
use Rattle.model.specs.Answers.{fault_number}
use Rattle.model.specs.Meanings.{Loaded, hub_load, leaves, load_meaning, loaded_into}

-- what load comes to, told by an answer that has its number and its offset, and no count
pub told : (l : Loaded) (n at : ℕ) (t : Octets) → l ≡ record { answer = n; offset = at; state = t }
    → (n ≡ l.answer) × (◌≡◌ {A = ℕ} 0 0) × (at ≡ l.offset) × (t ≡ l.state)
told l n at t e = rw e (refl, refl, refl, refl)

-- an acceptable image, into a buffer that has been filled from it
pub load_done : (s image : Octets) (v : Version) → length s ≡ Lengths.state → judge either_version image ≡ acceptable (hub_of (walk v (drop 5 image)))
    → (t : Octets) → t ≡ encode (idle (hub_of (walk v (drop 5 image)))) → hub_load s image ≡ record { answer = 0; offset = 0; state = t }
unfolding hub_load load_meaning leaves loaded_into
load_done s image v n j t e = rw (eq-eqb (length s) Lengths.state n, load_meaning, j, e)

-- one with a fault
pub load_refused : (s image : Octets) (k : ImageFault) (at : ℕ) → length s ≡ Lengths.state → judge either_version image ≡ faulty k at
    → hub_load s image ≡ record { answer = fault_number k; offset = at; state = s }
unfolding hub_load load_meaning leaves loaded_into
load_refused s image k at n j = rw (eq-eqb (length s) Lengths.state n, load_meaning, j)

-- a buffer of another length
pub load_length : (s image : Octets) → (length s ≡ Lengths.state → ⊥) → hub_load s image ≡ record { answer = 5; offset = 0; state = s }
unfolding hub_load load_meaning leaves
load_length s image n = rw (ne_eqb (length s) Lengths.state n, load_meaning)
