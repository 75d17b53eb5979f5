-- The events about advertising instances: how long they are, and how those of the five instances are written one after the other.
-- Assumes nothing.
use mathlib.Core.Path.{◌≡◌, refl}
use Prim.Native.Nat.{ℕ, zero, suc, ◌+◌, ◌*◌, ◌≤◌, ◌<◌}
use native.Mathlib.Omega.{arith}
use mathlib.Core.Bool.{Bool, true, false, ◌&&◌, not}
use mathlib.Core.List.{[], ◌∷◌, ◌++◌, append-nil, append_assoc}
use lib.ListN.{length, get_or, take, length-append}
use lib.Dec.{eqb}
use borrow.Author.Tests.{eq-eqb, ne_eqb}
use Rattle.model.specs.Events as Events
use Rattle.model.specs.Octets.{Octets, event}
use Rattle.model.specs.declared.Schedule.{Schedule}
use Rattle.model.specs.Advertising.{value_of, duration_of, present, removed_of, instances}
use Rattle.octets.specs.Parts.{write_at}
use Rattle.octets.proofs.Parts.{write_split}
use Rattle.replies.specs.Frames.{instance_removed}
use Rattle.replies.proofs.Laws.{length_event}

-- ONE INSTANCE --------------------------------------------------------------------------------------------------------------------------------

-- an instance that was not there is not told
pub removed_absent : (i k b a : ℕ) → b ≡ 0 → instance_removed i k b a ≡ []
unfolding instance_removed
removed_absent i k b a e = rw (eq-eqb b 0 e, instance_removed)

-- one that was there and is not there any more is told
pub removed_gone : (i k b a : ℕ) → (b ≡ 0 → ⊥) → a ≡ 0 → instance_removed i k b a ≡ event Events.advertising_removed i (k ∷ [])
unfolding instance_removed
removed_gone i k b a n e = rw (ne_eqb b 0 n, eq-eqb a 0 e, instance_removed)

-- one that stays is not told
pub removed_stays : (i k b a : ℕ) → (b ≡ 0 → ⊥) → (a ≡ 0 → ⊥) → instance_removed i k b a ≡ []
unfolding instance_removed
removed_stays i k b a n m = rw (ne_eqb b 0 n, ne_eqb a 0 m, instance_removed)

-- an event about an instance is seven octets long
pub length_instance : (e i k : ℕ) → length (event e i (k ∷ [])) ≡ 7
length_instance e i k = length_event e i (k ∷ []) 1 refl

-- what is told of one instance is at most seven octets long
pub removed_short : (i k b a : ℕ) → length (instance_removed i k b a) ≤ 7
unfolding instance_removed
removed_short i k b a = go (not (eqb b 0) && not (not (eqb a 0)))
  where
    go : (t : Bool) → length {A = ℕ} (elim t [ true ↦ event Events.advertising_removed i (k ∷ []) | false ↦ [] ]) ≤ 7
    go true = rw (length_instance Events.advertising_removed i k) (omega arith)
    go false = omega arith

-- what instance_removed leaves where it writes nothing
pub told_none : (d : Octets) (at i k b a : ℕ) → instance_removed i k b a ≡ []
    → (at ≤ at + 7) × (at ≡ at + length (instance_removed i k b a)) × (d ≡ write_at d at (instance_removed i k b a))
unfolding write_at
told_none d at i k b a e = rw e (omega arith, omega arith, refl)

-- what it leaves where it writes the event
pub told_gone : (d e : Octets) (at i k b a : ℕ) → (b ≡ 0 → ⊥) → a ≡ 0 → e ≡ write_at d at (event Events.advertising_removed i (k ∷ []))
    → (at + 7 ≤ at + 7) × (at + 7 ≡ at + length (instance_removed i k b a)) × (e ≡ write_at d at (instance_removed i k b a))
told_gone d e at i k b a n z w = rw (removed_gone i k b a n z, length_instance Events.advertising_removed i k) (omega arith, refl, w)

-- ALL FIVE ------------------------------------------------------------------------------------------------------------------------------------

-- Advertising Removed of all instances is that of each, ascending
pub removed_is : (i : ℕ) (s t : Schedule) → removed_of i s t instances
    ≡ instance_removed i 1 (get_or s.durations 0 0) (get_or t.durations 0 0) ++ (instance_removed i 2 (get_or s.durations 1 0) (get_or t.durations 1 0)
    ++ (instance_removed i 3 (get_or s.durations 2 0) (get_or t.durations 2 0) ++ (instance_removed i 4 (get_or s.durations 3 0) (get_or t.durations 3 0)
    ++ instance_removed i 5 (get_or s.durations 4 0) (get_or t.durations 4 0))))
unfolding removed_of present duration_of value_of instance_removed
removed_is i s t = rw append-nil

-- and all of them take at most 35 octets
pub removed_most : (i : ℕ) (s t : Schedule) → length (removed_of i s t instances) ≤ 35
removed_most i s t =
    let d = s.durations in
    let e = t.durations in
    rw (removed_is, length-append, length-append, length-append, length-append)
    (omega (
      arith,
      removed_short i 1 (get_or d 0 0) (get_or e 0 0),
      removed_short i 2 (get_or d 1 0) (get_or e 1 0),
      removed_short i 3 (get_or d 2 0) (get_or e 2 0),
      removed_short i 4 (get_or d 3 0) (get_or e 3 0),
      removed_short i 5 (get_or d 4 0) (get_or e 4 0),
    ))

-- what is told of the instances up to k + 1 is what is told of those up to k, and of that one behind it
pub removed_next : (i : ℕ) (s t : Schedule) (k : ℕ) → k < 5 → removed_of i s t (take (k + 1) instances)
    ≡ removed_of i s t (take k instances) ++ instance_removed i (k + 1) (get_or s.durations k 0) (get_or t.durations k 0)
unfolding removed_of present duration_of value_of instance_removed
removed_next i s t zero h = simp append-nil
removed_next i s t (suc zero) h = simp append-nil
removed_next i s t (suc (suc zero)) h = simp (append-nil, append_assoc)
removed_next i s t (suc (suc (suc zero))) h = simp (append-nil, append_assoc)
removed_next i s t (suc (suc (suc (suc zero)))) h = simp (append-nil, append_assoc)
removed_next i s t (suc (suc (suc (suc (suc k))))) h = absurd (omega (arith, h))

-- what is told of one instance more, behind what was told before it
pub told_next : (i : ℕ) (s t : Schedule) (k at p q : ℕ) (d e f : Octets) → k < 5 → length (removed_of i s t (take k instances)) ≤ 7 * k
    → p ≡ at + length (removed_of i s t (take k instances)) → e ≡ write_at d at (removed_of i s t (take k instances))
    → q ≡ p + length (instance_removed i (k + 1) (get_or s.durations k 0) (get_or t.durations k 0))
    → f ≡ write_at e p (instance_removed i (k + 1) (get_or s.durations k 0) (get_or t.durations k 0))
    → (length (removed_of i s t (take (k + 1) instances)) ≤ 7 * (k + 1)) × (q ≡ at + length (removed_of i s t (take (k + 1) instances)))
    × (f ≡ write_at d at (removed_of i s t (take (k + 1) instances)))
told_next i s t k at p q d e f h m ep ee eq ef = (
  rw (removed_next i s t k h, length-append) (omega (arith, m, removed_short i (k + 1) (get_or s.durations k 0) (get_or t.durations k 0))),
  rw (removed_next i s t k h, length-append) (omega (arith, ep, eq)),
  rw (removed_next i s t k h, write_split) (cc),
)
